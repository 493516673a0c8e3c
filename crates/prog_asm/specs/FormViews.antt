-- What the code's words and forms stand for.
use Rattle.std.specs.Prelude.{◌≡◌, ℕ, List, [], ◌∷◌, Option, Some, option_map, Result, Ok, Err}
use Rattle.std.specs.Borrow.{Bor}
use Rattle.rights.specs.Views.{call_of}
use Rattle.prog_asm.specs.declared.forms.Jump.{Jump as JumpCode}
use Rattle.prog_asm.specs.declared.forms.Jump.TheVariants as jump
use Rattle.prog_asm.specs.declared.forms.Written.{Written as WrittenCode}
use Rattle.prog_asm.specs.declared.forms.Written.TheVariants as written
use Rattle.prog_asm.specs.declared.mistakes.Mistake.{Mistake as MistakeCode}
use Rattle.prog_asm.specs.declared.mistakes.Mistake.TheVariants as mistake
use Rattle.prog_asm.specs.declared.operand_forms.Form.{Form as FormCode}
use Rattle.prog_asm.specs.declared.operand_forms.Form.TheVariants as form
use Rattle.prog_asm.specs.declared.operand_forms.Unfit.{Unfit as UnfitCode}
use Rattle.prog_asm.specs.declared.mnemonics.Mnemonic.{Mnemonic as MnemonicCode}
use Rattle.prog_asm.specs.declared.mnemonics.Mnemonic.TheVariants as mnemonic
use Rattle.instruction_set.specs.Forms.{Mnemonic, Set, Mov, Add, In, Jmp, Jeq, Jlt, Halt, Make, Jump, Always, If_equal, If_less, After_error, Written, Alone, Leading}
use Rattle.prog_asm.specs.OperandForms.{Form, Unfit}
use Rattle.prog_asm.specs.OperandForms as forms
use Rattle.prog_asm.specs.ReadingViews.{FailsField}
use Rattle.instruction_set.specs.Programs as programs
use Rattle.instruction_set.specs.Views.{syscall_of}

abbrev pub mnemonic_from : MnemonicCode → Mnemonic
mnemonic_from mnemonic.Set = Set
mnemonic_from mnemonic.Mov = Mov
mnemonic_from mnemonic.Add = Add
mnemonic_from mnemonic.In = In
mnemonic_from mnemonic.Jmp = Jmp
mnemonic_from mnemonic.Jeq = Jeq
mnemonic_from mnemonic.Jlt = Jlt
mnemonic_from mnemonic.Halt = Halt
mnemonic_from (mnemonic.Make call) = Make (call_of call)

abbrev pub form_of : FormCode → Form
form_of form.Register = forms.Register
form_of form.Number = forms.Number
form_of form.Operand = forms.Operand
form_of form.Path = forms.Path
form_of form.Flags = forms.Flags
form_of form.Rights = forms.Rights
form_of form.AllRights = forms.AllRights
form_of form.FurtherRight = forms.FurtherRight
form_of form.Commands = forms.Commands
form_of form.Label = forms.Label
form_of form.Directory = forms.Directory
form_of form.Else = forms.Else

abbrev pub unfit_of : UnfitCode → Unfit
unfit_of found = record { fit = found.fit; wants = option_map form_of found.wants }

abbrev pub jump_from : JumpCode → Jump
jump_from jump.Always = Always
jump_from (jump.IfEqual register value) = If_equal register value
jump_from (jump.IfLess register value) = If_less register value
jump_from (jump.AfterError call) = After_error (syscall_of call)

unfoldable pub written_from : WrittenCode → Written
written_from (written.Set register value) = Alone (programs.Set register value)
written_from (written.Mov register source) = Alone (programs.Mov register source)
written_from (written.Add register addend) = Alone (programs.Add register addend)
written_from (written.In register) = Alone (programs.In register)
written_from written.Halt = Alone programs.Halt
written_from (written.Leading jump label) = Leading (jump_from jump) label.now

-- What is taken is what the field is read as, and these words are left.
abbrev pub TakesField : {X Y : Type 0} → (X → Y) → Result X MistakeCode → List (List ℕ) → Option (Y × List (List ℕ)) → Type 0
TakesField view (Ok x) after field = field ≡ Some (view x, after)
TakesField view (Err error) after field = FailsField error field

-- The word is the first one, unless there is none.
abbrev pub TakesWord : Result (Bor (List ℕ)) MistakeCode → List (List ℕ) → List (List ℕ) → Type 0
TakesWord (Ok word) before after = before ≡ word.now ∷ after
TakesWord (Err mistake.Wrong) before after = before ≡ []
TakesWord (Err mistake.Memory) before after = ⊥
