-- What may stand behind the word of an instruction, and the first word that may not. (own)
use Rattle.std.specs.Prelude.{ℕ, ◌+◌, Bool, true, false, List, [], ◌∷◌, codes, Option, Some, None, is_some, option_map, if◌then◌else◌}
use Rattle.std.specs.Str.{bytes_eq}
use Rattle.rights.specs.Calls.{Call}
use Rattle.rights.specs.Calls as calls
use Rattle.texts.specs.Names.{is_name}
use Rattle.instruction_set.specs.Fields.{read_commands, read_flags, read_further, read_operand, read_path, read_register, read_rights, read_value}
use Rattle.instruction_set.specs.Forms.{Mnemonic, Set, Mov, Add, In, Jmp, Jeq, Jlt, Halt, Make}

pub data Form : Type 0 where
  Register : Form
  Number : Form
  Operand : Form  -- a register or a number
  Path : Form
  Flags : Form
  Rights : Form  -- of the fourteen rights that every task may name
  AllRights : Form
  FurtherRight : Form
  Commands : Form
  Label : Form
  Directory : Form  -- the word `dir`, or nothing
  Else : Form  -- the word `else`

-- Whether a word is of a form.
abbrev pub is_of : Form → List ℕ → Bool
is_of Register word = is_some (read_register word)
is_of Number word = is_some (read_value word)
is_of Operand word = is_some (read_operand word)
is_of Path word = is_some (read_path word)
is_of Flags word = is_some (read_flags word)
is_of Rights word = is_some (read_rights false word)
is_of AllRights word = is_some (read_rights true word)
is_of FurtherRight word = is_some (read_further word)
is_of Commands word = is_some (read_commands word)
is_of Label word = is_name word
is_of Directory word = bytes_eq word (codes "dir")
is_of Else word = bytes_eq word (codes "else")

-- the operands of each call, in the wide language or the other, and where it leads after an error
abbrev pub rights_form : Bool → Form
rights_form wide = if wide then AllRights else Rights

abbrev pub call_forms : Bool → Call → List Form
call_forms wide calls.Open = Path ∷ Flags ∷ Else ∷ Label ∷ []
call_forms wide calls.Openat = Operand ∷ Path ∷ Flags ∷ Else ∷ Label ∷ []
call_forms wide calls.Read = Operand ∷ Else ∷ Label ∷ []
call_forms wide calls.Write = Operand ∷ Operand ∷ Else ∷ Label ∷ []
call_forms wide calls.Sendfd = Operand ∷ Operand ∷ Operand ∷ Else ∷ Label ∷ []
call_forms wide calls.Recvfd = Operand ∷ Else ∷ Label ∷ []
call_forms wide calls.Lseek = Operand ∷ Operand ∷ Else ∷ Label ∷ []
call_forms wide calls.Ftruncate = Operand ∷ Operand ∷ Else ∷ Label ∷ []
call_forms wide calls.Fsync = Operand ∷ Else ∷ Label ∷ []
call_forms wide calls.Fstat = Operand ∷ Else ∷ Label ∷ []
call_forms wide calls.Fcntl_getfl = Operand ∷ Else ∷ Label ∷ []
call_forms wide calls.Fcntl_setfl = Operand ∷ Operand ∷ Else ∷ Label ∷ []
call_forms wide calls.Fstatat = Operand ∷ Path ∷ Else ∷ Label ∷ []
call_forms wide calls.Stat = Path ∷ Else ∷ Label ∷ []
call_forms wide calls.Mkdirat = Operand ∷ Path ∷ Else ∷ Label ∷ []
call_forms wide calls.Mkdir = Path ∷ Else ∷ Label ∷ []
call_forms wide calls.Unlinkat = Operand ∷ Path ∷ Directory ∷ Else ∷ Label ∷ []
call_forms wide calls.Unlink = Path ∷ Directory ∷ Else ∷ Label ∷ []
call_forms wide calls.Renameat = Operand ∷ Path ∷ Operand ∷ Path ∷ Else ∷ Label ∷ []
call_forms wide calls.Dup = Operand ∷ Else ∷ Label ∷ []
call_forms wide calls.Close = Operand ∷ Else ∷ Label ∷ []
call_forms wide calls.Cap_rights_limit = Operand ∷ rights_form wide ∷ Else ∷ Label ∷ []
call_forms wide calls.Cap_fcntls_limit = Operand ∷ Commands ∷ Else ∷ Label ∷ []
call_forms wide calls.Cap_enter = Else ∷ Label ∷ []
call_forms wide calls.Cap_getmode = Else ∷ Label ∷ []
call_forms wide calls.Socketpair = Else ∷ Label ∷ []
call_forms wide calls.Fork = Else ∷ Label ∷ []
call_forms wide calls.Use = Operand ∷ FurtherRight ∷ Else ∷ Label ∷ []

-- what each instruction wants behind its word
abbrev pub forms_of : Bool → Mnemonic → List Form
forms_of wide Set = Register ∷ Number ∷ []
forms_of wide Mov = Register ∷ Register ∷ []
forms_of wide Add = Register ∷ Register ∷ []
forms_of wide In = Register ∷ []
forms_of wide Jmp = Label ∷ []
forms_of wide Jeq = Register ∷ Number ∷ Label ∷ []
forms_of wide Jlt = Register ∷ Number ∷ Label ∷ []
forms_of wide Halt = []
forms_of wide (Make call) = call_forms wide call

-- What is wrong with words: so many may stand there, and behind them this form is wanted, or nothing is.
pub record Unfit : Type 0 where
  pub fit : ℕ
  pub wants : Option Form

abbrev pub unfit_at : Option Form → Option Unfit
unfit_at wants = Some (record { fit = 0; wants = wants })

-- behind one word more
abbrev pub behind_one : Option Unfit → Option Unfit
behind_one found = option_map (λ (unfit : Unfit). record { fit = unfit.fit + 1; wants = unfit.wants }) found

abbrev pub first_unfit : List Form → List (List ℕ) → Option Unfit
first_unfit [] [] = None
first_unfit [] (word ∷ words) = unfit_at None
first_unfit (Directory ∷ forms) [] = first_unfit forms []
first_unfit (Directory ∷ forms) (word ∷ words) = if is_of Directory word then behind_one (first_unfit forms words) else first_unfit forms (word ∷ words)
first_unfit (form ∷ forms) [] = unfit_at (Some form)
first_unfit (form ∷ forms) (word ∷ words) = if is_of form word then behind_one (first_unfit forms words) else unfit_at (Some form)
