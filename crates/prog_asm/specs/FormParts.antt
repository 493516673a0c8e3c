-- The forms of `Forms` whose first operand is read already, of the instructions that begin with one. (own)
use Rattle.std.specs.Prelude.{ℕ, Bool, List, None}
use Rattle.rights.specs.Calls.{Call}
use Rattle.rights.specs.Calls as calls
use Rattle.instruction_set.specs.Programs.{Operand, Syscall}
use Rattle.instruction_set.specs.Programs as programs
use Rattle.instruction_set.specs.Forms.{Field, Mnemonic, Set, Mov, Add, In, Jeq, Jlt, Written, Alone, Leading, If_equal, If_less, commands_at, directory_at, flags_at, further_at, label_at, nothing}
use Rattle.instruction_set.specs.Forms.{number_at, one, operand_at, path_at, register_at, rights_at, two, ◌>>=◌}

-- what nothing stands for
abbrev pub refused : {A : Type 0} → Field A
refused words = None

-- the operands of a call behind its descriptor and its path
unfoldable pub at_call_at : Call → Operand → List ℕ → Field Syscall
at_call_at calls.Openat descriptor path = one flags_at (programs.Openat descriptor path)
at_call_at calls.Fstatat descriptor path = nothing (programs.Fstatat descriptor path)
at_call_at calls.Mkdirat descriptor path = nothing (programs.Mkdirat descriptor path)
at_call_at calls.Unlinkat descriptor path = one directory_at (programs.Unlinkat descriptor path)
at_call_at calls.Renameat descriptor path = two operand_at path_at (programs.Renameat descriptor path)
at_call_at call descriptor path = refused

-- the operands of a call behind its descriptor and an operand more
unfoldable pub operand_call_at : Call → Operand → Operand → Field Syscall
operand_call_at calls.Write descriptor operand = nothing (programs.Write descriptor operand)
operand_call_at calls.Sendfd descriptor operand = one operand_at (programs.Sendfd descriptor operand)
operand_call_at calls.Lseek descriptor operand = nothing (programs.Lseek descriptor operand)
operand_call_at calls.Ftruncate descriptor operand = nothing (programs.Ftruncate descriptor operand)
operand_call_at calls.Fcntl_setfl descriptor operand = nothing (programs.Fcntl_setfl descriptor operand)
operand_call_at call descriptor operand = refused

-- the operands of a call behind its descriptor
unfoldable pub descriptor_call_at : Bool → Call → Operand → Field Syscall
descriptor_call_at wide calls.Read descriptor = nothing (programs.Read descriptor)
descriptor_call_at wide calls.Write descriptor = one operand_at (programs.Write descriptor)
descriptor_call_at wide calls.Sendfd descriptor = two operand_at operand_at (programs.Sendfd descriptor)
descriptor_call_at wide calls.Recvfd descriptor = nothing (programs.Recvfd descriptor)
descriptor_call_at wide calls.Lseek descriptor = one operand_at (programs.Lseek descriptor)
descriptor_call_at wide calls.Ftruncate descriptor = one operand_at (programs.Ftruncate descriptor)
descriptor_call_at wide calls.Fsync descriptor = nothing (programs.Fsync descriptor)
descriptor_call_at wide calls.Fstat descriptor = nothing (programs.Fstat descriptor)
descriptor_call_at wide calls.Fcntl_getfl descriptor = nothing (programs.Fcntl_getfl descriptor)
descriptor_call_at wide calls.Fcntl_setfl descriptor = one operand_at (programs.Fcntl_setfl descriptor)
descriptor_call_at wide calls.Dup descriptor = nothing (programs.Dup descriptor)
descriptor_call_at wide calls.Close descriptor = nothing (programs.Close descriptor)
descriptor_call_at wide calls.Cap_rights_limit descriptor = one (rights_at wide) (programs.Cap_rights_limit descriptor)
descriptor_call_at wide calls.Cap_fcntls_limit descriptor = one commands_at (programs.Cap_fcntls_limit descriptor)
descriptor_call_at wide calls.Use descriptor = one further_at (programs.Use descriptor)
descriptor_call_at wide call descriptor = λ words. path_at words >>= (λ path. at_call_at call descriptor path.0 path.1)

-- the operands of a call behind its path
abbrev pub path_call_at : Call → List ℕ → Field Syscall
path_call_at calls.Open path = one flags_at (programs.Open path)
path_call_at calls.Stat path = nothing (programs.Stat path)
path_call_at calls.Mkdir path = nothing (programs.Mkdir path)
path_call_at calls.Unlink path = one directory_at (programs.Unlink path)
path_call_at call path = refused

-- the number and the label of a comparison behind its register
unfoldable pub comparison_at : Mnemonic → ℕ → Field Written
comparison_at Jeq register = two number_at label_at (λ value name. Leading (If_equal register value) name)
comparison_at Jlt register = two number_at label_at (λ value name. Leading (If_less register value) name)
comparison_at mnemonic register = refused

-- the operands of an instruction behind its register
unfoldable pub register_form_at : Mnemonic → ℕ → Field Written
register_form_at Set register = one number_at (λ value. Alone (programs.Set register value))
register_form_at Mov register = one register_at (λ source. Alone (programs.Mov register source))
register_form_at Add register = one register_at (λ addend. Alone (programs.Add register addend))
register_form_at In register = nothing (Alone (programs.In register))
register_form_at mnemonic register = comparison_at mnemonic register
