-- What is written of calls, read as a line of a program. (rows by computation)
use Rattle.std.proofs.Common.{◌≡◌, ◌++◌, true, false, refl}
use Rattle.std.specs.Fmt.{digits}
use Rattle.std.specs.Prelude.{codes, Ok, Err, Some, None, Result}
use Rattle.instruction_set.specs.Assembly.{Line, Mistake, Operand, line_of_code, line_with}
use Rattle.instruction_set.specs.Forms.{Leading, After_error, syscall_at, written_at, operand_at, path_at, flags_at, rights_at, further_at, directory_at, label_at, else_at}
use Rattle.instruction_set.specs.Programs.{Syscall, Number, Register, Openat, Sendfd, Unlinkat, Renameat, Cap_rights_limit, Dup, Use}
use Rattle.rights.specs.Sets.{further_right}
use Rattle.rights.specs.Opens.{open_request}
use Rattle.call_facts.specs.Texts.{call_text}
use Rattle.call_facts.specs.Sets.{flag_set, set_word}

-- the line of a call in the wide language, with where an error leads behind it
abbrev line_of : Syscall → Result Line Mistake
line_of call = line_of_code true (call_text call ++ codes " else out")

abbrev IsReadBack : Syscall → Type 0
IsReadBack call = line_of call ≡ Ok (line_with None (Some (Leading (After_error call) (codes "out"))))

opened : call_text (Openat (Number 3) (codes "etc/x") (open_request true true false true false)) ≡ codes "openat 3 \"etc/x\" read,write,create"
unfolding digits flag_set set_word
opened = refl

limited : call_text (Cap_rights_limit (Number 12) 2) ≡ codes "cap_rights_limit 12 WRITE"
unfolding digits set_word
limited = refl

used : call_text (Use (Number 3) (further_right 4)) ≡ codes "use 3 EVENT"
unfolding digits set_word
used = refl

used_back : IsReadBack (Use (Number 3) (further_right 4))
unfolding digits set_word syscall_at written_at operand_at further_at else_at label_at
used_back = refl

opened_back : IsReadBack (Openat (Number 3) (codes "etc/x") (open_request true true false true false))
unfolding digits flag_set set_word syscall_at written_at operand_at path_at flags_at else_at label_at
opened_back = refl

sent_back : IsReadBack (Sendfd (Number 3) (Register 7) (Number 0))
unfolding digits syscall_at written_at operand_at else_at label_at
sent_back = refl

removed_back : IsReadBack (Unlinkat (Number 3) (codes "x") true)
unfolding digits syscall_at written_at operand_at path_at directory_at else_at label_at
removed_back = refl

moved_back : IsReadBack (Renameat (Number 3) (codes "x") (Number 4) (codes "y"))
unfolding digits syscall_at written_at operand_at path_at else_at label_at
moved_back = refl

limited_back : IsReadBack (Cap_rights_limit (Number 12) 3)
unfolding digits set_word syscall_at written_at operand_at rights_at else_at label_at
limited_back = refl

dropped_back : IsReadBack (Cap_rights_limit (Number 12) 0)
unfolding digits set_word syscall_at written_at operand_at rights_at else_at label_at
dropped_back = refl

copied_back : IsReadBack (Dup (Number 3))
unfolding digits syscall_at written_at operand_at else_at label_at
copied_back = refl

-- what has no label isn't read back
not_back : line_of_code true (call_text (Dup (Number 3)) ++ codes " else") ≡ Err Operand
unfolding digits syscall_at written_at operand_at else_at label_at
not_back = refl
