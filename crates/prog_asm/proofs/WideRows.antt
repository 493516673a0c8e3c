-- What the wide language alone has, text by text.
use Rattle.std.proofs.Common.{◌≡◌, ◌+◌, [], ◌∷◌, codes, refl}
use Rattle.std.specs.Prelude.{true, false, Ok, Err}
use Rattle.rights.specs.Sets.{further_right, lookup_right}
use Rattle.instruction_set.specs.Programs.{Halt, Invoke, Cap_rights_limit, Use, Number}
use Rattle.instruction_set.specs.Forms.{written_at, syscall_at, operand_at, rights_at, further_at, else_at, label_at}
use Rattle.instruction_set.specs.Assembly.{assembly_in, line_read, fault, Word, Operand}

plain_use : assembly_in false (codes "use 0 EVENT else e\ne: halt") ≡ Err (fault Word 1)
unfolding assembly_in line_read written_at syscall_at operand_at rights_at further_at else_at label_at
plain_use = refl

plain_limit : assembly_in false (codes "cap_rights_limit 0 LOOKUP,EVENT else e\ne: halt") ≡ Err (fault Operand 1)
unfolding assembly_in line_read written_at syscall_at operand_at rights_at further_at else_at label_at
plain_limit = refl

wide_use : assembly_in true (codes "use 0 EVENT else e\ne: halt") ≡ Ok (Invoke (Use (Number 0) (further_right 4)) 1 ∷ Halt ∷ [])
unfolding assembly_in line_read written_at syscall_at operand_at rights_at further_at else_at label_at
wide_use = refl

wide_limit : assembly_in true (codes "cap_rights_limit 0 LOOKUP,EVENT else e\ne: halt") ≡ Ok (Invoke (Cap_rights_limit (Number 0) (lookup_right + further_right 4)) 1 ∷ Halt ∷ [])
unfolding assembly_in line_read written_at syscall_at operand_at rights_at further_at else_at label_at
wide_limit = refl

use_of_plain_right : assembly_in true (codes "use 0 READ else e\ne: halt") ≡ Err (fault Operand 1)
unfolding assembly_in line_read written_at syscall_at operand_at rights_at further_at else_at label_at
use_of_plain_right = refl

use_of_two : assembly_in true (codes "use 0 EVENT,IOCTL else e\ne: halt") ≡ Err (fault Operand 1)
unfolding assembly_in line_read written_at syscall_at operand_at rights_at further_at else_at label_at
use_of_two = refl

use_of_none : assembly_in true (codes "use 0 none else e\ne: halt") ≡ Err (fault Operand 1)
unfolding assembly_in line_read written_at syscall_at operand_at rights_at further_at else_at label_at
use_of_none = refl
