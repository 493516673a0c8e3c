-- The worked rows of the language, by computation.
use Rattle.std.proofs.Common.{◌≡◌, ℕ, zero, suc, List, [], ◌∷◌, ◌++◌, codes, refl}
use Rattle.std.specs.Prelude.{true, false, Ok, Err}
use Rattle.rights.specs.Opens.{OpenRequest, open_request}
use Rattle.instruction_set.specs.Programs.{Mov, Add, In, Jmp, Jeq, Jlt, Halt, Invoke, Open, Openat, Read, Cap_enter, Stat, Unlinkat, Renameat, Close, Cap_rights_limit, Cap_fcntls_limit}
use Rattle.instruction_set.specs.Programs.{Sendfd, Recvfd, Socketpair, Fork, Number, Register}
use Rattle.instruction_set.specs.Forms.{written_at, syscall_at, register_at, number_at, operand_at, path_at, flags_at, rights_at, commands_at, label_at, directory_at, else_at}
use Rattle.instruction_set.specs.Successors.{successors_at}
use Rattle.instruction_set.specs.Assembly.{assembly_in, assembly_of, line_read, fault, Word, Operand, NoLabel, TwiceLabel, TooMany, FallsOff}

abbrev read_only : OpenRequest
read_only = open_request true false false false false

unknown_instruction : assembly_of (codes "frob") ≡ Err (fault Word 1)
unfolding assembly_in line_read written_at syscall_at register_at number_at operand_at path_at flags_at rights_at commands_at label_at directory_at else_at
unknown_instruction = refl

leading_zero : assembly_of (codes "set r0 01") ≡ Err (fault Operand 1)
unfolding assembly_in line_read written_at syscall_at register_at number_at operand_at path_at flags_at rights_at commands_at label_at directory_at else_at
leading_zero = refl

past_32_bits : assembly_of (codes "set r0 4294967296") ≡ Err (fault Operand 1)
unfolding assembly_in line_read written_at syscall_at register_at number_at operand_at path_at flags_at rights_at commands_at label_at directory_at else_at
past_32_bits = refl

append_without_write : assembly_of (codes "openat 0 \"x\" append else e\ne: halt") ≡ Err (fault Operand 1)
unfolding assembly_in line_read written_at syscall_at register_at number_at operand_at path_at flags_at rights_at commands_at label_at directory_at else_at
append_without_write = refl

label_twice : assembly_of (codes "a: halt\na: halt") ≡ Err (fault TwiceLabel 2)
unfolding assembly_in line_read written_at syscall_at register_at number_at operand_at path_at flags_at rights_at commands_at label_at directory_at else_at
label_twice = refl

label_without_instruction : assembly_of (codes "jmp y\ny:") ≡ Err (fault NoLabel 1)
unfolding assembly_in line_read written_at syscall_at register_at number_at operand_at path_at flags_at rights_at commands_at label_at directory_at else_at
label_without_instruction = refl

missing_before_falling_off : assembly_of (codes "set r0 1\njmp z\nset r1 2") ≡ Err (fault NoLabel 2)
unfolding assembly_in line_read written_at syscall_at register_at number_at operand_at path_at flags_at rights_at commands_at label_at directory_at else_at
missing_before_falling_off = refl

empty_text : assembly_of (codes "") ≡ Err (fault FallsOff 1)
unfolding assembly_in line_read written_at syscall_at register_at number_at operand_at path_at flags_at rights_at commands_at label_at directory_at else_at
empty_text = refl

goes_on : assembly_of (codes "set r0 1") ≡ Err (fault FallsOff 1)
unfolding assembly_in line_read written_at syscall_at register_at number_at operand_at path_at flags_at rights_at commands_at label_at directory_at else_at
goes_on = refl

alias_of_read : assembly_of (codes "cap_rights_limit 0 RECV,READ else e\ne: halt") ≡ Ok (Invoke (Cap_rights_limit (Number 0) 1) 1 ∷ Halt ∷ [])
unfolding assembly_in line_read written_at syscall_at register_at number_at operand_at path_at flags_at rights_at commands_at label_at directory_at else_at
alias_of_read = refl

-- bytes that no word has
minus : assembly_of (codes "set r0 -1") ≡ Err (fault Word 1)
unfolding assembly_in line_read written_at syscall_at register_at number_at operand_at path_at flags_at rights_at commands_at label_at directory_at else_at
minus = refl

dot : assembly_of (codes "set r0 1.5") ≡ Err (fault Word 1)
unfolding assembly_in line_read written_at syscall_at register_at number_at operand_at path_at flags_at rights_at commands_at label_at directory_at else_at
dot = refl

carriage_return : assembly_of (codes "halt\r\n") ≡ Err (fault Word 1)
unfolding assembly_in line_read written_at syscall_at register_at number_at operand_at path_at flags_at rights_at commands_at label_at directory_at else_at
carriage_return = refl

-- bytes that words have, in a wrong word
upper_case_operand : assembly_of (codes "set r0 X") ≡ Err (fault Operand 1)
unfolding assembly_in line_read written_at syscall_at register_at number_at operand_at path_at flags_at rights_at commands_at label_at directory_at else_at
upper_case_operand = refl

colon_in_operand : assembly_of (codes "set r0:1 2") ≡ Err (fault Operand 1)
unfolding assembly_in line_read written_at syscall_at register_at number_at operand_at path_at flags_at rights_at commands_at label_at directory_at else_at
colon_in_operand = refl

-- labels
no_blank_behind_label : assembly_of (codes "a:halt") ≡ Err (fault Word 1)
unfolding assembly_in line_read written_at syscall_at register_at number_at operand_at path_at flags_at rights_at commands_at label_at directory_at else_at
no_blank_behind_label = refl

two_labels : assembly_of (codes "a: b: halt") ≡ Err (fault Word 1)
unfolding assembly_in line_read written_at syscall_at register_at number_at operand_at path_at flags_at rights_at commands_at label_at directory_at else_at
two_labels = refl

blank_before_colon : assembly_of (codes "a : halt") ≡ Err (fault Word 1)
unfolding assembly_in line_read written_at syscall_at register_at number_at operand_at path_at flags_at rights_at commands_at label_at directory_at else_at
blank_before_colon = refl

colon_in_label : assembly_of (codes "a:b: halt") ≡ Err (fault Word 1)
unfolding assembly_in line_read written_at syscall_at register_at number_at operand_at path_at flags_at rights_at commands_at label_at directory_at else_at
colon_in_label = refl

colon_alone : assembly_of (codes ": halt") ≡ Err (fault Word 1)
unfolding assembly_in line_read written_at syscall_at register_at number_at operand_at path_at flags_at rights_at commands_at label_at directory_at else_at
colon_alone = refl

long_label : assembly_of (codes "abcdefghijklmnopq: halt") ≡ Err (fault Word 1)
unfolding assembly_in line_read written_at syscall_at register_at number_at operand_at path_at flags_at rights_at commands_at label_at directory_at else_at
long_label = refl

longest_label : assembly_of (codes "abcdefghijklmno_: halt") ≡ Ok (Halt ∷ [])
unfolding assembly_in line_read written_at syscall_at register_at number_at operand_at path_at flags_at rights_at commands_at label_at directory_at else_at
longest_label = refl

label_named_halt : assembly_of (codes "halt: halt") ≡ Ok (Halt ∷ [])
unfolding assembly_in line_read written_at syscall_at register_at number_at operand_at path_at flags_at rights_at commands_at label_at directory_at else_at
label_named_halt = refl

label_named_else : assembly_of (codes "jmp else\nelse: halt") ≡ Ok (Jmp 1 ∷ Halt ∷ [])
unfolding assembly_in line_read written_at syscall_at register_at number_at operand_at path_at flags_at rights_at commands_at label_at directory_at else_at
label_named_else = refl

number_as_label : assembly_of (codes "jmp 5") ≡ Err (fault Operand 1)
unfolding assembly_in line_read written_at syscall_at register_at number_at operand_at path_at flags_at rights_at commands_at label_at directory_at else_at
number_as_label = refl

label_twice_without_instructions : assembly_of (codes "a:\na:") ≡ Err (fault TwiceLabel 2)
unfolding assembly_in line_read written_at syscall_at register_at number_at operand_at path_at flags_at rights_at commands_at label_at directory_at else_at
label_twice_without_instructions = refl

label_on_its_own_line : assembly_of (codes "jmp a\na:\n; a comment\nb: halt") ≡ Ok (Jmp 1 ∷ Halt ∷ [])
unfolding assembly_in line_read written_at syscall_at register_at number_at operand_at path_at flags_at rights_at commands_at label_at directory_at else_at
label_on_its_own_line = refl

-- quotes
open_quote : assembly_of (codes "open \"a;b read else e\ne: halt") ≡ Err (fault Operand 1)
unfolding assembly_in line_read written_at syscall_at register_at number_at operand_at path_at flags_at rights_at commands_at label_at directory_at else_at
open_quote = refl

mark_in_quotes : assembly_of (codes "open \"a;b\" read else e\ne: halt") ≡ Ok (Invoke (Open (codes "a;b") read_only) 1 ∷ Halt ∷ [])
unfolding assembly_in line_read written_at syscall_at register_at number_at operand_at path_at flags_at rights_at commands_at label_at directory_at else_at
mark_in_quotes = refl

two_quoted_parts : assembly_of (codes "stat \"a\"\"b\" else e\ne: halt") ≡ Err (fault Operand 1)
unfolding assembly_in line_read written_at syscall_at register_at number_at operand_at path_at flags_at rights_at commands_at label_at directory_at else_at
two_quoted_parts = refl

blank_in_quotes : assembly_of (codes "stat \"a b\" else e\ne: halt") ≡ Err (fault Operand 1)
unfolding assembly_in line_read written_at syscall_at register_at number_at operand_at path_at flags_at rights_at commands_at label_at directory_at else_at
blank_in_quotes = refl

backslash_in_quotes : assembly_of (codes "stat \"a\\b\" else e\ne: halt") ≡ Err (fault Operand 1)
unfolding assembly_in line_read written_at syscall_at register_at number_at operand_at path_at flags_at rights_at commands_at label_at directory_at else_at
backslash_in_quotes = refl

empty_path : assembly_of (codes "stat \"\" else e\ne: halt") ≡ Ok (Invoke (Stat []) 1 ∷ Halt ∷ [])
unfolding assembly_in line_read written_at syscall_at register_at number_at operand_at path_at flags_at rights_at commands_at label_at directory_at else_at
empty_path = refl

comment_without_blank : assembly_of (codes "halt;x \"y") ≡ Ok (Halt ∷ [])
unfolding assembly_in line_read written_at syscall_at register_at number_at operand_at path_at flags_at rights_at commands_at label_at directory_at else_at
comment_without_blank = refl

-- lists
none_in_a_list : assembly_of (codes "cap_rights_limit 0 none,READ else e\ne: halt") ≡ Err (fault Operand 1)
unfolding assembly_in line_read written_at syscall_at register_at number_at operand_at path_at flags_at rights_at commands_at label_at directory_at else_at
none_in_a_list = refl

word_twice : assembly_of (codes "cap_rights_limit 0 READ,READ else e\ne: halt") ≡ Err (fault Operand 1)
unfolding assembly_in line_read written_at syscall_at register_at number_at operand_at path_at flags_at rights_at commands_at label_at directory_at else_at
word_twice = refl

no_right : assembly_of (codes "cap_rights_limit 0 none else e\ne: halt") ≡ Ok (Invoke (Cap_rights_limit (Number 0) 0) 1 ∷ Halt ∷ [])
unfolding assembly_in line_read written_at syscall_at register_at number_at operand_at path_at flags_at rights_at commands_at label_at directory_at else_at
no_right = refl

both_commands : assembly_of (codes "cap_fcntls_limit r7 SETFL,GETFL else e\ne: halt") ≡ Ok (Invoke (Cap_fcntls_limit (Register 7) 3) 1 ∷ Halt ∷ [])
unfolding assembly_in line_read written_at syscall_at register_at number_at operand_at path_at flags_at rights_at commands_at label_at directory_at else_at
both_commands = refl

empty_word_in_list : assembly_of (codes "cap_rights_limit 0 READ, else e\ne: halt") ≡ Err (fault Operand 1)
unfolding assembly_in line_read written_at syscall_at register_at number_at operand_at path_at flags_at rights_at commands_at label_at directory_at else_at
empty_word_in_list = refl

flags_none : assembly_of (codes "open \"x\" none else e\ne: halt") ≡ Err (fault Operand 1)
unfolding assembly_in line_read written_at syscall_at register_at number_at operand_at path_at flags_at rights_at commands_at label_at directory_at else_at
flags_none = refl

-- operands
number_past_15 : assembly_of (codes "close 4294967295 else e\ne: halt") ≡ Ok (Invoke (Close (Number 4294967295)) 1 ∷ Halt ∷ [])
unfolding assembly_in line_read written_at syscall_at register_at number_at operand_at path_at flags_at rights_at commands_at label_at directory_at else_at
number_past_15 = refl

register_8 : assembly_of (codes "in r8\nhalt") ≡ Err (fault Operand 1)
unfolding assembly_in line_read written_at syscall_at register_at number_at operand_at path_at flags_at rights_at commands_at label_at directory_at else_at
register_8 = refl

one_too_many_operands : assembly_of (codes "halt 1") ≡ Err (fault Operand 1)
unfolding assembly_in line_read written_at syscall_at register_at number_at operand_at path_at flags_at rights_at commands_at label_at directory_at else_at
one_too_many_operands = refl

without_else : assembly_of (codes "close 0\nhalt") ≡ Err (fault Operand 1)
unfolding assembly_in line_read written_at syscall_at register_at number_at operand_at path_at flags_at rights_at commands_at label_at directory_at else_at
without_else = refl

directory_removed : assembly_of (codes "unlinkat 0 \"d\" dir else e\ne: halt") ≡ Ok (Invoke (Unlinkat (Number 0) (codes "d") true) 1 ∷ Halt ∷ [])
unfolding assembly_in line_read written_at syscall_at register_at number_at operand_at path_at flags_at rights_at commands_at label_at directory_at else_at
directory_removed = refl

renamed : assembly_of (codes "renameat 0 \"in\" r1 \"out\" else e\ne: halt") ≡ Ok (Invoke (Renameat (Number 0) (codes "in") (Register 1) (codes "out")) 1 ∷ Halt ∷ [])
unfolding assembly_in line_read written_at syscall_at register_at number_at operand_at path_at flags_at rights_at commands_at label_at directory_at else_at
renamed = refl

-- processes and sockets
forked : assembly_of (codes "fork else e\ne: halt") ≡ Ok (Invoke Fork 1 ∷ Halt ∷ [])
unfolding assembly_in line_read written_at syscall_at register_at number_at operand_at path_at flags_at rights_at commands_at label_at directory_at else_at
forked = refl

paired : assembly_of (codes "socketpair else e\ne: halt") ≡ Ok (Invoke Socketpair 1 ∷ Halt ∷ [])
unfolding assembly_in line_read written_at syscall_at register_at number_at operand_at path_at flags_at rights_at commands_at label_at directory_at else_at
paired = refl

sent : assembly_of (codes "sendfd 2 r1 4294967295 else e\ne: halt") ≡ Ok (Invoke (Sendfd (Number 2) (Register 1) (Number 4294967295)) 1 ∷ Halt ∷ [])
unfolding assembly_in line_read written_at syscall_at register_at number_at operand_at path_at flags_at rights_at commands_at label_at directory_at else_at
sent = refl

received : assembly_of (codes "recvfd r3 else e\ne: halt") ≡ Ok (Invoke (Recvfd (Register 3)) 1 ∷ Halt ∷ [])
unfolding assembly_in line_read written_at syscall_at register_at number_at operand_at path_at flags_at rights_at commands_at label_at directory_at else_at
received = refl

fork_without_else : assembly_of (codes "fork\nhalt") ≡ Err (fault Operand 1)
unfolding assembly_in line_read written_at syscall_at register_at number_at operand_at path_at flags_at rights_at commands_at label_at directory_at else_at
fork_without_else = refl

fork_of_a_number : assembly_of (codes "fork 1 else e\ne: halt") ≡ Err (fault Operand 1)
unfolding assembly_in line_read written_at syscall_at register_at number_at operand_at path_at flags_at rights_at commands_at label_at directory_at else_at
fork_of_a_number = refl

socketpair_in_a_number : assembly_of (codes "socketpair 2 else e\ne: halt") ≡ Err (fault Operand 1)
unfolding assembly_in line_read written_at syscall_at register_at number_at operand_at path_at flags_at rights_at commands_at label_at directory_at else_at
socketpair_in_a_number = refl

sendfd_without_a_value : assembly_of (codes "sendfd 2 3 else e\ne: halt") ≡ Err (fault Operand 1)
unfolding assembly_in line_read written_at syscall_at register_at number_at operand_at path_at flags_at rights_at commands_at label_at directory_at else_at
sendfd_without_a_value = refl

sendfd_of_two_values : assembly_of (codes "sendfd 2 3 0 0 else e\ne: halt") ≡ Err (fault Operand 1)
unfolding assembly_in line_read written_at syscall_at register_at number_at operand_at path_at flags_at rights_at commands_at label_at directory_at else_at
sendfd_of_two_values = refl

sendfd_of_a_path : assembly_of (codes "sendfd 2 \"in\" 0 else e\ne: halt") ≡ Err (fault Operand 1)
unfolding assembly_in line_read written_at syscall_at register_at number_at operand_at path_at flags_at rights_at commands_at label_at directory_at else_at
sendfd_of_a_path = refl

recvfd_without_a_socket : assembly_of (codes "recvfd else e\ne: halt") ≡ Err (fault Operand 1)
unfolding assembly_in line_read written_at syscall_at register_at number_at operand_at path_at flags_at rights_at commands_at label_at directory_at else_at
recvfd_without_a_socket = refl

recvfd_to_a_number : assembly_of (codes "recvfd 2 3 else e\ne: halt") ≡ Err (fault Operand 1)
unfolding assembly_in line_read written_at syscall_at register_at number_at operand_at path_at flags_at rights_at commands_at label_at directory_at else_at
recvfd_to_a_number = refl

label_missing_behind_fork : assembly_of (codes "fork else x\nhalt") ≡ Err (fault NoLabel 1)
unfolding assembly_in line_read written_at syscall_at register_at number_at operand_at path_at flags_at rights_at commands_at label_at directory_at else_at
label_missing_behind_fork = refl

falls_off_behind_fork : assembly_of (codes "e: fork else e") ≡ Err (fault FallsOff 1)
unfolding assembly_in line_read written_at syscall_at register_at number_at operand_at path_at flags_at rights_at commands_at label_at directory_at else_at
falls_off_behind_fork = refl

plain_instructions : assembly_of (codes "l: in r0\n\tmov r1 r0 ; twice\nadd r0 r1\njeq r0 4 l\njlt r1 0 l\njmp l") ≡ Ok (In 0 ∷ Mov 1 0 ∷ Add 0 1 ∷ Jeq 0 4 0 ∷ Jlt 1 0 0 ∷ Jmp 0 ∷ [])
unfolding assembly_in line_read written_at syscall_at register_at number_at operand_at path_at flags_at rights_at commands_at label_at directory_at else_at
plain_instructions = refl

-- the least mistake of the first faulty line
word_before_operand : assembly_of (codes "set r0 01 !") ≡ Err (fault Word 1)
unfolding assembly_in line_read written_at syscall_at register_at number_at operand_at path_at flags_at rights_at commands_at label_at directory_at else_at
word_before_operand = refl

label_before_operand : assembly_of (codes "A: halt 1") ≡ Err (fault Word 1)
unfolding assembly_in line_read written_at syscall_at register_at number_at operand_at path_at flags_at rights_at commands_at label_at directory_at else_at
label_before_operand = refl

operand_before_twice : assembly_of (codes "a: halt\na: halt 1") ≡ Err (fault Operand 2)
unfolding assembly_in line_read written_at syscall_at register_at number_at operand_at path_at flags_at rights_at commands_at label_at directory_at else_at
operand_before_twice = refl

first_line : assembly_of (codes "set r0 01\nfrob") ≡ Err (fault Operand 1)
unfolding assembly_in line_read written_at syscall_at register_at number_at operand_at path_at flags_at rights_at commands_at label_at directory_at else_at
first_line = refl

lines_before_labels : assembly_of (codes "jmp z\nset r0 01\n") ≡ Err (fault Operand 2)
unfolding assembly_in line_read written_at syscall_at register_at number_at operand_at path_at flags_at rights_at commands_at label_at directory_at else_at
lines_before_labels = refl

first_missing_label : assembly_of (codes "jmp y\njmp z\n") ≡ Err (fault NoLabel 1)
unfolding assembly_in line_read written_at syscall_at register_at number_at operand_at path_at flags_at rights_at commands_at label_at directory_at else_at
first_missing_label = refl

falls_off_behind_lines : assembly_of (codes "halt\n\nset r0 1\n\n") ≡ Err (fault FallsOff 3)
unfolding assembly_in line_read written_at syscall_at register_at number_at operand_at path_at flags_at rights_at commands_at label_at directory_at else_at
falls_off_behind_lines = refl

-- so many lines
abbrev lines : ℕ → List ℕ → List ℕ
lines zero line = []
lines (suc n) line = line ++ lines n line

most_instructions : assembly_of (lines 257 (codes "halt\n")) ≡ Err (fault TooMany 257)
unfolding assembly_in line_read written_at syscall_at register_at number_at operand_at path_at flags_at rights_at commands_at label_at directory_at else_at
most_instructions = refl

twice_before_too_many : assembly_of (codes "a: halt\n" ++ lines 255 (codes "halt\n") ++ codes "a: halt\n") ≡ Err (fault TwiceLabel 257)
unfolding assembly_in line_read written_at syscall_at register_at number_at operand_at path_at flags_at rights_at commands_at label_at directory_at else_at
twice_before_too_many = refl

-- the example of docs/ASSEMBLY.md
example_of_the_page : assembly_of (codes
    "; enters the mode\nstart: cap_enter else end\nopenat 0 \"in\" read else end ; a number\nmov r1 r0\nnext: read r1 else end\njlt r0 256 next\nend: halt\n") ≡
    Ok (Invoke Cap_enter 5 ∷ Invoke (Openat (Number 0) (codes "in") read_only) 5 ∷ Mov 1 0 ∷ Invoke (Read (Register 1)) 5 ∷ Jlt 0 256 3 ∷ Halt ∷ [])
unfolding assembly_in line_read written_at syscall_at register_at number_at operand_at path_at flags_at rights_at commands_at label_at directory_at else_at
example_of_the_page = refl

-- ## Where points lead
-- a call leads on and to its `else`, entering the mode on alone, and a halt nowhere
a_call_leads_on_and_to_its_else : successors_at (Invoke (Read (Number 3)) 7 ∷ []) 0 ≡ 1 ∷ 7 ∷ []
a_call_leads_on_and_to_its_else = refl

entering_leads_on_alone : successors_at (Invoke Cap_enter 7 ∷ []) 0 ≡ 1 ∷ []
entering_leads_on_alone = refl

no_point_leads_from_a_halt : successors_at (Halt ∷ []) 0 ≡ []
no_point_leads_from_a_halt = refl

jump_leads_to_its_target : successors_at (Jmp 5 ∷ Jlt 0 3 9 ∷ []) 0 ≡ 5 ∷ []
jump_leads_to_its_target = refl

choice_leads_both_ways : successors_at (Jmp 5 ∷ Jlt 0 3 9 ∷ []) 1 ≡ 2 ∷ 9 ∷ []
choice_leads_both_ways = refl

no_point_follows_one_behind_the_end : successors_at (Halt ∷ []) 1 ≡ []
no_point_follows_one_behind_the_end = refl
