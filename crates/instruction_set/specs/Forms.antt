-- The instructions by their words, and what each wants behind it. A new instruction is a line of
-- `mnemonics` and one of `written_at` or `syscall_at`. (own)
use Rattle.std.specs.Prelude.{ℕ, ◌||◌, not, Bool, true, false, List, [], ◌∷◌, codes, Option, Some, None, option_map, if◌then◌else◌}
use Rattle.std.specs.Str.{bytes_eq}
use Rattle.rights.specs.Calls.{Call, call_name}
use Rattle.rights.specs.Calls as calls
use Rattle.rights.specs.Opens.{OpenRequest}
use Rattle.instruction_set.specs.Programs.{Operand, Syscall, Instruction}
use Rattle.instruction_set.specs.Programs as programs
use Rattle.instruction_set.specs.Fields.{read_name, read_value, read_register, read_operand, read_path, read_rights, read_further, read_commands, read_flags}

-- the word that an instruction begins with
pub data Mnemonic : Type 0 where
  Set : Mnemonic
  Mov : Mnemonic
  Add : Mnemonic
  In : Mnemonic
  Jmp : Mnemonic
  Jeq : Mnemonic
  Jlt : Mnemonic
  Halt : Mnemonic
  Make : (call : Call) → Mnemonic

abbrev pub mnemonic_name : Mnemonic → List ℕ
mnemonic_name Set = codes "set"
mnemonic_name Mov = codes "mov"
mnemonic_name Add = codes "add"
mnemonic_name In = codes "in"
mnemonic_name Jmp = codes "jmp"
mnemonic_name Jeq = codes "jeq"
mnemonic_name Jlt = codes "jlt"
mnemonic_name Halt = codes "halt"
mnemonic_name (Make call) = call_name call

-- the instructions that are read
abbrev pub mnemonics : List Mnemonic
mnemonics =
    Set ∷ Mov ∷ Add ∷ In ∷ Jmp ∷ Jeq ∷ Jlt ∷ Halt ∷ Make calls.Open ∷ Make calls.Openat ∷ Make calls.Read ∷ Make calls.Write
    ∷ Make calls.Sendfd ∷ Make calls.Recvfd ∷ Make calls.Lseek ∷ Make calls.Ftruncate ∷ Make calls.Fsync ∷ Make calls.Fstat
    ∷ Make calls.Fcntl_getfl ∷ Make calls.Fcntl_setfl ∷ Make calls.Fstatat ∷ Make calls.Stat ∷ Make calls.Mkdirat
    ∷ Make calls.Mkdir ∷ Make calls.Unlinkat ∷ Make calls.Unlink ∷ Make calls.Renameat ∷ Make calls.Dup ∷ Make calls.Close
    ∷ Make calls.Cap_rights_limit ∷ Make calls.Cap_fcntls_limit ∷ Make calls.Cap_enter ∷ Make calls.Cap_getmode
    ∷ Make calls.Socketpair ∷ Make calls.Fork ∷ Make calls.Use ∷ []

abbrev pub mnemonic_among : List Mnemonic → List ℕ → Option Mnemonic
mnemonic_among [] word = None
mnemonic_among (m ∷ ms) word = if bytes_eq word (mnemonic_name m) then Some m else mnemonic_among ms word

-- `use` is a word of the wide language alone.
abbrev pub is_wide_word : Mnemonic → Bool
is_wide_word (Make calls.Use) = true
is_wide_word _ = false

abbrev pub known_in : Bool → Option Mnemonic → Option Mnemonic
known_in wide None = None
known_in wide (Some m) = if not (is_wide_word m) || wide then Some m else None

abbrev pub mnemonic_of : Bool → List ℕ → Option Mnemonic
mnemonic_of wide word = known_in wide (mnemonic_among mnemonics word)

-- An instruction that leads to a label, but for the label.
pub data Jump : Type 0 where
  Always : Jump
  If_equal : (register value : ℕ) → Jump
  If_less : (register value : ℕ) → Jump
  After_error : (call : Syscall) → Jump

-- the instruction, with the point that it leads to
abbrev pub led : Jump → ℕ → Instruction
led Always target = programs.Jmp target
led (If_equal register value) target = programs.Jeq register value target
led (If_less register value) target = programs.Jlt register value target
led (After_error call) target = programs.Invoke call target

-- An instruction as it is written: alone, or leading to the label of a name.
pub data Written : Type 0 where
  Alone : (instruction : Instruction) → Written
  Leading : (jump : Jump) (name : List ℕ) → Written

-- Fields are read from the first word on: a field is what is read, and the words behind it, or None
-- where they are wrong.
infixl 10 ◌>>=◌
abbrev pub ◌>>=◌ : {A B : Type 0} → Option A → (A → Option B) → Option B
None >>= f = None
(Some a) >>= f = f a

abbrev pub Field : Type 0 → Type 0
Field A = List (List ℕ) → Option (A × List (List ℕ))

-- a field of one word
abbrev pub word_at : {A : Type 0} → (List ℕ → Option A) → Field A
word_at read [] = None
word_at read (word ∷ words) = option_map (λ a. (a, words)) (read word)

unfoldable pub register_at : Field ℕ
register_at words = word_at read_register words

unfoldable pub number_at : Field ℕ
number_at words = word_at read_value words

unfoldable pub operand_at : Field Operand
operand_at words = word_at read_operand words

unfoldable pub path_at : Field (List ℕ)
path_at words = word_at read_path words

unfoldable pub flags_at : Field OpenRequest
flags_at words = word_at read_flags words

unfoldable pub rights_at : Bool → Field ℕ
rights_at wide words = word_at (read_rights wide) words

unfoldable pub further_at : Field ℕ
further_at words = word_at read_further words

unfoldable pub commands_at : Field ℕ
commands_at words = word_at read_commands words

unfoldable pub label_at : Field (List ℕ)
label_at words = word_at read_name words

-- the word `dir`, or nothing
unfoldable pub directory_at : Field Bool
directory_at [] = Some (false, [])
directory_at (word ∷ words) = if bytes_eq word (codes "dir") then Some (true, words) else Some (false, word ∷ words)

-- the word `else` and a label
unfoldable pub else_at : Field (List ℕ)
else_at [] = None
else_at (word ∷ words) = if bytes_eq word (codes "else") then label_at words else None

-- what is made of no, one, two, three and four fields
abbrev pub nothing : {S : Type 0} → S → Field S
nothing made words = Some (made, words)

abbrev pub one : {A S : Type 0} → Field A → (A → S) → Field S
one first make words = do
  a ← first words
  Some (make a.0, a.1)

abbrev pub two : {A B S : Type 0} → Field A → Field B → (A → B → S) → Field S
two first second make words = do
  a ← first words
  b ← second a.1
  Some (make a.0 b.0, b.1)

abbrev pub three : {A B C S : Type 0} → Field A → Field B → Field C → (A → B → C → S) → Field S
three first second third make words = do
  a ← first words
  b ← second a.1
  c ← third b.1
  Some (make a.0 b.0 c.0, c.1)

abbrev pub four : {A B C D S : Type 0} → Field A → Field B → Field C → Field D → (A → B → C → D → S) → Field S
four first second third fourth make words = do
  a ← first words
  b ← second a.1
  c ← third b.1
  d ← fourth c.1
  Some (make a.0 b.0 c.0 d.0, d.1)

-- the operands of each call, in the wide language or the other
unfoldable pub syscall_at : Bool → Call → Field Syscall
syscall_at wide calls.Open = two path_at flags_at programs.Open
syscall_at wide calls.Openat = three operand_at path_at flags_at programs.Openat
syscall_at wide calls.Read = one operand_at programs.Read
syscall_at wide calls.Write = two operand_at operand_at programs.Write
syscall_at wide calls.Sendfd = three operand_at operand_at operand_at programs.Sendfd
syscall_at wide calls.Recvfd = one operand_at programs.Recvfd
syscall_at wide calls.Lseek = two operand_at operand_at programs.Lseek
syscall_at wide calls.Ftruncate = two operand_at operand_at programs.Ftruncate
syscall_at wide calls.Fsync = one operand_at programs.Fsync
syscall_at wide calls.Fstat = one operand_at programs.Fstat
syscall_at wide calls.Fcntl_getfl = one operand_at programs.Fcntl_getfl
syscall_at wide calls.Fcntl_setfl = two operand_at operand_at programs.Fcntl_setfl
syscall_at wide calls.Fstatat = two operand_at path_at programs.Fstatat
syscall_at wide calls.Stat = one path_at programs.Stat
syscall_at wide calls.Mkdirat = two operand_at path_at programs.Mkdirat
syscall_at wide calls.Mkdir = one path_at programs.Mkdir
syscall_at wide calls.Unlinkat = three operand_at path_at directory_at programs.Unlinkat
syscall_at wide calls.Unlink = two path_at directory_at programs.Unlink
syscall_at wide calls.Renameat = four operand_at path_at operand_at path_at programs.Renameat
syscall_at wide calls.Dup = one operand_at programs.Dup
syscall_at wide calls.Close = one operand_at programs.Close
syscall_at wide calls.Cap_rights_limit = two operand_at (rights_at wide) programs.Cap_rights_limit
syscall_at wide calls.Cap_fcntls_limit = two operand_at commands_at programs.Cap_fcntls_limit
syscall_at wide calls.Cap_enter = nothing programs.Cap_enter
syscall_at wide calls.Cap_getmode = nothing programs.Cap_getmode
syscall_at wide calls.Socketpair = nothing programs.Socketpair
syscall_at wide calls.Fork = nothing programs.Fork
syscall_at wide calls.Use = two operand_at further_at programs.Use

-- the operands of each instruction
unfoldable pub written_at : Bool → Mnemonic → Field Written
written_at wide Set = two register_at number_at (λ register value. Alone (programs.Set register value))
written_at wide Mov = two register_at register_at (λ register source. Alone (programs.Mov register source))
written_at wide Add = two register_at register_at (λ register addend. Alone (programs.Add register addend))
written_at wide In = one register_at (λ register. Alone (programs.In register))
written_at wide Jmp = one label_at (λ name. Leading Always name)
written_at wide Jeq = three register_at number_at label_at (λ register value name. Leading (If_equal register value) name)
written_at wide Jlt = three register_at number_at label_at (λ register value name. Leading (If_less register value) name)
written_at wide Halt = nothing (Alone programs.Halt)
written_at wide (Make call) = two (syscall_at wide call) else_at (λ call name. Leading (After_error call) name)

-- no word is left
abbrev pub whole : {A : Type 0} → A → List (List ℕ) → Option A
whole a [] = Some a
whole a (word ∷ words) = None

abbrev pub written_of : Bool → Mnemonic → List (List ℕ) → Option Written
written_of wide mnemonic words = do
  read ← written_at wide mnemonic words
  whole read.0 read.1
