-- The arguments of a call, by what they are for. (own)
use Rattle.std.specs.Prelude.{◌==◌, ℕ, zero, suc, Bool, false, List, [], ◌∷◌, Option, Some, None}
use Rattle.std.specs.List.{list_any}
use Rattle.rights.specs.Opens.{OpenRequest}
use Rattle.rights.specs.Values.{CommandSet, PathText, RightSet}
use Rattle.instruction_set.specs.Programs.{Operand, Syscall}
use Rattle.instruction_set.specs.Programs as programs
use Rattle.call_facts.specs.Facts.{Role}
use Rattle.call_facts.specs.Facts as role

pub data Argument : Type 0 where
  Descriptor : (operand : Operand) → Argument
  Path : (path : PathText) → Argument
  Flags : (flags : OpenRequest) → Argument
  Rights : (rights : RightSet) → Argument
  Commands : (commands : CommandSet) → Argument
  Amount : (operand : Operand) → Argument
  Status : (operand : Operand) → Argument
  Choice : (is_directory : Bool) → Argument

abbrev pub role_of : Argument → Role
role_of (Descriptor x) = role.Descriptor
role_of (Path path) = role.Path
role_of (Flags flags) = role.Flags
role_of (Rights rights) = role.Rights
role_of (Commands commands) = role.Commands
role_of (Amount x) = role.Amount
role_of (Status x) = role.Status
role_of (Choice is_directory) = role.Choice

abbrev pub arguments : Syscall → List Argument
arguments (programs.Open path flags) = Path path ∷ Flags flags ∷ []
arguments (programs.Openat x path flags) = Descriptor x ∷ Path path ∷ Flags flags ∷ []
arguments (programs.Read x) = Descriptor x ∷ []
arguments (programs.Write x v) = Descriptor x ∷ Amount v ∷ []
arguments (programs.Sendfd x y v) = Descriptor x ∷ Descriptor y ∷ Amount v ∷ []
arguments (programs.Recvfd x) = Descriptor x ∷ []
arguments (programs.Lseek x v) = Descriptor x ∷ Amount v ∷ []
arguments (programs.Ftruncate x v) = Descriptor x ∷ Amount v ∷ []
arguments (programs.Fsync x) = Descriptor x ∷ []
arguments (programs.Fstat x) = Descriptor x ∷ []
arguments (programs.Fcntl_getfl x) = Descriptor x ∷ []
arguments (programs.Fcntl_setfl x v) = Descriptor x ∷ Status v ∷ []
arguments (programs.Fstatat x path) = Descriptor x ∷ Path path ∷ []
arguments (programs.Stat path) = Path path ∷ []
arguments (programs.Mkdirat x path) = Descriptor x ∷ Path path ∷ []
arguments (programs.Mkdir path) = Path path ∷ []
arguments (programs.Unlinkat x path directory) = Descriptor x ∷ Path path ∷ Choice directory ∷ []
arguments (programs.Unlink path directory) = Path path ∷ Choice directory ∷ []
arguments (programs.Renameat x from y to) = Descriptor x ∷ Path from ∷ Descriptor y ∷ Path to ∷ []
arguments (programs.Dup x) = Descriptor x ∷ []
arguments (programs.Close x) = Descriptor x ∷ []
arguments (programs.Cap_rights_limit x rights) = Descriptor x ∷ Rights rights ∷ []
arguments (programs.Cap_fcntls_limit x commands) = Descriptor x ∷ Commands commands ∷ []
arguments programs.Cap_enter = []
arguments programs.Cap_getmode = []
arguments programs.Socketpair = []
arguments programs.Fork = []
arguments (programs.Use x right) = Descriptor x ∷ Rights right ∷ []

-- the operand of the first descriptor among some arguments, or of one that stands behind so many others
abbrev pub descriptor_at : ℕ → List Argument → Option Operand
descriptor_at n [] = None
descriptor_at zero (Descriptor x ∷ rest) = Some x
descriptor_at (suc n) (Descriptor x ∷ rest) = descriptor_at n rest
descriptor_at n (Path path ∷ rest) = descriptor_at n rest
descriptor_at n (Flags flags ∷ rest) = descriptor_at n rest
descriptor_at n (Rights rights ∷ rest) = descriptor_at n rest
descriptor_at n (Commands commands ∷ rest) = descriptor_at n rest
descriptor_at n (Amount x ∷ rest) = descriptor_at n rest
descriptor_at n (Status x ∷ rest) = descriptor_at n rest
descriptor_at n (Choice directory ∷ rest) = descriptor_at n rest

-- of its only descriptor or of the first of two, and of the second
abbrev pub first_operand : Syscall → Option Operand
first_operand call = descriptor_at 0 (arguments call)

abbrev pub second_operand : Syscall → Option Operand
second_operand call = descriptor_at 1 (arguments call)

-- the operand that is no descriptor: a byte, an offset, a length or status flags
abbrev pub value_in : List Argument → Option Operand
value_in [] = None
value_in (Descriptor x ∷ rest) = value_in rest
value_in (Path path ∷ rest) = value_in rest
value_in (Flags flags ∷ rest) = value_in rest
value_in (Rights rights ∷ rest) = value_in rest
value_in (Commands commands ∷ rest) = value_in rest
value_in (Amount x ∷ rest) = Some x
value_in (Status x ∷ rest) = Some x
value_in (Choice directory ∷ rest) = value_in rest

abbrev pub value_operand : Syscall → Option Operand
value_operand call = value_in (arguments call)

-- the first path among some arguments, or one that stands behind so many others
abbrev pub path_at : ℕ → List Argument → Option PathText
path_at n [] = None
path_at n (Descriptor x ∷ rest) = path_at n rest
path_at zero (Path path ∷ rest) = Some path
path_at (suc n) (Path path ∷ rest) = path_at n rest
path_at n (Flags flags ∷ rest) = path_at n rest
path_at n (Rights rights ∷ rest) = path_at n rest
path_at n (Commands commands ∷ rest) = path_at n rest
path_at n (Amount x ∷ rest) = path_at n rest
path_at n (Status x ∷ rest) = path_at n rest
path_at n (Choice directory ∷ rest) = path_at n rest

abbrev pub first_path : Syscall → Option PathText
first_path call = path_at 0 (arguments call)

abbrev pub second_path : Syscall → Option PathText
second_path call = path_at 1 (arguments call)

-- how it opens a file, if it does
abbrev pub flags_in : List Argument → Option OpenRequest
flags_in [] = None
flags_in (Descriptor x ∷ rest) = flags_in rest
flags_in (Path path ∷ rest) = flags_in rest
flags_in (Flags flags ∷ rest) = Some flags
flags_in (Rights rights ∷ rest) = flags_in rest
flags_in (Commands commands ∷ rest) = flags_in rest
flags_in (Amount x ∷ rest) = flags_in rest
flags_in (Status x ∷ rest) = flags_in rest
flags_in (Choice directory ∷ rest) = flags_in rest

abbrev pub opening_flags : Syscall → Option OpenRequest
opening_flags call = flags_in (arguments call)

-- the operand of an argument that is a number
abbrev pub operand_in : Argument → Option Operand
operand_in (Descriptor x) = Some x
operand_in (Path path) = None
operand_in (Flags flags) = None
operand_in (Rights rights) = None
operand_in (Commands commands) = None
operand_in (Amount x) = Some x
operand_in (Status x) = Some x
operand_in (Choice directory) = None

-- whether what a register holds is an argument of a call
abbrev pub is_register : ℕ → Option Operand → Bool
is_register register None = false
is_register register (Some (programs.Register own)) = own == register
is_register register (Some (programs.Number number)) = false

abbrev pub has_register : ℕ → List Argument → Bool
has_register register arguments = list_any (λ argument. is_register register (operand_in argument)) arguments

abbrev pub is_given : ℕ → Syscall → Bool
is_given register call = has_register register (arguments call)
