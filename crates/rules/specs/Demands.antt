-- What the rules ask of a call as a whole, whatever slots it goes through. (own; that global name spaces can't be reached in
-- capability mode is of capsicum(4) and cap_enter(2))
use Rattle.std.specs.Prelude.{◌&&◌, not, ℕ, Bool, true, false, Option, Some, None, is_some}
use Rattle.rights.specs.Uses.{reaches_globally}
use Rattle.certificate.specs.Bounds.{Bound}
use Rattle.instruction_set.specs.Programs.{Operand, Syscall, Open, Openat, Read, Write, Sendfd, Recvfd, Lseek, Ftruncate, Fsync, Fstat, Fcntl_getfl, Fcntl_setfl, Fstatat, Stat, Mkdirat}
use Rattle.instruction_set.specs.Programs.{Mkdir, Unlinkat, Unlink, Renameat, Dup, Close, Cap_rights_limit, Cap_fcntls_limit, Cap_enter, Cap_getmode, Socketpair, Fork, Use as Call_use}
use Rattle.rules.specs.Slots.{may_be_on, operand_interval, is_single, free_numbers}

pub record Demands : Type 0 where
  pub single : Option Operand  -- an operand that has to be a single number, since the call changes that slot
  pub takes : ℕ  -- how many free numbers it takes
  pub is_global : Bool  -- it reaches a global name space
  pub changes_global_names : Bool  -- and may make or remove a name there
  pub never_fails : Bool

abbrev pub no_demand : Demands
no_demand = record { single = None; takes = 0; is_global = false; changes_global_names = false; never_fails = false }

abbrev pub demands : Syscall → Demands
demands (Open path f) = record no_demand { takes = 1; is_global = true; changes_global_names = f.create }
demands (Openat x path f) = record no_demand { takes = 1 }
demands (Read x) = no_demand
demands (Write x v) = no_demand
demands (Sendfd x y v) = no_demand
demands (Recvfd x) = record no_demand { takes = 1 }
demands (Lseek x v) = no_demand
demands (Ftruncate x v) = no_demand
demands (Fsync x) = no_demand
demands (Fstat x) = no_demand
demands (Fcntl_getfl x) = no_demand
demands (Fcntl_setfl x v) = no_demand
demands (Fstatat x path) = no_demand
demands (Stat path) = record no_demand { is_global = true }
demands (Mkdirat x path) = no_demand
demands (Mkdir path) = record no_demand { is_global = true; changes_global_names = true }
demands (Unlinkat x path directory) = no_demand
demands (Unlink path directory) = record no_demand { is_global = true; changes_global_names = true }
demands (Renameat x from y to) = no_demand
demands (Dup x) = record no_demand { takes = 1 }
demands (Close x) = record no_demand { single = Some x }
demands (Cap_rights_limit x rights) = record no_demand { single = Some x }
demands (Cap_fcntls_limit x commands) = record no_demand { single = Some x }
demands Cap_enter = record no_demand { never_fails = true }
demands Cap_getmode = record no_demand { never_fails = true }
demands Socketpair = record no_demand { takes = 2 }
demands Fork = no_demand
demands (Call_use x right) = record no_demand { is_global = reaches_globally right }

-- Rule 4: an operand of a call that changes its slot is a single number.
abbrev pub single_operand : Bound → Option Operand → Bool
single_operand b None = true
single_operand b (Some x) = is_single (operand_interval b x)

abbrev pub keeps_single : Bound → Syscall → Bool
keeps_single b call = single_operand b (demands call).single

-- Rule 5: the free numbers that a call takes are determined.
abbrev pub keeps_numbers : Bound → Syscall → Bool
keeps_numbers b call = is_some (free_numbers (demands call).takes b)

-- Rule 6: no call reaches a global name space where the mode may be on.
abbrev pub keeps_beneath : Bound → Syscall → Bool
keeps_beneath b call = not (may_be_on b.mode && (demands call).is_global)
