-- What a call needs of each slot that an operand of it may name, whatever the bound. (own; after capsicum(4), rights(4),
-- cap_rights_limit(2) and cap_fcntls_limit(2))
use Rattle.std.specs.Prelude.{◌++◌, Bool, true, false, List, [], ◌∷◌, Option, Some, None, is_some}
use Rattle.rights.specs.Values.{RightSet, CommandSet}
use Rattle.rights.specs.Sets.{getfl_command, setfl_command}
use Rattle.rights.specs.Calls as calls
use Rattle.rights.specs.Opens.{OpenRequest, no_request}
use Rattle.rights.specs.Needs.{Second, needs_of}
use Rattle.rights.specs.Operations.{Operation}
use Rattle.rights.specs.Operations as operations
use Rattle.rights.specs.Uses.{operation_of_use}
use Rattle.instruction_set.specs.Programs.{Operand, Syscall, Open, Openat, Read, Write, Sendfd, Recvfd, Lseek, Ftruncate, Fsync, Fstat, Fcntl_getfl, Fcntl_setfl, Fstatat, Stat, Mkdirat}
use Rattle.instruction_set.specs.Programs.{Mkdir, Unlinkat, Unlink, Renameat, Dup, Close, Cap_rights_limit, Cap_fcntls_limit, Cap_enter, Cap_getmode, Socketpair, Fork, Use as Call_use}
use Rattle.instruction_set.specs.CallNeeds.{first_rights}

-- the slot of an operand is sent, or something is received
pub data Passed : Type 0 where
  Nothing : Passed
  Sent : (operand : Operand) → Passed
  Received : Passed

pub record Need : Type 0 where
  pub rights : RightSet  -- the rights that it needs
  pub commands : CommandSet  -- the fcntl commands that it needs
  pub further : RightSet  -- the further right that it needs
  pub kept_rights : RightSet  -- what a limit keeps, which has to be there
  pub kept_commands : CommandSet
  pub works : Bool  -- it works on what the slot is of, so in capability mode that has to be known
  pub operations : List Operation  -- what it may do to the slot's node, or beneath it
  pub changes_names : Bool  -- it may make, remove or rename names beneath the slot
  pub targets : Option Operand  -- the operand of the slots that it may move such a name to
  pub passed : Passed

-- an operand, and what is needed of each slot that it may name
pub record Through : Type 0 where
  pub operand : Operand
  pub need : Need

-- A call goes through no operand, or one, or two.
pub record Needs : Type 0 where
  pub first : Option Through
  pub second : Option Through

-- ## The needs of each call
-- what an open through a directory may do beneath it
abbrev pub operation_if : Bool → Operation → List Operation
operation_if true operation = operation ∷ []
operation_if false operation = []

abbrev pub open_operations : OpenRequest → List Operation
open_operations f = operation_if f.create operations.Create ++ operation_if f.trunc operations.Write

abbrev pub no_need : Need
no_need = record {
  rights = 0;
  commands = 0;
  further = 0;
  kept_rights = 0;
  kept_commands = 0;
  works = false;
  operations = [];
  changes_names = false;
  targets = None;
  passed = Nothing;
}

abbrev pub through_none : Needs
through_none = record { first = None; second = None }

-- through one operand, with the rights that the call needs
abbrev pub through_one : Operand → Need → Needs
through_one x need = record { first = Some (record { operand = x; need = need }); second = None }

abbrev pub needing : Syscall → Need
needing call = record no_need { rights = first_rights call }

abbrev pub working : Syscall → List Operation → Need
working call operations = record (needing call) { works = true; operations = operations }

abbrev pub naming : Syscall → List Operation → Need
naming call operations = record (working call operations) { changes_names = true }

-- a call that needs a further right works on a slot if it does something to its node
abbrev pub listed_operation : Option Operation → List Operation
listed_operation None = []
listed_operation (Some operation) = operation ∷ []

abbrev pub using : Syscall → RightSet → Need
using call right = record (needing call) {
  further = right;
  works = is_some (operation_of_use right);
  operations = listed_operation (operation_of_use right);
}

abbrev pub moving_to : Need
moving_to = record no_need {
  rights = needs_of calls.Renameat no_request Second true;
  works = true;
  operations = operations.Create ∷ operations.Remove ∷ [];
  changes_names = true;
}

-- A descriptor that is sent isn't gone through.
abbrev pub needs : Syscall → Needs
needs (Open path f) = through_none
needs (Openat x path f) =
    through_one x (record (working (Openat x path f) (open_operations f)) { changes_names = f.create })
needs (Read x) = through_one x (working (Read x) (operations.Read ∷ []))
needs (Write x v) = through_one x (working (Write x v) (operations.Write ∷ []))
needs (Sendfd x y v) = through_one x (record (working (Sendfd x y v) []) { passed = Sent y })
needs (Recvfd x) = through_one x (record (working (Recvfd x) []) { passed = Received })
needs (Lseek x v) = through_one x (needing (Lseek x v))
needs (Ftruncate x v) = through_one x (working (Ftruncate x v) (operations.Write ∷ []))
needs (Fsync x) = through_one x (needing (Fsync x))
needs (Fstat x) = through_one x (working (Fstat x) (operations.Look ∷ []))
needs (Fcntl_getfl x) = through_one x (record (needing (Fcntl_getfl x)) { commands = getfl_command })
needs (Fcntl_setfl x v) = through_one x (record (needing (Fcntl_setfl x v)) { commands = setfl_command })
needs (Fstatat x path) = through_one x (working (Fstatat x path) (operations.Look ∷ []))
needs (Stat path) = through_none
needs (Mkdirat x path) = through_one x (naming (Mkdirat x path) (operations.Create ∷ []))
needs (Mkdir path) = through_none
needs (Unlinkat x path directory) = through_one x (naming (Unlinkat x path directory) (operations.Remove ∷ []))
needs (Unlink path directory) = through_none
needs (Renameat x from y to) = record {
  first = Some (record {
    operand = x;
    need = record (naming (Renameat x from y to) (operations.Remove ∷ [])) { targets = Some y };
  });
  second = Some (record { operand = y; need = moving_to });
}
needs (Dup x) = through_one x no_need
needs (Close x) = through_one x no_need
needs (Cap_rights_limit x rights) = through_one x (record no_need { kept_rights = rights })
needs (Cap_fcntls_limit x commands) = through_one x (record no_need { kept_commands = commands })
needs Cap_enter = through_none
needs Cap_getmode = through_none
needs Socketpair = through_none
needs Fork = through_none
needs (Call_use x right) = through_one x (using (Call_use x right) right)
