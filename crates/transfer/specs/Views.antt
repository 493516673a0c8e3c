-- What the values of the code stand for.
use Rattle.std.specs.Prelude.{ℕ, List, [], ◌∷◌, ◌++◌, Option, Some, None, option_map}
use Rattle.rights.specs.Operations.{Operation}
use Rattle.rights.specs.Views.{operation_of}
use Rattle.rights.specs.declared.operations.Op.{Op as OpCode}
use Rattle.instruction_set.specs.Views.{operand_of}
use Rattle.rules.specs.Demands.{Demands}
use Rattle.rules.specs.Needs.{Need, Passed, Sent, Received, Through, Needs}
use Rattle.rules.specs.Needs as needs
use Rattle.transfer.specs.declared.slots.FreeNumbers.{FreeNumbers}
use Rattle.transfer.specs.declared.slots.FreeNumbers.TheVariants as free
use Rattle.transfer.specs.declared.slots.Takes.{Takes}
use Rattle.transfer.specs.declared.slots.Takes.TheVariants as takes
use Rattle.transfer.specs.declared.demands.Demands.{Demands as DemandsCode}
use Rattle.transfer.specs.declared.uses.Passed.{Passed as PassedCode}
use Rattle.transfer.specs.declared.uses.Passed.TheVariants as passed
use Rattle.transfer.specs.declared.uses.Need.{Need as NeedCode}
use Rattle.transfer.specs.declared.uses.Through.{Through as ThroughCode}
use Rattle.transfer.specs.declared.uses.Needs.{Needs as NeedsCode}

abbrev pub free_of : FreeNumbers → List ℕ
free_of free.None = []
free_of (free.One number) = number ∷ []
free_of (free.Two first second) = first ∷ second ∷ []

abbrev pub count_of : Takes → ℕ
count_of takes.Nothing = 0
count_of takes.One = 1
count_of takes.Two = 2

abbrev pub demands_of : DemandsCode → Demands
demands_of d = record {
  single = option_map operand_of d.single;
  takes = count_of d.takes;
  is_global = d.is_global;
  changes_global_names = d.changes_global_names;
  never_fails = d.never_fails;
}

abbrev pub passed_of : PassedCode → Passed
passed_of passed.Nothing = needs.Nothing
passed_of (passed.Sent operand) = Sent (operand_of operand)
passed_of passed.Received = Received

abbrev pub operation_list : Option OpCode → List Operation
operation_list None = []
operation_list (Some operation) = operation_of operation ∷ []

abbrev pub need_of : NeedCode → Need
need_of n = record {
  rights = n.rights.0;
  commands = n.commands.0;
  further = n.further.0;
  kept_rights = n.kept_rights.0;
  kept_commands = n.kept_commands.0;
  works = n.works;
  operations = operation_list n.operation ++ operation_list n.other_operation;
  changes_names = n.changes_names;
  targets = option_map operand_of n.targets;
  passed = passed_of n.passed;
}

abbrev pub through_of : ThroughCode → Through
through_of t = record { operand = operand_of t.operand; need = need_of t.need }

abbrev pub needs_in : NeedsCode → Needs
needs_in n = record { first = option_map through_of n.first; second = option_map through_of n.second }
