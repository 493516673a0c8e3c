use Rattle.std.proofs.Common.{◌≡◌, take, true}
use Rattle.std.specs.Prelude.{map}
use Rattle.records.specs.Calls.{are_of_kinds}
use Rattle.records.specs.GivenViews.{given_kind}
use Rattle.records.specs.OperandViews.{operand_seen}
use Rattle.records.proofs.real_calls.operands_of.Given as goal

-- the operands before are of the kinds that are given
abbrev pub invariant-loop-one : goal.invariant-loop-one
invariant-loop-one l = are_of_kinds (map given_kind (take l.one-index l.given)) (map operand_seen l.operands.items) ≡ true
