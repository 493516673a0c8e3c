use Rattle.std.proofs.Common.{◌≡◌, map, drop, []}
use Rattle.call_facts.specs.FactViews.{roles_seen}
use Rattle.records.specs.Calls.{kind_of}
use Rattle.records.specs.OperandViews.{operand_seen}
use Rattle.records.specs.Readings.{operands_from}
use Rattle.records.proofs.words.take_operands.Given as goal

-- the kinds that are left decide it
abbrev pub invariant-loop-role : goal.invariant-loop-role
invariant-loop-role l =
    operands_from (map kind_of (roles_seen (drop l.role-index l.roles))) (map operand_seen l.operands.items) l.words
    ≡ operands_from (map kind_of (roles_seen l.roles)) [] l.fn.words
