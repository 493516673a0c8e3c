use Rattle.std.proofs.Common.{◌≡◌, length}
use Rattle.texts.specs.Parts.{parts}
use Rattle.call_facts.specs.Sets.{has_word}
use Rattle.call_facts.proofs.sets.has_word.Given as goal

-- what is left decides it
abbrev pub invariant-loop-behind : goal.invariant-loop-behind
invariant-loop-behind l = has_word l.name (parts 44 l.list) ≡ has_word l.name (parts 44 l.initial.list)

abbrev pub decreases-loop-behind : goal.decreases-loop-behind
decreases-loop-behind l = length l.list
