use Rattle.std.proofs.Common.{◌≡◌, length}
use Rattle.texts.specs.Parts.{parts}
use Rattle.instruction_set.specs.Fields.{union_from}
use Rattle.prog_asm.proofs.lists.set.Given as goal

-- the set so far, and then what is left
abbrev pub invariant-loop-behind : goal.invariant-loop-behind
invariant-loop-behind g l =
    union_from g.F.Flags.table (g.F.Flags.set_of l.set) (parts 44 l.list) ≡ union_from g.F.Flags.table 0 (parts 44 l.fn.word)

abbrev pub decreases-loop-behind : goal.decreases-loop-behind
decreases-loop-behind g l = length l.list
