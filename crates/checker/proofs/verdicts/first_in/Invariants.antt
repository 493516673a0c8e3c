use Rattle.std.proofs.Common.{◌≡◌, ◌<◌, ℕ}
use Rattle.std.specs.Prelude.{None, option_map}
use Rattle.certificate.specs.Views.{bound_of}
use Rattle.texts.specs.Views.{name_of}
use Rattle.checker.specs.PointViews.{expansion_of}
use Rattle.rules.specs.Expansions.{bound_there}
use Rattle.rules.specs.Verdicts.{found_at}
use Rattle.checker.proofs.verdicts.first_in.Given as goal

-- nothing is found at the points so far, and the bound is that of the next
abbrev pub invariant-loop-point : goal.invariant-loop-point
invariant-loop-point l =
    ((k : ℕ) → k < l.point → found_at l.of.task.now (expansion_of l.of) l.of.program k ≡ None)
    × (option_map bound_of l.bound ≡ bound_there l.of.task.now l.of.cert.now (name_of l.of.name) l.point)
