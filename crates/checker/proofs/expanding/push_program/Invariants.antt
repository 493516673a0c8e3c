use Rattle.std.proofs.Common.{◌≡◌, ◌-◌, map}
use Rattle.std.specs.Prelude.{None, option_map}
use Rattle.certificate.specs.Growths.{grown_by}
use Rattle.certificate.specs.Told.{told_point}
use Rattle.certificate.specs.Views.{bound_of}
use Rattle.texts.specs.Views.{name_of}
use Rattle.rules.specs.Expansions.{points_along}
use Rattle.checker.proofs.expanding.push_program.Given as goal

-- What the points from this one on make of the certificate is what all of them make of the first one; and its version stays.
abbrev pub invariant-loop-point : goal.invariant-loop-point
invariant-loop-point l =
    (grown_by (map (told_point l.fn.expanded.version) (points_along l.task l.cert (name_of l.name) (option_map bound_of l.carried) l.point (256 - l.point))) l.expanded
    ≡ grown_by (map (told_point l.fn.expanded.version) (points_along l.task l.cert (name_of l.name) None 0 256)) l.fn.expanded)
    × (l.expanded.version ≡ l.fn.expanded.version)
