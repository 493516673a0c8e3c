-- What is known of a point.
use Rattle.std.specs.Prelude.{Bool, false, Option, Some, None}
use Rattle.certificate.specs.Order.{bound_within}
use Rattle.certificate.specs.Views.{bound_of}
use Rattle.certificate.specs.declared.bounds.Bound.{Bound as BoundCode}
use Rattle.rules.specs.Outcomes.{Outcome}

-- whether an outcome lies within a point's bound, if it has one
abbrev pub lies_in : Option BoundCode → Outcome → Bool
lies_in None o = false
lies_in (Some b) o = bound_within o.bound (bound_of b)
