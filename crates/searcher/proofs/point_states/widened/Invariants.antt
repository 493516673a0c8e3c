use Rattle.std.proofs.Common.{◌≡◌}
use Rattle.std.specs.Prelude.{true}
use Rattle.certificate.specs.Order.{bound_within}
use Rattle.certificate.specs.Views.{bound_of}
use Rattle.searcher.proofs.point_states.widened.Given as goal

abbrev pub invariant-loop-register : goal.invariant-loop-register
invariant-loop-register l = bound_within (bound_of l.grown) (bound_of l.next) ≡ true
