use Rattle.std.proofs.Common.{◌≡◌, true, sym, subst}
use Rattle.certificate.specs.Bounds.{Bound}
use Rattle.certificate.specs.Order.{bound_within}
use Rattle.certificate.specs.Views.{bound_of, version_of}
use Rattle.certificate.proofs.ToldLaws.{told_bound_is_above}
use Rattle.searcher.proofs.point_states.tell.Goals as goal

pub returns : goal.returns
returns c =
    subst (λ (b : Bound). bound_within (bound_of c.args.bound.now) b ≡ true) (sym c.tell_in.ensures) (told_bound_is_above (version_of c.args.version) (bound_of c.args.bound.now))
