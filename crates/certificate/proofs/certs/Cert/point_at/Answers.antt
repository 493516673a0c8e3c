use Rattle.std.proofs.Common.{◌≡◌, subst, sym, true}
use Rattle.certificate.specs.Rising.{places_of, rises}
use Rattle.certificate.specs.Views.{points_of}
use Rattle.certificate.proofs.Rising.{certificates_rise}
use Rattle.certificate.proofs.certs.Cert.point_at.Goals as goal

pub point_among-requires : goal.point_among-requires
point_among-requires c =
    subst (λ points. rises (places_of (points_of points)) ≡ true) (sym c.deref.ensures.value) (certificates_rise _ c.self.invariant.0)
