use Rattle.std.proofs.Common.{◌≡◌, ◌∙◌, refl, List, [], length}
use Rattle.std.specs.Str.{bytes_eq}
use Rattle.certificate.specs.declared.points.Point.{Point}
use Rattle.certificate.specs.declared.lines.Channel.{Channel}
use Rattle.certificate.specs.declared.authorities.Authority.{Authority}
use Rattle.certificate.specs.Bounds.{Version}
use Rattle.certificate.specs.Order.{same_class}
use Rattle.certificate.specs.Growth.{IsCertificate, begins, classes_of, distinct, distinct_behind, programs_named}
use Rattle.certificate.specs.Views.{certificate_with, version_of}
use Rattle.certificate.proofs.certs.Cert.new.Goals as goal

empty : (version : Version) (points : List Point) (channels : List Channel) (authorities : List Authority) → points ≡ [] → channels ≡ [] → authorities ≡ []
    → IsCertificate (certificate_with version points channels authorities)
    × ([] ≡ distinct bytes_eq (programs_named (certificate_with version points channels authorities)))
    × (0 ≡ length (distinct same_class (classes_of (certificate_with version points channels authorities))))
unfolding distinct_behind
empty version points channels authorities no_points no_channels no_authorities = rw (no_points, no_channels, no_authorities) (begins version, refl, refl)

pub invariant_of-result : goal.invariant_of-result
invariant_of-result c =
    let is = empty (version_of c.args.version) c.new.result.items c.new-2.result.items c.new-3.result.items c.new.ensures.items c.new-2.ensures.items c.new-3.ensures.items in
    (is.0, c.new-4.ensures ∙ is.1, is.2)
