-- Lines that are taken after others.
use Rattle.std.proofs.Common.{◌≡◌, ◌++◌, List, [], ◌∷◌, refl, sym, ◌∙◌}
use Rattle.std.specs.Prelude.{Option, Some, None, Result, Ok, Err}
use Rattle.std.specs.List.{flat_map}
use Rattle.certificate.specs.Bounds.{PointBound, Authority, Certificate}
use Rattle.certificate.specs.Growth.{Refused, taken}
use Rattle.certificate.proofs.Growing.{taken_keeps}
use Rattle.certificate.specs.Lines.{Line, authority_lines, block_lines}
use Rattle.certificate.specs.Growths.{grown, grown_behind, grown_by, grown_with, then_grown}

behind : (lines more : List Line) → ((d : Certificate) → grown (lines ++ more) d ≡ then_grown (grown more) (grown lines d))
    → (r : Result Certificate Refused) → grown_behind (grown (lines ++ more)) r ≡ then_grown (grown more) (grown_behind (grown lines) r)
behind lines more same (Ok c) = same c
behind lines more same (Err refused) = refl

pub grown_append : (lines more : List Line) (c : Certificate) → grown (lines ++ more) c ≡ then_grown (grown more) (grown lines c)
unfolding grown
grown_append [] more c = refl
grown_append (line ∷ lines) more c = behind lines more (grown_append lines more) (taken c line)

by-behind : (points more : List PointBound) → ((d : Certificate) → grown_by (points ++ more) d ≡ then_grown (grown_by more) (grown_by points d))
    → (o : Option Certificate) → then_grown (grown_by (points ++ more)) o ≡ then_grown (grown_by more) (then_grown (grown_by points) o)
by-behind points more same (Some c) = same c
by-behind points more same None = refl

pub by_append : (points more : List PointBound) (c : Certificate) → grown_by (points ++ more) c ≡ then_grown (grown_by more) (grown_by points c)
unfolding grown_by
by_append [] more c = refl
by_append (b ∷ points) more c = by-behind points more (by_append points more) (grown (block_lines b) c)

with-behind : (authorities : List Authority) → ((d : Certificate) → grown_with authorities d ≡ grown (flat_map authority_lines authorities) d)
    → (o : Option Certificate) → then_grown (grown_with authorities) o ≡ then_grown (grown (flat_map authority_lines authorities)) o
with-behind authorities same (Some c) = same c
with-behind authorities same None = refl

-- Authorities are taken line by line.
pub with_lines : (authorities : List Authority) (c : Certificate) → grown_with authorities c ≡ grown (flat_map authority_lines authorities) c
unfolding grown_with grown
with_lines [] c = refl
with_lines (a ∷ authorities) c =
    with-behind authorities (with_lines authorities) (grown (authority_lines a) c) ∙ sym (grown_append (authority_lines a) (flat_map authority_lines authorities) c)

-- Lines keep a certificate's version.
pub grown_keeps : (lines : List Line) (c d : Certificate) → grown lines c ≡ Some d → d.version ≡ c.version
unfolding grown
grown_keeps [] c d is = cc
grown_keeps (line ∷ lines) c d is = behind (grown_keeps lines) (taken c line) refl is
  where
    behind : ((e f : Certificate) → grown lines e ≡ Some f → f.version ≡ e.version) → (r : Result Certificate Refused) → taken c line ≡ r
        → grown_behind (grown lines) r ≡ Some d → d.version ≡ c.version
    behind rest (Ok e) took is = rest e d is ∙ taken_keeps c e line took
    behind rest (Err refused) took is = absurd cc

pub by_keeps : (points : List PointBound) (c d : Certificate) → grown_by points c ≡ Some d → d.version ≡ c.version
unfolding grown_by
by_keeps [] c d is = cc
by_keeps (b ∷ points) c d is = behind (by_keeps points) (grown (block_lines b) c) refl is
  where
    behind : ((e f : Certificate) → grown_by points e ≡ Some f → f.version ≡ e.version) → (o : Option Certificate) → grown (block_lines b) c ≡ o
        → then_grown (grown_by points) o ≡ Some d → d.version ≡ c.version
    behind rest (Some e) grew is = rest e d is ∙ grown_keeps (block_lines b) c e grew
    behind rest None grew is = absurd cc
