-- Authorities that are added keep a certificate's version; and their ceilings have the rights that it says.
use Rattle.std.proofs.Common.{◌≡◌, ℕ, Bool, true, false, List, [], ◌∷◌, refl, ◌∙◌}
use Rattle.std.specs.Prelude.{◌||◌, Option, Some, None}
use Rattle.rights.specs.Sets.{is_within, plain_rights}
use Rattle.rights.specs.Uses.{asked_rights}
use Rattle.certificate.specs.Bounds.{Authority, Certificate}
use Rattle.certificate.specs.Growths.{grown, grown_with, then_grown}
use Rattle.certificate.specs.Lines.{authority_lines}
use Rattle.certificate.proofs.Growths.{grown_keeps}
use Rattle.certificate.proofs.ToldLaws.{and_within}

pub with_keeps : (authorities : List Authority) (c d : Certificate) → grown_with authorities c ≡ Some d → d.version ≡ c.version
unfolding grown_with
with_keeps [] c d is = cc
with_keeps (a ∷ authorities) c d is = behind (with_keeps authorities) (grown (authority_lines a) c) refl is
  where
    behind : ((e f : Certificate) → grown_with authorities e ≡ Some f → f.version ≡ e.version) → (o : Option Certificate) → grown (authority_lines a) c ≡ o
        → then_grown (grown_with authorities) o ≡ Some d → d.version ≡ c.version
    behind rest (Some e) grew is = rest e d is ∙ grown_keeps (authority_lines a) c e grew
    behind rest None grew is = absurd cc

pub asked_are_told : (tells : Bool) (rights : ℕ) → (tells || is_within (asked_rights tells rights) plain_rights) ≡ true
asked_are_told true rights = refl
asked_are_told false rights = and_within rights plain_rights
