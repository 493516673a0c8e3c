-- An equation that holds of each certificate holds where it is merely known that something is one.
use Rattle.std.proofs.Common.{◌≡◌}
use Rattle.std.proofs.Math.Logic.{∥∥₁_elim}
use Rattle.std.proofs.Props.{props}
use Rattle.std.specs.Prelude.{Bool, Option}
use Rattle.certificate.specs.Bounds.{Bound, Certificate}
use Rattle.certificate.specs.Growth.{IsCertificate}

pub test_made : (c : Certificate) (a b : Bool) → ∥ IsCertificate c ∥₁ → (IsCertificate c → a ≡ b) → a ≡ b
test_made c a b made is = ∥∥₁_elim made (Prim.hlevel props) is

pub bound_made : (c : Certificate) (a b : Option Bound) → ∥ IsCertificate c ∥₁ → (IsCertificate c → a ≡ b) → a ≡ b
bound_made c a b made is = ∥∥₁_elim made (Prim.hlevel props) is
