-- What is made of a record is within the limits.
use Rattle.std.proofs.Common.{◌≡◌, ℕ, zero, suc, ◌+◌, ◌<◌, List, [], ◌∷◌, ◌++◌, true, get_or, length, take, refl, ap, sym, ◌∙◌, add-one, arith}
use Rattle.std.specs.Prelude.{◌&&◌, map, nat_lt}
use Rattle.std.proofs.lemmas.Bool.{and_from, and_parts, lt-ltb}
use Rattle.records.specs.Calls.{are_of_kinds, is_of_kind, is_real_operand, is_text}
use Rattle.records.specs.GivenViews.{given_kind}
use Rattle.records.specs.OperandViews.{operand_seen}
use Rattle.records.specs.declared.operands.Operand.{Operand as OperandCode}
use Rattle.records.specs.declared.real_calls.Given.{Given}

-- numbers of a byte's type are a text
pub text_fits : (xs : List ℕ) → ((i d : ℕ) → i < length xs → get_or xs i d < 256) → is_text xs ≡ true
text_fits [] h = refl
text_fits (x ∷ xs) h =
    let first : x < 256 = h 0 0 (omega arith) in and_from (nat_lt x 256) (is_text xs) (lt-ltb x 256 first) (text_fits xs (λ i d within. h (suc i) d (omega arith)))

-- one more operand of the kind that is given
one-more : (given : List Given) (i : ℕ) (d : Given) (operands : List OperandCode) (o : OperandCode) → i < length given
    → are_of_kinds (map given_kind (take i given)) (map operand_seen operands) ≡ true
    → is_of_kind (given_kind (get_or given i d)) (operand_seen o) ≡ true → is_real_operand (operand_seen o) ≡ true
    → are_of_kinds (map given_kind (take (suc i) given)) (map operand_seen (operands ++ o ∷ [])) ≡ true
one-more [] i d operands o within are kind real = absurd (omega arith)
one-more (g ∷ given) zero d [] o within are kind real =
    let is = is_of_kind (given_kind g) (operand_seen o) in
    let within_limits = is_real_operand (operand_seen o) in
    and_from (is && within_limits) true (and_from is within_limits kind real) refl
one-more (g ∷ given) zero d (x ∷ operands) o within are kind real = absurd cc
one-more (g ∷ given) (suc i) d [] o within are kind real = absurd cc
one-more (g ∷ given) (suc i) d (x ∷ operands) o within are kind real =
    let first = is_of_kind (given_kind g) (operand_seen x) && is_real_operand (operand_seen x) in
    let parts = and_parts first (are_of_kinds (map given_kind (take i given)) (map operand_seen operands)) are in
    and_from first (are_of_kinds (map given_kind (take (suc i) given)) (map operand_seen (operands ++ o ∷ []))) parts.0
    (one-more given i d operands o (omega arith) parts.1 kind real)

pub operand-added : (given : List Given) (i : ℕ) (g : Given) (operands next : List OperandCode) (o : OperandCode) → i < length given → g ≡ get_or given i g
    → are_of_kinds (map given_kind (take i given)) (map operand_seen operands) ≡ true → next ≡ operands ++ o ∷ []
    → is_of_kind (given_kind g) (operand_seen o) ≡ true → is_real_operand (operand_seen o) ≡ true
    → are_of_kinds (map given_kind (take (i + 1) given)) (map operand_seen next) ≡ true
operand-added given i g operands next o within is are added kind real =
    ap (λ n. are_of_kinds (map given_kind (take n given)) (map operand_seen next)) (add-one i)
    ∙ ap (λ os. are_of_kinds (map given_kind (take (suc i) given)) (map operand_seen os)) added
    ∙ one-more given i g operands o within are (ap (λ (x : Given). is_of_kind (given_kind x) (operand_seen o)) (sym is) ∙ kind) real
