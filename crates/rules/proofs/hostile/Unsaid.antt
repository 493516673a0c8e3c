-- What a task that doesn't ask for further rights leaves unsaid of an authority.
use Rattle.std.proofs.Common.{◌≡◌, ◌<◌, ℕ, zero, suc, Bool, true, false, List, [], ◌∷◌, refl, arith, sym, ◌∙◌, inl, inr, subst}
use Rattle.std.specs.Prelude.{◌==◌, ◌||◌, ◌⊎◌, Some, bit_and, bit_or, if◌then◌else◌}
use Rattle.std.specs.Int.{bit_at}
use Rattle.std.specs.Int.Bits.{or_zero_r}
use Rattle.std.proofs.lemmas.Bool.{eqb-true}
use Rattle.std.proofs.lemmas.Nat.Bits.{bit_at-lt, bit_at-zero}
use Rattle.rights.specs.Sets.{IsIn, further_rights, is_within, plain_rights}
use Rattle.rights.specs.Uses.{beside_in}
use Rattle.rights.proofs.Subsets.{IsIn-and_both, IsIn-or, is_within-from_members, is_within-members}
use Rattle.rules.proofs.Members.{Among}
use Rattle.rights.specs.Uses.{asked_rights}
use Rattle.rules.specs.Authority.{unsaid}

-- no right is of both kinds
never_both : (k : ℕ) → IsIn plain_rights k → IsIn further_rights k → ⊥
never_both k plain further =
    absurd (let clash : 0 ≡ 1 = sym (bit_at-zero k) ∙ IsIn-and_both plain_rights further_rights k plain further in cc)

one_or_none : (n : ℕ) → n < 2 → (n ≡ 1) ⊎ (n ≡ 0)
one_or_none zero h = inr refl
one_or_none (suc zero) h = inl refl
one_or_none (suc (suc n)) h = absurd (omega arith)

plain_alone : (b : Bool) → (b || false) ≡ true → b ≡ true
plain_alone true is = refl
plain_alone false is = absurd cc

-- A right that is plain, or of a wide task, is asked of a ceiling up to which it may be had.
abbrev pub is_said : Bool → ℕ → Bool
is_said wide right = is_within right plain_rights || wide

pub said_by_wide : (wide : Bool) (right : ℕ) → wide ≡ true → is_said wide right ≡ true
said_by_wide wide right is = go (is_within right plain_rights) wide is
  where
    go : (a b : Bool) → b ≡ true → (a || b) ≡ true
    go true b is = refl
    go false b is = is

pub has_said : (wide : Bool) (right rights : ℕ) → is_said wide right ≡ true → is_within right (bit_or rights (unsaid wide)) ≡ true → is_within right rights ≡ true
has_said true right rights said within = subst (λ n. is_within right n ≡ true) (or_zero_r rights) within
has_said false right rights said within =
    is_within-from_members right rights (λ k own. elim (one_or_none (bit_at rights k) (bit_at-lt rights k)) [
      | inl one ↦ one
      | inr none ↦ absurd (never_both k (is_within-members right plain_rights (plain_alone (is_within right plain_rights) said) k own)
          (IsIn-or rights further_rights k (is_within-members right (bit_or rights further_rights) within k own) none))
    ])

pub asked_said : (wide : Bool) (right rights : ℕ) → is_said wide right ≡ true → is_within right rights ≡ true → is_within right (asked_rights wide rights) ≡ true
asked_said true right rights said within = within
asked_said false right rights said within =
    is_within-from_members right (bit_and rights plain_rights) (λ k own.
    IsIn-and_both rights plain_rights k (is_within-members right rights within k own)
    (is_within-members right plain_rights (plain_alone (is_within right plain_rights) said) k own))

-- what is found beside a right stands in the table
pub beside_among : {A : Type 0} (rows : List (ℕ × A)) (right : ℕ) (a : A) → beside_in rows right ≡ Some a → Among (right, a) rows
beside_among [] right a is = absurd cc
beside_among {A} (row ∷ rows) right a is = go (row.0 == right) refl is (beside_among rows right a)
  where
    go : (b : Bool) → (row.0 == right) ≡ b → (if b then Some row.1 else beside_in rows right) ≡ Some a → (beside_in rows right ≡ Some a → Among (right, a) rows) → Among (right, a) (row ∷ rows)
    go true same is later =
        let one : row.0 ≡ right = eqb-true row.0 right same in
        let two : row.1 ≡ a = cc in
        inl (λ i. (sym one i, sym two i))
    go false other is later = inr (later is)
