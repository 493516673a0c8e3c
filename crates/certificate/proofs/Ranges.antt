-- The join of two ranges of sets is one.
use Rattle.std.proofs.Common.{◌≡◌, ℕ, true, bit_and, bit_or, subst, sym}
use Rattle.rights.specs.Sets.{is_within}
use Rattle.rights.proofs.Subsets.{is_within-trans, is_within-or, is_within-from_members, IsIn-and, IsIn-or_left}

nested : (l g m h : ℕ) → is_within l g ≡ true → is_within (bit_and l m) (bit_or g h) ≡ true
nested l g m h lg =
    is_within-trans (bit_and l m) l (bit_or g h) (is_within-from_members (bit_and l m) l (λ k i. (IsIn-and l m k i).0))
    (is_within-trans l g (bit_or g h) lg (is_within-from_members g (bit_or g h) (λ k i. IsIn-or_left g h k i)))

pub joins_nested : (l g m h least greatest : ℕ) → least ≡ bit_and l m → greatest ≡ bit_or g h → is_within l g ≡ true → is_within least greatest ≡ true
joins_nested l g m h least greatest low high lg =
    subst (λ n. is_within n greatest ≡ true) (sym low) (subst (λ n. is_within (bit_and l m) n ≡ true) (sym high) (nested l g m h lg))

pub joins_known : (g h all greatest : ℕ) → greatest ≡ bit_or g h → is_within g all ≡ true → is_within h all ≡ true → is_within greatest all ≡ true
joins_known g h all greatest high gs hs = subst (λ n. is_within n all ≡ true) (sym high) (is_within-or g h all gs hs)
