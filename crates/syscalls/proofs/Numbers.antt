-- The lowest number that is free.
use Rattle.std.proofs.Common.{◌≡◌, ◌<◌, ◌≤◌, ◌+◌, ℕ, zero, suc, Bool, true, false, refl, subst, cond, arith}
use Rattle.std.specs.Prelude.{Option, Some, None, is_some}
use Rattle.fd_table.specs.Descriptions.{Descriptor}
use Rattle.fd_table.specs.OpenFiles.{lowest_from}

none : (o : Option Descriptor) → is_some o ≡ false → o ≡ None
none None is = refl
none (Some d) is = absurd cc

pub lowest_is_free : (count n m : ℕ) (row : ℕ → Option Descriptor) → lowest_from count n row ≡ Some m → (n ≤ m) × (m < n + count) × (row m ≡ None)
unfolding lowest_from
lowest_is_free zero n m row is = absurd cc
lowest_is_free (suc count) n m row is = at (lowest_is_free count (n + 1) m row) (is_some (row n)) refl is
  where
    at : (lowest_from count (n + 1) row ≡ Some m → (n + 1 ≤ m) × (m < n + 1 + count) × (row m ≡ None)) → (b : Bool) → is_some (row n) ≡ b →
        cond b (lowest_from count (n + 1) row) (Some n) ≡ Some m → (n ≤ m) × (m < n + suc count) × (row m ≡ None)
    at later true taken found = let (above, under, free) = later found in (omega arith, omega arith, free)
    at later false is_free found = let same : n ≡ m = cc in (omega arith, omega arith, subst (λ k. row k ≡ None) same (none (row n) is_free))
