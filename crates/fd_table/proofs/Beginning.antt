-- Nothing is open in empty tables.
use Rattle.std.proofs.Common.{◌≡◌, ℕ, ◌+◌, ◌*◌, List, [], length, refl, ap, ◌∙◌, replicate, arith}
use Rattle.std.specs.Prelude.{Option, None, Bool, true, false, cond, nat_lt}
use Rattle.fd_table.specs.Descriptions.{Descriptor}
use Rattle.fd_table.specs.Filled.{IsEmpty}
use Rattle.fd_table.specs.Kept.{entry_at, item_at, open_files}
use Rattle.fd_table.specs.Holders.{IsKept, empty_hand, names_count}
use Rattle.fd_table.proofs.Padding.{none_in_all}
use Rattle.fd_table.proofs.Sums.{sum_zero}

none_in : (es : List (Option Descriptor)) → es ≡ replicate 256 None → (i : ℕ) → item_at es i ≡ None
none_in es is i = ap (λ xs. item_at xs i) is ∙ none_in_all 256 i

no_entry : (es : List (Option Descriptor)) → es ≡ replicate 256 None → (p n : ℕ) → entry_at es p n ≡ None
no_entry es is p n = go (nat_lt n 16)
  where
    go : (b : Bool) → cond b (item_at es (p * 16 + n)) None ≡ None
    go true = none_in es is (p * 16 + n)
    go false = refl

pub new_is_kept : (es : List (Option Descriptor)) → es ≡ replicate 256 None → IsKept (record { entries = es; descriptions = []; pairs = [] }) empty_hand
new_is_kept es is = record {
  room = ap length is;
  counts = λ n. let none = sum_zero (names_count n) es (λ i below. ap (names_count n) (none_in es is i)) in omega (arith, none);
  ends = λ pair side n opened. absurd cc;
  known = λ pair side n end. absurd cc;
  needed = λ pair. tt;
  few = λ pair side. omega arith;
}

pub new_is_empty : (es : List (Option Descriptor)) → es ≡ replicate 256 None → IsEmpty (open_files (record { entries = es; descriptions = []; pairs = [] }))
unfolding open_files
new_is_empty es is = (no_entry es is, λ pair side. refl)
