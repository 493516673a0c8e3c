-- The tables as a list of entries, and as a map over (process, number).
use Rattle.std.proofs.Common.{◌≡◌, ◌≢◌, ℕ, zero, suc, ◌+◌, ◌*◌, ◌<◌, ◌≤◌, Bool, true, false, List, length, refl, arith, ap, ◌∙◌, sym, subst, ◌⊎◌, inl, inr, get_or-set_same, get_or-set_other}
use Rattle.std.specs.Prelude.{Option, None, cond, nat_lt, slice_set}
use Rattle.std.specs.List.{slice_index_or}
use Rattle.std.specs.Option.{IsSome}
use Rattle.std.proofs.lemmas.List.{get_or_past}
use Rattle.std.proofs.lemmas.Bool.{ltb-true, lt-ltb}
use Rattle.rights.specs.Maps.{put, put2}
use Rattle.rights.proofs.Changes.{put-cases, put-same, put-other}
use Rattle.std.proofs.Math.Decide.{ℕ_discrete}
use Rattle.fd_table.specs.Descriptions.{Descriptor}
use Rattle.fd_table.specs.Kept.{entry_at}

abbrev Entries : Type 0
Entries = List (Option Descriptor)

entry_other : (es : Entries) (i : ℕ) (v : Option Descriptor) (q m : ℕ) → (m < 16 → q * 16 + m ≢ i) → entry_at (slice_set es i v) q m ≡ entry_at es q m
entry_other es i v q m other = go (nat_lt m 16) refl
  where
    go : (b : Bool) → nat_lt m 16 ≡ b → cond b (slice_index_or (slice_set es i v) (q * 16 + m) None) None ≡ cond b (slice_index_or es (q * 16 + m) None) None
    go true is = get_or-set_other es i (q * 16 + m) v None (other (ltb-true m 16 is))
    go false is = refl

entry_same : (es : Entries) (p n : ℕ) (v : Option Descriptor) → n < 16 → p * 16 + n < length es → entry_at (slice_set es (p * 16 + n) v) p n ≡ v
entry_same es p n v small within = go (nat_lt n 16) (lt-ltb n 16 small)
  where
    go : (b : Bool) → b ≡ true → cond b (slice_index_or (slice_set es (p * 16 + n) v) (p * 16 + n) None) None ≡ v
    go true is = get_or-set_same es (p * 16 + n) v None within
    go false is = absurd cc

-- an entry that is set
pub entry_set : (es : Entries) (p n : ℕ) (v : Option Descriptor) → length es ≡ 256 → p < 16 → n < 16 → entry_at (slice_set es (p * 16 + n) v) ≡ put2 (entry_at es) p n v
entry_set es p n v room process number = λ i q m. at q m i
  where
    E : ℕ → ℕ → Option Descriptor
    E = entry_at (slice_set es (p * 16 + n) v)

    within : p * 16 + n < length es
    within = omega (arith, room, process, number)

    here : (q m : ℕ) → q ≡ p → m ≡ n → entry_at (slice_set es (p * 16 + n) v) q m ≡ v
    here q m same_process same_number =
        ap (λ k. entry_at (slice_set es (p * 16 + n) v) k m) same_process
        ∙ ap (λ k. entry_at (slice_set es (p * 16 + n) v) p k) same_number
        ∙ entry_same es p n v number within

    row : (q m : ℕ) → q ≡ p → entry_at (slice_set es (p * 16 + n) v) q m ≡ put (entry_at es p) n v m
    row q m same =
        put-cases (λ x. entry_at (slice_set es (p * 16 + n) v) q m ≡ x) (entry_at es p) n v m
        (λ at. here q m same at)
        (λ other. ap (λ k. entry_at (slice_set es (p * 16 + n) v) k m) same ∙ entry_other es (p * 16 + n) v p m (λ small. λ clash. other (omega (arith, clash))))

    at : (q m : ℕ) → entry_at (slice_set es (p * 16 + n) v) q m ≡ put2 (entry_at es) p n v q m
    at q m =
        put-cases (λ (r : ℕ → Option Descriptor). entry_at (slice_set es (p * 16 + n) v) q m ≡ r m) (entry_at es) p (put (entry_at es p) n v) q
        (λ same. row q m same)
        (λ other. entry_other es (p * 16 + n) v q m (λ small. λ clash. other (omega (arith, clash, small, number))))

pub no_number : (es : Entries) (q m : ℕ) → 16 ≤ m → entry_at es q m ≡ None
no_number es q m far = go (nat_lt m 16) refl
  where
    go : (b : Bool) → nat_lt m 16 ≡ b → cond b (slice_index_or es (q * 16 + m) None) None ≡ None
    go true is = let below : m < 16 = ltb-true m 16 is in absurd (omega arith)
    go false is = refl

pub lt_or_le : (m n : ℕ) → (m < n) ⊎ (n ≤ m)
lt_or_le m zero = inr (omega arith)
lt_or_le zero (suc n) = inl (omega arith)
lt_or_le (suc m) (suc n) = elim (lt_or_le m n) [ inl below ↦ inl (omega arith) | inr far ↦ inr (omega arith) ]

-- so large processes have no entry
pub no_process : (es : Entries) (p n : ℕ) → length es ≡ 256 → 16 ≤ p → entry_at es p n ≡ None
no_process es p n room far = go (nat_lt n 16)
  where
    go : (b : Bool) → cond b (slice_index_or es (p * 16 + n) None) None ≡ None
    go true = get_or_past es (p * 16 + n) None (omega (arith, room))
    go false = refl

pub there_within : (es : Entries) (p n : ℕ) → length es ≡ 256 → IsSome (entry_at es p n) → (p < 16) × (n < 16)
there_within es p n room there = go (lt_or_le p 16) (lt_or_le n 16)
  where
    none : entry_at es p n ≡ None → ⊥
    none is = let no_entry = subst IsSome is there in absurd cc

    go : (p < 16) ⊎ (16 ≤ p) → (n < 16) ⊎ (16 ≤ n) → (p < 16) × (n < 16)
    go (inl process) (inl number) = (process, number)
    go (inl process) (inr far) = absurd (none (no_number es p n far))
    go (inr far) number = absurd (none (no_process es p n room far))

-- a row that is filled from number 0 on
pub record IsFilling (f g : ℕ → ℕ → Option Descriptor) (q n : ℕ) (row : ℕ → Option Descriptor) : Type 0 where
  pub below : (m : ℕ) → m < n → g q m ≡ row m
  pub above : (m : ℕ) → n ≤ m → g q m ≡ f q m
  pub others : (p m : ℕ) → p ≢ q → g p m ≡ f p m

pub filling_first : (f : ℕ → ℕ → Option Descriptor) (q : ℕ) (row : ℕ → Option Descriptor) → IsFilling f f q 0 row
filling_first f q row = record {
  below = λ m less. absurd (omega arith);
  above = λ m more. refl;
  others = λ p m other. refl;
}

put2_here : (g : ℕ → ℕ → Option Descriptor) (q n : ℕ) (v : Option Descriptor) (m : ℕ) → put2 g q n v q m ≡ put (g q) n v m
put2_here g q n v m = λ i. put-same g q (put (g q) n v) i m

put2_there : (g : ℕ → ℕ → Option Descriptor) (q n : ℕ) (v : Option Descriptor) (p m : ℕ) → p ≢ q → put2 g q n v p m ≡ g p m
put2_there g q n v p m other = λ i. put-other g q (put (g q) n v) p other i m

pub filling_next : (f g h : ℕ → ℕ → Option Descriptor) (q n : ℕ) (row : ℕ → Option Descriptor) (v : Option Descriptor) → IsFilling f g q n row →
    h ≡ put2 g q n v → v ≡ row n → IsFilling f h q (n + 1) row
filling_next f g h q n row v filling set is = record {
  below = λ m less. at q m ∙ put2_here g q n v m ∙ put-cases (λ x. x ≡ row m) (g q) n v m (λ same. is ∙ ap row (sym same)) (λ other. filling.below m (omega (arith, other)));
  above = λ m more. at q m ∙ put2_here g q n v m ∙ put-other (g q) n v m (λ same. omega (arith, same)) ∙ filling.above m (omega arith);
  others = λ p m other. at p m ∙ put2_there g q n v p m other ∙ filling.others p m other;
}
  where
    at : (p m : ℕ) → h p m ≡ put2 g q n v p m
    at p m = λ i. set i p m

pub filled : (f g : ℕ → ℕ → Option Descriptor) (q n : ℕ) (row : ℕ → Option Descriptor) → n ≡ 16 → IsFilling f g q n row → ((m : ℕ) → 16 ≤ m → f q m ≡ row m) → g ≡ put f q row
filled f g q n row all filling far = λ i p m. at p m i
  where
    here : (m : ℕ) → g q m ≡ row m
    here m = elim (lt_or_le m 16) [ inl less ↦ filling.below m (omega arith) | inr more ↦ filling.above m (omega arith) ∙ far m more ]

    at : (p m : ℕ) → g p m ≡ put f q row p m
    at p m =
        put-cases (λ (r : ℕ → Option Descriptor). g p m ≡ r m) f q row p
        (λ same. ap (λ k. g k m) same ∙ here m)
        (λ other. filling.others p m other)

-- an entry in a row that is being filled from a row, of another process or of the same
pub source_kept : (f g : ℕ → ℕ → Option Descriptor) (p q n : ℕ) → IsFilling f g q n (f p) → g p n ≡ f p n
source_kept f g p q n filling = go (ℕ_discrete p q)
  where
    go : Dec (p ≡ q) → g p n ≡ f p n
    go (yes same) = ap (λ k. g k n) same ∙ filling.above n (omega arith) ∙ ap (λ k. f k n) (sym same)
    go (no other) = filling.others p n other
