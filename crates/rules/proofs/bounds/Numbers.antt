-- The lowest free numbers of a table are those that its bound determines.
use Rattle.std.proofs.Common.{◌≡◌, ℕ, zero, suc, ◌+◌, ◌<◌, true, List, [], ◌∷◌, refl, arith, ap, sym, ◌∙◌, subst}
use Rattle.std.specs.Prelude.{◌-◌, Option, Some, None, cond, is_some, option_map}
use Rattle.std.proofs.lemmas.Bool.{eqb-true}
use Rattle.rights.specs.Limits.{most_descriptors}
use Rattle.rights.proofs.Tests.{both_left, both_right}
use Rattle.fd_table.specs.Descriptions.{Descriptor}
use Rattle.fd_table.specs.OpenFiles.{lowest_from, lowest_free}
use Rattle.certificate.specs.Bounds.{Held, Slot, Closed, Open, Maybe, Bound}
use Rattle.certificate.specs.Describes.{Seen, Holds, slot_describes, slots_describe}
use Rattle.rules.specs.Slots.{free_from, free_numbers}

module _ (holds : Holds) (seen : Descriptor → Seen) (row : ℕ → Option Descriptor) where
  abbrev pub table : ℕ → Option Seen
  table n = option_map seen (row n)

  -- The first of the numbers that are determined is the table's lowest free one; and the others are determined by the slots
  -- after it.
  pub record Lowest (count k : ℕ) (numbers : Option (List ℕ)) : Type 0 where
    pub later : List ℕ
    pub is : numbers ≡ Some (k ∷ later)
    pub small : k < 16
    pub slots : List Slot
    pub after : free_from count (k + 1) slots ≡ Some later
    pub describes : slots_describe holds (k + 1) slots table ≡ true

  taken_first :
      (count n k : ℕ) (slots : List Slot) (o : Option (List ℕ)) → free_from count (n + 1) slots ≡ o
      → is_some (option_map (λ (numbers : List ℕ). n ∷ numbers) o) ≡ true → n ≡ k → n < 16 → slots_describe holds (n + 1) slots table ≡ true
      → Lowest count k (option_map (λ (numbers : List ℕ). n ∷ numbers) o)
  taken_first count n k slots None is there same small describes = absurd cc
  taken_first count n k slots (Some numbers) is there same small describes = record {
    later = numbers;
    is = ap (λ (m : ℕ). Some (m ∷ numbers)) same;
    small = omega (arith, small, same);
    slots = slots;
    after = subst (λ (m : ℕ). free_from count (m + 1) slots ≡ Some numbers) same is;
    describes = subst (λ (m : ℕ). slots_describe holds (m + 1) slots table ≡ true) same describes;
  }

  -- a number that is passed, and one that is free
  passes :
      (m n k : ℕ) (o : Option Descriptor) (h : Held) → slot_describes holds (Open h) (option_map seen o) ≡ true
      → cond (is_some o) (lowest_from m (n + 1) row) (Some n) ≡ Some k → lowest_from m (n + 1) row ≡ Some k
  passes m n k None h filled is = absurd cc
  passes m n k (Some d) h filled is = is

  stops : (m n k : ℕ) (o : Option Descriptor) → slot_describes holds Closed (option_map seen o) ≡ true → cond (is_some o) (lowest_from m (n + 1) row) (Some n) ≡ Some k → n ≡ k
  stops m n k None closed is = cc
  stops m n k (Some d) closed is = absurd cc

  lowest_is :
      (count m n : ℕ) (slots : List Slot) (k : ℕ) → n + m ≡ 16 → slots_describe holds n slots table ≡ true → is_some (free_from (suc count) n slots) ≡ true
      → lowest_from m n row ≡ Some k → Lowest count k (free_from (suc count) n slots)
  unfolding lowest_from
  lowest_is count zero n slots k all describes there is = absurd cc
  lowest_is count (suc m) n [] k all describes there is =
      let end : n ≡ 16 = eqb-true n 16 describes in
      absurd (omega (arith, all, end))
  lowest_is count (suc m) n (Closed ∷ slots) k all describes there is =
      let here : slot_describes holds Closed (table n) ≡ true = both_left _ (slots_describe holds (n + 1) slots table) describes in
      taken_first count n k slots (free_from count (n + 1) slots) refl there (stops m n k (row n) here is) (omega (arith, all))
      (both_right (slot_describes holds Closed (table n)) _ describes)
  lowest_is count (suc m) n (Open h ∷ slots) k all describes there is =
      let here : slot_describes holds (Open h) (table n) ≡ true = both_left _ (slots_describe holds (n + 1) slots table) describes in
      lowest_is count m (n + 1) slots k (omega (arith, all)) (both_right (slot_describes holds (Open h) (table n)) _ describes) there
      (passes m n k (row n) h here is)
  lowest_is count (suc m) n (Maybe h ∷ slots) k all describes there is = absurd cc

  module _ (b : Bound) (describes : slots_describe holds 0 b.slots table ≡ true) where
    -- no more numbers are determined than are asked for
    pub one_number : is_some (free_numbers 1 b) ≡ true → (k : ℕ) → lowest_free row ≡ Some k → free_numbers 1 b ≡ Some (k ∷ [])
    unfolding free_numbers
    one_number there k is =
        let found : Lowest 0 k (free_from 1 0 b.slots) = lowest_is 0 16 0 b.slots k (omega arith) describes there is in
        let none : [] ≡ found.later = (let same : Some [] ≡ Some found.later = found.after in cc) in
        subst (λ (numbers : List ℕ). free_from 1 0 b.slots ≡ Some (k ∷ numbers)) (sym none) found.is

    pub two_numbers :
        is_some (free_numbers 2 b) ≡ true → (first second : ℕ) → lowest_free row ≡ Some first
        → lowest_from (most_descriptors - 1 - first) (first + 1) row ≡ Some second → free_numbers 2 b ≡ Some (first ∷ second ∷ [])
    unfolding free_numbers
    two_numbers there first second is also =
        let one : Lowest 1 first (free_from 2 0 b.slots) = lowest_is 1 16 0 b.slots first (omega arith) describes there is in
        let more : is_some (free_from 1 (first + 1) one.slots) ≡ true = subst (λ o. is_some o ≡ true) (sym one.after) refl in
        let two : Lowest 0 second (free_from 1 (first + 1) one.slots) = lowest_is 0 (16 - 1 - first) (first + 1) one.slots second (omega (arith, one.small)) one.describes more also in
        let none : [] ≡ two.later = (let same : Some [] ≡ Some two.later = two.after in cc) in
        let rest : one.later ≡ second ∷ two.later = (let same : Some one.later ≡ Some (second ∷ two.later) = sym one.after ∙ two.is in cc) in
        one.is ∙ ap (λ (numbers : List ℕ). Some (first ∷ numbers)) rest ∙ ap (λ (numbers : List ℕ). Some (first ∷ second ∷ numbers)) (sym none)
