-- Bounds that fit a certificate: of eight registers and sixteen slots, which name programs among some.
use Rattle.std.proofs.Common.{◌≡◌, ◌≤◌, ◌++◌, ◌∷◌, [], Bool, true, ℕ, List, length, refl, ap, ◌∙◌, rules}
use Rattle.std.specs.Prelude.{◌==◌, ◌&&◌, nat_le}
use Rattle.std.specs.List.{flat_map, list_all}
use Rattle.std.specs.Str.{bytes_eq}
use Rattle.std.proofs.lemmas.List.Folds.{list_all-append}
use Rattle.rights.specs.Limits.{most_descriptors, most_programs, register_count}
use Rattle.certificate.specs.Bounds.{Bound, Slot, PointBound, Certificate}
use Rattle.certificate.specs.Order.{same_class}
use Rattle.certificate.specs.Lines.{Line}
use Rattle.certificate.specs.Growth.{classes_in_line, classes_of, distinct, has_room, most_classes, programs_in_line, programs_named, programs_of_block, programs_of_slot}
use Rattle.certificate.proofs.Fewer.{among_both, are_among, fewer, is_among}
use Rattle.certificate.proofs.Growing.{and_left, and_right, both_true}

abbrev pub is_fit_slot : List (List ℕ) → Slot → Bool
is_fit_slot names s = are_among names (programs_of_slot s)

abbrev pub is_fit : List (List ℕ) → Bound → Bool
is_fit names b = (length b.registers == register_count) && ((length b.slots == most_descriptors) && list_all (is_fit_slot names) b.slots)

abbrev pub is_fit_point : List (List ℕ) → PointBound → Bool
is_fit_point names b = is_among names b.program && is_fit names b.bound

-- what is asked of each, and of all of it together
pub all_together : {A B : Type 0} (test : B → Bool) (f : A → List B) (xs : List A) → list_all test (flat_map f xs) ≡ list_all (λ x. list_all test (f x)) xs
all_together test f [] = refl
all_together test f (x ∷ xs) =
    list_all-append test (f x) (flat_map f xs) ∙ ap (λ rest. list_all test (f x) && rest) (all_together test f xs)

module _ (names : List (List ℕ)) where
  pub slots_among : (slots : List Slot) → list_all (is_fit_slot names) slots ≡ true → are_among names (flat_map programs_of_slot slots) ≡ true
  slots_among slots fit = all_together (is_among names) programs_of_slot slots ∙ fit

  pub among_block : (b : PointBound) → is_fit_point names b ≡ true → are_among names (programs_of_block b) ≡ true
  among_block b fit =
      let own = and_left (is_among names b.program) (is_fit names b.bound) fit in
      let rest = and_right (length b.bound.registers == register_count) _ (and_right (is_among names b.program) (is_fit names b.bound) fit) in
      both_true (is_among names b.program) (are_among names (flat_map programs_of_slot b.bound.slots)) own
      (slots_among b.bound.slots (and_right (length b.bound.slots == most_descriptors) (list_all (is_fit_slot names) b.bound.slots) rest))

  pub among_blocks : (points : List PointBound) → list_all (is_fit_point names) points ≡ true → are_among names (flat_map programs_of_block points) ≡ true
  among_blocks [] fit = refl
  among_blocks (b ∷ points) fit =
      among_both names (programs_of_block b) (flat_map programs_of_block points)
      (among_block b (and_left (is_fit_point names b) (list_all (is_fit_point names) points) fit))
      (among_blocks points (and_right (is_fit_point names b) (list_all (is_fit_point names) points) fit))

  -- ROOM for a line, where all names are among eight
  module _ (few : length (distinct bytes_eq names) ≤ most_programs) where
    few_among : (some : List (List ℕ)) → are_among names some ≡ true → nat_le (length (distinct bytes_eq some)) most_programs ≡ true
    few_among some all = let less = fewer names some all in search (rules, less, few)

    pub room_for : (c : Certificate) (line : Line) → are_among names (programs_named c) ≡ true → are_among names (programs_in_line line) ≡ true
        → length (distinct same_class (classes_of c ++ classes_in_line line)) ≤ most_classes → has_room c line ≡ true
    room_for c line all own classes =
        both_true (nat_le (length (distinct bytes_eq (programs_named c ++ programs_in_line line))) most_programs)
        (nat_le (length (distinct same_class (classes_of c ++ classes_in_line line))) most_classes)
        (few_among (programs_named c ++ programs_in_line line) (among_both names (programs_named c) (programs_in_line line) all own))
        (search (rules, classes))
