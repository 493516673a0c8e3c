-- More descriptors than numbers aren't apart.
use Rattle.std.proofs.Common.{◌≡◌, ◌<◌, ◌≤◌, ℕ, List, [], ◌∷◌, Some, None, option_map, Bool, true, false, length, map, refl, ap, sym, ◌∙◌, arith, inl, inr}
use Rattle.std.specs.Prelude.{◌==◌, ◌||◌, not, option_and_then, if◌then◌else◌}
use Rattle.std.specs.List.{list_all, list_any, AllByRecursion, IsDistinct}
use Rattle.std.proofs.lemmas.Bool.{cases_Bool, eqb-true, ltb-true}
use Rattle.std.proofs.lemmas.List.{length-map}
use Rattle.std.proofs.lemmas.Map.Steps.{length-le_from_distinct_below}
use Rattle.rights.specs.Limits.{most_descriptors}
use Rattle.rights.proofs.Tests.{both_left, both_right}
use Rattle.file_tree.specs.Nodes.{Node}
use Rattle.task.specs.Plans.{FirstDescriptor}
use Rattle.task.specs.Limits.{all_apart, are_numbered_apart}
use Rattle.task_reader.specs.Reading.{descriptor_placed, descriptors_placed, number_below, numbered_apart, object_placed, table_of}
use Rattle.task_reader.specs.Written.{WrittenDescriptor}
use Rattle.task_reader.proofs.ValidPlans.{below, on-object}
use Rattle.task_reader.proofs.WrittenLaws.{some-equal, and_then-some, map-some}

abbrev numbers : List FirstDescriptor → List ℕ
numbers descriptors = map (λ (d : FirstDescriptor). d.number) descriptors

numbers-below : (tree : List Node) (written : List WrittenDescriptor) (xs : List FirstDescriptor) → descriptors_placed tree written ≡ Some xs
    → (q : ℕ) → list_any (λ n. q == n) (numbers xs) ≡ true → q < most_descriptors
numbers-below tree [] xs is q found = let none : [] ≡ xs = some-equal [] xs is in let nothing : list_any (λ n. q == n) (numbers xs) ≡ false = ap
    (λ xs. list_any (λ n. q == n) (numbers xs)) (sym none) in absurd cc
numbers-below tree (d ∷ written) xs is q found =
    let p = and_then-some (λ x. option_map (λ rest. x ∷ rest) (descriptors_placed tree written)) (descriptor_placed tree d) xs is in
    let rest = map-some (λ rest. p.0 ∷ rest) (descriptors_placed tree written) xs p.2 in
    let here : p.0.number < most_descriptors = ltb-true p.0.number most_descriptors
    (below most_descriptors d.number p.0.number
    (on-object d (number_below most_descriptors d.number) (object_placed tree d.object) p.0 p.1).number_is) in
    let among : ((q == p.0.number) || list_any (λ n. q == n) (numbers rest.0)) ≡ true = ap (λ xs. list_any (λ n. q == n) (numbers xs)) rest.2 ∙ found in
    elim (cases_Bool (q == p.0.number)) [
      | inl same ↦ let is_it : q ≡ p.0.number = eqb-true q p.0.number same in omega arith
      | inr other ↦ numbers-below tree written rest.0 rest.1 q (ap (λ b. b || list_any (λ n. q == n) (numbers rest.0)) (sym other) ∙ among)
    ]

distinct : (xs : List FirstDescriptor) → all_apart are_numbered_apart xs ≡ true → IsDistinct (λ m n. m == n) (numbers xs)
unfolding IsDistinct
distinct [] apart = tt
distinct (x ∷ xs) apart = (
  others xs (both_left (list_all (are_numbered_apart x) xs) (all_apart are_numbered_apart xs) apart),
  distinct xs
      (both_right (list_all (are_numbered_apart x) xs) (all_apart are_numbered_apart xs) apart),
)
  where
    unequal : (b : Bool) → not b ≡ true → b ≡ false
    unequal true is = absurd cc
    unequal false is = refl

    others : (ys : List FirstDescriptor) → list_all (are_numbered_apart x) ys ≡ true → AllByRecursion (λ n. (x.number == n) ≡ false) (numbers ys)
    others [] all = tt
    others (y ∷ ys) all = (
      unequal (x.number == y.number) (both_left (are_numbered_apart x y) (list_all (are_numbered_apart x) ys) all),
      others ys
          (both_right (are_numbered_apart x y) (list_all (are_numbered_apart x) ys) all),
    )

-- A process has no more descriptors than there are numbers.
pub apart-few : (tree : List Node) (written : List WrittenDescriptor) (xs : List FirstDescriptor) → descriptors_placed tree written ≡ Some xs
    → all_apart are_numbered_apart xs ≡ true → length xs ≤ most_descriptors
apart-few tree written xs placed apart =
    let few : length (numbers xs) ≤ most_descriptors = length-le_from_distinct_below (numbers xs) most_descriptors (distinct xs apart) (numbers-below tree written xs placed) in
    let same : length (numbers xs) ≡ length xs = length-map xs (λ d. d.number) in
    omega arith

pub too-many : (tree : List Node) (written : List WrittenDescriptor) (xs : List FirstDescriptor) → descriptors_placed tree written ≡ Some xs
    → most_descriptors < length xs → table_of tree written ≡ None
too-many tree written xs placed many =
    ap (option_and_then numbered_apart) placed ∙ ap (λ b. if b then Some xs else None) (twice (all_apart are_numbered_apart xs) refl)
  where
    twice : (b : Bool) → all_apart are_numbered_apart xs ≡ b → all_apart are_numbered_apart xs ≡ false
    twice true apart = let few : length xs ≤ most_descriptors = apart-few tree written xs placed apart in absurd (omega arith)
    twice false apart = apart
