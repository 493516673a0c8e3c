-- What is open in a first world is well formed.
use Rattle.std.proofs.Common.{◌≡◌, ◌≢◌, ◌⊎◌, inl, inr, ℕ, zero, suc, ◌+◌, ◌*◌, ◌-◌, ◌<◌, ◌≤◌, true, false, List, [], ◌∷◌, refl, arith, length, ap, sym, ◌∙◌, subst}
use Rattle.std.specs.Prelude.{◌&&◌, ◌||◌, ◌==◌, ◌/◌, ◌%◌, not, nat_lt, Option, Some, None, option_map, if◌then◌else◌}
use Rattle.std.specs.List.{slice_get, list_all}
use Rattle.std.proofs.Math.Arith.{digits_div, digits_mod}
use Rattle.std.proofs.lemmas.Bool.{ltb-true, lt-ltb, le-ltb}
use Rattle.std.proofs.lemmas.Bool.Decides.{eqb_tells}
use Rattle.rights.specs.Sets.{is_within, all_rights, all_commands}
use Rattle.rights.proofs.Tests.{both_left, both_right, not_true}
use Rattle.file_tree.specs.Nodes.{Node, node, is_link, is_dir}
use Rattle.fd_table.specs.Descriptions.{Access, Initial, At_end, Descriptor, new_state, IfHeld}
use Rattle.kernel.specs.WellFormed.{Numbering, IsObject, IsDescriptor}
use Rattle.task.specs.Plans.{FirstObject, On_node, On_end, FirstDescriptor, Start}
use Rattle.task.specs.Limits.{is_object, is_descriptor, are_numbered_apart, all_apart, is_start}
use Rattle.task.specs.Begins.{with_number, given_to, given_by, end_description, node_description, description_of, first_object, object_given, node_object, object_of, first_entry, first_entries}

-- what the test of a first descriptor says
pub record Tested (tree : List Node) (d : FirstDescriptor) : Type 0 where
  pub number : d.number < 16
  pub object : is_object tree d.object ≡ true
  pub rights : is_within d.rights all_rights ≡ true
  pub fcntls : is_within d.fcntls all_commands ≡ true

pub tested : (tree : List Node) (d : FirstDescriptor) → is_descriptor tree d ≡ true → Tested tree d
tested tree d good =
    let three = both_left _ (is_within d.fcntls all_commands) good in
    let two = both_left _ (is_within d.rights all_rights) three in
    record {
      number = ltb-true d.number 16 (both_left _ (is_object tree d.object) two);
      object = both_right (nat_lt d.number 16) _ two;
      rights = both_right (nat_lt d.number 16 && is_object tree d.object) _ three;
      fcntls = both_right (nat_lt d.number 16 && is_object tree d.object && is_within d.rights all_rights) _ good;
    }

-- what the test of an object says
pub not_a_link : (tree : List Node) (n : ℕ) (access : Access) → is_object tree (On_node n access) ≡ true → is_link (node tree n).kind ≡ false
not_a_link tree n access test =
    not_true _ (both_left _ (access.readable || access.writable) (both_left _ (not (is_dir (node tree n).kind && access.writable)) test))

pub a_side : (tree : List Node) (pair side : ℕ) → is_object tree (On_end pair side) ≡ true → (pair < 32) × (side < 2)
a_side tree pair side test = (ltb-true pair 32 (both_left _ (nat_lt side 2) test), ltb-true side 2 (both_right (nat_lt pair 32) _ test))

-- ## What is given at a number
pub record IsAt (tree : List Node) (starts : List Start) (p n : ℕ) (d : FirstDescriptor) : Type 0 where
  pub process : p < length starts
  pub number : d.number ≡ n
  pub tested : Tested tree d

record IsIn (tree : List Node) (n : ℕ) (d : FirstDescriptor) : Type 0 where
  number : d.number ≡ n
  tested : Tested tree d

in_list : (tree : List Node) (descriptors : List FirstDescriptor) (n : ℕ) (d : FirstDescriptor) → list_all (is_descriptor tree) descriptors ≡ true → with_number n descriptors ≡ Some d → IsIn tree n d
in_list tree [] n d test is = absurd cc
in_list tree (e ∷ descriptors) n d test is =
    by_number (eqb_tells e.number n) (in_list tree descriptors n d (both_right (is_descriptor tree e) _ test))
  where
    by_number : (((e.number == n) ≡ true) × (e.number ≡ n)) ⊎ (((e.number == n) ≡ false) × (e.number ≢ n)) → (with_number n descriptors ≡ Some d → IsIn tree n d) → IsIn tree n d
    by_number (inl own) more =
        let found : with_number n (e ∷ descriptors) ≡ Some e = rw own.0 refl in
        let both : Some e ≡ Some d = sym found ∙ is in
        let same : e ≡ d = cc in
        subst (IsIn tree n) same (record { number = own.1; tested = tested tree e (both_left _ (list_all (is_descriptor tree) descriptors) test) })
    by_number (inr other) more =
        let next : with_number n (e ∷ descriptors) ≡ with_number n descriptors = rw other.0 refl in more (sym next ∙ is)

pub given_at : (tree : List Node) (programs : ℕ) (starts : List Start) (p n : ℕ) (d : FirstDescriptor) →
    list_all (is_start tree programs) starts ≡ true → given_to (slice_get starts p) n ≡ Some d → IsAt tree starts p n d
given_at tree programs [] p n d test is = absurd cc
given_at tree programs (s ∷ starts) zero n d test is =
    let start = both_right (nat_lt s.program programs) _ (both_left _ (list_all (is_start tree programs) starts) test) in
    let found = in_list tree s.descriptors n d (both_left _ (all_apart are_numbered_apart s.descriptors) start) is in
    record { process = omega arith; number = found.number; tested = found.tested }
given_at tree programs (s ∷ starts) (suc p) n d test is =
    let rest = given_at tree programs starts p n d (both_right (is_start tree programs s) _ test) is in
    let below : p < length starts = rest.process in
    record { process = omega arith; number = rest.number; tested = rest.tested }

-- ## What a description is of
pub at_node : (given : ℕ → ℕ → Option FirstDescriptor) (p n : ℕ) → n < 16 → object_of given (node_description p n) ≡ object_given (given p n)
at_node given p n small =
    let high : nat_lt (node_description p n) 64 ≡ false = le-ltb _ 64 (omega arith) in
    let rest : node_description p n - 64 ≡ p * 16 + n = omega arith in
    (λ i. if high i then first_object (On_end (node_description p n / 2) (node_description p n % 2)) else node_object given (rest i))
    ∙ (λ i. object_given (given (digits_div p small i) (digits_mod p small i)))

pub at_end : (given : ℕ → ℕ → Option FirstDescriptor) (pair side : ℕ) → pair < 32 → side < 2 → object_of given (end_description pair side) ≡ At_end pair side (Initial pair)
at_end given pair side few two =
    let low : nat_lt (end_description pair side) 64 ≡ true = lt-ltb _ 64 (omega arith) in
    (λ i. if low i then first_object (On_end (end_description pair side / 2) (end_description pair side % 2)) else node_object given (end_description pair side - 64))
    ∙ (λ i. first_object (On_end (digits_div pair two i) (digits_mod pair two i)))

pub object_is : (tree : List Node) (starts : List Start) (p n : ℕ) (d : FirstDescriptor) → IsAt tree starts p n d →
    given_to (slice_get starts p) n ≡ Some d → object_of (given_by starts) (description_of p n d.object) ≡ first_object d.object
object_is tree starts p n d at is = go d.object refl at.tested.object
  where
    go : (x : FirstObject) → d.object ≡ x → is_object tree x ≡ true → object_of (given_by starts) (description_of p n x) ≡ first_object x
    go (On_node m access) of test =
        let number : d.number ≡ n = at.number in
        let few : d.number < 16 = at.tested.number in
        at_node (given_by starts) p n (omega arith) ∙ ap object_given is ∙ ap first_object of
    go (On_end pair side) of test =
        let side_of = a_side tree pair side test in at_end (given_by starts) pair side side_of.0 side_of.1

-- ## So it is well formed
abbrev pub numbering_of : List Start → Numbering
numbering_of starts = record { descriptions = node_description (length starts) 0; pairs = 32; holder = end_description; class = Initial }

abbrev pub Good : List Node → List Start → Descriptor → Type 0
Good tree starts = IsDescriptor tree (numbering_of starts) (object_of (given_by starts)) (λ n. new_state false)

well_placed : (tree : List Node) (starts : List Start) (p n : ℕ) (x : FirstObject) → p < length starts → n < 16 → is_object tree x ≡ true →
    (description_of p n x < node_description (length starts) 0) × IsObject tree (numbering_of starts) (description_of p n x) (first_object x)
well_placed tree starts p n (On_node m access) made few test = (omega arith, not_a_link tree m access test)
well_placed tree starts p n (On_end pair side) made few test =
    let side_of = a_side tree pair side test in
    let small : pair < 32 = side_of.0 in
    let two : side < 2 = side_of.1 in
    (omega arith, (small, two, refl, refl))

pub good_entry : (tree : List Node) (programs : ℕ) (starts : List Start) (p n : ℕ) → list_all (is_start tree programs) starts ≡ true → IfHeld (Good tree starts) (first_entries (given_by starts) p n)
good_entry tree programs starts p n test = go (given_to (slice_get starts p) n) refl
  where
    go : (given : Option FirstDescriptor) → given_to (slice_get starts p) n ≡ given → IfHeld (Good tree starts) (option_map (first_entry p) given)
    go None is = tt
    go (Some d) is =
        let at = given_at tree programs starts p n d test is in
        let own : given_to (slice_get starts p) d.number ≡ Some d = ap (given_to (slice_get starts p)) at.number ∙ is in
        let placed = well_placed tree starts p d.number d.object at.process at.tested.number at.tested.object in
        record {
          number = placed.0;
          rights = at.tested.rights;
          fcntls = at.tested.fcntls;
          object =
              subst (IsObject tree (numbering_of starts) (description_of p d.number d.object))
              (sym (object_is tree starts p d.number d (record { process = at.process; number = refl; tested = at.tested }) own)) placed.1;
          offset = omega arith;
        }

pub no_entry : (tree : List Node) (programs : ℕ) (starts : List Start) (p n : ℕ) → list_all (is_start tree programs) starts ≡ true → 16 ≤ n → first_entries (given_by starts) p n ≡ None
no_entry tree programs starts p n test far = go (given_to (slice_get starts p) n) refl
  where
    go : (given : Option FirstDescriptor) → given_to (slice_get starts p) n ≡ given → option_map (first_entry p) given ≡ None
    go None is = refl
    go (Some d) is =
        let at = given_at tree programs starts p n d test is in
        let number : d.number ≡ n = at.number in
        let few : d.number < 16 = at.tested.number in
        absurd (omega arith)

nobody_at : (starts : List Start) (p : ℕ) → length starts ≤ p → slice_get starts p ≡ None
nobody_at [] p far = refl
nobody_at (s ∷ starts) zero far = absurd (omega arith)
nobody_at (s ∷ starts) (suc p) far = nobody_at starts p (omega arith)

pub not_made : (starts : List Start) (p n : ℕ) → length starts ≤ p → first_entries (given_by starts) p n ≡ None
not_made starts p n far = ap (λ start. option_map (first_entry p) (given_to start n)) (nobody_at starts p far)
