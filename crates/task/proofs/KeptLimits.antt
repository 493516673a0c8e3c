-- What the test of a plan says, fact by fact.
use Rattle.std.proofs.Common.{◌≡◌, ◌≢◌, ◌⊎◌, inl, inr, ℕ, zero, suc, ◌<◌, Bool, true, false, List, [], ◌∷◌, ◌++◌, refl, arith, length, sym, ◌∙◌, ap, subst}
use Rattle.std.specs.Prelude.{◌&&◌, ◌||◌, ◌==◌, not, nat_le, nat_lt, Some}
use Rattle.std.specs.List.{slice_get, list_all, list_any}
use Rattle.std.specs.Str.{bytes_eq}
use Rattle.std.specs.Cmp.Derive.{both_true}
use Rattle.std.proofs.lemmas.Slice.Eq.{bytes_eq-Decides}
use Rattle.std.proofs.lemmas.Bool.{both_ways, false_from_ne_true, eqb-true, eq-eqb, ltb-true, leb-true}
use Rattle.rights.proofs.Tests.{both_left, both_right, either_one, not_true}
use Rattle.file_tree.specs.Places.{begins, above}
use Rattle.file_tree.specs.Nodes.{Kind, Dir, Link, Node, node, is_dir, is_link, stands_at}
use Rattle.file_tree.specs.WellFormed.{has_directory, is_within_limits}
use Rattle.instruction_set.specs.Languages.{are_spoken}
use Rattle.instruction_set.specs.Programs.{is_program}
use Rattle.texts.specs.Bytes.{is_lower, is_digit}
use Rattle.texts.specs.Names.{is_name, is_name_byte}
use Rattle.fd_table.specs.Descriptions.{Access}
use Rattle.task.specs.Plans.{Grant, NamedProgram, FirstObject, On_node, On_end, FirstDescriptor, Start, Plan, code_in}
use Rattle.rights.specs.Limits.{most_grants, most_programs}
use Rattle.task.specs.Limits.{can_follow, are_made, is_tree, is_grant, are_grants_apart, are_grants, is_program_named, are_named_apart, are_programs, all_apart, is_object}
use Rattle.task.specs.Limits.{is_descriptor, are_numbered_apart, are_descriptors, is_start, is_in_language, is_plan}
use Rattle.task.specs.Policies.{grant_named}
use Rattle.task.specs.KeptLimits.{IsLetter, IsNameByte, IsShortName, CanBeOpened, IsThere, IsUsable, KeepsGrants, KeepsPrograms, KeepsStarts, PlansKeepLimits, TreesAreMadeInOrder}
use Rattle.task.proofs.FirstTrees.{tested_tree, made_in_order}
use Rattle.task.proofs.Openings.{tested, not_a_link, a_side}
use Rattle.task.proofs.FirstWorlds.{checked}

-- what passes in a list
all_at : {A : Type 0} (test : A → Bool) (xs : List A) → list_all test xs ≡ true → (i : ℕ) (x : A) → slice_get xs i ≡ Some x → test x ≡ true
all_at test [] all i x is = absurd cc
all_at test (y ∷ xs) all zero x is = let same : y ≡ x = cc in ap test (sym same) ∙ both_left _ (list_all test xs) all
all_at test (y ∷ xs) all (suc i) x is = all_at test xs (both_right (test y) _ all) i x is

-- two of a list whose elements are apart are one, or apart
apart_at : {A : Type 0} (apart : A → A → Bool) (P : A → A → Type 0) → ((x y : A) → apart x y ≡ true → P x y) →
    ((x y : A) → apart x y ≡ true → P y x) → (xs : List A) → all_apart apart xs ≡ true → (i j : ℕ) (x y : A) → slice_get xs i ≡ Some x →
    slice_get xs j ≡ Some y → (i ≡ j) ⊎ P x y
apart_at apart P there back [] all i j x y at_x at_y = absurd cc
apart_at apart P there back (z ∷ xs) all zero zero x y at_x at_y = inl refl
apart_at apart P there back (z ∷ xs) all zero (suc j) x y at_x at_y =
    let same : z ≡ x = cc in
    inr (subst (λ v. P v y) same (there z y (all_at (apart z) xs (both_left _ (all_apart apart xs) all) j y at_y)))
apart_at apart P there back (z ∷ xs) all (suc i) zero x y at_x at_y =
    let same : z ≡ y = cc in
    inr (subst (λ v. P x v) same (back z x (all_at (apart z) xs (both_left _ (all_apart apart xs) all) i x at_x)))
apart_at apart P there back (z ∷ xs) all (suc i) (suc j) x y at_x at_y =
    elim (apart_at apart P there back xs (both_right (list_all (apart z) xs) _ all) i j x y at_x at_y) [ inl same ↦ inl (ap suc same) | inr other ↦ inr other ]

one_of : {A B : Type 0} → A ⊎ B → (B → ⊥) → A
one_of (inl a) not = a
one_of (inr b) not = absurd (not b)

-- names
letter : (b : ℕ) → is_lower b ≡ true → IsLetter b
letter b test = (leb-true _ _ (both_left _ (nat_le b 122) test), leb-true _ _ (both_right (nat_le 97 b) _ test))

name_byte : (b : ℕ) → is_name_byte b ≡ true → IsNameByte b
name_byte b test =
    elim (either_one (is_lower b || is_digit b) (b == 95) test) [
      | inl small ↦ elim (either_one (is_lower b) (is_digit b) small) [
        | inl first ↦ inl (letter b first)
        | inr digit ↦ inr (inl (leb-true _ _ (both_left _ (nat_le b 57) digit), leb-true _ _ (both_right (nat_le 48 b) _ digit)))
      ]
      | inr line ↦ inr (inr (eqb-true b 95 line))
    ]

short_name : (name : List ℕ) → is_name name ≡ true → IsShortName name
short_name [] test = absurd cc
short_name (b ∷ bytes) test =
    let two = both_left _ (list_all is_name_byte bytes) test in
    let first = letter b (both_left _ (nat_lt (length bytes) 16) two) in
    let few : length bytes < 16 = ltb-true _ _ (both_right (is_lower b) _ two) in
    record {
      some = omega arith;
      short = omega arith;
      first = λ c is. let same : b ≡ c = cc in subst IsLetter same first;
      bytes = at first (both_right (is_lower b && nat_lt (length bytes) 16) _ test);
    }
  where
    at : IsLetter b → list_all is_name_byte bytes ≡ true → (k c : ℕ) → slice_get (b ∷ bytes) k ≡ Some c → IsNameByte c
    at first all zero c is = let same : b ≡ c = cc in subst IsNameByte same (inl first)
    at first all (suc k) c is = name_byte c (all_at is_name_byte bytes all k c is)

other_names : (p q : List ℕ) → bytes_eq p q ≡ false → p ≢ q
other_names p q other same = both_ways _ other ((bytes_eq-Decides p q).1 same)

-- two fronts of one place: one is a front of the other
fronts : (p q r : List (List ℕ)) → begins p r ≡ true → begins q r ≡ true → (begins p q ≡ true) ⊎ (begins q p ≡ true)
fronts [] q r one other = inl refl
fronts (x ∷ p) [] r one other = inr refl
fronts (x ∷ p) (y ∷ q) [] one other = absurd cc
fronts (x ∷ p) (y ∷ q) (z ∷ r) one other =
    let first : x ≡ z = (bytes_eq-Decides x z).0 (both_left _ (begins p r) one) in
    let second : y ≡ z = (bytes_eq-Decides y z).0 (both_left _ (begins q r) other) in
    elim (fronts p q r (both_right (bytes_eq x z) _ one) (both_right (bytes_eq y z) _ other)) [
      | inl front ↦ inl (both_true ((bytes_eq-Decides x y).1 (first ∙ sym second)) front)
      | inr front ↦ inr (both_true ((bytes_eq-Decides y x).1 (second ∙ sym first)) front)
    ]

-- grants
record Apart (g h : Grant) : Type 0 where
  names : g.name ≢ h.name
  places : (place : List (List ℕ)) → begins g.path place ≡ true → begins h.path place ≡ true → ⊥

grants_apart : (g h : Grant) → are_grants_apart g h ≡ true → Apart g h
grants_apart g h test =
    let two = both_left _ (not (begins h.path g.path)) test in
    record {
      names = other_names g.name h.name (not_true _ (both_left _ (not (begins g.path h.path)) two));
      places = λ place one other.
          elim (fronts g.path h.path place one other) [
            | inl front ↦ both_ways _ (not_true _ (both_right (not (bytes_eq g.name h.name)) _ two)) front
            | inr front ↦ both_ways _ (not_true _ (both_right (not (bytes_eq g.name h.name) && not (begins g.path h.path)) _ test)) front
          ];
    }

turned : (g h : Grant) → Apart g h → Apart h g
turned g h apart = record { names = λ same. apart.names (sym same); places = λ place one other. apart.places place other one }

-- a name finds its grant
named_first : (g h : Grant) (grants : List Grant) (name : List ℕ) → bytes_eq g.name name ≡ false → grant_named grants name ≡ Some h → grant_named (g ∷ grants) name ≡ Some h
unfolding grant_named
named_first g h grants name other rest = rw other rest

named_here : (g : Grant) (grants : List Grant) → grant_named (g ∷ grants) g.name ≡ Some g
unfolding grant_named
named_here g grants = let same : bytes_eq g.name g.name ≡ true = (bytes_eq-Decides g.name g.name).1 refl in rw same refl

finds : (grants : List Grant) → all_apart are_grants_apart grants ≡ true → (i : ℕ) (g : Grant) → slice_get grants i ≡ Some g → grant_named grants g.name ≡ Some g
finds [] apart i g is = absurd cc
finds (h ∷ grants) apart zero g is = let same : h ≡ g = cc in subst (λ (x : Grant). grant_named (h ∷ grants) x.name ≡ Some x) same (named_here h grants)
finds (h ∷ grants) apart (suc i) g is =
    let other = grants_apart h g (all_at (are_grants_apart h) grants (both_left _ (all_apart are_grants_apart grants) apart) i g is) in
    named_first h g grants g.name (false_from_ne_true _ (λ same. other.names ((bytes_eq-Decides h.name g.name).0 same)))
    (finds grants (both_right (list_all (are_grants_apart h) grants) _ apart) i g is)

keeps_grants : (plan : Plan) → are_grants plan.nodes plan.grants ≡ true → KeepsGrants plan
keeps_grants plan test =
    let two = both_left _ (all_apart are_grants_apart plan.grants) test in
    let all = both_right (nat_le (length plan.grants) most_grants) _ two in
    let apart = both_right (nat_le (length plan.grants) most_grants && list_all (is_grant plan.nodes) plan.grants) _ test in
    let at = λ (i : ℕ) (g : Grant) (is : slice_get plan.grants i ≡ Some g). all_at (is_grant plan.nodes) plan.grants all i g is in
    record {
      few = leb-true _ _ (both_left _ (list_all (is_grant plan.nodes) plan.grants) two);
      named = λ i g is. short_name g.name (both_left _ (has_directory plan.nodes g.path) (at i g is));
      directory = λ i g is. both_right (is_name g.name) _ (at i g is);
      names = λ i j g h at_g at_h same.
          one_of (apart_at are_grants_apart Apart grants_apart (λ g h test. turned g h (grants_apart g h test)) plan.grants apart i j g h at_g at_h) (λ other. other.names same);
      found = finds plan.grants apart;
      places = λ i j g h place at_g at_h one another.
          one_of (apart_at are_grants_apart Apart grants_apart (λ g h test. turned g h (grants_apart g h test)) plan.grants apart i j g h at_g at_h) (λ other. other.places place one another);
    }

-- programs
abbrev OtherNames : NamedProgram → NamedProgram → Type 0
OtherNames p q = p.name ≢ q.name

spoken_code : (wide : Bool) (programs : List NamedProgram) (n : ℕ) → list_all (is_in_language wide) programs ≡ true → are_spoken wide (code_in (slice_get programs n)) ≡ true
spoken_code wide [] n all = refl
spoken_code wide (p ∷ programs) zero all = both_left (is_in_language wide p) (list_all (is_in_language wide) programs) all
spoken_code wide (p ∷ programs) (suc n) all = spoken_code wide programs n (both_right (is_in_language wide p) (list_all (is_in_language wide) programs) all)

keeps_programs : (plan : Plan) → are_programs plan.programs ≡ true → list_all (is_in_language plan.wide) plan.programs ≡ true → KeepsPrograms plan
keeps_programs plan test spoken =
    let two = both_left _ (all_apart are_named_apart plan.programs) test in
    let all = both_right (nat_le (length plan.programs) most_programs) _ two in
    let apart = both_right (nat_le (length plan.programs) most_programs && list_all is_program_named plan.programs) _ test in
    record {
      few = leb-true _ _ (both_left _ (list_all is_program_named plan.programs) two);
      named = λ i p is. short_name p.name (both_left _ (is_program p.code) (all_at is_program_named plan.programs all i p is));
      code = λ i p is. ap code_in is;
      valid = λ i p is. both_right (is_name p.name) _ (all_at is_program_named plan.programs all i p is);
      names = λ i j p q at_p at_q same.
          one_of
          (apart_at are_named_apart OtherNames (λ p q test. other_names p.name q.name (not_true _ test))
          (λ p q test is. other_names p.name q.name (not_true _ test) (sym is)) plan.programs apart i j p q at_p at_q)
          (λ other. other same);
      spoken = λ n. spoken_code plan.wide plan.programs n spoken;
    }

-- first processes
node_there : (tree : List Node) (n : ℕ) → is_link (node tree n).kind ≡ false → n < length tree
node_there [] n no_link = absurd cc
node_there (m ∷ tree) zero no_link = omega arith
node_there (m ∷ tree) (suc n) no_link = let below : n < length tree = node_there tree n no_link in omega arith

no_link : (k : Kind) → is_link k ≡ false → k ≢ Link
no_link k test is = both_ways _ test (ap is_link is)

directory_unwritten : (k : Kind) (writable : Bool) → (is_dir k && writable) ≡ false → k ≡ Dir → writable ≡ false
directory_unwritten k writable test is = ap (λ kind. is_dir kind && writable) (sym is) ∙ test

can_be_opened : (tree : List Node) (n : ℕ) (access : Access) → is_object tree (On_node n access) ≡ true → CanBeOpened tree n access
can_be_opened tree n access test =
    let used = both_left _ (not (is_dir (node tree n).kind && access.writable)) test in
    let not_link = not_a_link tree n access test in
    record {
      there = node_there tree n not_link;
      no_link = no_link (node tree n).kind not_link;
      used = either_one access.readable access.writable (both_right (not (is_link (node tree n).kind)) _ used);
      directory =
          directory_unwritten (node tree n).kind access.writable
          (not_true _ (both_right (not (is_link (node tree n).kind) && (access.readable || access.writable)) _ test));
    }

is_there : (tree : List Node) (x : FirstObject) → is_object tree x ≡ true → IsThere tree x
is_there tree (On_node n access) test = can_be_opened tree n access test
is_there tree (On_end pair side) test = a_side tree pair side test

usable : (tree : List Node) (d : FirstDescriptor) → is_descriptor tree d ≡ true → IsUsable tree d
usable tree d test =
    let facts = tested tree d test in
    record { number = facts.number; object = is_there tree d.object facts.object; rights = facts.rights; fcntls = facts.fcntls }

abbrev OtherNumbers : FirstDescriptor → FirstDescriptor → Type 0
OtherNumbers d e = d.number ≢ e.number

other_numbers : (d e : FirstDescriptor) → are_numbered_apart d e ≡ true → d.number ≢ e.number
other_numbers d e test same = both_ways _ (not_true _ test) (eq-eqb d.number e.number same)

keeps_starts : (plan : Plan) → is_plan plan ≡ true → KeepsStarts plan
keeps_starts plan good =
    let facts = checked plan good in
    let start = λ (p : ℕ) (s : Start) (is : slice_get plan.starts p ≡ Some s). all_at (is_start plan.nodes (length plan.programs)) plan.starts facts.starts p s is in
    let descriptors = λ (p : ℕ) (s : Start) (is : slice_get plan.starts p ≡ Some s). both_right (nat_lt s.program (length plan.programs)) (are_descriptors plan.nodes s.descriptors) (start p s is) in
    record {
      some = facts.some;
      few = facts.few;
      program = λ p s is. ltb-true _ _ (both_left _ (are_descriptors plan.nodes s.descriptors) (start p s is));
      usable = λ p i s d at_s at_d.
          usable plan.nodes d (all_at (is_descriptor plan.nodes) s.descriptors (both_left _ (all_apart are_numbered_apart s.descriptors) (descriptors p s at_s)) i d at_d);
      numbers = λ p i j s d e at_s at_d at_e same.
          one_of
          (apart_at are_numbered_apart OtherNumbers other_numbers (λ d e test is. other_numbers d e test (sym is)) s.descriptors
          (both_right (list_all (is_descriptor plan.nodes) s.descriptors) _ (descriptors p s at_s)) i j d e at_d at_e)
          (λ other. other same);
    }

-- nodes
made_linked : (made nodes : List Node) → are_made made nodes ≡ true → (n : ℕ) → n < length nodes → (node nodes n).linked ≡ true
made_linked made [] test n below = absurd (omega arith)
made_linked made (m ∷ nodes) test zero below =
    let first = both_left _ (are_made (made ++ m ∷ []) nodes) test in
    both_left _ (is_within_limits m) (both_left _ (has_directory made (above m.place)) (both_left _ (not (list_any (stands_at m.place) made)) first))
made_linked made (m ∷ nodes) test (suc n) below = made_linked (made ++ m ∷ []) nodes (both_right (can_follow made m) _ test) n (omega arith)

all_linked : (nodes : List Node) → is_tree nodes ≡ true → (n : ℕ) → n < length nodes → (node nodes n).linked ≡ true
all_linked [] test n below = absurd (omega arith)
all_linked (root ∷ nodes) test zero below =
    let first = both_left _ (are_made (root ∷ []) nodes) test in
    let stands = both_left _ (is_dir root.kind) (both_left _ _ (both_left _ _ first)) in both_left _ _ stands
all_linked (root ∷ nodes) test (suc n) below =
    made_linked (root ∷ []) nodes (both_right _ (are_made (root ∷ []) nodes) test) n (omega arith)

pub plans_keep_limits : PlansKeepLimits
plans_keep_limits plan good =
    let facts = checked plan good in
    record {
      tree = tested_tree plan.nodes facts.tree;
      linked = all_linked plan.nodes facts.tree;
      grants = keeps_grants plan facts.grants;
      programs = keeps_programs plan facts.programs facts.spoken;
      starts = keeps_starts plan good;
    }

pub trees_are_made_in_order : TreesAreMadeInOrder
trees_are_made_in_order plan made rest m good is some = made_in_order plan.nodes made rest m (checked plan good).tree is some
