-- Nodes that can be made one after another are a tree.
use Rattle.std.proofs.Common.{◌≡◌, ℕ, ◌+◌, ◌-◌, ◌<◌, ◌≤◌, true, false, List, [], ◌∷◌, ◌++◌, refl, arith, length, drop, sym, ◌∙◌, ap, subst, append_assoc, length-append}
use Rattle.std.proofs.Common.{length-drop, take-append-drop, append-nil}
use Rattle.std.specs.Prelude.{◌&&◌, not, nat_lt, nat_eq, Option, Some, None}
use Rattle.std.specs.List.{list_all, list_any}
use Rattle.std.proofs.lemmas.Bool.{both_ways, eqb-true, ltb-true, lt-ltb}
use Rattle.rights.proofs.Tests.{both_left, both_right, not_true}
use Rattle.file_tree.specs.Places.{is_file_name, above, at_name}
use Rattle.file_tree.specs.Nodes.{Kind, File, Dir, Link, Node, node, node_at, is_dir, stands_at}
use Rattle.rights.specs.Limits.{most_nodes}
use Rattle.file_tree.specs.Refusals.{new_tree, created, create_fault}
use Rattle.file_tree.specs.WellFormed.{IsTree, has_directory, is_within_limits}
use Rattle.file_tree.proofs.NodeLaws.{Directory, none_at, node_at_found, directory, stands_is, stands_from}
use Rattle.file_tree.proofs.NewTree.{new_is_tree}
use Rattle.file_tree.proofs.KeptByCreate.{limits_of, all_after, created_is_tree}
use Rattle.task.specs.KeptLimits.{IsMadeAfter}
use Rattle.task.specs.Limits.{is_root_node, can_follow, are_made, is_tree}

directory_kind : (k : Kind) → is_dir k ≡ true → k ≡ Dir
directory_kind File is = absurd cc
directory_kind Dir is = refl
directory_kind Link is = absurd cc

empty_list : (bytes : List ℕ) → nat_eq (length bytes) 0 ≡ true → bytes ≡ []
empty_list [] is = refl
empty_list (b ∷ bytes) is = absurd (omega (arith, eqb-true (length (b ∷ bytes)) 0 is))

-- a place below the root's is that of its last name in the directory above
record Placed (p : List (List ℕ)) : Type 0 where
  name : List ℕ
  last : drop (length p - 1) p ≡ name ∷ []
  whole : at_name (above p) name ≡ p

only_one : (names : List (List ℕ)) → length names ≡ 1 → (name : List ℕ) × (names ≡ name ∷ [])
only_one [] one = absurd (omega arith)
only_one (name ∷ []) one = (name, refl)
only_one (name ∷ next ∷ names) one = absurd (omega arith)

placed : (p : List (List ℕ)) → 0 < length p → Placed p
placed p low = of_last (only_one (drop (length p - 1) p) (omega (arith, length-drop (length p - 1) p)))
  where
    of_last : (name : List ℕ) × (drop (length p - 1) p ≡ name ∷ []) → Placed p
    of_last (name, is) = record {
      name = name;
      last = is;
      whole = ap (λ rest. above p ++ rest) (sym is) ∙ take-append-drop (length p - 1) p;
    }

-- where nothing stands, nothing is found
pub free_place : (t : List Node) (p : List (List ℕ)) → list_any (stands_at p) t ≡ false → node_at t p ≡ None
free_place t p free = by_answer (node_at t p) refl
  where
    by_answer : (o : Option ℕ) → node_at t p ≡ o → node_at t p ≡ None
    by_answer None is = is
    by_answer (Some n) is = absurd (both_ways _ (none_at (stands_at p) t n refl free) (node_at_found t p n is))

-- the root stands at its place
pub not_the_root : (t : List Node) (p : List (List ℕ)) → IsTree t → list_any (stands_at p) t ≡ false → 0 < length p
not_the_root t [] tree free =
    absurd (both_ways _ (none_at (stands_at []) t 0 refl free) (stands_from [] (node t 0) tree.root_linked (sym tree.root_place)))
not_the_root t (name ∷ p) tree free = omega arith

pub no_fault : (t : List Node) (d : ℕ) (name : List ℕ) → (node t d).linked ≡ true → node_at t (at_name (node t d).place name) ≡ None → length t < most_nodes → create_fault t d name ≡ None
unfolding create_fault
no_fault t d name linked free room = rw (linked, free, lt-ltb (length t) most_nodes room) refl

-- the test of a node that is made
pub record CanFollow (made : List Node) (m : Node) : Type 0 where
  pub linked : m.linked ≡ true
  pub fits : is_within_limits m ≡ true
  pub holder : Directory made (above m.place)
  pub free : list_any (stands_at m.place) made ≡ false

pub can : (made : List Node) (m : Node) → can_follow made m ≡ true → CanFollow made m
can made m test =
    let three = both_left _ (not (list_any (stands_at m.place) made)) test in
    let two = both_left _ (has_directory made (above m.place)) three in
    record {
      linked = both_left _ (is_within_limits m) two;
      fits = both_right m.linked _ two;
      holder = directory made (above m.place) (both_right (m.linked && is_within_limits m) _ three);
      free = not_true _ (both_right (m.linked && is_within_limits m && has_directory made (above m.place)) _ test);
    }

-- what can follow a tree makes a tree of it
pub same_node : (made : List Node) (m : Node) (d : ℕ) (name : List ℕ) → m.linked ≡ true → at_name (node made d).place name ≡ m.place → created made d name m.kind m.content ≡ made ++ m ∷ []
unfolding created
same_node made m d name linked place =
    λ i. made ++ record { kind = m.kind; place = place i; linked = sym linked i; content = m.content } ∷ []

made_after : (made : List Node) (m : Node) → IsTree made → length made < most_nodes → can_follow made m ≡ true → IsMadeAfter made m
made_after made m tree room test =
    let facts = can made m test in
    let limits = limits_of m facts.fits in
    let own = placed m.place (not_the_root made m.place tree facts.free) in
    let d = facts.holder.number in
    let there : at_name (node made d).place own.name ≡ m.place = ap (λ p. at_name p own.name) facts.holder.place ∙ own.whole in
    let rest : list_all is_file_name (drop (length m.place - 1) m.place) ≡ true = all_after is_file_name (length m.place - 1) m.place limits.names in
    let last : list_all is_file_name (own.name ∷ []) ≡ true = ap (list_all is_file_name) (sym own.last) ∙ rest in
    record {
      directory = d;
      name = own.name;
      kind = facts.holder.kind;
      named = both_left _ (list_all is_file_name []) last;
      content = limits.content;
      allowed = no_fault made d own.name facts.holder.linked (ap (node_at made) there ∙ free_place made m.place facts.free) room;
      makes = same_node made m d own.name facts.linked there;
    }

followed : (made : List Node) (m : Node) → IsTree made → length made < most_nodes → can_follow made m ≡ true → IsTree (made ++ m ∷ [])
followed made m tree room test =
    let after = made_after made m tree room test in
    let limits = limits_of m (can made m test).fits in
    subst IsTree after.makes
    (created_is_tree made after.directory after.name m.kind m.content tree after.kind after.named after.content limits.bytes after.allowed)

all_followed : (made nodes : List Node) → IsTree made → length made + length nodes ≤ most_nodes → are_made made nodes ≡ true → IsTree (made ++ nodes)
all_followed made [] tree room test = subst IsTree (sym (append-nil made)) tree
all_followed made (m ∷ nodes) tree room test =
    let first = followed made m tree (omega arith) (both_left _ (are_made (made ++ m ∷ []) nodes) test) in
    let more : length (made ++ m ∷ []) + length nodes ≤ most_nodes = omega (arith, length-append made (m ∷ [])) in
    subst IsTree (append_assoc made (m ∷ []) nodes)
    (all_followed (made ++ m ∷ []) nodes first more (both_right (can_follow made m) _ test))

-- each of the nodes is made after those before it
each_made : (made nodes : List Node) → IsTree made → length made + length nodes ≤ most_nodes → are_made made nodes ≡ true →
    (front rest : List Node) (m : Node) → nodes ≡ front ++ m ∷ rest → IsMadeAfter (made ++ front) m
each_made made [] tree room test [] rest m is = absurd cc
each_made made [] tree room test (x ∷ front) rest m is = absurd cc
each_made made (n ∷ nodes) tree room test [] rest m is =
    let same : n ≡ m = cc in
    subst (λ before. IsMadeAfter before m) (sym (append-nil made))
    (subst (IsMadeAfter made) same (made_after made n tree (omega arith) (both_left _ (are_made (made ++ n ∷ []) nodes) test)))
each_made made (n ∷ nodes) tree room test (x ∷ front) rest m is =
    let same : n ≡ x = cc in
    let others : nodes ≡ front ++ m ∷ rest = cc in
    let first = followed made n tree (omega arith) (both_left _ (are_made (made ++ n ∷ []) nodes) test) in
    let more : length (made ++ n ∷ []) + length nodes ≤ most_nodes = omega (arith, length-append made (n ∷ [])) in
    subst (λ x. IsMadeAfter (made ++ x ∷ front) m) same
    (subst (λ before. IsMadeAfter before m) (append_assoc made (n ∷ []) front)
    (each_made (made ++ n ∷ []) nodes first more (both_right (can_follow made n) _ test) front rest m others))

pub root_is_new : (root : Node) → is_root_node root ≡ true → (root ∷ []) ≡ new_tree
root_is_new root test =
    let two = both_left _ (nat_eq (length root.content) 0) test in
    let stands = stands_is [] root (both_left _ (is_dir root.kind) two) in
    let kind : root.kind ≡ Dir = directory_kind root.kind (both_right (stands_at [] root) _ two) in
    let content : root.content ≡ [] = empty_list root.content (both_right (stands_at [] root && is_dir root.kind) _ test) in
    let linked : root.linked ≡ true = stands.0 in
    let place : [] ≡ root.place = stands.1 in
    λ i. record { kind = kind i; place = sym place i; linked = linked i; content = content i } ∷ []

-- the test of a tree
record Rooted (root : Node) (nodes : List Node) : Type 0 where
  tree : IsTree (root ∷ [])
  few : length nodes < most_nodes
  made : are_made (root ∷ []) nodes ≡ true

rooted : (root : Node) (nodes : List Node) → is_tree (root ∷ nodes) ≡ true → Rooted root nodes
rooted root nodes test =
    let two = both_left _ (are_made (root ∷ []) nodes) test in
    record {
      tree = subst IsTree (sym (root_is_new root (both_left _ (nat_lt (length nodes) most_nodes) two))) new_is_tree;
      few = ltb-true _ _ (both_right (is_root_node root) _ two);
      made = both_right (is_root_node root && nat_lt (length nodes) most_nodes) _ test;
    }

pub tested_tree : (nodes : List Node) → is_tree nodes ≡ true → IsTree nodes
tested_tree [] test = absurd cc
tested_tree (root ∷ nodes) test =
    let facts = rooted root nodes test in
    let few : length nodes < most_nodes = facts.few in
    all_followed (root ∷ []) nodes facts.tree (omega arith) facts.made

pub made_in_order : (nodes made rest : List Node) (m : Node) → is_tree nodes ≡ true → nodes ≡ made ++ m ∷ rest → 0 < length made → IsMadeAfter made m
made_in_order nodes [] rest m test is some = absurd (omega arith)
made_in_order [] (x ∷ made) rest m test is some = absurd cc
made_in_order (root ∷ nodes) (x ∷ made) rest m test is some =
    let facts = rooted root nodes test in
    let few : length nodes < most_nodes = facts.few in
    let same : root ≡ x = cc in
    let others : nodes ≡ made ++ m ∷ rest = cc in
    subst (λ x. IsMadeAfter (x ∷ made) m) same
    (each_made (root ∷ []) nodes facts.tree (omega arith) facts.made made rest m others)
