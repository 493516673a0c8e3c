-- What a change of the tree keeps: a tree stays one, and each node its kind.
use Rattle.std.proofs.Common.{◌≡◌, ℕ, zero, suc, ◌<◌, ◌≤◌, inl, inr, List, [], ◌∷◌, ◌++◌, Bool, true, false, Some, None, length, drop, map, slice_set, ap, sym, ◌∙◌, refl, arith, cond}
use Rattle.std.specs.Prelude.{not, ◌&&◌, ◌||◌, is_some, nat_lt}
use Rattle.std.proofs.lemmas.Bool.{and_parts, both_ways, cases_Bool, cond_both, false_from_ne_true, lt-ltb}
use Rattle.rights.proofs.Tests.{not_true}
use Rattle.file_tree.specs.Places.{is_file_name, same_place, begins, at_name, above}
use Rattle.file_tree.specs.Nodes.{Kind, Dir, Node, node, is_dir, is_link, node_at, child_of, lies_below, has_below, stands_at}
use Rattle.rights.specs.Limits.{most_nodes}
use Rattle.file_tree.specs.Changes.{removed, moved, replaced_at, filled, unlinked}
use Rattle.file_tree.specs.Refusals.{Exists, NotEmpty, Full, IntoItself, Gone, created, create_fault, remove_fault, is_root, rename_fault}
use Rattle.file_tree.specs.WellFormed.{IsTree, is_content}
use Rattle.file_tree.proofs.PlaceLaws.{same_place_is, begins_above_other, begins_longer, above_length}
use Rattle.file_tree.proofs.NodeLaws.{Directory, any_found, held_above, node_at_none, stands_from}
use Rattle.file_tree.proofs.TreeLaws.{child_by_place}
use Rattle.file_tree.proofs.KeptByCreate.{old_node, created_is_tree}
use Rattle.file_tree.proofs.KeptByRemove.{removed_is_tree}
use Rattle.file_tree.proofs.KeptByRename.{renamed_is_tree}
use Rattle.lookup.proofs.UnderWay.{there_if_opened}
use Rattle.kernel.specs.Answers.{TreeChange, Same_tree, Make, Remove, Move, Fill}
use Rattle.kernel.specs.Changes.{tree_after}

-- What lies above a linked node is a directory.
above_is_directory : (t : List Node) → IsTree t → (k m : ℕ) (p : List (List ℕ)) → length (node t m).place ≤ k → (node t m).linked ≡ true →
    begins p (node t m).place ≡ true → same_place p (node t m).place ≡ false → Directory t p
above_is_directory t tree zero m p short linked front other =
    let longer : length p < length (node t m).place = begins_longer p (node t m).place front other in
    absurd (omega arith)
above_is_directory t tree (suc k) m p short linked front other =
    let longer : length p < length (node t m).place = begins_longer p (node t m).place front other in
    let low : 0 < length (node t m).place = omega arith in
    let d : Directory t (above (node t m).place) = held_above t (node t m).place (tree.held m linked) low in
    let still : begins p (node t d.number).place ≡ true = ap (begins p) d.place ∙ begins_above_other p (node t m).place front other in
    let less : length (node t d.number).place ≤ k = omega (arith, ap length d.place, above_length (node t m).place) in
    elim (cases_Bool (same_place p (node t d.number).place)) [
      | inl same ↦ record { number = d.number; linked = d.linked; kind = d.kind; place = sym (same_place_is p (node t d.number).place same) }
      | inr different ↦ above_is_directory t tree k d.number p less d.linked still different
    ]

-- Nothing lies below a place at which no directory stands.
nothing_below : (t : List Node) → IsTree t → (p : List (List ℕ)) → (Directory t p → ⊥) → has_below t p ≡ false
nothing_below t tree p none = false_from_ne_true _ (λ some.
    let found = any_found (lies_below p) t some in
    let parts = and_parts ((node t found.0).linked && begins p (node t found.0).place) _ found.1 in
    let more = and_parts _ _ parts.0 in
    none (above_is_directory t tree (length (node t found.0).place) found.0 p (omega arith) more.0 more.1 (not_true _ parts.1)))

nothing_below_free : (t : List Node) → IsTree t → (p : List (List ℕ)) → node_at t p ≡ None → has_below t p ≡ false
nothing_below_free t tree p free =
    nothing_below t tree p (λ d. both_ways _ (node_at_none t p free d.number) (stands_from p (node t d.number) d.linked (sym d.place)))

nothing_below_leaf : (t : List Node) → IsTree t → (n : ℕ) → (node t n).linked ≡ true → is_dir (node t n).kind ≡ false → has_below t (node t n).place ≡ false
nothing_below_leaf t tree n linked leaf =
    nothing_below t tree (node t n).place (λ d.
    let same : d.number ≡ n = tree.apart d.number n d.linked linked d.place in
    let dir : is_dir (node t n).kind ≡ true = ap (λ k. is_dir (node t k).kind) (sym same) ∙ ap is_dir d.kind in
    both_ways _ leaf dir)

-- An empty file or directory is made where a linked directory lacks the name.
pub made_is_tree : (t : List Node) (d : ℕ) (name : List ℕ) (kind : Kind) → IsTree t → (node t d).linked ≡ true → (node t d).kind ≡ Dir →
    child_of t d name ≡ None → is_file_name name ≡ true → is_content kind [] ≡ true → length t < most_nodes →
    IsTree (tree_after t (Make (at_name (node t d).place name) kind))
unfolding created create_fault
made_is_tree t d name kind tree linked dir absent named empty room =
    created_is_tree t d name kind [] tree dir named empty refl
    (none (node t d).linked (is_some (node_at t (at_name (node t d).place name))) (nat_lt (length t) most_nodes) linked
    (ap is_some (sym (child_by_place t d name linked) ∙ absent)) (lt-ltb (length t) most_nodes room))
  where
    none : (a b c : Bool) → a ≡ true → b ≡ false → c ≡ true → cond (not a) (Some Gone) (cond b (Some Exists) (cond c None (Some Full))) ≡ None
    none true false true x y z = refl
    none false b c x y z = absurd cc
    none true true c x y z = absurd cc
    none true false false x y z = absurd cc

-- A linked node is removed that isn't the root: a directory with nothing below it, or no directory.
removes : (t : List Node) (n : ℕ) → IsTree t → (node t n).linked ≡ true → is_root (node t n).place ≡ false → has_below t (node t n).place ≡ false → IsTree (tree_after t (Remove n))
unfolding remove_fault
removes t n tree linked low empty = removed_is_tree t n tree (none (node t n).linked (is_root (node t n).place) (has_below t (node t n).place) linked low empty)
  where
    none : (a b c : Bool) → a ≡ true → b ≡ false → c ≡ false → cond (not a) (Some Gone) (cond (b || c) (Some NotEmpty) None) ≡ None
    none true false false x y z = refl
    none false b c x y z = absurd cc
    none true true c x y z = absurd cc
    none true false true x y z = absurd cc

below_root : (p : List (List ℕ)) → 0 < length p → is_root p ≡ false
below_root [] low = absurd (omega arith)
below_root (name ∷ p) low = refl

pub emptied_is_tree : (t : List Node) (n : ℕ) → IsTree t → (node t n).linked ≡ true → 0 < length (node t n).place → has_below t (node t n).place ≡ false → IsTree (tree_after t (Remove n))
emptied_is_tree t n tree linked low empty = removes t n tree linked (below_root (node t n).place low) empty

pub unlinked_is_tree : (t : List Node) (n : ℕ) → IsTree t → (node t n).linked ≡ true → 0 < length (node t n).place → is_dir (node t n).kind ≡ false → IsTree (tree_after t (Remove n))
unlinked_is_tree t n tree linked low leaf = removes t n tree linked (below_root (node t n).place low) (nothing_below_leaf t tree n linked leaf)

-- A linked node moves to a name in a linked directory, where nothing lies below it.
pub moved_is_tree : (t : List Node) (n d : ℕ) (name : List ℕ) → IsTree t → (node t n).linked ≡ true → (node t d).linked ≡ true →
    (node t d).kind ≡ Dir → is_file_name name ≡ true → begins (node t n).place (at_name (node t d).place name) ≡ false →
    has_below t (at_name (node t d).place name) ≡ false → IsTree (tree_after t (Move n (at_name (node t d).place name)))
unfolding rename_fault
moved_is_tree t n d name tree linked holder dir named outside empty =
    renamed_is_tree t n d name tree dir named
    (none (node t n).linked (node t d).linked (same_place (at_name (node t d).place name) (node t n).place)
    (begins (node t n).place (at_name (node t d).place name)) (has_below t (at_name (node t d).place name)) linked holder outside empty)
  where
    none : (a b c f g : Bool) → a ≡ true → b ≡ true → f ≡ false → g ≡ false → cond (not (a && b)) (Some Gone) (cond c None (cond f (Some IntoItself) (cond g (Some NotEmpty) None))) ≡ None
    none true true true f g x y z v = refl
    none true true false false false x y z v = refl
    none false b c f g x y z v = absurd cc
    none true false c f g x y z v = absurd cc
    none true true false true g x y z v = absurd cc
    none true true false false true x y z v = absurd cc

pub moved_to_free : (t : List Node) (n d : ℕ) (name : List ℕ) → IsTree t → (node t n).linked ≡ true → (node t d).linked ≡ true →
    (node t d).kind ≡ Dir → child_of t d name ≡ None → is_file_name name ≡ true → begins (node t n).place (at_name (node t d).place name) ≡ false →
    IsTree (tree_after t (Move n (at_name (node t d).place name)))
moved_to_free t n d name tree linked holder dir absent named outside =
    moved_is_tree t n d name tree linked holder dir named outside
    (nothing_below_free t tree (at_name (node t d).place name) (sym (child_by_place t d name holder) ∙ absent))

kind-set : (t : List Node) (n k : ℕ) (x : Node) → x.kind ≡ (node t n).kind → (node (slice_set t n x) k).kind ≡ (node t k).kind
kind-set [] n k x same = refl
kind-set (m ∷ t) zero zero x same = same
kind-set (m ∷ t) zero (suc k) x same = refl
kind-set (m ∷ t) (suc n) zero x same = refl
kind-set (m ∷ t) (suc n) (suc k) x same = kind-set t n k x same

kind-map : (f : Node → Node) → ((m : Node) → (f m).kind ≡ m.kind) → (t : List Node) (k : ℕ) → (node (map f t) k).kind ≡ (node t k).kind
kind-map f keeps [] k = refl
kind-map f keeps (m ∷ t) zero = keeps m
kind-map f keeps (m ∷ t) (suc k) = kind-map f keeps t k

kind-cond : (b : Bool) (x y : Node) (kind : Kind) → x.kind ≡ kind → y.kind ≡ kind → (cond b x y).kind ≡ kind
kind-cond true x y kind first second = first
kind-cond false x y kind first second = second

kind-moved : (p q : List (List ℕ)) (m : Node) → (moved p q (replaced_at q m)).kind ≡ m.kind
kind-moved p q m =
    let x : Node = replaced_at q m in
    let same : x.kind ≡ m.kind = kind-cond (stands_at q m) (unlinked m) m m.kind refl refl in
    kind-cond (x.linked && begins p x.place) (record { kind = x.kind; place = q ++ drop (length p) x.place; linked = x.linked; content = x.content }) x m.kind same same

-- Each node that isn't a link keeps its kind.
pub kinds_kept : (t : List Node) (change : TreeChange) (n : ℕ) → is_link (node t n).kind ≡ false → (node (tree_after t change) n).kind ≡ (node t n).kind
unfolding removed filled
kinds_kept t Same_tree n opened = refl
kinds_kept t (Make place kind) n opened = ap (λ (m : Node). m.kind) (old_node t _ n (there_if_opened t n opened))
kinds_kept t (Remove k) n opened = kind-set t k n _ refl
kinds_kept t (Move k place) n opened =
    cond_both (same_place place (node t k).place) t (map (λ m. moved (node t k).place place (replaced_at place m)) t) (λ (u : List Node). (node u n).kind ≡ (node t n).kind)
    (λ same. refl)
    (λ other. kind-map (λ m. moved (node t k).place place (replaced_at place m)) (kind-moved (node t k).place place) t n)
kinds_kept t (Fill k content) n opened = kind-set t k n _ refl

pub opened_kept : (t : List Node) (change : TreeChange) (n : ℕ) → is_link (node t n).kind ≡ false → is_link (node (tree_after t change) n).kind ≡ false
opened_kept t change n opened = ap is_link (kinds_kept t change n opened) ∙ opened
