-- What holds of a list of nodes that is a tree, and after a change, node by node: what callers need of the
-- definitions, which do not unfold by themselves.
use Rattle.std.proofs.Common.{◌≡◌, ℕ, ◌<◌, ◌+◌, ◌⊎◌, inl, inr, List, [], ◌∷◌, true, false, Option, Some, None, length, ap, sym, ◌∙◌, refl, length-append, length-set, arith}
use Rattle.std.specs.Prelude.{◌≢◌}
use Rattle.std.proofs.lemmas.Bool.{both_ways, cases_Bool}
use Rattle.std.proofs.lemmas.List.{get_or-set_same, get_or-set_other, length-map}
use Rattle.std.proofs.Math.Seq.{get_or-append_seam}
use Rattle.std.proofs.Math.ListN.{get_or-map}
use Rattle.file_tree.specs.Places.{same_place, at_name, above}
use Rattle.file_tree.specs.Nodes.{Kind, Dir, Node, node, nowhere, node_at, child_of, parent_of, holder_at}
use Rattle.file_tree.specs.Changes.{removed, filled, renamed, moved, replaced_at, unlinked}
use Rattle.file_tree.specs.Refusals.{created}
use Rattle.file_tree.specs.WellFormed.{IsTree}
use Rattle.file_tree.proofs.NodeLaws.{linked_there, stands_is, stands_from, node_at_found, node_at_none, held_above}
use Rattle.file_tree.proofs.PlaceLaws.{at_name_length, above_at_name}
use Rattle.file_tree.proofs.KeptByCreate.{old_node}

-- the root is there
pub root_there : (t : List Node) → IsTree t → 0 < length t
root_there t tree = linked_there t 0 tree.root_linked

-- what is found at a place is linked and has it, and a linked node is what is found at its place
pub record Found (t : List Node) (p : List (List ℕ)) (n : ℕ) : Type 0 where
  pub there : n < length t
  pub linked : (node t n).linked ≡ true
  pub place : (node t n).place ≡ p

pub at_place : (t : List Node) (p : List (List ℕ)) (n : ℕ) → node_at t p ≡ Some n → Found t p n
at_place t p n h =
    let stands = stands_is p (node t n) (node_at_found t p n h) in
    record { there = linked_there t n stands.0; linked = stands.0; place = sym stands.1 }

pub node_at_its_place : (t : List Node) (n : ℕ) → IsTree t → (node t n).linked ≡ true → node_at t (node t n).place ≡ Some n
node_at_its_place t n tree linked = by_answer (node_at t (node t n).place) refl
  where
    by_answer : (o : Option ℕ) → node_at t (node t n).place ≡ o → node_at t (node t n).place ≡ Some n
    by_answer None h = absurd (both_ways _ (node_at_none t (node t n).place h n) (stands_from (node t n).place (node t n) linked refl))
    by_answer (Some m) h =
        let found = at_place t (node t n).place m h in
        let same : m ≡ n = tree.apart m n found.linked linked found.place in h ∙ ap Some same

-- what is found in a directory: the directory wasn't removed, and the node is linked at the name's place in it
pub record Child (t : List Node) (d : ℕ) (name : List ℕ) (n : ℕ) : Type 0 where
  pub holder : (node t d).linked ≡ true
  pub there : n < length t
  pub linked : (node t n).linked ≡ true
  pub place : (node t n).place ≡ at_name (node t d).place name

pub child_is : (t : List Node) (d : ℕ) (name : List ℕ) (n : ℕ) → child_of t d name ≡ Some n → Child t d name n
unfolding child_of
child_is t d name n h = by_link (cases_Bool (node t d).linked)
  where
    by_link : ((node t d).linked ≡ true) ⊎ ((node t d).linked ≡ false) → Child t d name n
    by_link (inl holder) =
        let found = at_place t (at_name (node t d).place name) n (rw holder at h) in
        record { holder = holder; there = found.there; linked = found.linked; place = found.place }
    by_link (inr gone) = let none : None ≡ Some n = rw gone at h in cc

pub child_there : (t : List Node) (d : ℕ) (name : List ℕ) (n : ℕ) → child_of t d name ≡ Some n → n < length t
child_there t d name n h = (child_is t d name n h).there

pub child_by_place : (t : List Node) (d : ℕ) (name : List ℕ) → (node t d).linked ≡ true → child_of t d name ≡ node_at t (at_name (node t d).place name)
unfolding child_of
child_by_place t d name linked = rw linked refl

pub no_child : (t : List Node) (d : ℕ) (name : List ℕ) → (node t d).linked ≡ false → child_of t d name ≡ None
unfolding child_of
no_child t d name gone = rw gone refl

-- What holds a node: the node is linked and isn't the root, and what holds it is linked, at the place above.
pub record Parent (t : List Node) (n d : ℕ) : Type 0 where
  pub linked : (node t n).linked ≡ true
  pub low : 0 < length (node t n).place
  pub holder : Found t (above (node t n).place) d

pub parent_is : (t : List Node) (n d : ℕ) → parent_of t n ≡ Some d → Parent t n d
unfolding parent_of
parent_is t n d h = by_link (cases_Bool (node t n).linked)
  where
    holder : (p : List (List ℕ)) → holder_at t p ≡ Some d → (0 < length p) × Found t (above p) d
    holder [] g = cc
    holder (name ∷ p) g = (omega arith, at_place t (above (name ∷ p)) d g)

    by_link : ((node t n).linked ≡ true) ⊎ ((node t n).linked ≡ false) → Parent t n d
    by_link (inl linked) =
        let found = holder (node t n).place (rw linked at h) in
        record { linked = linked; low = found.0; holder = found.1 }
    by_link (inr gone) = let none : None ≡ Some d = rw gone at h in cc

holder_above : (t : List Node) (p : List (List ℕ)) → 0 < length p → holder_at t p ≡ node_at t (above p)
holder_above t [] h = absurd (omega arith)
holder_above t (name ∷ p) h = refl

-- a linked node that isn't the root is held by what stands above its place
pub parent_above : (t : List Node) (n : ℕ) → (node t n).linked ≡ true → 0 < length (node t n).place → parent_of t n ≡ node_at t (above (node t n).place)
unfolding parent_of
parent_above t n linked low = rw linked (holder_above t (node t n).place low)

-- in a tree what stands above a node is a directory
above_is_directory : (t : List Node) (n d : ℕ) → IsTree t → (node t n).linked ≡ true → 0 < length (node t n).place → (node t d).linked ≡ true →
    (node t d).place ≡ above (node t n).place → (node t d).kind ≡ Dir
above_is_directory t n d tree linked low holder place =
    let at = held_above t (node t n).place (tree.held n linked) low in
    let same : at.number ≡ d = tree.apart at.number d at.linked holder (at.place ∙ sym place) in
    sym (ap (λ k. (node t k).kind) same) ∙ at.kind

pub parent_is_directory : (t : List Node) (n d : ℕ) → IsTree t → parent_of t n ≡ Some d → (node t d).kind ≡ Dir
parent_is_directory t n d tree h =
    let parent = parent_is t n d h in
    above_is_directory t n d tree parent.linked parent.low parent.holder.linked parent.holder.place

-- what has a child is a directory, and the child's parent
child_low : (t : List Node) (d : ℕ) (name : List ℕ) (n : ℕ) → Child t d name n → (0 < length (node t n).place) × ((node t d).place ≡ above (node t n).place)
child_low t d name n child =
    let count : length (node t n).place ≡ length (node t d).place + 1 = ap length child.place ∙ at_name_length (node t d).place name in
    (omega arith, sym (ap above child.place ∙ above_at_name (node t d).place name))

pub child_holder : (t : List Node) (d : ℕ) (name : List ℕ) (n : ℕ) → IsTree t → child_of t d name ≡ Some n → (node t d).kind ≡ Dir
child_holder t d name n tree h =
    let child = child_is t d name n h in
    let low = child_low t d name n child in
    above_is_directory t n d tree child.linked low.0 child.holder low.1

pub child_parent : (t : List Node) (d : ℕ) (name : List ℕ) (n : ℕ) → IsTree t → child_of t d name ≡ Some n → parent_of t n ≡ Some d
child_parent t d name n tree h =
    let child = child_is t d name n h in
    let low = child_low t d name n child in
    parent_above t n child.linked low.0 ∙ ap (node_at t) (sym low.1) ∙ node_at_its_place t d tree child.holder

-- a node that is made stands behind the others, which stay
pub created_length : (t : List Node) (d : ℕ) (name : List ℕ) (kind : Kind) (content : List ℕ) → length (created t d name kind content) ≡ length t + 1
unfolding created
created_length t d name kind content = length-append t _

pub created_new : (t : List Node) (d : ℕ) (name : List ℕ) (kind : Kind) (content : List ℕ) →
    node (created t d name kind content) (length t) ≡ record { kind = kind; place = at_name (node t d).place name; linked = true; content = content }
unfolding created
created_new t d name kind content = get_or-append_seam t _ [] nowhere

pub created_old : (t : List Node) (d : ℕ) (name : List ℕ) (kind : Kind) (content : List ℕ) (n : ℕ) → n < length t → node (created t d name kind content) n ≡ node t n
unfolding created
created_old t d name kind content n there = old_node t _ n there

-- a removal and a new content change one node
pub removed_length : (t : List Node) (n : ℕ) → length (removed t n) ≡ length t
unfolding removed
removed_length t n = length-set t n _

pub removed_same : (t : List Node) (n : ℕ) → n < length t → node (removed t n) n ≡ unlinked (node t n)
unfolding removed
removed_same t n there = get_or-set_same t n _ nowhere there

pub removed_other : (t : List Node) (n m : ℕ) → m ≢ n → node (removed t n) m ≡ node t m
unfolding removed
removed_other t n m other = get_or-set_other t n m _ nowhere other

pub filled_length : (t : List Node) (n : ℕ) (content : List ℕ) → length (filled t n content) ≡ length t
unfolding filled
filled_length t n content = length-set t n _

pub filled_same : (t : List Node) (n : ℕ) (content : List ℕ) → n < length t →
    node (filled t n content) n ≡ record { kind = (node t n).kind; place = (node t n).place; linked = (node t n).linked; content = content }
unfolding filled
filled_same t n content there = get_or-set_same t n _ nowhere there

pub filled_other : (t : List Node) (n : ℕ) (content : List ℕ) (m : ℕ) → m ≢ n → node (filled t n content) m ≡ node t m
unfolding filled
filled_other t n content m other = get_or-set_other t n m _ nowhere other

-- a rename to another place changes each node by itself, and to its own place none
pub renamed_length : (t : List Node) (n d : ℕ) (name : List ℕ) → length (renamed t n (at_name (node t d).place name)) ≡ length t
renamed_length t n d name = by_place (cases_Bool (same_place (at_name (node t d).place name) (node t n).place))
  where
    by_place : (same_place (at_name (node t d).place name) (node t n).place ≡ true)
        ⊎ (same_place (at_name (node t d).place name) (node t n).place ≡ false) → length (renamed t n (at_name (node t d).place name)) ≡ length t
    by_place (inl own) = rw own refl
    by_place (inr other) = rw other (length-map t _)

pub renamed_own : (t : List Node) (n d : ℕ) (name : List ℕ) → same_place (at_name (node t d).place name) (node t n).place ≡ true → renamed t n (at_name (node t d).place name) ≡ t
renamed_own t n d name own = rw own refl

pub renamed_node : (t : List Node) (n d : ℕ) (name : List ℕ) (k : ℕ) → same_place (at_name (node t d).place name) (node t n).place ≡ false →
    node (renamed t n (at_name (node t d).place name)) k ≡ moved (node t n).place (at_name (node t d).place name)
    (replaced_at (at_name (node t d).place name) (node t k))
renamed_node t n d name k other = rw other (get_or-map (λ m. moved (node t n).place (at_name (node t d).place name) (replaced_at (at_name (node t d).place name) m)) t k nowhere)
