-- A list that is a tree stays one when a node is made, removed or given another content. This is of the lists
-- alone, so that each way to keep a tree rests on it.
use Rattle.std.proofs.Common.{◌≡◌, ℕ, zero, suc, ◌<◌, ◌+◌, ◌⊎◌, inl, inr, List, [], ◌∷◌, ◌++◌, Bool, true, false, None, length, drop, ap, sym, ◌∙◌, refl, arith, length-append}
use Rattle.std.specs.List.{list_all}
use Rattle.std.specs.Cmp.Derive.{both_true}
use Rattle.std.proofs.lemmas.List.{get_or_append_left}
use Rattle.std.proofs.lemmas.Bool.{and_parts, both_ways, ltb-true, not-false}
use Rattle.file_tree.specs.Places.{is_file_name, at_name, above}
use Rattle.file_tree.specs.Nodes.{Kind, Dir, Node, node, nowhere, node_at, stands_at}
use Rattle.rights.specs.Limits.{most_nodes}
use Rattle.file_tree.specs.Refusals.{created, create_fault}
use Rattle.file_tree.specs.WellFormed.{IsTree, has_parent, is_within_limits, is_content, is_byte}
use Rattle.file_tree.proofs.PlaceLaws.{above_at_name}
use Rattle.file_tree.proofs.NodeLaws.{linked_there, stands_from, node_at_none, Directory, held_above, held_from, more_cases, passed, passed_last, none_from}

-- what may be made: in a linked directory, at a free place, in a tree with room
pub record MayCreate (t : List Node) (d : ℕ) (name : List ℕ) : Type 0 where
  pub linked : (node t d).linked ≡ true
  pub free : node_at t (at_name (node t d).place name) ≡ None
  pub room : length t < most_nodes

pub may_create : (t : List Node) (d : ℕ) (name : List ℕ) → create_fault t d name ≡ None → MayCreate t d name
unfolding create_fault
may_create t d name h =
    let first = passed _ _ _ h in
    let second = passed _ _ _ first.1 in
    record { linked = not-false _ first.0; free = none_from _ second.0; room = ltb-true _ _ (passed_last _ _ second.1) }

-- a test that all of two lists pass
pub all_of_both : {A : Type 0} (test : A → Bool) (xs ys : List A) → list_all test xs ≡ true → list_all test ys ≡ true → list_all test (xs ++ ys) ≡ true
all_of_both test [] ys h g = g
all_of_both test (x ∷ xs) ys h g = let parts = and_parts (test x) (list_all test xs) h in both_true parts.0 (all_of_both test xs ys parts.1 g)

pub all_after : {A : Type 0} (test : A → Bool) (k : ℕ) (xs : List A) → list_all test xs ≡ true → list_all test (drop k xs) ≡ true
all_after test zero xs h = h
all_after test (suc k) [] h = refl
all_after test (suc k) (x ∷ xs) h = all_after test k xs (and_parts (test x) (list_all test xs) h).1

-- the limits of a node, part by part
pub record Limits (m : Node) : Type 0 where
  pub names : list_all is_file_name m.place ≡ true
  pub content : is_content m.kind m.content ≡ true
  pub bytes : list_all is_byte m.content ≡ true

pub limits_of : (m : Node) → is_within_limits m ≡ true → Limits m
unfolding is_within_limits
limits_of m h = let outer = and_parts _ _ h in let inner = and_parts _ _ outer.0 in record { names = inner.0; content = inner.1; bytes = outer.1 }

pub limits_from : (m : Node) → Limits m → is_within_limits m ≡ true
unfolding is_within_limits
limits_from m l = both_true (both_true l.names l.content) l.bytes

-- a node's place has no more than it has: the names of a node of the tree
pub names_kept : (t : List Node) → IsTree t → (n : ℕ) → (node t n).linked ≡ true → list_all is_file_name (node t n).place ≡ true
names_kept t tree n linked = (limits_of (node t n) (tree.limits n (linked_there t n linked))).names

-- a directory stays one where its node does
pub same_directory : (t u : List Node) (p : List (List ℕ)) (d : Directory t p) → node u d.number ≡ node t d.number → Directory u p
same_directory t u p d same = record {
  number = d.number;
  linked = ap (λ (m : Node). m.linked) same ∙ d.linked;
  kind = ap (λ (m : Node). m.kind) same ∙ d.kind;
  place = ap (λ (m : Node). m.place) same ∙ d.place;
}

module _ (t : List Node) (m : Node) where
  -- what was there stays, and each linked node is the new one or was there
  pub old_node : (n : ℕ) → n < length t → node (t ++ m ∷ []) n ≡ node t n
  old_node n there = get_or_append_left t (m ∷ []) nowhere n there

  old_linked : (n : ℕ) → (node t n).linked ≡ true → node (t ++ m ∷ []) n ≡ node t n
  old_linked n linked = old_node n (linked_there t n linked)

  new_or_old : (n : ℕ) → (node (t ++ m ∷ []) n).linked ≡ true → ((n ≡ length t) × (node (t ++ m ∷ []) n ≡ m)) ⊎ (((node t n).linked ≡ true) × (node (t ++ m ∷ []) n ≡ node t n))
  new_or_old n linked =
      let there : n < length t + 1 = omega (arith, linked_there (t ++ m ∷ []) n linked, length-append t (m ∷ [])) in
      elim (more_cases t m n there) [
        | inl new ↦ inl new
        | inr old ↦ inr (sym (ap (λ (x : Node). x.linked) old.1) ∙ linked, old.1)
      ]

  -- Two linked nodes at one place are one, if the new one's place was free.
  apart_after : IsTree t → (missing : (k : ℕ) → stands_at m.place (node t k) ≡ false) → (i j : ℕ) → (node (t ++ m ∷ []) i).linked ≡ true →
      (node (t ++ m ∷ []) j).linked ≡ true → (node (t ++ m ∷ []) i).place ≡ (node (t ++ m ∷ []) j).place → i ≡ j
  apart_after tree missing i j linked_i linked_j same = both (new_or_old i linked_i) (new_or_old j linked_j)
    where
      taken : (k : ℕ) → (node t k).linked ≡ true → m.place ≡ (node t k).place → ⊥
      taken k linked place = both_ways (stands_at m.place (node t k)) (missing k) (stands_from m.place (node t k) linked place)

      both : ((i ≡ length t) × (node (t ++ m ∷ []) i ≡ m)) ⊎ (((node t i).linked ≡ true) × (node (t ++ m ∷ []) i ≡ node t i)) →
          ((j ≡ length t) × (node (t ++ m ∷ []) j ≡ m)) ⊎ (((node t j).linked ≡ true) × (node (t ++ m ∷ []) j ≡ node t j)) → i ≡ j
      both (inl a) (inl b) = a.0 ∙ sym b.0
      both (inl a) (inr b) = absurd (taken j b.0 (sym (ap (λ (x : Node). x.place) a.1) ∙ same ∙ ap (λ (x : Node). x.place) b.1))
      both (inr a) (inl b) = absurd (taken i a.0 (sym (ap (λ (x : Node). x.place) b.1) ∙ sym same ∙ ap (λ (x : Node). x.place) a.1))
      both (inr a) (inr b) = tree.apart i j a.0 b.0 (sym (ap (λ (x : Node). x.place) a.1) ∙ same ∙ ap (λ (x : Node). x.place) b.1)

  held_after : IsTree t → (0 < length m.place → Directory t (above m.place)) → (n : ℕ) → (node (t ++ m ∷ []) n).linked ≡ true → has_parent (t ++ m ∷ []) (node (t ++ m ∷ []) n).place ≡ true
  held_after tree holder n linked = held (new_or_old n linked)
    where
      still : (p : List (List ℕ)) → Directory t p → Directory (t ++ m ∷ []) p
      still p d = same_directory t (t ++ m ∷ []) p d (old_linked d.number d.linked)

      held : ((n ≡ length t) × (node (t ++ m ∷ []) n ≡ m)) ⊎ (((node t n).linked ≡ true) × (node (t ++ m ∷ []) n ≡ node t n)) → has_parent (t ++ m ∷ []) (node (t ++ m ∷ []) n).place ≡ true
      held (inl new) = rw new.1 (held_from (t ++ m ∷ []) m.place (λ low. still (above m.place) (holder low)))
      held (inr old) = rw old.1 (held_from (t ++ m ∷ []) (node t n).place (λ low. still (above (node t n).place) (held_above t (node t n).place (tree.held n old.0) low)))

  limits_after : IsTree t → is_within_limits m ≡ true → (n : ℕ) → n < length (t ++ m ∷ []) → is_within_limits (node (t ++ m ∷ []) n) ≡ true
  limits_after tree fits n there =
      let less : n < length t + 1 = omega (arith, length-append t (m ∷ [])) in
      elim (more_cases t m n less) [
        | inl new ↦ ap is_within_limits new.1 ∙ fits
        | inr old ↦ ap is_within_limits old.1 ∙ tree.limits n old.0
      ]

-- a tree to which a node is added, at a free place in a linked directory
added_is_tree : (t : List Node) (m : Node) → IsTree t → ((k : ℕ) → stands_at m.place (node t k) ≡ false) →
    (0 < length m.place → Directory t (above m.place)) → is_within_limits m ≡ true → length t < most_nodes → IsTree (t ++ m ∷ [])
added_is_tree t m tree missing holder fits room =
    let root = old_linked t m 0 tree.root_linked in
    record {
      root_linked = ap (λ (x : Node). x.linked) root ∙ tree.root_linked;
      root_kind = ap (λ (x : Node). x.kind) root ∙ tree.root_kind;
      root_place = ap (λ (x : Node). x.place) root ∙ tree.root_place;
      apart = apart_after t m tree missing;
      held = held_after t m tree holder;
      few = omega (arith, length-append t (m ∷ []));
      limits = limits_after t m tree fits;
    }

pub created_is_tree : (t : List Node) (d : ℕ) (name : List ℕ) (kind : Kind) (content : List ℕ) → IsTree t → (node t d).kind ≡ Dir →
    is_file_name name ≡ true → is_content kind content ≡ true → list_all is_byte content ≡ true → create_fault t d name ≡ None →
    IsTree (created t d name kind content)
unfolding created
created_is_tree t d name kind content tree directory named fits bytes allowed =
    let may = may_create t d name allowed in
    let dir : Directory t (above (at_name (node t d).place name)) = record { number = d; linked = may.linked; kind = directory; place = sym (above_at_name (node t d).place name) } in
    let names = all_of_both is_file_name (node t d).place (name ∷ []) (names_kept t tree d may.linked) (both_true named refl) in
    added_is_tree t (record { kind = kind; place = at_name (node t d).place name; linked = true; content = content }) tree
    (node_at_none t (at_name (node t d).place name) may.free)
    (λ _. dir)
    (limits_from (record { kind = kind; place = at_name (node t d).place name; linked = true; content = content }) (record { names = names; content = fits; bytes = bytes }))
    may.room
