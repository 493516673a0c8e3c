-- What a change of the tree leaves of grants: what it removes, moves or replaces lies beneath one, and moves end there.
use Rattle.std.proofs.Common.{◌≡◌, ℕ, zero, suc, ◌<◌, ◌≤◌, ◌⊎◌, inl, inr, Bool, true, false, List, [], ◌∷◌, ◌++◌, refl, ap, sym, ◌∙◌, arith, length, drop, map, cond, subst}
use Rattle.std.specs.Prelude.{◌&&◌, Option, Some, None}
use Rattle.std.specs.List.{slice_get}
use Rattle.std.proofs.lemmas.Bool.{and_parts}
use Rattle.std.proofs.lemmas.Bool.Decides.{eqb_tells}
use Rattle.std.proofs.Math.ListN.{get_or-map}
use Rattle.std.specs.Str.{bytes_eq}
use Rattle.file_tree.specs.Places.{begins, same_place}
use Rattle.file_tree.specs.Nodes.{Kind, Node, nowhere, node, stands_at}
use Rattle.file_tree.specs.Changes.{unlinked, replaced_at, moved}
use Rattle.file_tree.specs.WellFormed.{has_directory}
use Rattle.file_tree.proofs.PlaceLaws.{same_place_is, begins_refl, begins_append, begins_length, begins_trans}
use Rattle.file_tree.proofs.NodeLaws.{Directory, directory, directory_from, linked_there, more_cases}
use Rattle.file_tree.proofs.TreeLaws.{removed_same, removed_other, filled_same, filled_other}
use Rattle.kernel.specs.Answers.{TreeChange, Same_tree, Make, Remove, Move, Fill}
use Rattle.kernel.specs.Changes.{tree_after}
use Rattle.kernel.proofs.Fresh.{lt_or_le}
use Rattle.task.specs.Plans.{Grant, Plan}
use Rattle.task.specs.Policies.{grant_named, holds_in, grant_holds}
use Rattle.task.specs.KeptLimits.{KeepsGrants}

-- A place beneath a grant is longer than the grant's own.
pub record IsBeneath (g : Grant) (place : List (List ℕ)) : Type 0 where
  pub front : begins g.path place ≡ true
  pub longer : length g.path < length place

pub record IsDeep (grants : List Grant) (place : List (List ℕ)) : Type 0 where
  pub number : ℕ
  pub grant : Grant
  pub there : slice_get grants number ≡ Some grant
  pub beneath : IsBeneath grant place

-- both beneath one grant
pub record IsDeepMove (grants : List Grant) (from to : List (List ℕ)) : Type 0 where
  pub number : ℕ
  pub grant : Grant
  pub there : slice_get grants number ≡ Some grant
  pub source : IsBeneath grant from
  pub target : IsBeneath grant to

-- What is removed lies beneath a grant, and what is moved ends beneath the grant that it comes from.
abbrev pub IsDeepChange : List Grant → List Node → TreeChange → Type 0
IsDeepChange grants tree Same_tree = Unit {0}
IsDeepChange grants tree (Make place kind) = Unit {0}
IsDeepChange grants tree (Remove n) = IsDeep grants (node tree n).place
IsDeepChange grants tree (Move n place) = IsDeepMove grants (node tree n).place place
IsDeepChange grants tree (Fill n content) = Unit {0}

-- a node but for its content
pub record IsStill (before after : Node) : Type 0 where
  pub kind : after.kind ≡ before.kind
  pub place : after.place ≡ before.place
  pub linked : after.linked ≡ before.linked

-- Each node of the tree stays in just the grants that hold it, and one that isn't beneath a grant stays as it is.
pub record KeepsTree (grants : List Grant) (t u : List Node) : Type 0 where
  pub holds : (n : ℕ) → n < length t → (name : List ℕ) → grant_holds grants name (node u n).place ≡ grant_holds grants name (node t n).place
  pub outside : (n : ℕ) → n < length t → (IsDeep grants (node t n).place → ⊥) → IsStill (node t n) (node u n)

-- ## Numbers that no node has are of the root's place
node_past : (t : List Node) (n : ℕ) → length t ≤ n → node t n ≡ nowhere
node_past [] n far = refl
node_past (m ∷ t) zero far = absurd (omega (arith, far))
node_past (m ∷ t) (suc n) far = node_past t n (omega (arith, far))

root_in : (o : Option Grant) (place : List (List ℕ)) → holds_in o [] ≡ true → holds_in o place ≡ true
root_in None place is = absurd cc
root_in (Some g) place is = at g.path is
  where
    at : (path : List (List ℕ)) → begins path [] ≡ true → begins path place ≡ true
    at [] is = refl
    at (name ∷ path) is = absurd cc

-- A grant that holds the place of a node's number goes on to hold it.
pub goes_on : (grants : List Grant) (t u : List Node) → KeepsTree grants t u → (n : ℕ) (name : List ℕ)
    → grant_holds grants name (node t n).place ≡ true → grant_holds grants name (node u n).place ≡ true
goes_on grants t u keeps n name is =
    elim (lt_or_le n (length t)) [
      | inl there ↦ keeps.holds n there name ∙ is
      | inr far ↦
          let root : holds_in (grant_named grants name) [] ≡ true = subst (λ (m : Node). grant_holds grants name m.place ≡ true) (node_past t n far) is in
          root_in (grant_named grants name) (node u n).place root
    ]

-- ## Grants are apart
pub named_there : (grants : List Grant) (name : List ℕ) (g : Grant) → grant_named grants name ≡ Some g → (i : ℕ) × (slice_get grants i ≡ Some g)
unfolding grant_named
named_there [] name g is = absurd cc
named_there (h ∷ grants) name g is = go (bytes_eq h.name name) is (named_there grants name g)
  where
    go : (b : Bool) → cond b (Some h) (grant_named grants name) ≡ Some g
        → (grant_named grants name ≡ Some g → (i : ℕ) × (slice_get grants i ≡ Some g)) → (i : ℕ) × (slice_get (h ∷ grants) i ≡ Some g)
    go true here rest = (0, here)
    go false later rest = let found = rest later in (suc found.0, found.1)

pub both_or_none : (a b : Bool) → (a ≡ true → b ≡ true) → (b ≡ true → a ≡ true) → a ≡ b
both_or_none true b there back = sym (there refl)
both_or_none false true there back = back refl
both_or_none false false there back = refl

-- two places that one grant holds are held by the same grants
pub same_holders : (plan : Plan) → KeepsGrants plan → (i : ℕ) (g : Grant) → slice_get plan.grants i ≡ Some g → (p q : List (List ℕ))
    → begins g.path p ≡ true → begins g.path q ≡ true → (name : List ℕ) → grant_holds plan.grants name q ≡ grant_holds plan.grants name p
same_holders plan grants i g there p q one other name = go (grant_named plan.grants name) (λ h is. named_there plan.grants name h is)
  where
    of_one : (h : Grant) → (j : ℕ) × (slice_get plan.grants j ≡ Some h) → (a b : List (List ℕ)) → begins g.path a ≡ true → begins g.path b ≡ true
        → begins h.path a ≡ true → begins h.path b ≡ true
    of_one h found a b first second is =
        let same : i ≡ found.0 = grants.places i found.0 g h a there found.1 first is in
        let both : Some g ≡ Some h = sym there ∙ ap (slice_get plan.grants) same ∙ found.1 in
        let one_grant : g ≡ h = cc in
        subst (λ (k : Grant). begins k.path b ≡ true) one_grant second

    go : (o : Option Grant) → ((h : Grant) → o ≡ Some h → (j : ℕ) × (slice_get plan.grants j ≡ Some h)) → holds_in o q ≡ holds_in o p
    go None found = refl
    go (Some h) found =
        both_or_none (begins h.path q) (begins h.path p)
        (of_one h (found h refl) q p other one)
        (of_one h (found h refl) p q one other)

-- ## What becomes of a node
pub record StaysBeneath (grants : List Grant) (before after : Node) : Type 0 where
  pub number : ℕ
  pub grant : Grant
  pub there : slice_get grants number ≡ Some grant
  pub beneath : IsBeneath grant before.place
  pub front : begins grant.path after.place ≡ true

abbrev Stays : List Grant → Node → Node → Type 0
Stays grants before after = IsStill before after ⊎ StaysBeneath grants before after

still : (grants : List Grant) (before after : Node) → after ≡ before → Stays grants before after
still grants before after same =
    inl (record { kind = ap (λ (m : Node). m.kind) same; place = ap (λ (m : Node). m.place) same; linked = ap (λ (m : Node). m.linked) same })

module _ (grants : List Grant) (t : List Node) where
  removed_stays : (n : ℕ) → IsDeep grants (node t n).place → (k : ℕ) → k < length t → Stays grants (node t k) (node (tree_after t (Remove n)) k)
  removed_stays n deep k there =
      elim (eqb_tells k n) [
        | inr other ↦ still grants (node t k) (node (tree_after t (Remove n)) k) (removed_other t n k other.1)
        | inl same ↦
            let at : node (tree_after t (Remove n)) k ≡ unlinked (node t k) = subst (λ j. node (tree_after t (Remove j)) k ≡ unlinked (node t k)) same.1 (removed_same t k there) in
            let beneath : IsBeneath deep.grant (node t k).place = subst (λ j. IsBeneath deep.grant (node t j).place) (sym same.1) deep.beneath in
            inr (record {
              number = deep.number;
              grant = deep.grant;
              there = deep.there;
              beneath = beneath;
              front = ap (λ (m : Node). begins deep.grant.path m.place) at ∙ beneath.front;
            })
      ]

  filled_stays : (n : ℕ) (content : List ℕ) (k : ℕ) → k < length t → Stays grants (node t k) (node (tree_after t (Fill n content)) k)
  filled_stays n content k there =
      elim (eqb_tells k n) [
        | inr other ↦ still grants (node t k) (node (tree_after t (Fill n content)) k) (filled_other t n content k other.1)
        | inl same ↦
            let full : Node = record { kind = (node t k).kind; place = (node t k).place; linked = (node t k).linked; content = content } in
            let at : node (tree_after t (Fill n content)) k ≡ full = subst (λ j. node (tree_after t (Fill j content)) k ≡ full) same.1 (filled_same t k content there) in
            inl (record { kind = ap (λ (m : Node). m.kind) at; place = ap (λ (m : Node). m.place) at; linked = ap (λ (m : Node). m.linked) at })
      ]

  made_stays : (place : List (List ℕ)) (kind : Kind) (k : ℕ) → k < length t → Stays grants (node t k) (node (tree_after t (Make place kind)) k)
  made_stays place kind k there =
      let m : Node = record { kind = kind; place = place; linked = true; content = [] } in
      elim (more_cases t m k (omega (arith, there))) [
        | inl new ↦ absurd (omega (arith, new.0, there))
        | inr old ↦ still grants (node t k) (node (tree_after t (Make place kind)) k) old.1
      ]

  -- one that stood at the target is unlinked, and one beneath the source goes beneath the target
  moved_node : (p q : List (List ℕ)) → IsDeepMove grants p q → (m : Node) → Stays grants m (moved p q (replaced_at q m))
  moved_node p q deep m = by (stands_at q m) refl
    where
      goes : (b : Bool) → (m.linked && begins p m.place) ≡ b
          → Stays grants m (cond b (record { kind = m.kind; place = q ++ drop (length p) m.place; linked = m.linked; content = m.content }) m)
      goes false is = still grants m m refl
      goes true is =
          let front : begins p m.place ≡ true = (and_parts m.linked (begins p m.place) is).1 in
          let long : length p ≤ length m.place = begins_length p m.place front in
          let longer : length deep.grant.path < length p = deep.source.longer in
          inr (record {
            number = deep.number;
            grant = deep.grant;
            there = deep.there;
            beneath = record { front = begins_trans deep.grant.path p m.place deep.source.front front; longer = omega (arith, long, longer) };
            front = begins_trans deep.grant.path q (q ++ drop (length p) m.place) deep.target.front (begins_append q (drop (length p) m.place));
          })

      by : (b : Bool) → stands_at q m ≡ b → Stays grants m (moved p q (cond b (unlinked m) m))
      by false is = goes (m.linked && begins p m.place) refl
      by true is =
          let same : q ≡ m.place = same_place_is q m.place (and_parts m.linked (same_place q m.place) is).1 in
          let beneath : IsBeneath deep.grant m.place = subst (IsBeneath deep.grant) same deep.target in
          inr (record { number = deep.number; grant = deep.grant; there = deep.there; beneath = beneath; front = beneath.front })

  moved_stays : (n : ℕ) (place : List (List ℕ)) → IsDeepMove grants (node t n).place place → (k : ℕ) → k < length t → Stays grants (node t k) (node (tree_after t (Move n place)) k)
  moved_stays n place deep k there = by (same_place place (node t n).place)
    where
      by : (b : Bool) → Stays grants (node t k) (node (cond b t (map (λ m. moved (node t n).place place (replaced_at place m)) t)) k)
      by true = still grants (node t k) (node t k) refl
      by false =
          subst (Stays grants (node t k)) (sym (get_or-map (λ m. moved (node t n).place place (replaced_at place m)) t k nowhere))
          (moved_node (node t n).place place deep (node t k))

  pub stays : (change : TreeChange) → IsDeepChange grants t change → (k : ℕ) → k < length t → Stays grants (node t k) (node (tree_after t change) k)
  stays Same_tree deep k there = still grants (node t k) (node t k) refl
  stays (Make place kind) deep k there = made_stays place kind k there
  stays (Remove n) deep k there = removed_stays n deep k there
  stays (Move n place) deep k there = moved_stays n place deep k there
  stays (Fill n content) deep k there = filled_stays n content k there

-- ## A change that is deep keeps the grants
module _ (plan : Plan) (grants : KeepsGrants plan) (t : List Node) where
  pub keeps_tree : (change : TreeChange) → IsDeepChange plan.grants t change → KeepsTree plan.grants t (tree_after t change)
  keeps_tree change deep = record {
    holds = λ n there name. held n name (stays plan.grants t change deep n there);
    outside = λ n there out. left n out (stays plan.grants t change deep n there);
  }
    where
      held : (n : ℕ) (name : List ℕ) → Stays plan.grants (node t n) (node (tree_after t change) n)
          → grant_holds plan.grants name (node (tree_after t change) n).place ≡ grant_holds plan.grants name (node t n).place
      held n name (inl is) = ap (grant_holds plan.grants name) is.place
      held n name (inr at) =
          same_holders plan grants at.number at.grant at.there (node t n).place (node (tree_after t change) n).place at.beneath.front at.front name

      left : (n : ℕ) → (IsDeep plan.grants (node t n).place → ⊥) → Stays plan.grants (node t n) (node (tree_after t change) n) → IsStill (node t n) (node (tree_after t change) n)
      left n out (inl is) = is
      left n out (inr at) = absurd (out (record { number = at.number; grant = at.grant; there = at.there; beneath = at.beneath }))

  -- the first names of a grant's own place aren't beneath one, nor are all of them
  pub not_deep : (i : ℕ) (g : Grant) → slice_get plan.grants i ≡ Some g → (place : List (List ℕ)) → begins place g.path ≡ true → IsDeep plan.grants place → ⊥
  not_deep i g there place front deep =
      let through : begins deep.grant.path g.path ≡ true = begins_trans deep.grant.path place g.path deep.beneath.front front in
      let same : i ≡ deep.number = grants.places i deep.number g deep.grant g.path there deep.there (begins_refl g.path) through in
      let both : Some g ≡ Some deep.grant = sym there ∙ ap (slice_get plan.grants) same ∙ deep.there in
      let one_grant : g ≡ deep.grant = cc in
      let length_is : length g.path ≡ length deep.grant.path = ap (λ (k : Grant). length k.path) one_grant in
      let longer : length deep.grant.path < length place = deep.beneath.longer in
      let short : length place ≤ length g.path = begins_length place g.path front in
      omega (arith, length_is, longer, short)

  -- So its directory stays.
  pub clear_stays : (u : List Node) → KeepsTree plan.grants t u → (i : ℕ) (g : Grant) → slice_get plan.grants i ≡ Some g
      → has_directory t g.path ≡ true → has_directory u g.path ≡ true
  clear_stays u keeps i g there is =
      let d : Directory t g.path = directory t g.path is in
      let out : IsDeep plan.grants (node t d.number).place → ⊥ = λ deep. not_deep i g there g.path (begins_refl g.path) (subst (IsDeep plan.grants) d.place deep) in
      let same : IsStill (node t d.number) (node u d.number) = keeps.outside d.number (linked_there t d.number d.linked) out in
      directory_from u g.path (record {
        number = d.number;
        linked = same.linked ∙ d.linked;
        kind = same.kind ∙ d.kind;
        place = same.place ∙ d.place;
      })
