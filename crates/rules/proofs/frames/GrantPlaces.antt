-- Places that grants hold, and places beneath them.
use Rattle.std.proofs.Common.{◌≡◌, ℕ, ◌<◌, ◌≤◌, true, List, refl, sym, ◌∙◌, subst, arith, length}
use Rattle.std.specs.Prelude.{Option, Some, None}
use Rattle.file_tree.specs.Places.{begins}
use Rattle.file_tree.proofs.PlaceLaws.{begins_length, begins_trans}
use Rattle.task.specs.Plans.{Grant}
use Rattle.task.specs.Policies.{grant_named, holds_in, grant_holds}
use Rattle.rules.proofs.frames.KeptTrees.{IsBeneath, IsDeep, IsDeepMove, named_there}

-- beneath the grant of this name
pub record IsDeepIn (grants : List Grant) (name : List ℕ) (place : List (List ℕ)) : Type 0 where
  pub grant : Grant
  pub named : grant_named grants name ≡ Some grant
  pub beneath : IsBeneath grant place

pub deep_of : (grants : List Grant) (name : List ℕ) (place : List (List ℕ)) → IsDeepIn grants name place → IsDeep grants place
deep_of grants name place deep =
    let found = named_there grants name deep.grant deep.named in
    record { number = found.0; grant = deep.grant; there = found.1; beneath = deep.beneath }

-- two places beneath the grant of one name
pub deep_move : (grants : List Grant) (name : List ℕ) (from to : List (List ℕ)) → IsDeepIn grants name from → IsDeepIn grants name to → IsDeepMove grants from to
deep_move grants name from to source target =
    let found = named_there grants name source.grant source.named in
    let both : Some target.grant ≡ Some source.grant = sym target.named ∙ source.named in
    let one : target.grant ≡ source.grant = cc in
    record {
      number = found.0;
      grant = source.grant;
      there = found.1;
      source = source.beneath;
      target = subst (λ (g : Grant). IsBeneath g to) one target.beneath;
    }

-- what lies beneath is held
pub deep_held : (grants : List Grant) (name : List ℕ) (place : List (List ℕ)) → IsDeepIn grants name place → grant_holds grants name place ≡ true
deep_held grants name place deep = subst (λ o. holds_in o place ≡ true) (sym deep.named) deep.beneath.front

held_on : (o : Option Grant) (p q : List (List ℕ)) → holds_in o p ≡ true → begins p q ≡ true → holds_in o q ≡ true
held_on None p q is front = absurd cc
held_on (Some g) p q is front = begins_trans g.path p q is front

-- A grant that holds a place holds what begins with it, and what is longer lies beneath the grant.
pub holds_on : (grants : List Grant) (name : List ℕ) (p q : List (List ℕ)) → grant_holds grants name p ≡ true → begins p q ≡ true → grant_holds grants name q ≡ true
holds_on grants name p q is front = held_on (grant_named grants name) p q is front

pub deep_on : (grants : List Grant) (name : List ℕ) (p q : List (List ℕ)) → grant_holds grants name p ≡ true → begins p q ≡ true → length p < length q → IsDeepIn grants name q
deep_on grants name p q is front longer = go (grant_named grants name) refl is
  where
    go : (o : Option Grant) → grant_named grants name ≡ o → holds_in o p ≡ true → IsDeepIn grants name q
    go None none held = absurd cc
    go (Some g) named held =
        let long : length g.path ≤ length p = begins_length g.path p held in
        record { grant = g; named = named; beneath = record { front = begins_trans g.path p q held front; longer = omega (arith, long, longer) } }
