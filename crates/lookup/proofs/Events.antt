-- What the code's walk does at an event, and what holds then.
use Rattle.std.proofs.Common.{◌≡◌, ℕ, ◌<◌, ◌+◌, ◌*◌, ◌-◌, inl, inr, List, [], ◌∷◌, ◌++◌, Bool, true, false, Option, Some, None, Result, Ok, Err, length, ap, subst, refl, arith, cond}
use Rattle.std.specs.Prelude.{◌^◌, IfSome, nat_le}
use Rattle.std.proofs.lemmas.Bool.Decides.{nat_tests}
use Rattle.file_tree.specs.Places.{path_components}
use Rattle.file_tree.specs.Nodes.{Node, parent_of}
use Rattle.file_tree.specs.WellFormed.{IsTree}
use Rattle.file_tree.proofs.TreeLaws.{child_there, child_parent, root_there}
use Rattle.lookup.specs.Answers.{Way, Beneath, Last, LookupFault, Loop, Finding, Not_found}
use Rattle.rights.specs.Limits.{most_links}
use Rattle.lookup.specs.Leads.{Stand, Next, Goes, Ends, followed_from, onward, next_from, next}
use Rattle.lookup.specs.Steps.{Rules, Move, Moves, Meets, Stops, target_cursor}
use Rattle.lookup.specs.ByNodes.{Walked}
use Rattle.lookup.specs.Walks.{WalkState, Progress, Done, More, handled, AreInTree, IsInTree, IsNear, IsNearFinding}
use Rattle.lookup.specs.Views.{stand_of, rules_of, walk_state, SameRules, IsHandled, IsSettled, StaysNear}
use Rattle.lookup.specs.declared.trail.Trail.{Trail}
use Rattle.lookup.specs.declared.ways.Progress.{Progress as ProgressCode}
use Rattle.lookup.specs.declared.ways.Progress.TheVariants as progress
use Rattle.lookup.specs.declared.faults.PathFault.{PathFault}
use Rattle.lookup.proofs.Handling.{Handles, IsGoodProgress, handled_good}

-- a walk by the same rules that stands so
new_state : (old new : Trail) → SameRules old new → walk_state new ≡ record (walk_state old) { stand = stand_of new }
new_state old new same = rw (same.0, same.1) refl

module _ (t : List Node) (walk : WalkState) (old : Trail) (view : walk_state old ≡ walk) where
  -- it went on, and is settled
  pub event_more : (new : Trail) (p : ProgressCode) → SameRules old new → next (rules_of t old) (stand_of old) ≡ Goes (stand_of new) →
      IsSettled p (stand_of new) → IsHandled (Ok p) (handled t walk) (walk_state new)
  unfolding handled
  event_more new p same goes settles =
      let event : IsHandled (Ok p) (handled t (walk_state old)) (walk_state new) = rw (goes, new_state old new same) (settles (walk_state old)) in
      subst (λ (w : WalkState). IsHandled (Ok p) (handled t w) (walk_state new)) view event

  -- it ended
  pub event_done : (finding : Finding) → next (rules_of t old) (stand_of old) ≡ Ends finding → handled t walk ≡ Done finding
  unfolding handled
  event_done finding ends = let event : handled t (walk_state old) ≡ Done finding = rw ends refl in subst (λ (w : WalkState). handled t w ≡ Done finding) view event

  pub event_lost : (o : Option LookupFault) → IfSome o (λ fault. next (rules_of t old) (stand_of old) ≡ Ends (Not_found fault)) →
      IfSome o (λ fault. handled t walk ≡ Done (Not_found fault))
  event_lost None ends = tt
  event_lost (Some fault) ends = event_done (Not_found fault) ends

-- its nodes stay nodes of the tree
in_tree_handles : (t : List Node) (way : Way) (last : Last) → IsTree t →
    Handles t way last (λ at left. AreInTree t (at.current ∷ at.before)) (λ at left. AreInTree t (at.current ∷ at.before)) (λ finding. Unit {0})
in_tree_handles t way last tree = record {
  arrives = λ at h. tt;
  settles = λ at h. tt;
  stays = λ at name left h linked dot. h;
  up = λ n d before name left h held dots. h.1;
  top = λ n name left global h linked dots. h;
  down = λ at name left n h child kind. (child_there t at.current name n child, h);
  link = λ at name left n h child is_link kept. h;
  link_root = λ at name left n global h child is_link kept. (root_there t tree, tt);
  free = λ at name left h dir linked none kept. tt;
  not_found = λ fault. tt;
}

abbrev IsInTreeAfter : List Node → Progress → Type 0
IsInTreeAfter t (Done finding) = Unit {0}
IsInTreeAfter t (More walk) = IsInTree t walk

handled_in_tree : (t : List Node) (walk : WalkState) → IsTree t → IsInTree t walk → IsInTreeAfter t (handled t walk)
handled_in_tree t walk tree h = by_event (handled t walk) (handled_good t walk.way walk.last _ _ _ (in_tree_handles t walk.way walk.last tree) walk refl refl h)
  where
    by_event : (event : Progress) → IsGoodProgress t walk.way walk.last _ _ _ (in_tree_handles t walk.way walk.last tree) event → IsInTreeAfter t event
    by_event (Done finding) h = tt
    by_event (More after) h = h

-- beneath, it stays near
back_near : (t : List Node) (n d : ℕ) (before : List ℕ) (stood : Walked) → record { current = n; before = d ∷ before } ≡ stood → parent_of t n ≡ Some d → IsNear t stood d
back_near t n d before stood same held = subst (λ (w : Walked). IsNear t w d) same (inr (inr (refl, held)))

held_near : (t : List Node) (n : ℕ) (at stood : Walked) → at ≡ stood → parent_of t n ≡ Some at.current → IsNear t stood n
held_near t n at stood same held = subst (λ (w : Walked). IsNear t w n) same (inr (inl held))

near_handles : (t : List Node) (last : Last) (stood : Walked) → IsTree t →
    Handles t Beneath last (λ at left. at ≡ stood) (λ at left. IsNear t stood at.current) (IsNearFinding t stood)
near_handles t last stood tree = record {
  arrives = λ at h. inl (ap (λ (w : Walked). w.current) h);
  settles = λ at h. h;
  stays = λ at name left h linked dot. inl (ap (λ (w : Walked). w.current) h);
  up = λ n d before name left h held dots. back_near t n d before stood h held;
  top = λ n name left global h linked dots. absurd cc;
  down = λ at name left n h child kind. held_near t n at stood h (child_parent t at.current name n tree child);
  link = λ at name left n h child is_link kept. inl (ap (λ (w : Walked). w.current) h);
  link_root = λ at name left n global h child is_link kept. absurd cc;
  free = λ at name left h dir linked none kept. ap (λ (w : Walked). w.current) h;
  not_found = λ fault. tt;
}

-- an event's finding, or where it left the walk, is near
abbrev IsNearAfter : List Node → Walked → Progress → Type 0
IsNearAfter t stood (Done finding) = IsNearFinding t stood finding
IsNearAfter t stood (More walk) = IsNear t stood walk.stand.cursor.current

handled_near : (t : List Node) (walk : WalkState) → IsTree t → walk.way ≡ Beneath → IsNearAfter t walk.stand.cursor (handled t walk)
handled_near t walk tree beneath = by_event (handled t walk) (handled_good t Beneath walk.last _ _ _ (near_handles t walk.last walk.stand.cursor tree) walk beneath refl refl)
  where
    by_event : (event : Progress) → IsGoodProgress t Beneath walk.last _ _ _ (near_handles t walk.last walk.stand.cursor tree) event → IsNearAfter t walk.stand.cursor event
    by_event (Done finding) h = h
    by_event (More after) h = h

-- the same of what the code's event gives
pub stays_near : (t : List Node) (walk new : WalkState) (r : Result ProgressCode PathFault) → IsTree t → walk.way ≡ Beneath → IsHandled r (handled t walk) new → StaysNear t walk.stand.cursor r new
stays_near t walk new (Ok progress.More) tree beneath event = let near = handled_near t walk tree beneath in rw event at near
stays_near t walk new (Ok (progress.Done found)) tree beneath event = let near = handled_near t walk tree beneath in rw event at near
stays_near t walk new (Err error) tree beneath event = tt

pub stays_in_tree : (t : List Node) (walk new : WalkState) → IsTree t → handled t walk ≡ More new → IsInTree t walk → IsInTree t new
stays_in_tree t walk new tree event h = let after = handled_in_tree t walk tree h in rw event at after

-- it has less left to do, if what is left has no more names than memory holds
module _ {Cursor : Type 0} (rules : Rules Cursor) where
  abbrev work_of : Stand Cursor → ℕ
  work_of stand = (33 - stand.followed) * 2 ^ 64 + length stand.left

  abbrev IsLess : Stand Cursor → Next Cursor → Type 0
  IsLess stand (Goes after) = length after.left < 2 ^ 64 → work_of after < work_of stand
  IsLess stand (Ends finding) = Unit {0}

  followed_less : (stand : Stand Cursor) (left : List (List ℕ)) (from : Option Cursor) → stand.followed < 32 → IsLess stand (followed_from left (stand.followed + 1) from)
  followed_less stand left None few = tt
  followed_less stand left (Some cursor) few = λ short. omega arith

  onward_less : (stand : Stand Cursor) (name : List ℕ) (left : List (List ℕ)) (move : Move Cursor) → stand.left ≡ name ∷ left → IsLess stand (onward rules stand.cursor left stand.followed move)
  onward_less stand name left (Moves to) is = λ short. let longer : length stand.left ≡ length (name ∷ left) = ap length is in omega arith
  onward_less stand name left (Stops finding) is = tt
  onward_less stand name left (Meets target) is = by_count (nat_le most_links stand.followed) refl
    where
      by_count : (b : Bool) → nat_le most_links stand.followed ≡ b →
          IsLess stand (cond b (Ends (Not_found Loop)) (followed_from (path_components target ++ left) (stand.followed + 1) (target_cursor rules stand.cursor target)))
      by_count true many = tt
      by_count false few = followed_less stand (path_components target ++ left) (target_cursor rules stand.cursor target) (grind (arith, nat_tests))

  next_less : (stand : Stand Cursor) (left : List (List ℕ)) → stand.left ≡ left → IsLess stand (next_from rules stand.cursor left stand.followed)
  next_less stand [] is = tt
  next_less stand (name ∷ left) is = onward_less stand name left (rules.component stand.cursor name left) is

  pub less_left : (stand after : Stand Cursor) → next rules stand ≡ Goes after → length after.left < 2 ^ 64 → work_of after < work_of stand
  less_left stand after goes = let less = next_less stand stand.left refl in rw goes at less
