-- What holds of a call that looks paths up: by what holds of each finding, and of what it leaves under way.
use Rattle.std.proofs.Common.{◌≡◌, ℕ, Bool, true, false, List, Option, Some, None, refl, cond}
use Rattle.std.specs.Prelude.{not}
use Rattle.rights.specs.Errors.{Errno, Cause}
use Rattle.lookup.specs.Answers.{Way, Beneath, Last, Keep, LookupFault, Escape, No_entry, Not_dir, Loop, Too_long, Bad_last, Finding, Found_node, Found_free, Not_found}
use Rattle.lookup.specs.Looks.{lookup_fault}
use Rattle.lookup.specs.Walks.{WalkState, Progress, Done, More, begun, first_handled, handled}
use Rattle.process.specs.State.{ProcessState, Walking, One, Two}
use Rattle.kernel.specs.World.{World}
use Rattle.kernel.specs.Answers.{Event, Answer, Fails, Walks, lookup_fails}
use Rattle.kernel.specs.Walks.{IfOne, IfTwo}
use Rattle.kernel.specs.Calls.{found_last, is_at_last, looks, looks_twice, lost, resumed_one, resumed_both, or_fails, walked, walked_both}

-- an event ends in a finding that is good, or leaves names, and what is under way is good
abbrev pub IsEvent : (Finding → Type 0) → (WalkState → Type 0) → Progress → Type 0
IsEvent Good Under (Done finding) = Good finding
IsEvent Good Under (More walk) = Under walk

-- of what is under way nothing is asked
pub any_event : (event : Progress) → IsEvent (λ found. Unit {0}) (λ walk. Unit {0}) event
any_event (Done found) = tt
any_event (More walk) = tt

pub any_one : (o : Option Walking) → IfOne (λ walk. Unit {0}) o
any_one None = tt
any_one (Some (One walk)) = tt
any_one (Some (Two one other)) = tt

pub any_two : (o : Option Walking) → IfTwo (λ walk. Unit {0}) (λ walk. Unit {0}) o
any_two None = tt
any_two (Some (One walk)) = tt
any_two (Some (Two one other)) = (tt, tt)

module _ (P : Answer → Type 0) (w : World) (p : ℕ) (s : ProcessState) (e : Event) where
  -- ## One path
  module _ (start : ℕ) (way : Way) (path : List ℕ) (last : Last) (rest : Finding → Answer) (Good : Finding → Type 0) (Under : WalkState → Type 0) where
    walked_any : (event : Progress) → IsEvent Good Under event → ((found : Finding) → Good found → P (rest found)) →
        ((walk : WalkState) → Under walk → P (Walks (One walk))) → P (walked One rest event)
    walked_any (Done finding) good found walks = found finding good
    walked_any (More walk) good found walks = walks walk good

    event_is : (o : Option Walking) → IfOne Under o → IsEvent Good Under (first_handled w.tree start path way last) →
        ((walk : WalkState) → Under walk → IsEvent Good Under (handled w.tree walk)) →
        IsEvent Good Under (resumed_one o (first_handled w.tree start path way last) (handled w.tree))
    event_is None under first later = first
    event_is (Some (One walk)) under first later = later walk under
    event_is (Some (Two one other)) under first later = first

    pub looks_any : IfOne Under s.walk → IsEvent Good Under (first_handled w.tree start path way last) →
        ((walk : WalkState) → Under walk → IsEvent Good Under (handled w.tree walk)) →
        ((found : Finding) → Good found → P (rest found)) → ((walk : WalkState) → Under walk → P (Walks (One walk))) →
        P (looks w p s e start way path last rest)
    unfolding looks
    looks_any under first later found walks =
        walked_any (resumed_one s.walk (first_handled w.tree start path way last) (handled w.tree)) (event_is s.walk under first later) found walks

  -- ## Two paths
  pub fault_any : ((errno : Errno) (cause : Cause) → P (Fails errno cause)) → (fault : LookupFault) → P (lookup_fails fault)
  fault_any fails Escape = fails _ _
  fault_any fails No_entry = fails _ _
  fault_any fails Not_dir = fails _ _
  fault_any fails Loop = fails _ _
  fault_any fails Too_long = fails _ _
  fault_any fails Bad_last = fails _ _

  module _ (faults : (fault : LookupFault) → P (lookup_fails fault)) where
    lost_any : (finding : Finding) → P (lost finding)
    lost_any (Not_found fault) = faults fault
    lost_any (Found_node n) = faults No_entry
    lost_any (Found_free d) = faults No_entry

    or_fails_any : (fault : Option LookupFault) (rest : Answer) → (fault ≡ None → P rest) → P (or_fails fault rest)
    or_fails_any None rest good = good refl
    or_fails_any (Some fault) rest good = faults fault

    module _ (n : ℕ) (from : List ℕ) (m : ℕ) (to : List ℕ) (rest : Finding → Finding → Answer) (Good Also : Finding → Type 0) (First Second : WalkState → Type 0) where
      walked_first_any : (other : WalkState) → Second other → (event : Progress) → IsEvent Good First event →
          ((one other : WalkState) → First one → Second other → P (Walks (Two one other))) → P (walked (λ walk. Two walk other) lost event)
      walked_first_any other second (Done finding) good walks = lost_any finding
      walked_first_any other second (More walk) good walks = walks walk other good second

      walked_second_any : (one : WalkState) → First one → (event : Progress) → IsEvent Also Second event →
          ((one other : WalkState) → First one → Second other → P (Walks (Two one other))) → P (walked (λ walk. Two one walk) lost event)
      walked_second_any one first (Done finding) good walks = lost_any finding
      walked_second_any one first (More walk) good walks = walks one walk first good

      last_any : (Best : Finding → Type 0) (Under : WalkState → Type 0) (event : Progress) → Best (Not_found No_entry) → IsEvent Best Under event → Best (found_last event)
      last_any Best Under (Done finding) none good = good
      last_any Best Under (More walk) none good = none

      walked_both_any : (one other : WalkState) → First one → Second other → Good (Not_found No_entry) → Also (Not_found No_entry) →
          ((walk : WalkState) → First walk → IsEvent Good First (handled w.tree walk)) → ((walk : WalkState) → Second walk → IsEvent Also Second (handled w.tree walk)) →
          ((found place : Finding) → Good found → Also place → P (rest found place)) →
          ((one other : WalkState) → First one → Second other → P (Walks (Two one other))) → P (walked_both w p s e rest one other)
      walked_both_any one other first second none nor one_event other_event found walks = by_first (is_at_last one)
        where
          by_second : (b : Bool) → P (cond (not b) (walked (λ walk. Two one walk) lost (handled w.tree other)) (rest (found_last (handled w.tree one)) (found_last (handled w.tree other))))
          by_second true =
              found _ _ (last_any Good First (handled w.tree one) none (one_event one first)) (last_any Also Second (handled w.tree other) nor (other_event other second))
          by_second false = walked_second_any one first (handled w.tree other) (other_event other second) walks

          by_first : (b : Bool) → P (cond (not b) (walked (λ walk. Two walk other) lost (handled w.tree one))
              (cond (not (is_at_last other)) (walked (λ walk. Two one walk) lost (handled w.tree other)) (rest (found_last (handled w.tree one)) (found_last (handled w.tree other)))))
          by_first true = by_second (is_at_last other)
          by_first false = walked_first_any other second (handled w.tree one) (one_event one first) walks

      pub looks_twice_any : IfTwo First Second s.walk →
          (lookup_fault w.tree n from Beneath Keep ≡ None → First (begun n from Beneath Keep)) →
          (lookup_fault w.tree m to Beneath Keep ≡ None → Second (begun m to Beneath Keep)) →
          Good (Not_found No_entry) → Also (Not_found No_entry) →
          ((walk : WalkState) → First walk → IsEvent Good First (handled w.tree walk)) → ((walk : WalkState) → Second walk → IsEvent Also Second (handled w.tree walk)) →
          ((found place : Finding) → Good found → Also place → P (rest found place)) →
          ((one other : WalkState) → First one → Second other → P (Walks (Two one other))) →
          P (looks_twice w p s e n from m to rest)
      unfolding looks_twice
      looks_twice_any under begun_one begun_other none nor one_event other_event found walks = by_walk s.walk under
        where
          first_event : P (or_fails (lookup_fault w.tree n from Beneath Keep)
              (or_fails (lookup_fault w.tree m to Beneath Keep) (walked_both w p s e rest (begun n from Beneath Keep) (begun m to Beneath Keep))))
          first_event =
              or_fails_any _ _ (λ one. or_fails_any _ _ (λ other.
              walked_both_any (begun n from Beneath Keep) (begun m to Beneath Keep) (begun_one one) (begun_other other) none nor one_event other_event found walks))

          by_walk : (o : Option Walking) → IfTwo First Second o → P (resumed_both o
              (or_fails (lookup_fault w.tree n from Beneath Keep)
              (or_fails (lookup_fault w.tree m to Beneath Keep) (walked_both w p s e rest (begun n from Beneath Keep) (begun m to Beneath Keep))))
              (walked_both w p s e rest))
          by_walk None under = first_event
          by_walk (Some (One walk)) under = first_event
          by_walk (Some (Two one other)) under = walked_both_any one other under.0 under.1 none nor one_event other_event found walks
