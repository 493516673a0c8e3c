-- What an event of a lookup beneath a directory finds, or leaves under way, lies in each grant that holds the directory.
use Rattle.std.proofs.Common.{◌≡◌, ℕ, ◌+◌, ◌<◌, true, false, List, [], ◌∷◌, ◌++◌, Option, Some, None, refl, sym, subst, length, arith}
use Rattle.file_tree.specs.Places.{at_name, path_components}
use Rattle.file_tree.specs.Nodes.{Node, node, child_of, is_link}
use Rattle.file_tree.specs.WellFormed.{IsTree}
use Rattle.file_tree.proofs.PlaceLaws.{at_name_length, begins_append, begins_from}
use Rattle.file_tree.proofs.TreeLaws.{child_is}
use Rattle.lookup.specs.Answers.{Beneath, Last, Follow, Keep, LookupFault, Finding, Not_found, is_kept}
use Rattle.lookup.specs.ByNodes.{Walked}
use Rattle.lookup.specs.Looks.{lookup_fault}
use Rattle.lookup.specs.Paths.{is_bad_last, is_dot, is_dot_dot, is_unkept, last_component, path_fault}
use Rattle.lookup.specs.UnderWay.{HasNamesLeft, IsUnderWay}
use Rattle.lookup.specs.Walks.{WalkState, Progress, Done, More, begun, first_handled, handled, unless_faulty}
use Rattle.lookup.proofs.Alike.{no_fault}
use Rattle.lookup.proofs.Handling.{Handles, IsGoodProgress, handled_good}
use Rattle.lookup.proofs.PlaceLaws.{not_dot, not_dot_dot}
use Rattle.lookup.proofs.TextLaws.{good_text}
use Rattle.lookup.proofs.UnderWay.{IsSureProgress, begun_sure, begun_under_way, under_way_sure}
use Rattle.kernel.proofs.Looking.{IsEvent}
use Rattle.task.specs.Plans.{Grant}
use Rattle.task.specs.Policies.{grant_holds}
use Rattle.rules.proofs.worlds.Walks.{AllIn, IsBeside}
use Rattle.rules.proofs.frames.GrantPlaces.{IsDeepIn, holds_on, deep_on}
use Rattle.rules.proofs.findings.Findings.{IsFoundIn, IsFoundDeep, FoundBeneath}

-- ## One grant
module _ (grants : List Grant) (name : List ℕ) (t : List Node) (path : List ℕ) (last : Last) where
  -- where a lookup stands before a name; after it, with none left, it stands at what it finds
  abbrev Before : Walked → List (List ℕ) → Type 0
  Before at left = AllIn grants name t (at.current ∷ at.before) × (last ≡ Keep → HasNamesLeft path last left)

  abbrev IsDone : ℕ → List (List ℕ) → Type 0
  IsDone n [] = last ≡ Keep → IsDeepIn grants name (node t n).place
  IsDone n (next ∷ left) = Unit {0}

  abbrev After : Walked → List (List ℕ) → Type 0
  After at left = AllIn grants name t (at.current ∷ at.before) × IsDone at.current left

  abbrev IsGood : Finding → Type 0
  IsGood a = IsFoundIn grants name t a × (last ≡ Keep → IsFoundDeep grants name t path a)

  abbrev Comes : Progress → Type 0
  Comes (Done a) = IsGood a
  Comes (More walk) = AllIn grants name t (walk.stand.cursor.current ∷ walk.stand.cursor.before)

  -- a name in a node of the grant
  name_in : (d : ℕ) (next : List ℕ) → grant_holds grants name (node t d).place ≡ true → IsDeepIn grants name (at_name (node t d).place next)
  name_in d next held =
      let count : length (at_name (node t d).place next) ≡ length (node t d).place + 1 = at_name_length (node t d).place next in
      let longer : length (node t d).place < length (at_name (node t d).place next) = omega arith in
      deep_on grants name (node t d).place (at_name (node t d).place next) held (begins_append (node t d).place (next ∷ [])) longer

  child_deep : (d : ℕ) (next : List ℕ) (n : ℕ) → grant_holds grants name (node t d).place ≡ true → child_of t d next ≡ Some n → IsDeepIn grants name (node t n).place
  child_deep d next n held child = subst (IsDeepIn grants name) (sym (child_is t d next n child).place) (name_in d next held)

  child_in : (d : ℕ) (next : List ℕ) (n : ℕ) → grant_holds grants name (node t d).place ≡ true → child_of t d next ≡ Some n → grant_holds grants name (node t n).place ≡ true
  child_in d next n held child =
      holds_on grants name (node t d).place (node t n).place held (begins_from (node t d).place (node t n).place (next ∷ []) (child_is t d next n child).place)

  kept_last : (l : Last) → l ≡ Keep → is_kept l [] ≡ false → ⊥
  kept_last Follow keep kept = absurd cc
  kept_last Keep keep kept = absurd cc

  -- behind a link's target
  link_done : (n : ℕ) (target left : List (List ℕ)) → is_kept last left ≡ false → IsDone n (target ++ left)
  link_done n [] [] kept = λ keep. absurd (kept_last last keep kept)
  link_done n [] (next ∷ left) kept = tt
  link_done n (next ∷ target) left kept = tt

  module _ (text : path_fault path Beneath last ≡ None) where
    good_last : last ≡ Keep → is_bad_last (last_component path) ≡ false
    good_last keep = by_last last keep (good_text path Beneath last text).kept
      where
        by_last : (l : Last) → l ≡ Keep → is_unkept l path ≡ false → is_bad_last (last_component path) ≡ false
        by_last Follow is h = absurd cc
        by_last Keep is h = h

    -- the last name that is kept is neither `.` nor `..`
    never_dot : (n : ℕ) (next : List ℕ) (left : List (List ℕ)) → is_dot next ≡ true → (last ≡ Keep → HasNamesLeft path last (next ∷ left)) → IsDone n left
    never_dot n next [] dot names = λ keep. absurd (not_dot next (last_component path) dot (good_last keep) (names keep keep))
    never_dot n next (x ∷ left) dot names = tt

    never_dots : (n : ℕ) (next : List ℕ) (left : List (List ℕ)) → is_dot_dot next ≡ true → (last ≡ Keep → HasNamesLeft path last (next ∷ left)) → IsDone n left
    never_dots n next [] dots names = λ keep. absurd (not_dot_dot next (last_component path) dots (good_last keep) (names keep keep))
    never_dots n next (x ∷ left) dots names = tt

    down_done : (d : ℕ) (next : List ℕ) (left : List (List ℕ)) (n : ℕ) → grant_holds grants name (node t d).place ≡ true → child_of t d next ≡ Some n → IsDone n left
    down_done d next [] n held child = λ keep. child_deep d next n held child
    down_done d next (x ∷ left) n held child = tt

    beneath_handles : Handles t Beneath last Before After IsGood
    beneath_handles = record {
      arrives = λ at h. (h.0.0, λ keep. absurd (h.1 keep));
      settles = λ at h. (h.0.0, h.1);
      stays = λ at next left h linked dot. (h.0, never_dot at.current next left dot h.1);
      up = λ n d before next left h held dots. (h.0.1, never_dots d next left dots h.1);
      top = λ n next left global h linked dots. absurd cc;
      down = λ at next left n h child kind. ((child_in at.current next n h.0.0 child, h.0), down_done at.current next left n h.0.0 child);
      link = λ at next left n h child link kept. (h.0, link_done at.current (path_components (node t n).content) left kept);
      link_root = λ at next left n global h child link kept. absurd cc;
      free = λ at next left h dir linked none kept. (h.0.0, λ keep. name_in at.current (last_component path) h.0.0);
      not_found = λ fault. (tt, λ keep. tt);
    }

    comes : (walk : WalkState) → walk.way ≡ Beneath → walk.last ≡ last → Before walk.stand.cursor walk.stand.left → Comes (handled t walk)
    comes walk way_is last_is before = by_event (handled t walk) (handled_good t Beneath last Before After IsGood beneath_handles walk way_is last_is before)
      where
        by_event : (event : Progress) → IsGoodProgress t Beneath last Before After IsGood beneath_handles event → Comes event
        by_event (Done a) good = good
        by_event (More after) good = good.0

-- ## All grants
module _ (grants : List Grant) (t : List Node) (tree : IsTree t) (start : ℕ) (path : List ℕ) (last : Last) where
  -- what is known of a lookup under way
  abbrev pub IsWalkBeneath : WalkState → Type 0
  IsWalkBeneath walk = IsUnderWay t path Beneath last walk × IsBeside grants t start walk.stand.cursor

  abbrev pub IsEventBeneath : Progress → Type 0
  IsEventBeneath event = IsEvent (FoundBeneath grants t start path last) IsWalkBeneath event

  event_beneath : (event : Progress) → IsSureProgress t path Beneath last event
      → ((name : List ℕ) → grant_holds grants name (node t start).place ≡ true → Comes grants name t path last event) → IsEventBeneath event
  event_beneath (Done a) sure each = record {
    found = record { there = sure.there; followed = sure.followed };
    within = λ name held. (each name held).0;
    deep = λ keep name held. (each name held).1 keep;
  }
  event_beneath (More walk) sure each = (sure, record { within = each })

  pub later_beneath : (walk : WalkState) → IsWalkBeneath walk → IsEventBeneath (handled t walk)
  later_beneath walk is =
      event_beneath (handled t walk) (under_way_sure t path Beneath last tree walk is.0)
      (λ name held. comes grants name t path last is.0.text walk is.0.same_way is.0.same_last (is.1.within name held, λ keep. is.0.left))

  pub fault_beneath : (fault : LookupFault) → FoundBeneath grants t start path last (Not_found fault)
  fault_beneath fault = record { found = record { there = tt; followed = λ follow. tt }; within = λ name held. tt; deep = λ keep name held. tt }

  module _ (opened : is_link (node t start).kind ≡ false) where
    pub begun_beneath : last ≡ Keep → lookup_fault t start path Beneath last ≡ None → IsWalkBeneath (begun start path Beneath last)
    begun_beneath keep none = (begun_under_way t path Beneath last tree start opened keep none, record { within = λ name held. (held, tt) })

    pub first_beneath : IsEventBeneath (first_handled t start path Beneath last)
    unfolding first_handled
    first_beneath =
        event_beneath (first_handled t start path Beneath last) (begun_sure t path Beneath last tree start opened) (λ name held. by_fault name held)
      where
        by_fault : (name : List ℕ) → grant_holds grants name (node t start).place ≡ true → Comes grants name t path last (first_handled t start path Beneath last)
        by_fault name held = go (lookup_fault t start path Beneath last) refl
          where
            go : (o : Option LookupFault) → lookup_fault t start path Beneath last ≡ o
                → Comes grants name t path last (unless_faulty o (handled t (begun start path Beneath last)))
            go None none =
                comes grants name t path last (no_fault t start path Beneath last none).0 (begun start path Beneath last) refl refl
                ((held, tt), λ keep. (begun_under_way t path Beneath last tree start opened keep none).left)
            go (Some fault) is = (tt, λ keep. tt)
