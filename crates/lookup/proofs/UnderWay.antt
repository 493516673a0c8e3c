-- A lookup that is under way stays so from event to event, whatever becomes of the tree in between; and what it finds.
use Rattle.std.proofs.Common.{◌≡◌, ℕ, ◌+◌, ◌<◌, ◌≤◌, zero, suc, List, [], ◌∷◌, ◌++◌, Bool, true, false, Option, Some, None, length, ap, subst, sym, ◌∙◌, refl, arith}
use Rattle.std.specs.Prelude.{not, nat_le, ◌&&◌}
use Rattle.std.proofs.lemmas.Bool.{cond_both, leb-false}
use Rattle.rights.specs.Limits.{most_links}
use Rattle.file_tree.specs.Places.{at_name, is_file_name, path_components}
use Rattle.file_tree.specs.Nodes.{Dir, Node, node, child_of, parent_of, is_dir, is_link}
use Rattle.file_tree.specs.WellFormed.{IsTree}
use Rattle.file_tree.proofs.NodeLaws.{linked_there}
use Rattle.file_tree.proofs.TreeLaws.{child_is, child_parent, parent_is}
use Rattle.lookup.specs.Answers.{Way, Beneath, Global, Last, Follow, Keep, LookupFault, Loop, Finding, Found_node, Found_free, Not_found, is_kept}
use Rattle.lookup.specs.Paths.{has_path_bytes, is_bad_last, is_dot, is_dot_dot, is_unkept, last_component, last_or, path_fault}
use Rattle.lookup.specs.Leads.{Stand, Next, Goes, Ends, followed_from, next, next_from, onward}
use Rattle.lookup.specs.Steps.{Move, Moves, Meets, Stops, Rules, target_cursor}
use Rattle.lookup.specs.ByNodes.{Walked, by_nodes, from_node}
use Rattle.lookup.specs.Looks.{is_start_gone, lookup_fault, start_node}
use Rattle.lookup.specs.Promises.{HasName, IsFindingThere, IsFollowed, IsUnderName}
use Rattle.lookup.specs.UnderWay.{AreOpened, HasNamesLeft, IsUnderWay}
use Rattle.lookup.specs.Walks.{WalkState, Progress, Done, More, AreInTree, IsInTree, begun, first_handled, handled, settled, settled_at, unless_faulty}
use Rattle.lookup.proofs.Handling.{Handles, IsGoodProgress, handled_good}
use Rattle.lookup.proofs.PlaceLaws.{directory_kind, no_directory_link, not_dot, not_dot_dot, last_or-append}
use Rattle.lookup.proofs.TextLaws.{good_text, last_is_name}
use Rattle.lookup.proofs.Alike.{no_fault}

-- a free name is one in a linked directory that lacks it
pub record Vacant (t : List Node) (d : ℕ) (path : List ℕ) : Type 0 where
  pub linked : (node t d).linked ≡ true
  pub directory : (node t d).kind ≡ Dir
  pub absent : child_of t d (last_component path) ≡ None
  pub named : has_path_bytes path ≡ true → is_file_name (last_component path) ≡ true

abbrev pub MayMake : List Node → List ℕ → Finding → Type 0
MayMake t path (Found_node n) = Unit {0}
MayMake t path (Found_free d) = Vacant t d path
MayMake t path (Not_found fault) = Unit {0}

-- What is known of whatever a lookup finds in a tree. It doesn't name the start.
pub record Sure (t : List Node) (path : List ℕ) (last : Last) (found : Finding) : Type 0 where
  pub there : IsFindingThere t found
  pub vacant : MayMake t path found
  pub named : last ≡ Keep → IsUnderName t path found
  pub followed : last ≡ Follow → IsFollowed t found

-- what an event comes to: a finding that is sure, or names left
abbrev pub IsSureProgress : List Node → List ℕ → Way → Last → Progress → Type 0
IsSureProgress t path way last (Done found) = Sure t path last found
IsSureProgress t path way last (More walk) = IsUnderWay t path way last walk

-- a number that isn't a link's is in the list
pub there_if_opened : (t : List Node) (n : ℕ) → is_link (node t n).kind ≡ false → n < length t
there_if_opened [] n opened = absurd cc
there_if_opened (m ∷ t) zero opened = omega arith
there_if_opened (m ∷ t) (suc n) opened = let rest : n < length t = there_if_opened t n opened in omega arith

opened_in_tree : (t : List Node) (nodes : List ℕ) → AreOpened t nodes → AreInTree t nodes
opened_in_tree t [] opened = tt
opened_in_tree t (n ∷ nodes) opened = (there_if_opened t n opened.0, opened_in_tree t nodes opened.1)

pub under_way_in_tree : (t : List Node) (path : List ℕ) (way : Way) (last : Last) (walk : WalkState) → IsUnderWay t path way last walk → IsInTree t walk
under_way_in_tree t path way last walk is = opened_in_tree t (walk.stand.cursor.current ∷ walk.stand.cursor.before) is.opened

-- the last name left stays the last where others are put before it
left_behind : (path : List ℕ) (last : Last) (target : List (List ℕ)) (name next : List ℕ) (left : List (List ℕ)) →
    (last ≡ Keep → last_or name (next ∷ left) ≡ last_component path) → HasNamesLeft path last (target ++ next ∷ left)
left_behind path last [] name next left h = h
left_behind path last (x ∷ target) name next left h = λ keep. last_or-append x target next left ∙ h keep

not_kept_follows : (last : Last) → is_kept last [] ≡ false → last ≡ Follow
not_kept_follows Follow kept = refl
not_kept_follows Keep kept = cc

module _ (t : List Node) (path : List ℕ) (way : Way) (last : Last) (tree : IsTree t) (text : path_fault path way last ≡ None) where
  good_last : last ≡ Keep → is_bad_last (last_component path) ≡ false
  good_last keep = by_last last keep (good_text path way last text).kept
    where
      by_last : (l : Last) → l ≡ Keep → is_unkept l path ≡ false → is_bad_last (last_component path) ≡ false
      by_last Follow is h = absurd cc
      by_last Keep is h = h

  -- where it stands: with no name left that is what it finds, and else it is no link, and those before it neither
  abbrev Stood : Walked → List (List ℕ) → Type 0
  Stood at [] = Sure t path last (Found_node at.current)
  Stood at (name ∷ left) = AreOpened t (at.current ∷ at.before) × HasNamesLeft path last (name ∷ left)

  -- without a name left, where the last one isn't kept, or can't have been
  sure_node : (n : ℕ) → (node t n).linked ≡ true → (last ≡ Keep → ⊥) → is_link (node t n).kind ≡ false → Sure t path last (Found_node n)
  sure_node n linked never opened = record {
    there = record { there = linked_there t n linked; linked = linked };
    vacant = tt;
    named = λ keep. absurd (never keep);
    followed = λ follow. opened;
  }

  never_dot : (name : List ℕ) → is_dot name ≡ true → (last ≡ Keep → last_or name [] ≡ last_component path) → last ≡ Keep → ⊥
  never_dot name dot ends keep = not_dot name (last_component path) dot (good_last keep) (ends keep)

  never_dots : (name : List ℕ) → is_dot_dot name ≡ true → (last ≡ Keep → last_or name [] ≡ last_component path) → last ≡ Keep → ⊥
  never_dots name dots ends keep = not_dot_dot name (last_component path) dots (good_last keep) (ends keep)

  stood_stays : (at : Walked) (name : List ℕ) (left : List (List ℕ)) → Stood at (name ∷ left) → (node t at.current).linked ≡ true → is_dot name ≡ true → Stood at left
  stood_stays at name [] h linked dot = sure_node at.current linked (never_dot name dot h.1) h.0.0
  stood_stays at name (next ∷ left) h linked dot = h

  stood_up : (n d : ℕ) (before : List ℕ) (name : List ℕ) (left : List (List ℕ)) → Stood (record { current = n; before = d ∷ before }) (name ∷ left) →
      parent_of t n ≡ Some d → is_dot_dot name ≡ true → Stood (record { current = d; before = before }) left
  stood_up n d before name [] h held dots = sure_node d (parent_is t n d held).holder.linked (never_dots name dots h.1) h.0.1.0
  stood_up n d before name (next ∷ left) h held dots = (h.0.1, h.1)

  stood_top : (n : ℕ) (name : List ℕ) (left : List (List ℕ)) → Stood (from_node n) (name ∷ left) → (node t n).linked ≡ true → is_dot_dot name ≡ true → Stood (from_node n) left
  stood_top n name [] h linked dots = sure_node n linked (never_dots name dots h.1) h.0.0
  stood_top n name (next ∷ left) h linked dots = h

  not_link : (b k : Bool) → (b && not k) ≡ false → k ≡ false → b ≡ false
  not_link true true h kept = cc
  not_link true false h kept = cc
  not_link false k h kept = refl

  not_kept : (l : Last) (name : List ℕ) (left : List (List ℕ)) → is_kept l (name ∷ left) ≡ false
  not_kept Follow name left = refl
  not_kept Keep name left = refl

  follow_not_kept : (l : Last) → l ≡ Follow → is_kept l [] ≡ false
  follow_not_kept l is = rw is refl

  has_name : (at : Walked) (name : List ℕ) (n : ℕ) → child_of t at.current name ≡ Some n → name ≡ last_component path → HasName t n (last_component path)
  has_name at name n child same = record {
    parent = at.current;
    held = child_parent t at.current name n tree child;
    named = ap (child_of t at.current) (sym same) ∙ child;
    place = (child_is t at.current name n child).place ∙ ap (at_name (node t at.current).place) same;
  }

  stood_down : (at : Walked) (name : List ℕ) (left : List (List ℕ)) (n : ℕ) → Stood at (name ∷ left) → child_of t at.current name ≡ Some n →
      (is_link (node t n).kind && not (is_kept last left)) ≡ false → Stood (record { current = n; before = at.current ∷ at.before }) left
  stood_down at name [] n h child kind = record {
    there = record { there = (child_is t at.current name n child).there; linked = (child_is t at.current name n child).linked };
    vacant = tt;
    named = λ keep. has_name at name n child (h.1 keep);
    followed = λ follow. not_link (is_link (node t n).kind) (is_kept last []) kind (follow_not_kept last follow);
  }
  stood_down at name (next ∷ left) n h child kind = ((not_link (is_link (node t n).kind) (is_kept last (next ∷ left)) kind (not_kept last next left), h.0), h.1)

  never_keeps : last ≡ Follow → last ≡ Keep → ⊥
  never_keeps follow keep = absurd cc

  -- a link whose target has no names, with none left behind it, leads to where it was met
  stood_at_link : (at : Walked) (name : List ℕ) (target left : List (List ℕ)) → AreOpened t (at.current ∷ at.before) → (node t at.current).linked ≡ true →
      (last ≡ Keep → last_or name left ≡ last_component path) → is_kept last left ≡ false → Stood at (target ++ left)
  stood_at_link at name target (next ∷ left) opened linked ends kept = by_target target (left_behind path last target name next left ends)
    where
      by_target : (names : List (List ℕ)) → HasNamesLeft path last (names ++ next ∷ left) → Stood at (names ++ next ∷ left)
      by_target [] has = (opened, has)
      by_target (x ∷ names) has = (opened, has)
  stood_at_link at name [] [] opened linked ends kept = sure_node at.current linked (never_keeps (not_kept_follows last kept)) opened.0
  stood_at_link at name (x ∷ target) [] opened linked ends kept = (opened, λ keep. absurd (never_keeps (not_kept_follows last kept) keep))

  stood_free : (at : Walked) (name : List ℕ) (left : List (List ℕ)) → Stood at (name ∷ left) → is_dir (node t at.current).kind ≡ true →
      (node t at.current).linked ≡ true → child_of t at.current name ≡ None → is_kept last left ≡ true → Sure t path last (Found_free at.current)
  stood_free at name left h dir linked none kept = by_last last left refl refl kept
    where
      made : last ≡ Keep → name ≡ last_component path → Sure t path last (Found_free at.current)
      made keep same = record {
        there = record { there = linked_there t at.current linked; linked = linked };
        vacant = record {
          linked = linked;
          directory = directory_kind (node t at.current).kind dir;
          absent = ap (child_of t at.current) (sym same) ∙ none;
          named = last_is_name path (good_text path way last text).short (good_last keep);
        };
        named = λ keep. tt;
        followed = λ follow. absurd (never_keeps follow keep);
      }

      by_last : (l : Last) (names : List (List ℕ)) → l ≡ last → names ≡ left → is_kept l names ≡ true → Sure t path last (Found_free at.current)
      by_last Follow names is same kept = absurd cc
      by_last Keep [] is same kept = made (sym is) (only (h.1 (sym is)))
        where
          only : last_or name left ≡ last_component path → name ≡ last_component path
          only = subst (λ names. last_or name names ≡ last_component path → name ≡ last_component path) same (λ h. h)
      by_last Keep (next ∷ names) is same kept = absurd cc

  stood_handles : Handles t way last Stood Stood (Sure t path last)
  stood_handles = record {
    arrives = λ at h. h;
    settles = λ at h. h;
    stays = stood_stays;
    up = stood_up;
    top = λ n name left global h linked dots. stood_top n name left h linked dots;
    down = stood_down;
    link = λ at name left n h child link kept. stood_at_link at name (path_components (node t n).content) left h.0 (child_is t at.current name n child).holder h.1 kept;
    link_root = λ at name left n global h child link kept.
        stood_at_link (from_node 0) name (path_components (node t n).content) left (no_directory_link (node t 0).kind tree.root_kind, tt) tree.root_linked h.1 kept;
    free = stood_free;
    not_found = λ fault. record { there = tt; vacant = tt; named = λ keep. tt; followed = λ follow. tt };
  }

  stood_under_way : (walk : WalkState) → walk.way ≡ way → walk.last ≡ last → (left : List (List ℕ)) → walk.stand.left ≡ left → HasNamesLeft path last left → Stood walk.stand.cursor left →
      walk.stand.followed ≤ most_links → IsUnderWay t path way last walk
  stood_under_way walk way_is last_is [] is has h few = absurd has
  stood_under_way walk way_is last_is (name ∷ left) is has h few = record { same_way = way_is; same_last = last_is; text = text; opened = h.0; left = rw is h.1; few = few }

-- an event that leaves names keeps the rules
record KeepsRules (walk after : WalkState) : Type 0 where
  same_way : after.way ≡ walk.way
  same_last : after.last ≡ walk.last

abbrev IsSome : List (List ℕ) → Type 0
IsSome [] = ⊥
IsSome (name ∷ left) = Unit {0}

more_keeps : (t : List Node) (walk after : WalkState) → handled t walk ≡ More after → KeepsRules walk after × IsSome after.stand.left
unfolding handled
more_keeps t walk after = by_next (next (by_nodes t walk.way walk.last) walk.stand)
  where
    by_left : (stand : Stand Walked) (left : List (List ℕ)) → stand.left ≡ left → settled_at walk stand left ≡ More after → KeepsRules walk after × IsSome after.stand.left
    by_left stand [] is event = absurd cc
    by_left stand (name ∷ left) is event =
        let same : record walk { stand = stand } ≡ after = cc in
        subst (λ (v : WalkState). KeepsRules walk v × IsSome v.stand.left) same (record { same_way = refl; same_last = refl }, rw is tt)

    by_next : (n : Next Walked) → settled walk n ≡ More after → KeepsRules walk after × IsSome after.stand.left
    by_next (Goes stand) event = by_left stand stand.left refl event
    by_next (Ends finding) event = absurd cc

-- no name leads on by a 33rd link
abbrev IfFew : {Cursor : Type 0} → Next Cursor → Type 0
IfFew (Goes stand) = stand.followed ≤ most_links
IfFew (Ends finding) = Unit {0}

next_few : {Cursor : Type 0} (rules : Rules Cursor) (cursor : Cursor) (left : List (List ℕ)) (followed : ℕ) → followed ≤ most_links → IfFew (next_from rules cursor left followed)
next_few rules cursor [] followed few = tt
next_few {Cursor} rules cursor (name ∷ left) followed few = by_move (rules.component cursor name left)
  where
    by_cursor : (names : List (List ℕ)) (so_far : ℕ) (o : Option Cursor) → so_far ≤ most_links → IfFew (followed_from names so_far o)
    by_cursor names so_far None few = tt
    by_cursor names so_far (Some to) few = few

    by_move : (move : Move Cursor) → IfFew (onward rules cursor left followed move)
    by_move (Moves to) = few
    by_move (Stops answer) = tt
    by_move (Meets target) =
        cond_both (nat_le most_links followed) (Ends (Not_found Loop)) (followed_from (path_components target ++ left) (followed + 1) (target_cursor rules cursor target)) IfFew
        (λ many. tt)
        (λ below. let less : followed < most_links = leb-false most_links followed below in
        by_cursor (path_components target ++ left) (followed + 1) (target_cursor rules cursor target) (omega (arith, less)))

more_few : (t : List Node) (walk after : WalkState) → walk.stand.followed ≤ most_links → handled t walk ≡ More after → after.stand.followed ≤ most_links
unfolding handled
more_few t walk after few =
    by_next (next (by_nodes t walk.way walk.last) walk.stand) (next_few (by_nodes t walk.way walk.last) walk.stand.cursor walk.stand.left walk.stand.followed few)
  where
    by_left : (stand : Stand Walked) (left : List (List ℕ)) → stand.followed ≤ most_links → settled_at walk stand left ≡ More after → after.stand.followed ≤ most_links
    by_left stand [] fine event = absurd cc
    by_left stand (name ∷ left) fine event =
        let same : record walk { stand = stand } ≡ after = cc in subst (λ (v : WalkState). v.stand.followed ≤ most_links) same fine

    by_next : (n : Next Walked) → IfFew n → settled walk n ≡ More after → after.stand.followed ≤ most_links
    by_next (Goes stand) fine event = by_left stand stand.left fine event
    by_next (Ends finding) fine event = absurd cc

module _ (t : List Node) (path : List ℕ) (way : Way) (last : Last) (tree : IsTree t) where
  stood_names : (text : path_fault path way last ≡ None) (at : Walked) (left : List (List ℕ)) → IsSome left → Stood t path way last tree text at left → HasNamesLeft path last left
  stood_names text at [] some h = absurd some
  stood_names text at (name ∷ left) some h = h.1

  progress_sure : (text : path_fault path way last ≡ None) (walk : WalkState) → walk.way ≡ way → walk.last ≡ last →
      Stood t path way last tree text walk.stand.cursor walk.stand.left → walk.stand.followed ≤ most_links → IsSureProgress t path way last (handled t walk)
  progress_sure text walk way_is last_is h few =
      by_event (handled t walk) refl (handled_good t way last _ _ _ (stood_handles t path way last tree text) walk way_is last_is h)
    where
      by_event : (event : Progress) → handled t walk ≡ event → IsGoodProgress t way last _ _ _ (stood_handles t path way last tree text) event → IsSureProgress t path way last event
      by_event (Done finding) is good = good
      by_event (More after) is good =
          let kept = more_keeps t walk after is in
          stood_under_way t path way last tree text after (kept.0.same_way ∙ way_is) (kept.0.same_last ∙ last_is) after.stand.left refl
          (stood_names text after.stand.cursor after.stand.left kept.1 good) good (more_few t walk after few is)

  under_way_stood : (walk : WalkState) (is : IsUnderWay t path way last walk) → Stood t path way last tree is.text walk.stand.cursor walk.stand.left
  under_way_stood walk is = by_left walk.stand.left is.left
    where
      by_left : (left : List (List ℕ)) → HasNamesLeft path last left → Stood t path way last tree is.text walk.stand.cursor left
      by_left [] has = absurd has
      by_left (name ∷ left) has = (is.opened, has)

  -- A lookup that is under way finds what is sure, or stays under way.
  pub under_way_sure : (walk : WalkState) → IsUnderWay t path way last walk → IsSureProgress t path way last (handled t walk)
  under_way_sure walk is = progress_sure is.text walk is.same_way is.same_last (under_way_stood walk is) is.few

  pub sure_fault : (fault : LookupFault) → Sure t path last (Not_found fault)
  sure_fault fault = record { there = tt; vacant = tt; named = λ keep. tt; followed = λ follow. tt }

  module _ (start : ℕ) (opened : is_link (node t start).kind ≡ false) where
    start_opened : (w : Way) → is_link (node t (start_node start w)).kind ≡ false
    start_opened Beneath = opened
    start_opened Global = no_directory_link (node t 0).kind tree.root_kind

    start_linked : (w : Way) → is_start_gone t start w ≡ false → (node t (start_node start w)).linked ≡ true
    start_linked Beneath stays = not_false (node t start).linked stays
      where
        not_false : (b : Bool) → not b ≡ false → b ≡ true
        not_false true h = refl
        not_false false h = cc
    start_linked Global stays = tree.root_linked

    begun_stood : (text : path_fault path way last ≡ None) → is_start_gone t start way ≡ false →
        Stood t path way last tree text (from_node (start_node start way)) (path_components path)
    unfolding last_component
    begun_stood text stays = by_names (path_components path) refl
      where
        no_names : (names : List (List ℕ)) → names ≡ [] → last ≡ Keep → is_bad_last (last_or [] names) ≡ false → ⊥
        no_names names none keep good = let bad : true ≡ false = rw none at good in cc

        by_names : (names : List (List ℕ)) → path_components path ≡ names → Stood t path way last tree text (from_node (start_node start way)) names
        by_names [] is = sure_node t path way last tree text (start_node start way) (start_linked way stays)
            (λ keep. no_names (path_components path) is keep (good_last t path way last tree text keep)) (start_opened way)
        by_names (name ∷ names) is = ((start_opened way, tt), λ keep. ap (last_or []) (sym is))

    -- Before its first name it is under way, if the last one is to be kept.
    pub begun_under_way : last ≡ Keep → lookup_fault t start path way last ≡ None → IsUnderWay t path way last (begun start path way last)
    unfolding last_component
    begun_under_way keep none = record {
      same_way = refl;
      same_last = refl;
      text = good.0;
      opened = (start_opened way, tt);
      left = some_names (path_components path) refl;
      few = omega arith;
    }
      where
        good : (path_fault path way last ≡ None) × (is_start_gone t start way ≡ false)
        good = no_fault t start path way last none

        some_names : (names : List (List ℕ)) → path_components path ≡ names → HasNamesLeft path last names
        some_names [] is = let bad : true ≡ false = rw is at (good_last t path way last tree good.0 keep) in absurd cc
        some_names (name ∷ names) is = λ keep. ap (last_or []) (sym is)

    -- So does its first event.
    pub begun_sure : IsSureProgress t path way last (first_handled t start path way last)
    unfolding first_handled
    begun_sure = by_fault (lookup_fault t start path way last) refl
      where
        by_fault : (fault : Option LookupFault) → lookup_fault t start path way last ≡ fault →
            IsSureProgress t path way last (unless_faulty fault (handled t (begun start path way last)))
        by_fault None none =
            let good = no_fault t start path way last none in
            progress_sure good.0 (begun start path way last) refl refl (begun_stood good.0 good.1) (omega arith)
        by_fault (Some fault) is = sure_fault fault
