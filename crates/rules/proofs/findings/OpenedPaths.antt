-- What an event of a lookup in the global name space finds, or leaves under way: with a grant's path it goes along that path.
use Rattle.std.proofs.Common.{◌≡◌, ℕ, zero, suc, Bool, true, false, List, [], ◌∷◌, ◌++◌, append_assoc, refl, ap, sym, ◌∙◌, subst, cond}
use Rattle.std.specs.Prelude.{Option, Some, None}
use Rattle.std.specs.List.{slice_get, list_all}
use Rattle.std.specs.Str.{bytes_eq}
use Rattle.std.proofs.lemmas.Bool.{and_parts}
use Rattle.std.proofs.lemmas.List.{append-nil}
use Rattle.std.proofs.lemmas.List.Folds.{list_all-append}
use Rattle.rights.proofs.Words.{same_bytes}
use Rattle.file_tree.specs.Places.{at_name, begins, is_file_name, path_components, place_text}
use Rattle.file_tree.specs.Nodes.{Node, node, child_of, is_link}
use Rattle.file_tree.specs.WellFormed.{IsTree}
use Rattle.file_tree.proofs.KeptByCreate.{names_kept}
use Rattle.file_tree.proofs.NodeLaws.{Directory, directory, linked_there}
use Rattle.file_tree.proofs.PlaceLaws.{begins_refl}
use Rattle.file_tree.proofs.PlaceTexts.{components_of_text}
use Rattle.file_tree.proofs.TreeLaws.{child_is}
use Rattle.lookup.specs.Answers.{Global, Last, LookupFault, Finding, Found_node, Found_free, Not_found}
use Rattle.lookup.specs.ByNodes.{Walked, from_node}
use Rattle.lookup.specs.Looks.{lookup_fault}
use Rattle.lookup.specs.Paths.{is_dot, is_dot_dot}
use Rattle.lookup.specs.UnderWay.{IsUnderWay}
use Rattle.lookup.specs.Walks.{WalkState, Progress, Done, More, begun, first_handled, handled, unless_faulty}
use Rattle.lookup.proofs.AlongLaws.{front_directory, no_dots}
use Rattle.lookup.proofs.Handling.{Handles, IsGoodProgress, handled_good}
use Rattle.lookup.proofs.PlaceLaws.{no_directory_link}
use Rattle.lookup.proofs.UnderWay.{IsSureProgress, begun_sure, under_way_sure}
use Rattle.certificate.specs.Bounds.{In_grant}
use Rattle.certificate.specs.Describes.{Node_at, target_describes}
use Rattle.kernel.specs.World.{World}
use Rattle.kernel.proofs.Looking.{IsEvent}
use Rattle.task.specs.Plans.{Grant, Plan}
use Rattle.task.specs.Policies.{holds_in, grant_holds}
use Rattle.task.specs.KeptLimits.{KeepsGrants}
use Rattle.rules.specs.Outcomes.{target_of_path}
use Rattle.rules.proofs.worlds.Invariant.{AreClear}
use Rattle.rules.proofs.worlds.Walks.{IsAlong, IsOpening}
use Rattle.rules.proofs.findings.Findings.{FoundOpened, IsTargeted}

-- ## Along a place
module _ (t : List Node) (tree : IsTree t) (last : Last) (place : List (List ℕ)) (d : Directory t place) where
  names_valid : list_all is_file_name place ≡ true
  names_valid = subst (λ p. list_all is_file_name p ≡ true) d.place (names_kept t tree d.number d.linked)

  name_valid : (front : List (List ℕ)) (name : List ℕ) (left : List (List ℕ)) → place ≡ front ++ name ∷ left → is_file_name name ≡ true
  name_valid front name left whole =
      let behind : list_all is_file_name (name ∷ left) ≡ true =
      (and_parts (list_all is_file_name front) (list_all is_file_name (name ∷ left))
      (sym (list_all-append is_file_name front (name ∷ left)) ∙ ap (list_all is_file_name) (sym whole) ∙ names_valid)).1 in
      (and_parts (is_file_name name) (list_all is_file_name left) behind).0

  -- a directory stands at the front of a place, as one does at the place
  directory_at : (front : List (List ℕ)) (name : List ℕ) (left : List (List ℕ)) → place ≡ front ++ name ∷ left → Directory t (at_name front name)
  directory_at front name [] whole = record { number = d.number; linked = d.linked; kind = d.kind; place = d.place ∙ whole }
  directory_at front name (x ∷ left) whole =
      front_directory t (at_name front name) x left d.number tree (record {
        there = linked_there t d.number d.linked;
        linked = d.linked;
        place = d.place ∙ whole ∙ sym (append_assoc front (name ∷ []) (x ∷ left));
      })

  -- so what has the next name is that directory
  child_stands : (at : Walked) (name : List ℕ) (left : List (List ℕ)) (n : ℕ) (is : IsAlong t place at (name ∷ left)) → child_of t at.current name ≡ Some n
      → (node t n).place ≡ at_name is.front name
  child_stands at name left n is child = (child_is t at.current name n child).place ∙ ap (λ (p : List (List ℕ)). at_name p name) is.stands

  child_opened : (at : Walked) (name : List ℕ) (left : List (List ℕ)) (n : ℕ) → IsAlong t place at (name ∷ left) → child_of t at.current name ≡ Some n
      → is_link (node t n).kind ≡ false
  child_opened at name left n is child =
      let there : Directory t (at_name is.front name) = directory_at is.front name left is.whole in
      let same : n ≡ there.number = tree.apart n there.number (child_is t at.current name n child).linked there.linked (child_stands at name left n is child ∙ sym there.place) in
      no_directory_link (node t n).kind (ap (λ (k : ℕ). (node t k).kind) same ∙ there.kind)

  abbrev Stands : Finding → Type 0
  Stands (Found_node n) = (node t n).place ≡ place
  Stands (Found_free k) = Unit {0}
  Stands (Not_found fault) = Unit {0}

  arrived : (at : Walked) → IsAlong t place at [] → (node t at.current).place ≡ place
  arrived at is = is.stands ∙ sym (is.whole ∙ append-nil is.front)

  never_dot : (at : Walked) (name : List ℕ) (left : List (List ℕ)) → IsAlong t place at (name ∷ left) → is_dot name ≡ true → ⊥
  never_dot at name left is dot = let none : is_dot name ≡ false = (no_dots name (name_valid is.front name left is.whole)).0 in cc

  never_dots : (at : Walked) (name : List ℕ) (left : List (List ℕ)) → IsAlong t place at (name ∷ left) → is_dot_dot name ≡ true → ⊥
  never_dots at name left is dots = let none : is_dot_dot name ≡ false = (no_dots name (name_valid is.front name left is.whole)).1 in cc

  never_link : (at : Walked) (name : List ℕ) (left : List (List ℕ)) (n : ℕ) → IsAlong t place at (name ∷ left) → child_of t at.current name ≡ Some n
      → is_link (node t n).kind ≡ true → ⊥
  never_link at name left n is child link = let none : is_link (node t n).kind ≡ false = child_opened at name left n is child in cc

  along_handles : Handles t Global last (IsAlong t place) (IsAlong t place) Stands
  along_handles = record {
    arrives = arrived;
    settles = arrived;
    stays = λ at name left is linked dot. absurd (never_dot at name left is dot);
    up = λ n k before name left is held dots. absurd (never_dots (record { current = n; before = k ∷ before }) name left is dots);
    top = λ n name left global is linked dots. absurd (never_dots (from_node n) name left is dots);
    down = λ at name left n is child kind. record {
      front = at_name is.front name;
      whole = is.whole ∙ sym (append_assoc is.front (name ∷ []) left);
      opened = child_opened at name left n is child;
      stands = child_stands at name left n is child;
    };
    link = λ at name left n is child link kept. absurd (never_link at name left n is child link);
    link_root = λ at name left n global is child link kept. absurd (never_link at name left n is child link);
    free = λ at name left is dir linked none kept. tt;
    not_found = λ fault. tt;
  }

  abbrev Comes : Progress → Type 0
  Comes (Done a) = Stands a
  Comes (More walk) = IsAlong t place walk.stand.cursor walk.stand.left

  comes : (walk : WalkState) → walk.way ≡ Global → walk.last ≡ last → IsAlong t place walk.stand.cursor walk.stand.left → Comes (handled t walk)
  comes walk way_is last_is is = by_event (handled t walk) (handled_good t Global last (IsAlong t place) (IsAlong t place) Stands along_handles walk way_is last_is is)
    where
      by_event : (event : Progress) → IsGoodProgress t Global last (IsAlong t place) (IsAlong t place) Stands along_handles event → Comes event
      by_event (Done a) good = good
      by_event (More after) good = good

  -- before the first name, where the path spells the place
  along_root : (path : List ℕ) → place_text place ≡ path → IsAlong t place (from_node 0) (path_components path)
  along_root path same = record {
    front = [];
    whole = sym (components_of_text place names_valid) ∙ ap path_components same;
    opened = no_directory_link (node t 0).kind tree.root_kind;
    stands = tree.root_place;
  }

-- ## All grants
module _ (plan : Plan) (grants : KeepsGrants plan) (w : World) (tree : IsTree w.tree) (clear : AreClear plan w) (path : List ℕ) (last : Last) where
  abbrev IsSpelled : (Grant → Type 0) → Type 0
  IsSpelled P = (i : ℕ) (g : Grant) → slice_get plan.grants i ≡ Some g → place_text g.path ≡ path → P g

  in_grant : (j : ℕ) (g : Grant) → slice_get plan.grants j ≡ Some g → (n : ℕ) → (node w.tree n).place ≡ g.path → grant_holds plan.grants g.name (node w.tree n).place ≡ true
  in_grant j g there n place =
      subst (λ o. holds_in o (node w.tree n).place ≡ true) (sym (grants.found j g there)) (subst (λ p. begins g.path p ≡ true) (sym place) (begins_refl g.path))

  -- a node that stands where a grant's path leads is what the path targets
  targeted : (n : ℕ) → IsSpelled (λ g. (node w.tree n).place ≡ g.path) → (gs : List Grant)
      → ((i : ℕ) (g : Grant) → slice_get gs i ≡ Some g → (j : ℕ) × (slice_get plan.grants j ≡ Some g))
      → target_describes (grant_holds plan.grants) (target_of_path gs path) (Node_at (node w.tree n).place) ≡ true
  targeted n stands [] among = refl
  targeted n stands (g ∷ gs) among = go (bytes_eq (place_text g.path) path) refl (targeted n stands gs (λ i h at. among (suc i) h at))
    where
      go : (b : Bool) → bytes_eq (place_text g.path) path ≡ b
          → target_describes (grant_holds plan.grants) (target_of_path gs path) (Node_at (node w.tree n).place) ≡ true
          → target_describes (grant_holds plan.grants) (cond b (In_grant g.name) (target_of_path gs path)) (Node_at (node w.tree n).place) ≡ true
      go false is rest = rest
      go true is rest =
          let own = among zero g refl in
          in_grant own.0 g own.1 n (stands own.0 g own.1 (same_bytes (place_text g.path) path is))

  -- what is known of a lookup under way
  abbrev pub IsWalkOpening : WalkState → Type 0
  IsWalkOpening walk = IsUnderWay w.tree path Global last walk × IsOpening plan.grants w.tree path walk

  abbrev pub IsEventOpening : Progress → Type 0
  IsEventOpening event = IsEvent (FoundOpened plan.grants w.tree path last) IsWalkOpening event

  at_grant : (i : ℕ) (g : Grant) → slice_get plan.grants i ≡ Some g → Directory w.tree g.path
  at_grant i g there = directory w.tree g.path (clear i g there)

  abbrev ComesEach : Progress → Type 0
  ComesEach event = (i : ℕ) (g : Grant) (there : slice_get plan.grants i ≡ Some g) → place_text g.path ≡ path → Comes w.tree tree last g.path (at_grant i g there) event

  found_target : (a : Finding) → ComesEach (Done a) → IsTargeted plan.grants w.tree (target_of_path plan.grants path) a
  found_target (Found_node n) each = targeted n each plan.grants (λ i g at. (i, at))
  found_target (Found_free d) each = tt
  found_target (Not_found fault) each = tt

  event_opening : (event : Progress) → IsSureProgress w.tree path Global last event → ComesEach event → IsEventOpening event
  event_opening (Done a) sure each = record { found = record { there = sure.there; followed = sure.followed }; targeted = found_target a each }
  event_opening (More walk) sure each = (sure, record { along = each })

  pub later_opening : (walk : WalkState) → IsWalkOpening walk → IsEventOpening (handled w.tree walk)
  later_opening walk is =
      event_opening (handled w.tree walk) (under_way_sure w.tree path Global last tree walk is.0)
      (λ i g there same. comes w.tree tree last g.path (at_grant i g there) walk is.0.same_way is.0.same_last (is.1.along i g there same))

  pub first_opening : IsEventOpening (first_handled w.tree 0 path Global last)
  unfolding first_handled
  first_opening =
      event_opening (first_handled w.tree 0 path Global last) (begun_sure w.tree path Global last tree 0 (no_directory_link (node w.tree 0).kind tree.root_kind)) first_comes
    where
      first_comes : ComesEach (first_handled w.tree 0 path Global last)
      first_comes i g there same = go (lookup_fault w.tree 0 path Global last)
        where
          go : (o : Option LookupFault) → Comes w.tree tree last g.path (at_grant i g there) (unless_faulty o (handled w.tree (begun 0 path Global last)))
          go None =
              comes w.tree tree last g.path (at_grant i g there) (begun 0 path Global last) refl refl
              (along_root w.tree tree last g.path (at_grant i g there) path same)
          go (Some fault) = tt
