-- What one event of a walk does, by where its name leads: what held where it stood, what holds where it stands then, and what holds
-- of what it finds.
use Rattle.std.proofs.Common.{◌≡◌, ℕ, ◌+◌, List, [], ◌∷◌, ◌++◌, Bool, true, false, Option, Some, None, subst, sym, refl, arith, cond}
use Rattle.std.specs.Prelude.{not, ◌&&◌, nat_eq, nat_le}
use Rattle.std.proofs.lemmas.Bool.{cond_both}
use Rattle.std.proofs.lemmas.Bool.Decides.{nat_tests}
use Rattle.file_tree.specs.Places.{path_components}
use Rattle.file_tree.specs.Nodes.{Node, node, child_of, parent_of, is_dir, is_link}
use Rattle.lookup.specs.Answers.{Way, Beneath, Global, Last, is_kept, LookupFault, Escape, No_entry, Not_dir, Loop, Finding, Found_node, Found_free, Not_found}
use Rattle.lookup.specs.Paths.{is_absolute, is_dot, is_dot_dot}
use Rattle.rights.specs.Limits.{most_links}
use Rattle.lookup.specs.Leads.{Stand, Next, Goes, Ends, followed_from, onward, next_from, next}
use Rattle.lookup.specs.Steps.{Rules, Move, Moves, Meets, Stops}
use Rattle.lookup.specs.ByNodes.{Walked, from_node, is_holder, no_way_back, back, into, in_node, restart_node, by_nodes}
use Rattle.lookup.specs.Walks.{WalkState, Progress, Done, More, settled_at, settled, handled}

pub record Handles (t : List Node) (way : Way) (last : Last) (From To : Walked → List (List ℕ) → Type 0) (Good : Finding → Type 0) : Type 0 where
  pub arrives : (at : Walked) → From at [] → Good (Found_node at.current)
  pub settles : (at : Walked) → To at [] → Good (Found_node at.current)
  pub stays : (at : Walked) (name : List ℕ) (left : List (List ℕ)) → From at (name ∷ left) → (node t at.current).linked ≡ true → is_dot name ≡ true → To at left
  pub up : (n d : ℕ) (before : List ℕ) (name : List ℕ) (left : List (List ℕ)) → From (record { current = n; before = d ∷ before }) (name ∷ left) →
      parent_of t n ≡ Some d → is_dot_dot name ≡ true → To (record { current = d; before = before }) left
  pub top : (n : ℕ) (name : List ℕ) (left : List (List ℕ)) → way ≡ Global → From (from_node n) (name ∷ left) → (node t n).linked ≡ true →
      is_dot_dot name ≡ true → To (from_node n) left
  pub down : (at : Walked) (name : List ℕ) (left : List (List ℕ)) (n : ℕ) → From at (name ∷ left) → child_of t at.current name ≡ Some n →
      (is_link (node t n).kind && not (is_kept last left)) ≡ false → To (record { current = n; before = at.current ∷ at.before }) left
  pub link : (at : Walked) (name : List ℕ) (left : List (List ℕ)) (n : ℕ) → From at (name ∷ left) → child_of t at.current name ≡ Some n →
      is_link (node t n).kind ≡ true → is_kept last left ≡ false → To at (path_components (node t n).content ++ left)
  pub link_root : (at : Walked) (name : List ℕ) (left : List (List ℕ)) (n : ℕ) → way ≡ Global → From at (name ∷ left) →
      child_of t at.current name ≡ Some n → is_link (node t n).kind ≡ true → is_kept last left ≡ false → To (from_node 0) (path_components (node t n).content ++ left)
  pub free : (at : Walked) (name : List ℕ) (left : List (List ℕ)) → From at (name ∷ left) → is_dir (node t at.current).kind ≡ true →
      (node t at.current).linked ≡ true → child_of t at.current name ≡ None → is_kept last left ≡ true → Good (Found_free at.current)
  pub not_found : (fault : LookupFault) → Good (Not_found fault)

same_number : (d e : ℕ) → nat_eq d e ≡ true → e ≡ d
same_number d e same = grind (arith, nat_tests)

module _ (t : List Node) (way : Way) (last : Last) (From To : Walked → List (List ℕ) → Type 0) (Good : Finding → Type 0) (handles : Handles t way last From To Good) where
  abbrev Fits : Next Walked → Type 0
  Fits (Goes stand) = To stand.cursor stand.left
  Fits (Ends finding) = Good finding

  abbrev FitsMove : Walked → List (List ℕ) → Move Walked → Type 0
  FitsMove at left (Moves to) = To to left
  FitsMove at left (Meets target) = To at (path_components target ++ left) × (way ≡ Global → To (from_node 0) (path_components target ++ left))
  FitsMove at left (Stops finding) = Good finding

  from_root : (way' : Way) (left : List (List ℕ)) (followed : ℕ) → way' ≡ way → (way ≡ Global → To (from_node 0) left) → Fits (followed_from left followed (restart_node way'))
  from_root Beneath left followed same fits = handles.not_found Escape
  from_root Global left followed same fits = fits (sym same)

  onward_fits : (at : Walked) (left : List (List ℕ)) (followed : ℕ) (move : Move Walked) → FitsMove at left move → Fits (onward (by_nodes t way last) at left followed move)
  unfolding by_nodes
  onward_fits at left followed (Moves to) h = h
  onward_fits at left followed (Stops finding) h = h
  onward_fits at left followed (Meets target) h =
      cond_both (nat_le most_links followed) _ _ Fits (λ most. handles.not_found Loop)
      (λ more. by_text (is_absolute target))
    where
      by_text : (b : Bool) → Fits (followed_from (path_components target ++ left) (followed + 1) (cond b (restart_node way) (Some at)))
      by_text true = from_root way (path_components target ++ left) (followed + 1) refl h.1
      by_text false = h.0

  lost_fits : (way' : Way) (at : Walked) (left : List (List ℕ)) → FitsMove at left (no_way_back way')
  lost_fits Beneath at left = handles.not_found Escape
  lost_fits Global at left = handles.not_found No_entry

  held_fits : (n d : ℕ) (before : List ℕ) (name : List ℕ) (left : List (List ℕ)) (o : Option ℕ) → From (record { current = n; before = d ∷ before }) (name ∷ left) →
      is_dot_dot name ≡ true → parent_of t n ≡ o → FitsMove (record { current = n; before = d ∷ before }) left
      (cond (is_holder d o) (Moves (record { current = d; before = before })) (no_way_back way))
  held_fits n d before name left None h dots is = lost_fits way (record { current = n; before = d ∷ before }) left
  held_fits n d before name left (Some e) h dots is = by_number (nat_eq d e) refl
    where
      by_number : (b : Bool) → nat_eq d e ≡ b → FitsMove (record { current = n; before = d ∷ before }) left (cond b (Moves (record { current = d; before = before })) (no_way_back way))
      by_number true same = let e_is : e ≡ d = same_number d e same in handles.up n d before name left h (rw e_is at is) dots
      by_number false other = lost_fits way (record { current = n; before = d ∷ before }) left

  up_fits : (way' : Way) (n : ℕ) (before : List ℕ) (name : List ℕ) (left : List (List ℕ)) → way' ≡ way → From (record { current = n; before = before }) (name ∷ left) →
      (node t n).linked ≡ true → is_dot_dot name ≡ true → FitsMove (record { current = n; before = before }) left (back t way' n before)
  up_fits Beneath n [] name left same h linked dots = handles.not_found Escape
  up_fits Global n [] name left same h linked dots = handles.top n name left (sym same) h linked dots
  up_fits way' n (d ∷ before) name left same h linked dots = rw same (held_fits n d before name left (parent_of t n) h dots refl)

  down_fits : (at : Walked) (name : List ℕ) (left : List (List ℕ)) (o : Option ℕ) → From at (name ∷ left) → is_dir (node t at.current).kind ≡ true →
      (node t at.current).linked ≡ true → child_of t at.current name ≡ o → FitsMove at left (into t last at.current at.before left o)
  down_fits at name left None h dir linked is = by_last (is_kept last left) refl
    where
      by_last : (b : Bool) → is_kept last left ≡ b → Good (cond b (Found_free at.current) (Not_found No_entry))
      by_last true kept = handles.free at name left h dir linked is kept
      by_last false kept = handles.not_found No_entry
  down_fits at name left (Some n) h dir linked is = by_kind (is_link (node t n).kind) (is_kept last left) refl refl
    where
      by_kind : (b k : Bool) → is_link (node t n).kind ≡ b → is_kept last left ≡ k →
          FitsMove at left (cond (b && not k) (Meets (node t n).content) (Moves (record { current = n; before = at.current ∷ at.before })))
      by_kind true false link kept = (handles.link at name left n h is link kept, λ global. handles.link_root at name left n global h is link kept)
      by_kind true true link kept = handles.down at name left n h is (rw (link, kept) refl)
      by_kind false k link kept = handles.down at name left n h is (rw link refl)

  name_fits : (at : Walked) (name : List ℕ) (left : List (List ℕ)) → From at (name ∷ left) → FitsMove at left (in_node t way last at.current at.before name left)
  name_fits at name left h = by_kind (is_dir (node t at.current).kind) refl
    where
      by_dots : (b : Bool) → is_dir (node t at.current).kind ≡ true → (node t at.current).linked ≡ true → is_dot_dot name ≡ b →
          FitsMove at left (cond b (back t way at.current at.before) (into t last at.current at.before left (child_of t at.current name)))
      by_dots true dir linked dots = up_fits way at.current at.before name left refl h linked dots
      by_dots false dir linked dots = down_fits at name left (child_of t at.current name) h dir linked refl

      by_dot : (b : Bool) → is_dir (node t at.current).kind ≡ true → (node t at.current).linked ≡ true → is_dot name ≡ b →
          FitsMove at left (cond b (Moves at)
          (cond (is_dot_dot name) (back t way at.current at.before) (into t last at.current at.before left (child_of t at.current name))))
      by_dot true dir linked dot = handles.stays at name left h linked dot
      by_dot false dir linked dot = by_dots (is_dot_dot name) dir linked refl

      by_link : (b : Bool) → is_dir (node t at.current).kind ≡ true → (node t at.current).linked ≡ b →
          FitsMove at left (cond (not b) (Stops (Not_found No_entry)) (cond (is_dot name) (Moves at)
          (cond (is_dot_dot name) (back t way at.current at.before) (into t last at.current at.before left (child_of t at.current name)))))
      by_link true dir linked = by_dot (is_dot name) dir linked refl
      by_link false dir linked = handles.not_found No_entry

      by_kind : (b : Bool) → is_dir (node t at.current).kind ≡ b →
          FitsMove at left (cond (not b) (Stops (Not_found Not_dir)) (cond (not (node t at.current).linked) (Stops (Not_found No_entry))
          (cond (is_dot name) (Moves at)
          (cond (is_dot_dot name) (back t way at.current at.before) (into t last at.current at.before left (child_of t at.current name))))))
      by_kind true dir = by_link (node t at.current).linked dir refl
      by_kind false dir = handles.not_found Not_dir

  next_fits : (at : Walked) (left : List (List ℕ)) (followed : ℕ) → From at left → Fits (next_from (by_nodes t way last) at left followed)
  unfolding by_nodes
  next_fits at [] followed h = handles.arrives at h
  next_fits at (name ∷ left) followed h = onward_fits at left followed _ (name_fits at name left h)

  -- Whatever a walk comes to by an event fits.
  abbrev pub IsGoodProgress : Progress → Type 0
  IsGoodProgress (Done finding) = Good finding
  IsGoodProgress (More walk) = To walk.stand.cursor walk.stand.left

  settled_fits : (walk : WalkState) (stand : Stand Walked) (left : List (List ℕ)) → stand.left ≡ left → To stand.cursor left → IsGoodProgress (settled_at walk stand left)
  settled_fits walk stand [] is h = handles.settles stand.cursor h
  settled_fits walk stand (name ∷ left) is h = rw is h

  pub handled_good : (walk : WalkState) → walk.way ≡ way → walk.last ≡ last → From walk.stand.cursor walk.stand.left → IsGoodProgress (handled t walk)
  unfolding handled
  handled_good walk way_is last_is h =
      subst (λ (rules : Rules Walked). IsGoodProgress (settled walk (next rules walk.stand))) same_rules
      (by_next (next (by_nodes t way last) walk.stand) (next_fits walk.stand.cursor walk.stand.left walk.stand.followed h))
    where
      by_next : (after : Next Walked) → Fits after → IsGoodProgress (settled walk after)
      by_next (Goes stand) fits = settled_fits walk stand stand.left refl fits
      by_next (Ends finding) fits = fits

      same_rules : by_nodes t way last ≡ by_nodes t walk.way walk.last
      same_rules = rw (way_is, last_is) refl
