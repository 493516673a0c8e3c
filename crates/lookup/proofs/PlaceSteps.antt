-- What a lookup by places keeps, whatever it is looked up for.
use Rattle.std.proofs.Common.{◌≡◌, ℕ, ◌+◌, List, [], ◌∷◌, ◌++◌, Bool, true, false, Option, Some, None, sym, refl, cond}
use Rattle.std.specs.Prelude.{not, ◌&&◌, nat_le}
use Rattle.std.proofs.lemmas.Bool.{cond_both}
use Rattle.file_tree.specs.Places.{at_name, path_components}
use Rattle.file_tree.specs.Nodes.{Node, node, node_at, is_dir, is_link}
use Rattle.lookup.specs.Answers.{Way, Beneath, Global, Last, is_kept, LookupFault, Escape, No_entry, Not_dir, Loop, Finding, Found_node, Found_free, Not_found}
use Rattle.lookup.specs.Paths.{is_absolute, is_dot, is_dot_dot}
use Rattle.rights.specs.Limits.{most_links}
use Rattle.lookup.specs.Leads.{Stand, Next, Goes, Ends, followed_from, onward, next_from, Leads, here, there}
use Rattle.lookup.specs.Steps.{Move, Moves, Meets, Stops}
use Rattle.lookup.specs.ByPlaces.{place_below, upwards, downwards, in_place, standing, restart_below, by_places}

-- A fact of where a lookup stands and of the names left, which each name keeps, and what it gives of an answer.
pub record Keeps (t : List Node) (way : Way) (last : Last) (start : List (List ℕ)) (Fact : List (List ℕ) → List (List ℕ) → Type 0) (Good : Finding → Type 0) : Type 0 where
  pub arrives : (below : List (List ℕ)) (n : ℕ) → Fact below [] → node_at t (place_below start below) ≡ Some n → Good (Found_node n)
  pub stays : (below : List (List ℕ)) (name : List ℕ) (left : List (List ℕ)) → Fact below (name ∷ left) → is_dot name ≡ true → Fact below left
  pub up : (above : List ℕ) (below : List (List ℕ)) (name : List ℕ) (left : List (List ℕ)) (d : ℕ) → Fact (above ∷ below) (name ∷ left) →
      node_at t (place_below start (above ∷ below)) ≡ Some d → is_dot_dot name ≡ true → Fact below left
  pub top : (name : List ℕ) (left : List (List ℕ)) → Fact [] (name ∷ left) → is_dot_dot name ≡ true → Fact [] left
  pub down : (below : List (List ℕ)) (name : List ℕ) (left : List (List ℕ)) (n : ℕ) → Fact below (name ∷ left) →
      node_at t (at_name (place_below start below) name) ≡ Some n → (is_link (node t n).kind && not (is_kept last left)) ≡ false →
      Fact (name ∷ below) left
  pub link : (below : List (List ℕ)) (name : List ℕ) (left : List (List ℕ)) (target : List ℕ) → Fact below (name ∷ left) → is_kept last left ≡ false → Fact below (path_components target ++ left)
  pub link_root : (below : List (List ℕ)) (name : List ℕ) (left : List (List ℕ)) (target : List ℕ) → Fact below (name ∷ left) →
      is_kept last left ≡ false → way ≡ Global → Fact [] (path_components target ++ left)
  pub free : (below : List (List ℕ)) (name : List ℕ) (left : List (List ℕ)) (d : ℕ) → Fact below (name ∷ left) →
      node_at t (place_below start below) ≡ Some d → is_dir (node t d).kind ≡ true → node_at t (at_name (place_below start below) name) ≡ None →
      is_kept last left ≡ true → Good (Found_free d)
  pub not_found : (fault : LookupFault) → Good (Not_found fault)

module _ (t : List Node) (way : Way) (last : Last) (start : List (List ℕ)) (Fact : List (List ℕ) → List (List ℕ) → Type 0) (Good : Finding → Type 0) (keeps : Keeps t way last start Fact Good) where
  abbrev Fits : Next (List (List ℕ)) → Type 0
  Fits (Goes stand) = Fact stand.cursor stand.left
  Fits (Ends answer) = Good answer

  abbrev FitsMove : List (List ℕ) → List (List ℕ) → Move (List (List ℕ)) → Type 0
  FitsMove below left (Moves to) = Fact to left
  FitsMove below left (Meets target) = Fact below (path_components target ++ left) × (way ≡ Global → Fact [] (path_components target ++ left))
  FitsMove below left (Stops answer) = Good answer

  from_root : (way' : Way) (left : List (List ℕ)) (followed : ℕ) → way' ≡ way → (way ≡ Global → Fact [] left) → Fits (followed_from left followed (restart_below way'))
  from_root Beneath left followed same fits = keeps.not_found Escape
  from_root Global left followed same fits = fits (sym same)

  onward_fits : (below left : List (List ℕ)) (followed : ℕ) (move : Move (List (List ℕ))) → FitsMove below left move → Fits (onward (by_places t way last start) below left followed move)
  unfolding by_places
  onward_fits below left followed (Moves to) h = h
  onward_fits below left followed (Stops answer) h = h
  onward_fits below left followed (Meets target) h =
      cond_both (nat_le most_links followed) _ _ Fits (λ most. keeps.not_found Loop)
      (λ more. by_text (is_absolute target))
    where
      by_text : (b : Bool) → Fits (followed_from (path_components target ++ left) (followed + 1) (cond b (restart_below way) (Some below)))
      by_text true = from_root way (path_components target ++ left) (followed + 1) refl h.1
      by_text false = h.0

  up_fits : (way' : Way) (below : List (List ℕ)) (name : List ℕ) (left : List (List ℕ)) (d : ℕ) → Fact below (name ∷ left) →
      node_at t (place_below start below) ≡ Some d → is_dot_dot name ≡ true → FitsMove below left (upwards way' below)
  up_fits Beneath [] name left d h stands dots = keeps.not_found Escape
  up_fits Global [] name left d h stands dots = keeps.top name left h dots
  up_fits way' (above ∷ below) name left d h stands dots = keeps.up above below name left d h stands dots

  down_fits : (below : List (List ℕ)) (name : List ℕ) (left : List (List ℕ)) (d : ℕ) (o : Option ℕ) → Fact below (name ∷ left) →
      node_at t (place_below start below) ≡ Some d → is_dir (node t d).kind ≡ true → node_at t (at_name (place_below start below) name) ≡ o →
      FitsMove below left (downwards t last below name left d o)
  down_fits below name left d None h stands dir is = by_last (is_kept last left) refl
    where
      by_last : (b : Bool) → is_kept last left ≡ b → Good (cond b (Found_free d) (Not_found No_entry))
      by_last true kept = keeps.free below name left d h stands dir is kept
      by_last false kept = keeps.not_found No_entry
  down_fits below name left d (Some n) h stands dir is = by_kind (is_link (node t n).kind) (is_kept last left) refl refl
    where
      by_kind : (b k : Bool) → is_link (node t n).kind ≡ b → is_kept last left ≡ k → FitsMove below left (cond (b && not k) (Meets (node t n).content) (Moves (name ∷ below)))
      by_kind true false link kept = (keeps.link below name left (node t n).content h kept, λ global. keeps.link_root below name left (node t n).content h kept global)
      by_kind true true link kept = keeps.down below name left n h is (rw (link, kept) refl)
      by_kind false k link kept = keeps.down below name left n h is (rw link refl)

  name_fits : (below : List (List ℕ)) (name : List ℕ) (left : List (List ℕ)) (o : Option ℕ) → Fact below (name ∷ left) →
      node_at t (place_below start below) ≡ o → FitsMove below left (in_place t way last start below name left o)
  name_fits below name left None h is = keeps.not_found No_entry
  name_fits below name left (Some d) h is = by_kind (is_dir (node t d).kind) refl
    where
      by_dots : (b : Bool) → is_dir (node t d).kind ≡ true → is_dot_dot name ≡ b →
          FitsMove below left (cond b (upwards way below) (downwards t last below name left d (node_at t (at_name (place_below start below) name))))
      by_dots true dir dots = up_fits way below name left d h is dots
      by_dots false dir dots = down_fits below name left d (node_at t (at_name (place_below start below) name)) h is dir refl

      by_dot : (b : Bool) → is_dir (node t d).kind ≡ true → is_dot name ≡ b →
          FitsMove below left (cond b (Moves below)
          (cond (is_dot_dot name) (upwards way below) (downwards t last below name left d (node_at t (at_name (place_below start below) name)))))
      by_dot true dir dot = keeps.stays below name left h dot
      by_dot false dir dot = by_dots (is_dot_dot name) dir refl

      by_kind : (b : Bool) → is_dir (node t d).kind ≡ b →
          FitsMove below left (cond (not b) (Stops (Not_found Not_dir))
          (cond (is_dot name) (Moves below) (cond (is_dot_dot name) (upwards way below)
          (downwards t last below name left d (node_at t (at_name (place_below start below) name))))))
      by_kind true dir = by_dot (is_dot name) dir refl
      by_kind false dir = keeps.not_found Not_dir

  stands_fits : (below : List (List ℕ)) (o : Option ℕ) → Fact below [] → node_at t (place_below start below) ≡ o → Good (standing o)
  stands_fits below None h is = keeps.not_found No_entry
  stands_fits below (Some n) h is = keeps.arrives below n h is

  next_fits : (below left : List (List ℕ)) (followed : ℕ) → Fact below left → Fits (next_from (by_places t way last start) below left followed)
  unfolding by_places
  next_fits below [] followed h = stands_fits below (node_at t (place_below start below)) h refl
  next_fits below (name ∷ left) followed h = onward_fits below left followed _ (name_fits below name left (node_at t (place_below start below)) h refl)

  -- whatever a lookup leads to is good
  pub leads_good : (s : Stand (List (List ℕ))) (answer : Finding) → Fact s.cursor s.left → Leads (by_places t way last start) s answer → Good answer
  leads_good s answer h (here e) = rw e at (next_fits s.cursor s.left s.followed h)
  leads_good s answer h (there {after = r} e led) =
      let fits : Fact r.cursor r.left = rw e at (next_fits s.cursor s.left s.followed h) in leads_good r answer fits led
