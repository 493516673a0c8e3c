-- Where a lookup ends: laws of the lookup by places, without any code.
use Rattle.std.proofs.Common.{◌≡◌, ℕ, ◌<◌, ◌≤◌, ◌+◌, List, [], ◌∷◌, ◌++◌, Bool, true, false, Option, Some, None, length, ap, sym, ◌∙◌, refl, arith}
use Rattle.std.specs.Prelude.{not, ◌&&◌, ◌||◌, nat_eq, ◌≢◌, MatchOption}
use Rattle.file_tree.specs.Places.{at_name, above, begins, path_components}
use Rattle.file_tree.specs.Nodes.{Kind, File, Dir, Link, Node, node, node_at, is_dir, is_link}
use Rattle.file_tree.specs.WellFormed.{IsTree}
use Rattle.file_tree.proofs.PlaceLaws.{begins_refl, begins_trans, begins_append, begins_length, at_name_length, above_at_name}
use Rattle.file_tree.proofs.NodeLaws.{Directory, held_above, linked_there}
use Rattle.file_tree.proofs.TreeLaws.{Found, at_place, child_by_place, parent_above}
use Rattle.lookup.specs.Answers.{Way, Beneath, Global, Last, Follow, Keep, is_kept, LookupFault, Finding, Found_node, Found_free, Not_found}
use Rattle.lookup.specs.Paths.{is_dot, is_dot_dot, last_or, last_component, is_bad_last}
use Rattle.lookup.specs.Leads.{Leads}
use Rattle.lookup.specs.ByPlaces.{place_below, by_places}
use Rattle.lookup.specs.Looks.{start_place, start_node, is_start_gone, first_stand, lookup_fault, Looks}
use Rattle.lookup.specs.Promises.{IsLinked, IsFindingThere, Lacks, IsFreeName, IsBeneath, IsBelow, HasName, IsUnderName, IsFollowed, MayBeMade}
use Rattle.lookup.proofs.PlaceSteps.{Keeps, leads_good}
use Rattle.lookup.proofs.Alike.{found_at, no_fault, start_found}
use Rattle.lookup.proofs.TextLaws.{IsGoodText, good_text, last_is_name}

-- a place at some names below another begins with it, and is no shorter
pub below_begins : (start below : List (List ℕ)) → begins start (place_below start below) ≡ true
below_begins start [] = begins_refl start
below_begins start (name ∷ below) = begins_trans start (place_below start below) (place_below start (name ∷ below)) (below_begins start below) (begins_append (place_below start below) (name ∷ []))

below_length : (start below : List (List ℕ)) → length start ≤ length (place_below start below)
below_length start below = begins_length start (place_below start below) (below_begins start below)

pub directory_kind : (k : Kind) → is_dir k ≡ true → k ≡ Dir
directory_kind File h = cc
directory_kind Dir h = refl
directory_kind Link h = cc

-- What holds of whatever a lookup leads to, where nothing is wrong, holds of what the path leads to.
pub looks_good : (t : List Node) (start : ℕ) (path : List ℕ) (way : Way) (last : Last) (Good : Finding → Type 0) →
    ((fault : LookupFault) → Good (Not_found fault)) →
    (lookup_fault t start path way last ≡ None → (a : Finding) → Leads (by_places t way last (start_place t start way)) (first_stand [] path) a →
    Good a) → (a : Finding) → Looks t start path way last a → Good a
unfolding Looks
looks_good t start path way last Good not_found law a led = by_fault (lookup_fault t start path way last) refl led
  where
    by_fault : (o : Option LookupFault) → lookup_fault t start path way last ≡ o →
        MatchOption o (Leads (by_places t way last (start_place t start way)) (first_stand [] path) a) (λ fault. a ≡ Not_found fault) → Good a
    by_fault None none led = law none a led
    by_fault (Some fault) is led = rw led (not_found fault)

-- What is found is linked, and its place begins with that of the start.
abbrev IsFoundBelow : List Node → List (List ℕ) → Finding → Type 0
IsFoundBelow t start a = IsFindingThere t a × IsBeneath t start a

found_below : (t : List Node) (start below : List (List ℕ)) (n : ℕ) → node_at t (place_below start below) ≡ Some n → IsLinked t n × (begins start (node t n).place ≡ true)
found_below t start below n at =
    let found = at_place t (place_below start below) n at in
    (record { there = found.there; linked = found.linked }, ap (begins start) found.place ∙ below_begins start below)

keeps_below : (t : List Node) (way : Way) (last : Last) (start : List (List ℕ)) → Keeps t way last start (λ below left. Unit {0}) (IsFoundBelow t start)
keeps_below t way last start = record {
  arrives = λ below n fact at. found_below t start below n at;
  stays = λ below name left fact dot. tt;
  up = λ name below dots left d fact at dot. tt;
  top = λ name left fact dot. tt;
  down = λ below name left n fact at kind. tt;
  link = λ below name left target fact kept. tt;
  link_root = λ below name left target fact kept global. tt;
  free = λ below name left d fact at dir none kept. found_below t start below d at;
  not_found = λ fault. (tt, tt);
}

module _ (t : List Node) (start : ℕ) (path : List ℕ) (way : Way) (last : Last) where
  found_good : (a : Finding) → Looks t start path way last a → IsFoundBelow t (start_place t start way) a
  found_good = looks_good t start path way last (IsFoundBelow t (start_place t start way)) (λ fault. (tt, tt))
      (λ none a led. leads_good t way last (start_place t start way) (λ below left. Unit {0}) (IsFoundBelow t (start_place t start way))
      (keeps_below t way last (start_place t start way)) (first_stand [] path) a tt led)

  pub looks_there : (a : Finding) → Looks t start path way last a → IsFindingThere t a
  looks_there a led = (found_good a led).0

  pub looks_beneath : (a : Finding) → Looks t start path way last a → IsBeneath t (start_place t start way) a
  looks_beneath a led = (found_good a led).1

-- a place but the root's is in a directory
pub directory_above : (t : List Node) (q : List (List ℕ)) (name : List ℕ) (n : ℕ) → IsTree t → Found t (at_name q name) n → Directory t q
directory_above t q name n tree found =
    let longer : length (node t n).place ≡ length q + 1 = ap length found.place ∙ at_name_length q name in
    let low : 0 < length (node t n).place = omega arith in
    let same : above (node t n).place ≡ q = ap above found.place ∙ above_at_name q name in
    rw same at (held_above t (node t n).place (tree.held n found.linked) low)

-- With the last name kept: where no name is left, the lookup stands at that name, and else it is the last left.
abbrev Aims : List ℕ → List (List ℕ) → List (List ℕ) → Type 0
Aims final [] [] = ⊥
Aims final (name ∷ below) [] = name ≡ final
Aims final below (name ∷ left) = last_or name left ≡ final

pub last_or-append : (other : List ℕ) (names : List (List ℕ)) (name : List ℕ) (more : List (List ℕ)) → last_or other (names ++ name ∷ more) ≡ last_or name more
last_or-append other [] name more = refl
last_or-append other (x ∷ names) name more = last_or-append x names name more

aims_on : (final : List ℕ) (below : List (List ℕ)) (name : List ℕ) (left : List (List ℕ)) → name ≢ final → last_or name left ≡ final → Aims final below left
aims_on final below name [] other h = absurd (other h)
aims_on final below name (next ∷ left) other h = h

aims_down : (final : List ℕ) (below : List (List ℕ)) (name : List ℕ) (left : List (List ℕ)) → last_or name left ≡ final → Aims final (name ∷ below) left
aims_down final below name [] h = h
aims_down final below name (next ∷ left) h = h

aims_link : (final : List ℕ) (below : List (List ℕ)) (name : List ℕ) (left target : List (List ℕ)) → last_or name left ≡ final → is_kept Keep left ≡ false → Aims final below (target ++ left)
aims_link final below name [] target h kept = cc
aims_link final below name (next ∷ left) [] h kept = h
aims_link final below name (next ∷ left) (x ∷ target) h kept = last_or-append x target next left ∙ h

aims_free : (final name : List ℕ) (left : List (List ℕ)) → last_or name left ≡ final → is_kept Keep left ≡ true → name ≡ final
aims_free final name [] h kept = h
aims_free final name (next ∷ left) h kept = cc

-- What is found has the last name in its parent, and what is free lacks it in its directory; both are below the start.
abbrev IsFoundUnder : List Node → List (List ℕ) → List ℕ → Finding → Type 0
IsFoundUnder t start final (Found_node n) = HasName t n final × (length start < length (node t n).place)
IsFoundUnder t start final (Found_free d) = Lacks t d final × (length start < length (at_name (node t d).place final))
IsFoundUnder t start final (Not_found fault) = Unit {0}

found_under : (t : List Node) (start : List (List ℕ)) (final : List ℕ) (below : List (List ℕ)) (n : ℕ) → IsTree t →
    node_at t (at_name (place_below start below) final) ≡ Some n → HasName t n final × (length start < length (node t n).place)
found_under t start final below n tree at =
    let found = at_place t (at_name (place_below start below) final) n at in
    let holder = directory_above t (place_below start below) final n tree found in
    let longer : length (node t n).place ≡ length (place_below start below) + 1 = ap length found.place ∙ at_name_length (place_below start below) final in
    let least : length start ≤ length (place_below start below) = below_length start below in
    let low : 0 < length (node t n).place = omega arith in
    let same : above (node t n).place ≡ place_below start below = ap above found.place ∙ above_at_name (place_below start below) final in
    let stands : Found t (place_below start below) holder.number = record { there = linked_there t holder.number holder.linked; linked = holder.linked; place = holder.place } in (
      record {
        parent = holder.number;
        held = parent_above t n found.linked low ∙ ap (node_at t) same ∙ found_at t (place_below start below) holder.number tree stands;
        named = child_by_place t holder.number final holder.linked ∙ ap (λ (p : List (List ℕ)). node_at t (at_name p final)) holder.place ∙ at;
        place = found.place ∙ ap (λ (p : List (List ℕ)). at_name p final) (sym holder.place);
      },
      omega arith,
    )

free_under : (t : List Node) (start : List (List ℕ)) (final : List ℕ) (below : List (List ℕ)) (d : ℕ) → node_at t (place_below start below) ≡ Some d →
    (node t d).kind ≡ Dir → node_at t (at_name (place_below start below) final) ≡ None →
    Lacks t d final × (length start < length (at_name (node t d).place final))
free_under t start final below d at dir none =
    let found = at_place t (place_below start below) d at in
    let longer : length (at_name (node t d).place final) ≡ length (place_below start below) + 1 = at_name_length (node t d).place final ∙ ap (λ (p : List (List ℕ)). length p + 1) found.place in
    let least : length start ≤ length (place_below start below) = below_length start below in
    (record { directory = dir; absent = child_by_place t d final found.linked ∙ ap (λ (p : List (List ℕ)). node_at t (at_name p final)) found.place ∙ none }, omega arith)

arrives_under : (t : List Node) (start : List (List ℕ)) (final : List ℕ) (below : List (List ℕ)) (n : ℕ) → IsTree t → Aims final below [] →
    node_at t (place_below start below) ≡ Some n → HasName t n final × (length start < length (node t n).place)
arrives_under t start final [] n tree aims at = absurd aims
arrives_under t start final (name ∷ below) n tree aims at = found_under t start final below n tree (ap (λ (x : List ℕ). node_at t (at_name (place_below start below) x)) (sym aims) ∙ at)

pub not_dot : (name final : List ℕ) → is_dot name ≡ true → is_bad_last final ≡ false → name ≢ final
not_dot name final dot good same = let bad : is_dot final ≡ true = ap is_dot (sym same) ∙ dot in bad_dot (nat_eq (length final) 0) (is_dot final) (is_dot_dot final) bad good
  where
    bad_dot : (a b c : Bool) → b ≡ true → (a || b || c) ≡ false → ⊥
    bad_dot true b c h g = cc
    bad_dot false true c h g = cc
    bad_dot false false c h g = cc

pub not_dot_dot : (name final : List ℕ) → is_dot_dot name ≡ true → is_bad_last final ≡ false → name ≢ final
not_dot_dot name final dots good same = let bad : is_dot_dot final ≡ true = ap is_dot_dot (sym same) ∙ dots in bad_dots (nat_eq (length final) 0) (is_dot final) (is_dot_dot final) bad good
  where
    bad_dots : (a b c : Bool) → c ≡ true → (a || b || c) ≡ false → ⊥
    bad_dots true b c h g = cc
    bad_dots false true c h g = cc
    bad_dots false false true h g = cc
    bad_dots false false false h g = cc

keeps_under : (t : List Node) (way : Way) (start : List (List ℕ)) (final : List ℕ) → IsTree t → is_bad_last final ≡ false → Keeps t way Keep start (Aims final) (IsFoundUnder t start final)
keeps_under t way start final tree good = record {
  arrives = λ below n aims at. arrives_under t start final below n tree aims at;
  stays = λ below name left aims dot. aims_on final below name left (not_dot name final dot good) (aims_name below name left aims);
  up = λ name below dots left d aims at dot. aims_on final below dots left (not_dot_dot dots final dot good) (aims_name (name ∷ below) dots left aims);
  top = λ name left aims dot. aims_on final [] name left (not_dot_dot name final dot good) (aims_name [] name left aims);
  down = λ below name left n aims at kind. aims_down final below name left (aims_name below name left aims);
  link = λ below name left target aims kept. aims_link final below name left (path_components target) (aims_name below name left aims) kept;
  link_root = λ below name left target aims kept global. aims_link final [] name left (path_components target) (aims_name below name left aims) kept;
  free = λ below name left d aims at dir none kept.
      let same = aims_free final name left (aims_name below name left aims) kept in
      free_under t start final below d at (directory_kind (node t d).kind dir) (ap (λ (x : List ℕ). node_at t (at_name (place_below start below) x)) (sym same) ∙ none);
  not_found = λ fault. tt;
}
  where
    aims_name : (below : List (List ℕ)) (name : List ℕ) (left : List (List ℕ)) → Aims final below (name ∷ left) → last_or name left ≡ final
    aims_name [] name left h = h
    aims_name (x ∷ below) name left h = h

aims_first : (path : List ℕ) → is_bad_last (last_component path) ≡ false → Aims (last_component path) [] (path_components path)
unfolding last_component
aims_first path good = by_names (path_components path) good
  where
    by_names : (names : List (List ℕ)) → is_bad_last (last_or [] names) ≡ false → Aims (last_or [] names) [] names
    by_names [] h = cc
    by_names (name ∷ names) h = refl

module _ (t : List Node) (start : ℕ) (path : List ℕ) (way : Way) (tree : IsTree t) where
  under_good : (a : Finding) → Looks t start path way Keep a → IsFoundUnder t (start_place t start way) (last_component path) a
  under_good = looks_good t start path way Keep (IsFoundUnder t (start_place t start way) (last_component path)) (λ fault. tt)
      (λ none a led.
      let good = (good_text path way Keep (no_fault t start path way Keep none).0).kept in
      leads_good t way Keep (start_place t start way) (Aims (last_component path)) (IsFoundUnder t (start_place t start way) (last_component path))
      (keeps_under t way (start_place t start way) (last_component path) tree good) (first_stand [] path) a (aims_first path good) led)

  pub kept_below : (a : Finding) → Looks t start path way Keep a → IsBelow t (start_place t start way) path a
  kept_below (Found_node n) led = (under_good (Found_node n) led).1
  kept_below (Found_free d) led = (under_good (Found_free d) led).1
  kept_below (Not_found fault) led = tt

  pub kept_named : (a : Finding) → Looks t start path way Keep a → IsUnderName t path a
  kept_named (Found_node n) led = (under_good (Found_node n) led).0
  kept_named (Found_free d) led = tt
  kept_named (Not_found fault) led = tt

  pub kept_free : (a : Finding) → Looks t start path way Keep a → IsFreeName t path a
  kept_free (Found_node n) led = tt
  kept_free (Found_free d) led = (under_good (Found_free d) led).0
  kept_free (Not_found fault) led = tt

-- With the last name followed: where a lookup stands, no link stands.
abbrev NoLink : List Node → List (List ℕ) → List (List ℕ) → List (List ℕ) → Type 0
NoLink t start below left = (n : ℕ) → node_at t (place_below start below) ≡ Some n → is_link (node t n).kind ≡ false

pub no_directory_link : (k : Kind) → k ≡ Dir → is_link k ≡ false
no_directory_link k dir = rw dir refl

followed_down : (t : List Node) (p : List (List ℕ)) (n m : ℕ) → node_at t p ≡ Some n → (is_link (node t n).kind && not false) ≡ false → node_at t p ≡ Some m → is_link (node t m).kind ≡ false
followed_down t p n m at kind other =
    let same : n ≡ m = cc in rw same at (by_kind (is_link (node t n).kind) kind)
  where
    by_kind : (b : Bool) → (b && not false) ≡ false → b ≡ false
    by_kind true h = cc
    by_kind false h = refl

above_no_link : (t : List Node) (q : List (List ℕ)) (name : List ℕ) (d n : ℕ) → IsTree t → node_at t (at_name q name) ≡ Some d → node_at t q ≡ Some n → is_link (node t n).kind ≡ false
above_no_link t q name d n tree at above_at =
    let holder = directory_above t q name d tree (at_place t (at_name q name) d at) in
    let found = at_place t q n above_at in
    let same : holder.number ≡ n = tree.apart holder.number n holder.linked found.linked (holder.place ∙ sym found.place) in
    no_directory_link (node t n).kind (ap (λ (k : ℕ). (node t k).kind) (sym same) ∙ holder.kind)

keeps_followed : (t : List Node) (way : Way) (start : List (List ℕ)) → IsTree t → NoLink t start [] [] → Keeps t way Follow start (NoLink t start) (IsFollowed t)
keeps_followed t way start tree first = record {
  arrives = λ below n fact at. fact n at;
  stays = λ below name left fact dot. fact;
  up = λ name below dots left d fact at dot. λ n above_at. above_no_link t (place_below start below) name d n tree at above_at;
  top = λ name left fact dot. fact;
  down = λ below name left n fact at kind. λ m other. followed_down t (at_name (place_below start below) name) n m at kind other;
  link = λ below name left target fact kept. fact;
  link_root = λ below name left target fact kept global. first;
  free = λ below name left d fact at dir none kept. absurd (never kept);
  not_found = λ fault. tt;
}
  where
    never : false ≡ true → ⊥
    never h = cc

-- the start is no link
start_is : (t : List Node) (start : ℕ) (way : Way) → IsTree t → is_link (node t start).kind ≡ false → is_link (node t (start_node start way)).kind ≡ false
start_is t start Beneath tree opened = opened
start_is t start Global tree opened = no_directory_link (node t 0).kind tree.root_kind

start_no_link : (t : List Node) (start : ℕ) (way : Way) → IsTree t → is_link (node t start).kind ≡ false → is_start_gone t start way ≡ false → NoLink t (start_place t start way) [] []
start_no_link t start way tree opened stays n at =
    let stands = found_at t (start_place t start way) (start_node start way) tree (start_found t start way tree stays) in
    let same : start_node start way ≡ n = cc in rw same at (start_is t start way tree opened)

module _ (t : List Node) (start : ℕ) (path : List ℕ) (way : Way) (tree : IsTree t) (opened : is_link (node t start).kind ≡ false) where
  pub followed_good : (a : Finding) → Looks t start path way Follow a → IsFollowed t a
  followed_good = looks_good t start path way Follow (IsFollowed t) (λ fault. tt)
      (λ none a led.
      let first = start_no_link t start way tree opened (no_fault t start path way Follow none).1 in
      leads_good t way Follow (start_place t start way) (NoLink t (start_place t start way)) (IsFollowed t)
      (keeps_followed t way (start_place t start way) tree first) (first_stand [] path) a first led)

-- A free name may be that of a node.
pub kept_may_be_made : (t : List Node) (start : ℕ) (path : List ℕ) (way : Way) (a : Finding) → Looks t start path way Keep a → MayBeMade path a
kept_may_be_made t start path way = looks_good t start path way Keep (MayBeMade path) (λ fault. tt)
    (λ none a led. by_answer a (good_text path way Keep (no_fault t start path way Keep none).0))
  where
    by_answer : (a : Finding) → IsGoodText path way Keep → MayBeMade path a
    by_answer (Found_node n) good = tt
    by_answer (Found_free d) good = last_is_name path good.short good.kept
    by_answer (Not_found fault) good = tt
