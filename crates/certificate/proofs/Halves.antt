-- The bound of a point among points that rise is in one half of them.
use Rattle.std.proofs.Common.{◌≡◌, ◌==◌, ◌<◌, ◌+◌, ◌/◌, ◌&&◌, ◌++◌, ◌∷◌, [], ℕ, Bool, true, false, List, length, take, drop, get_or, refl, ap, sym, ◌∙◌, subst, arith}
use Rattle.std.specs.Prelude.{Option, Some, None, if◌then◌else◌}
use Rattle.std.specs.List.{list_all}
use Rattle.std.specs.Str.{bytes_eq}
use Rattle.std.specs.Cmp.{tied_then, unsigned_tied}
use Rattle.std.specs.declared.cmp.Ordering.{Ordering}
use Rattle.std.specs.declared.cmp.Ordering.TheVariants.{Less, Equal, Greater}
use Rattle.std.specs.Ordering.{is_eq, is_lt, nat_cmp, ordering_reverse}
use Rattle.std.specs.Cmp.Lexicographic.{slice_cmp}
use Rattle.std.proofs.lemmas.Bool.{eqb-false}
use Rattle.std.proofs.lemmas.Cmp.{alike_right}
use Rattle.std.proofs.lemmas.Map.Text.{is_eq-slice_cmp}
use Rattle.std.proofs.lemmas.List.{drop_more, map-append, take-append-drop}
use Rattle.certificate.specs.declared.points.Point.{Point}
use Rattle.certificate.specs.Bounds.{Bound, PointBound, bound_in}
use Rattle.certificate.specs.Growth.{point_order}
use Rattle.certificate.specs.Rising.{places_of, precedes, rises}
use Rattle.certificate.specs.Views.{point_of, points_of}
use Rattle.certificate.proofs.Growing.{and_left, and_right}
use Rattle.certificate.proofs.Rising.{Place, lt_less, order, rises_back, rises_front, total}

-- Places are one where the order doesn't tell them apart.
nat_tied : (m n : ℕ) → (m == n) ≡ is_eq (nat_cmp m n)
nat_tied m n = sym (unsigned_tied m n)

same_is : (p : List ℕ) (m : ℕ) (q : List ℕ) (n : ℕ) → (bytes_eq p q && (m == n)) ≡ is_eq (point_order p m q n)
same_is p m q n =
    ap (λ b. b && (m == n)) (sym (is_eq-slice_cmp p q)) ∙ ap (λ b. is_eq (slice_cmp nat_cmp p q) && b) (nat_tied m n)
    ∙ tied_then (slice_cmp nat_cmp p q) (nat_cmp m n)

differs : (b : PointBound) (t : Place) (o : Ordering) → order (b.program, b.point) t ≡ o → is_eq o ≡ false
    → (bytes_eq b.program t.0 && (b.point == t.1)) ≡ false
differs b t o is apart = same_is b.program b.point t.0 t.1 ∙ ap is_eq is ∙ apart

-- Where no point is the one that is asked for, none is found.
bound_more : (b : PointBound) (points : List PointBound) (t : Place) → (bytes_eq b.program t.0 && (b.point == t.1)) ≡ false
    → bound_in (b ∷ points) t.0 t.1 ≡ bound_in points t.0 t.1
unfolding bound_in
bound_more b points t is = ap (λ (x : Bool). if x then Some b.bound else bound_in points t.0 t.1) is

bound_here : (b : PointBound) (points : List PointBound) (t : Place) → order (b.program, b.point) t ≡ Equal → bound_in (b ∷ points) t.0 t.1 ≡ Some b.bound
unfolding bound_in
bound_here b points t is = ap (λ (x : Bool). if x then Some b.bound else bound_in points t.0 t.1) (same_is b.program b.point t.0 t.1 ∙ ap is_eq is)

skip_lower : (front rest : List PointBound) (t : Place) → list_all (λ a. precedes a t) (places_of front) ≡ true
    → bound_in (front ++ rest) t.0 t.1 ≡ bound_in rest t.0 t.1
skip_lower [] rest t all = refl
skip_lower (b ∷ front) rest t all =
    let first = and_left (precedes (b.program, b.point) t) (list_all (λ a. precedes a t) (places_of front)) all in
    let others = and_right (precedes (b.program, b.point) t) (list_all (λ a. precedes a t) (places_of front)) all in
    bound_more b (front ++ rest) t (differs b t Less (lt_less _ first) refl) ∙ skip_lower front rest t others

greater : (a t : Place) → precedes t a ≡ true → order a t ≡ Greater
greater a t is = total.antisymm a t ∙ ap ordering_reverse (lt_less _ is)

skip_higher : (back : List PointBound) (t : Place) → list_all (precedes t) (places_of back) ≡ true → bound_in back t.0 t.1 ≡ None
unfolding bound_in
skip_higher [] t all = refl
skip_higher (b ∷ back) t all =
    let first = and_left (precedes t (b.program, b.point)) (list_all (precedes t) (places_of back)) all in
    let others = and_right (precedes t (b.program, b.point)) (list_all (precedes t) (places_of back)) all in
    bound_more b back t (differs b t Greater (greater (b.program, b.point) t first) refl) ∙ skip_higher back t others

front_only : (front rest : List PointBound) (t : Place) → bound_in rest t.0 t.1 ≡ None → bound_in (front ++ rest) t.0 t.1 ≡ bound_in front t.0 t.1
unfolding bound_in
front_only [] rest t none = none
front_only (b ∷ front) rest t none =
    ap (λ (o : Option Bound). if bytes_eq b.program t.0 && (b.point == t.1) then Some b.bound else o) (front_only front rest t none)

-- What is known of one is known of those before it, or behind it.
lower : (x t : Place) (front : List Place) → ((a : Place) → precedes a x ≡ true → precedes a t ≡ true) → list_all (λ a. precedes a x) front ≡ true
    → list_all (λ a. precedes a t) front ≡ true
lower x t [] step all = refl
lower x t (a ∷ front) step all =
    let first = step a (and_left (precedes a x) (list_all (λ b. precedes b x) front) all) in
    ap (λ b. b && list_all (λ d. precedes d t) front) first ∙ lower x t front step (and_right (precedes a x) (list_all (λ b. precedes b x) front) all)

higher : (x t : Place) (back : List Place) → precedes t x ≡ true → list_all (precedes x) back ≡ true → list_all (precedes t) back ≡ true
higher x t [] tx all = refl
higher x t (a ∷ back) tx all =
    let first = ap is_lt (total.trans t x a (lt_less _ tx) (lt_less _ (and_left (precedes x a) (list_all (precedes x) back) all))) in
    ap (λ b. b && list_all (precedes t) back) first ∙ higher x t back tx (and_right (precedes x a) (list_all (precedes x) back) all)

-- THE HALVES round a point.
abbrev place_of : PointBound → Place
place_of b = (b.program, b.point)

split_places : (front back : List PointBound) (x : PointBound) → rises (places_of (front ++ x ∷ back)) ≡ true
    → rises (places_of front ++ place_of x ∷ places_of back) ≡ true
split_places front back x up = ap rises (sym (map-append place_of front (x ∷ back))) ∙ up

found_lower : (front back : List PointBound) (x : PointBound) (t : Place) → rises (places_of (front ++ x ∷ back)) ≡ true → order (place_of x) t ≡ Less
    → bound_in (front ++ x ∷ back) t.0 t.1 ≡ bound_in back t.0 t.1
found_lower front back x t up is =
    let all = (rises_front (places_of front) (places_of back) (place_of x) (split_places front back x up)).1 in
    skip_lower front (x ∷ back) t (lower (place_of x) t (places_of front) (λ a ax. ap is_lt (total.trans a (place_of x) t (lt_less _ ax) is)) all)
    ∙ bound_more x back t (differs x t Less is refl)

found_here : (front back : List PointBound) (x : PointBound) (t : Place) → rises (places_of (front ++ x ∷ back)) ≡ true → order (place_of x) t ≡ Equal
    → bound_in (front ++ x ∷ back) t.0 t.1 ≡ Some x.bound
found_here front back x t up is =
    let all = (rises_front (places_of front) (places_of back) (place_of x) (split_places front back x up)).1 in
    skip_lower front (x ∷ back) t (lower (place_of x) t (places_of front) (λ a ax. ap is_lt (sym (alike_right total (place_of x) t a is)) ∙ ax) all)
    ∙ bound_here x back t is

found_higher : (front back : List PointBound) (x : PointBound) (t : Place) → rises (places_of (front ++ x ∷ back)) ≡ true → order (place_of x) t ≡ Greater
    → bound_in (front ++ x ∷ back) t.0 t.1 ≡ bound_in front t.0 t.1
found_higher front back x t up is =
    let all = (rises_back (places_of front) (places_of back) (place_of x) (split_places front back x up)).1 in
    let before : precedes t (place_of x) ≡ true = ap is_lt (total.antisymm t (place_of x) ∙ ap ordering_reverse is) in
    front_only front (x ∷ back) t
    (bound_more x back t (differs x t Greater is refl) ∙ skip_higher back t (higher (place_of x) t (places_of back) before all))

-- points of the code, round one of them
pub round : (points : List Point) (m : ℕ) (x : Point) → m < length points → x ≡ get_or points m x
    → points_of points ≡ points_of (take m points) ++ point_of x ∷ points_of (drop (m + 1) points)
round points m x within is =
    let rest : drop m points ≡ x ∷ drop (m + 1) points = drop_more points m x within ∙ ap (λ p. p ∷ drop (m + 1) points) (sym is) in
    ap points_of (sym (take-append-drop m points) ∙ ap (λ list. take m points ++ list) rest)
    ∙ map-append point_of (take m points) (x ∷ drop (m + 1) points)

pub record IsSplit (points : List Point) (m : ℕ) (x : Point) (t : Place) : Type 0 where
  pub within : m < length points
  pub front : rises (places_of (points_of (take m points))) ≡ true
  pub back : rises (places_of (points_of (drop (m + 1) points))) ≡ true
  pub less : order (place_of (point_of x)) t ≡ Less → bound_in (points_of points) t.0 t.1 ≡ bound_in (points_of (drop (m + 1) points)) t.0 t.1
  pub equal : order (place_of (point_of x)) t ≡ Equal → bound_in (points_of points) t.0 t.1 ≡ Some (point_of x).bound
  pub greater : order (place_of (point_of x)) t ≡ Greater → bound_in (points_of points) t.0 t.1 ≡ bound_in (points_of (take m points)) t.0 t.1

pub halves : (points : List Point) (x : Point) (t : Place) → (length points == 0) ≡ false → x ≡ get_or points (length points / 2) x
    → rises (places_of (points_of points)) ≡ true → IsSplit points (length points / 2) x t
halves points x t some is up =
    let m = length points / 2 in
    let none = eqb-false (length points) 0 some in
    let within : m < length points = omega (arith, none) in
    let parts = round points m x within is in
    let front = points_of (take m points) in
    let back = points_of (drop (m + 1) points) in
    let rising = subst (λ list. rises (places_of list) ≡ true) parts up in
    let apart = split_places front back (point_of x) rising in
    record {
      within = within;
      front = (rises_front (places_of front) (places_of back) (place_of (point_of x)) apart).0;
      back = (rises_back (places_of front) (places_of back) (place_of (point_of x)) apart).0;
      less = λ o. ap (λ list. bound_in list t.0 t.1) parts ∙ found_lower front back (point_of x) t rising o;
      equal = λ o. ap (λ list. bound_in list t.0 t.1) parts ∙ found_here front back (point_of x) t rising o;
      greater = λ o. ap (λ list. bound_in list t.0 t.1) parts ∙ found_higher front back (point_of x) t rising o;
    }
