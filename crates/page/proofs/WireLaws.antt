-- No wire lies on one of another net.
use Rattle.std.proofs.Common.{◌≡◌, ◌+◌, ◌*◌, ◌-◌, ◌<◌, ◌≤◌, ◌⊎◌, inl, inr, ℕ, All, Bool, true, false, List, [], ◌∷◌, ◌++◌, ◌∙◌, ap, arith, refl, subst, sym}
use Rattle.std.proofs.Common.{get_or, length, length-append}
use Rattle.std.proofs.lemmas.List.{get_or_append_left, get_or_push}
use Rattle.std.proofs.lemmas.Option.{get_or_from_slice_get, slice_get-get_or, slice_get_within}
use Rattle.std.specs.Prelude.{Some, cond, nat_lt}
use Rattle.std.specs.List.{AllPairs, slice_get, slice_index_or}
use Rattle.std.proofs.lemmas.Bool.Decides.{nat_tests}
use Rattle.std.proofs.Math.Nat.{le_of_mul-le-mul_left, mul-le-mul_left}
use Rattle.page.specs.declared.lanes.ClassLane.{ClassLane}
use Rattle.page.specs.declared.lanes.Placed.{Placed}
use Rattle.page.specs.declared.pictures.Target.{Target}
use Rattle.page.specs.declared.wires.Lanes.{Lanes}
use Rattle.page.specs.declared.wires.Spread.{Spread}
use Rattle.page.specs.declared.wires.Ways.{Ways}
use Rattle.page.specs.declared.wires.Wire.{Wire}
use Rattle.page.specs.Layout.{KeepApart, Meet}
use Rattle.page.specs.WireViews.{ArriveFree, ArrivesFree, IsPairWire, IsPanelWire, IsWire, lane_at, pair_lane, panel_lane, route_of}
use Rattle.page.proofs.Pushes.{at-both}

order : (i j : ℕ) → (i < j) ⊎ ((i ≡ j) ⊎ (j < i))
order i j = go (nat_lt i j) refl (nat_lt j i) refl
  where
    go : (a : Bool) → nat_lt i j ≡ a → (b : Bool) → nat_lt j i ≡ b → (i < j) ⊎ ((i ≡ j) ⊎ (j < i))
    go true is b also = inl (less i j is)
      where
        less : (m n : ℕ) → nat_lt m n ≡ true → m < n
        less m n h = grind (arith, nat_tests)
    go false is true also = inr (inr (less j i also))
      where
        less : (m n : ℕ) → nat_lt m n ≡ true → m < n
        less m n h = grind (arith, nat_tests)
    go false is false also = inr (inl (same i j is also))
      where
        same : (m n : ℕ) → nat_lt m n ≡ false → nat_lt n m ≡ false → m ≡ n
        same m n h g = grind (arith, nat_tests)

-- what stands in a list with one more element behind it: what stood there, or that one
at-push : {X : Type 0} (xs : List X) (y : X) (i : ℕ) (x : X) → slice_get (xs ++ y ∷ []) i ≡ Some x → (slice_get xs i ≡ Some x) ⊎ ((i ≡ length xs) × (x ≡ y))
at-push xs y i x at =
    let is : get_or (xs ++ y ∷ []) i x ≡ x = get_or_from_slice_get (xs ++ y ∷ []) i x x at in
    elim (order i (length xs)) [
      | inl before ↦ inl (slice_get-get_or xs i x before ∙ ap Some (sym (get_or_append_left xs (y ∷ []) x i before) ∙ is))
      | inr (inl last) ↦ inr (last, sym is ∙ get_or_push xs y x i (sym last))
      | inr (inr behind) ↦
          let within = slice_get_within (xs ++ y ∷ []) i x at in
          let long = length-append xs (y ∷ []) in
          absurd (omega (arith, behind, within, long))
    ]

-- a panel more, at whose height there is no row of another one, if memory wasn't refused for it
pub free-push : (nets : List Target) (rows : List ℕ) (placed : List Placed) (before after : List ℕ) (stop i : ℕ) (ok : Bool) → after ≡ cond ok (before ++ stop ∷ []) before
    → length before ≡ i → ArriveFree nets rows placed before → ((p : Placed) → slice_get placed i ≡ Some p → ArrivesFree nets rows p.panel stop)
    → ArriveFree nets rows placed after
free-push nets rows placed before after stop i true is many free one = subst (ArriveFree nets rows placed) (sym is) go
  where
    go : ArriveFree nets rows placed (before ++ stop ∷ [])
    go place p height placed-at at =
        elim (at-push before stop place height at) [
          | inl old ↦ free place p height placed-at old
          | inr (last, same) ↦ subst (λ h. ArrivesFree nets rows p.panel h) (sym same) (one p (ap (slice_get placed) (sym many ∙ sym last) ∙ placed-at))
        ]
free-push nets rows placed before after stop i false is many free one = subst (ArriveFree nets rows placed) (sym is) free

-- numbers that rise

abbrev Rises : List ℕ → Type 0
Rises xs = AllPairs (λ p q. p + 4 ≤ q) xs

pub rising : (xs : List ℕ) (i j a b : ℕ) → Rises xs → slice_get xs i ≡ Some a → slice_get xs j ≡ Some b → i < j → a + 4 ≤ b
rising xs i j a b rise at also before = at-both (λ p q. p + 4 ≤ q) xs i j a b rise at also before

pub same-place : (xs : List ℕ) (i j a b : ℕ) → Rises xs → slice_get xs i ≡ Some a → slice_get xs j ≡ Some b → a ≡ b → i ≡ j
same-place xs i j a b rise at also same =
    elim (order i j) [
      | inl before ↦ let far = rising xs i j a b rise at also before in absurd (omega (arith, far, same))
      | inr (inl is) ↦ is
      | inr (inr behind) ↦ let far = rising xs j i b a rise also at behind in absurd (omega (arith, far, same))
    ]

-- a row three below one isn't there
pub none-near : (xs : List ℕ) (i j a : ℕ) → Rises xs → slice_get xs i ≡ Some a → slice_get xs j ≡ Some (a + 3) → ⊥
none-near xs i j a rise at also =
    elim (order i j) [
      | inl before ↦ let far = rising xs i j a (a + 3) rise at also before in omega (arith, far)
      | inr (inl is) ↦ let same : a ≡ a + 3 = some-same (sym at ∙ ap (slice_get xs) is ∙ also) in omega (arith, same)
      | inr (inr behind) ↦ let far = rising xs j i (a + 3) a rise also at behind in omega (arith, far)
    ]
  where
    some-same : {m n : ℕ} → Some m ≡ Some n → m ≡ n
    some-same is = cc

-- two lanes stand at two places
same-lane : (s : Spread) (i j a b : ℕ) → a ≡ lane_at s i → b ≡ lane_at s j → a ≡ b → i ≡ j
same-lane s i j a b is also same = go s.start s.step i j s.steps.0 (sym is ∙ same ∙ also)
  where
    go : (start step i j : ℕ) → 4 ≤ step → start + step * i ≡ start + step * j → i ≡ j
    go start step i j some same =
        let one : step * i ≤ step * j = omega (arith, same) in
        let other : step * j ≤ step * i = omega (arith, same) in
        let positive : 0 < step = omega (arith, some) in
        let up = le_of_mul-le-mul_left one positive in
        let down = le_of_mul-le-mul_left other positive in
        omega (arith, up, down)

-- two panels have two lanes
other-lane : (l : Lanes) (a b : ℕ) → a < l.panels.count → b < l.panels.count → panel_lane l a ≡ panel_lane l b → a ≡ b
other-lane l a b few also is = go l.panels.count l.is_wide few also is
  where
    go : (n : ℕ) (wide : Bool) → a < n → b < n → cond wide (n - 1 - a) a ≡ cond wide (n - 1 - b) b → a ≡ b
    go n true few also is = omega (arith, few, also, is)
    go n false few also is = is

-- the same row, the same panel: the same net
same-net : (nets : List Target) (i j : ℕ) (a b : Target) → slice_get nets i ≡ Some a → slice_get nets j ≡ Some b → i ≡ j → a ≡ b
same-net nets i j a b at also is = let same : Some a ≡ Some b = sym at ∙ ap (slice_get nets) is ∙ also in cc

-- wires to panels

abbrev Free : Ways → Type 0
Free ways = ArriveFree ways.nets.now ways.rows.now.items.items ways.placed.now ways.arrivals.now.items.items

-- one arrives at the height of the other's row
start-at-end : (ways : Ways) → Free ways → (v w : Wire) → IsPanelWire ways v → IsPanelWire ways w → v.from.y ≡ w.to.y → v.net ≡ w.net
start-at-end ways free v w p q same =
    let leads = free q.place q.placed w.to.y q.at q.to p.row (p.from ∙ ap Some same) in
    same-net ways.nets.now p.row p.row v.net (Target.Panel q.placed.panel) p.net leads refl ∙ sym q.is

one-place : (ways : Ways) (v w : Wire) (p : IsPanelWire ways v) (q : IsPanelWire ways w) → p.place ≡ q.place → v.net ≡ w.net
one-place ways v w p q same =
    let both : Some p.placed ≡ Some q.placed = sym p.at ∙ ap (slice_get ways.placed.now) same ∙ q.at in
    let one : p.placed ≡ q.placed = cc in
    p.is ∙ ap (λ (a : Placed). Target.Panel a.panel) one ∙ sym q.is

panels-apart : (ways : Ways) → Free ways → (v w : Wire) → IsPanelWire ways v → IsPanelWire ways w → (v.net ≡ w.net → ⊥)
    → KeepApart (route_of v) (route_of w)
panels-apart ways free v w p q differ =
    let rows = ways.rows.now in
    record {
      starts = λ same meet. differ (same-net ways.nets.now p.row q.row v.net w.net p.net q.net (same-place rows.items.items p.row q.row v.from.y w.from.y rows.rise p.from q.from same));
      start_end = λ same meet. differ (start-at-end ways free v w p q same);
      end_start = λ same meet. differ (sym (start-at-end ways free w v q p (sym same)));
      ends = λ same meet.
          differ (one-place ways v w p q (same-place ways.arrivals.now.items.items p.place q.place v.to.y w.to.y ways.arrivals.now.rise p.to q.to same));
      lanes = λ same meet.
          differ (one-place ways v w p q (other-lane ways.lanes.now p.place q.place p.few q.few (same-lane ways.lanes.now.panels _ _ v.lane w.lane p.lane q.lane same)));
    }

-- wires of pairs

-- what a wire of a pair is: its second end below the first
ends-below : (ways : Ways) (v : Wire) (p : IsPairWire ways v) → v.from.y + 4 ≤ v.to.y
ends-below ways v p = rising ways.rows.now.items.items p.class.first p.row v.from.y v.to.y ways.rows.now.rise p.from p.to p.after

-- one class ends above the first row of another
class-above : (ways : Ways) (v w : Wire) (p : IsPairWire ways v) (q : IsPairWire ways w) → p.class.last < q.class.first → v.to.y + 4 ≤ w.from.y
class-above ways v w p q above =
    let within = p.within in
    let before : p.row < q.class.first = omega (arith, above, within) in
    rising ways.rows.now.items.items p.row q.class.first v.to.y w.from.y ways.rows.now.rise p.to q.from before

apart-below : (a b c d : ℕ) → a + 4 ≤ b → b + 4 ≤ c → c + 4 ≤ d → Meet a b c d → ⊥
apart-below a b c d one two three meet = omega (arith, one, two, three, meet)

apart-above : (a b c d : ℕ) → a + 4 ≤ b → c + 4 ≤ d → d + 4 ≤ a → Meet a b c d → ⊥
apart-above a b c d one two three meet = omega (arith, one, two, three, meet)

one-class : (ways : Ways) (v w : Wire) (p : IsPairWire ways v) (q : IsPairWire ways w) → p.place ≡ q.place → v.net ≡ w.net
one-class ways v w p q same =
    let classes : Some p.class ≡ Some q.class = sym p.at ∙ ap (slice_get ways.classes.now.items.items) same ∙ q.at in
    let one : p.class ≡ q.class = cc in
    p.is ∙ ap (λ (c : ClassLane). Target.Pair c.class) one ∙ sym q.is

one-lane : (l : Lanes) (a b : ℕ) → a < l.pairs.count → b < l.pairs.count → pair_lane l a ≡ pair_lane l b → a ≡ b
one-lane l a b few also is = go l.pairs.count few also is
  where
    go : (n : ℕ) → a < n → b < n → n - 1 - a ≡ n - 1 - b → a ≡ b
    go n few also is = omega (arith, few, also, is)

lanes-apart : (ways : Ways) (v w : Wire) → IsPairWire ways v → IsPairWire ways w → (v.net ≡ w.net → ⊥) → v.lane ≡ w.lane → Meet v.from.y v.to.y w.from.y w.to.y → ⊥
lanes-apart ways v w p q differ same meet =
    let classes = ways.classes.now in
    let lane : p.class.lane ≡ q.class.lane =
    one-lane ways.lanes.now p.class.lane q.class.lane p.few q.few (same-lane ways.lanes.now.pairs _ _ v.lane w.lane p.lane q.lane same) in
    let below-v = ends-below ways v p in
    let below-w = ends-below ways w q in
    elim (order p.place q.place) [
      | inl before ↦
          let above = at-both (λ (a b : ClassLane). a.lane ≡ b.lane → a.last < b.first) classes.items.items p.place q.place p.class q.class classes.apart p.at q.at before lane in
          apart-below v.from.y v.to.y w.from.y w.to.y below-v (class-above ways v w p q above) below-w meet
      | inr (inl is) ↦ differ (one-class ways v w p q is)
      | inr (inr behind) ↦
          let above = at-both (λ (a b : ClassLane). a.lane ≡ b.lane → a.last < b.first) classes.items.items q.place p.place q.class p.class classes.apart q.at p.at behind (sym lane) in
          apart-above v.from.y v.to.y w.from.y w.to.y below-v below-w (class-above ways w v q p above) meet
    ]

pairs-apart : (ways : Ways) (v w : Wire) → IsPairWire ways v → IsPairWire ways w → (v.net ≡ w.net → ⊥) → KeepApart (route_of v) (route_of w)
pairs-apart ways v w p q differ =
    let rows = ways.rows.now in
    let nets = ways.nets.now in
    record {
      starts = λ same meet.
          differ (same-net nets p.class.first q.class.first v.net w.net p.first q.first (same-place rows.items.items p.class.first q.class.first v.from.y w.from.y rows.rise p.from q.from same));
      start_end = λ same meet.
          differ (same-net nets p.class.first q.row v.net w.net p.first q.net (same-place rows.items.items p.class.first q.row v.from.y w.to.y rows.rise p.from q.to same));
      end_start = λ same meet.
          differ (same-net nets p.row q.class.first v.net w.net p.net q.first (same-place rows.items.items p.row q.class.first v.to.y w.from.y rows.rise p.to q.from same));
      ends = λ same meet. differ (same-net nets p.row q.row v.net w.net p.net q.net (same-place rows.items.items p.row q.row v.to.y w.to.y rows.rise p.to q.to same));
      lanes = lanes-apart ways v w p q differ;
    }

-- a wire at the left of the boxes and one at the right

record IsLeft (ways : Ways) (w : Wire) : Type 0 where
  begin : w.from.x ≡ ways.lanes.now.left
  end : w.to.x ≡ ways.lanes.now.left
  lane : w.lane < ways.lanes.now.left

record IsRight (ways : Ways) (w : Wire) : Type 0 where
  begin : ways.lanes.now.right ≤ w.from.x
  end : ways.lanes.now.right ≤ w.to.x
  lane : ways.lanes.now.right < w.lane

is-left : (ways : Ways) (w : Wire) → IsPairWire ways w → IsLeft ways w
is-left ways w q =
    let l = ways.lanes.now in
    record { begin = q.begin; end = q.end; lane = go l.pairs.start l.pairs.step l.pairs.count q.class.lane w.lane l.left l.left_of q.lane }
  where
    go : (start step count lane x left : ℕ) → start + step * count < left → x ≡ start + step * (count - 1 - lane) → x < left
    go start step count lane x left h is =
        let before : count - 1 - lane ≤ count = omega arith in
        let low = mul-le-mul_left step before in
        omega (arith, h, is, low)

is-right : (ways : Ways) (w : Wire) → IsPanelWire ways w → IsRight ways w
is-right ways w q =
    let l = ways.lanes.now in
    let begin = q.begin in
    let end = q.end in
    let arrives = l.end in
    let after = l.right_of in
    let lane = q.lane in
    record { begin = omega (arith, begin); end = omega (arith, end, arrives); lane = omega (arith, after, lane) }

sides-apart : (a b c d left right : ℕ) → left < right → right ≤ a → right ≤ b → c ≤ left → d ≤ left → Meet a b c d → ⊥
sides-apart a b c d left right between ra rb lc ld meet = omega (arith, between, ra, rb, lc, ld, meet)

sides-apart-also : (a b c d left right : ℕ) → left < right → right ≤ c → right ≤ d → a ≤ left → b ≤ left → Meet a b c d → ⊥
sides-apart-also a b c d left right between rc rd la lb meet = omega (arith, between, rc, rd, la, lb, meet)

right-left : (ways : Ways) (v w : Wire) → IsRight ways v → IsLeft ways w → KeepApart (route_of v) (route_of w)
right-left ways v w r l =
    let left = ways.lanes.now.left in
    let right = ways.lanes.now.right in
    let between = ways.lanes.now.boxes in
    let r-lane : right ≤ v.lane = let h = r.lane in omega (arith, h) in
    let l-lane : w.lane ≤ left = let h = l.lane in omega (arith, h) in
    let l-begin : w.from.x ≤ left = let h = l.begin in omega (arith, h) in
    let l-end : w.to.x ≤ left = let h = l.end in omega (arith, h) in
    record {
      starts = λ same meet. sides-apart _ _ _ _ left right between r.begin r-lane l-begin l-lane meet;
      start_end = λ same meet. sides-apart _ _ _ _ left right between r.begin r-lane l-lane l-end meet;
      end_start = λ same meet. sides-apart _ _ _ _ left right between r-lane r.end l-begin l-lane meet;
      ends = λ same meet. sides-apart _ _ _ _ left right between r-lane r.end l-lane l-end meet;
      lanes = λ same meet. let a = r.lane in let b = l.lane in omega (arith, same, a, b, between);
    }

left-right : (ways : Ways) (v w : Wire) → IsLeft ways v → IsRight ways w → KeepApart (route_of v) (route_of w)
left-right ways v w l r =
    let left = ways.lanes.now.left in
    let right = ways.lanes.now.right in
    let between = ways.lanes.now.boxes in
    let r-lane : right ≤ w.lane = let h = r.lane in omega (arith, h) in
    let l-lane : v.lane ≤ left = let h = l.lane in omega (arith, h) in
    let l-begin : v.from.x ≤ left = let h = l.begin in omega (arith, h) in
    let l-end : v.to.x ≤ left = let h = l.end in omega (arith, h) in
    record {
      starts = λ same meet. sides-apart-also _ _ _ _ left right between r.begin r-lane l-begin l-lane meet;
      start_end = λ same meet. sides-apart-also _ _ _ _ left right between r-lane r.end l-begin l-lane meet;
      end_start = λ same meet. sides-apart-also _ _ _ _ left right between r.begin r-lane l-lane l-end meet;
      ends = λ same meet. sides-apart-also _ _ _ _ left right between r-lane r.end l-lane l-end meet;
      lanes = λ same meet. let a = r.lane in let b = l.lane in omega (arith, same, a, b, between);
    }

-- any two

keep-apart : (ways : Ways) → Free ways → (v w : Wire) → IsWire ways v → IsWire ways w → (v.net ≡ w.net → ⊥)
    → KeepApart (route_of v) (route_of w)
keep-apart ways free v w (inl p) (inl q) differ = panels-apart ways free v w p q differ
keep-apart ways free v w (inl p) (inr q) differ = right-left ways v w (is-right ways v p) (is-left ways w q)
keep-apart ways free v w (inr p) (inl q) differ = left-right ways v w (is-left ways v p) (is-right ways w q)
keep-apart ways free v w (inr p) (inr q) differ = pairs-apart ways v w p q differ

pub all-apart : (ways : Ways) → Free ways → (wires : List Wire) → All (IsWire ways) wires
    → AllPairs (λ v w. (v.net ≡ w.net → ⊥) → KeepApart (route_of v) (route_of w)) wires
all-apart ways free wires are i j d before within =
    keep-apart ways free (slice_index_or wires i d) (slice_index_or wires j d) (are i d (lower i j before within)) (are j d within)
  where
    lower : (m n : ℕ) → m < n → n < length wires → m < length wires
    lower m n h g = omega (arith, h, g)
