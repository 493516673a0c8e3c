-- The points of a certificate rise, and halves of points that rise are searched.
use Rattle.std.proofs.Common.{◌≡◌, ◌++◌, ◌∷◌, [], ℕ, true, List, refl, ap, sym, ◌∙◌, subst}
use Rattle.std.specs.List.{list_all}
use Rattle.std.specs.Cmp.{IsTotalOrder}
use Rattle.std.specs.declared.cmp.Ordering.{Ordering}
use Rattle.std.specs.declared.cmp.Ordering.TheVariants.{Less, Equal, Greater}
use Rattle.std.specs.Ordering.{is_lt}
use Rattle.std.proofs.lemmas.Cmp.{nat_cmp_total, nat_list_cmp_total, on_total, then_total}
use Rattle.std.proofs.lemmas.List.{map-append}
use Rattle.std.proofs.lemmas.List.Folds.{list_all-append}
use Rattle.certificate.specs.Bounds.{Bound, Certificate, PointBound, with_interval, with_slot}
use Rattle.certificate.specs.Lines.{Line, Begins_block, Bounds_register, Bounds_slot, Bounds_channel, Begins_authority, Bounds_grant, Holds_end}
use Rattle.certificate.specs.Growth.{IsCertificate, begins, grows, above_blocks, on_last, point_order, stands, with_line}
use Rattle.certificate.specs.Rising.{places_of, precedes, rises}
use Rattle.certificate.proofs.Growing.{and_left, and_right, both_true, taken-back}
use Rattle.certificate.proofs.Behind.{block_stands}

-- THE ORDER of places is total.
abbrev pub Place : Type 0
Place = List ℕ × ℕ

abbrev pub order : Place → Place → Ordering
order a b = point_order a.0 a.1 b.0 b.1

pub total : IsTotalOrder order
total = then_total (on_total (λ (a : Place). a.0) nat_list_cmp_total) (on_total (λ (a : Place). a.1) nat_cmp_total)

pub lt_less : (o : Ordering) → is_lt o ≡ true → o ≡ Less
lt_less Less is = refl
lt_less Equal is = absurd cc
lt_less Greater is = absurd cc

transitive : (a b d : Place) → precedes a b ≡ true → precedes b d ≡ true → precedes a d ≡ true
transitive a b d ab bd = ap is_lt (total.trans a b d (lt_less _ ab) (lt_less _ bd))

-- THE POINTS of a certificate rise.
all_transitive : (a b : Place) (places : List Place) → precedes a b ≡ true → list_all (precedes b) places ≡ true → list_all (precedes a) places ≡ true
all_transitive a b [] ab all = refl
all_transitive a b (d ∷ places) ab all =
    both_true (precedes a d) (list_all (precedes a) places)
    (transitive a b d ab (and_left (precedes b d) (list_all (precedes b) places) all))
    (all_transitive a b places ab (and_right (precedes b d) (list_all (precedes b) places) all))

above : (points : List PointBound) (program : List ℕ) (point : ℕ) → rises (places_of points) ≡ true → above_blocks points program point ≡ true
    → list_all (λ a. precedes a (program, point)) (places_of points) ≡ true
unfolding above_blocks
above [] program point up is = refl
above (b ∷ []) program point up is = both_true (precedes (b.program, b.point) (program, point)) true is refl
above (b ∷ d ∷ points) program point up is =
    let rest = and_right (list_all (precedes (b.program, b.point)) (places_of (d ∷ points))) (rises (places_of (d ∷ points))) up in
    let all = above (d ∷ points) program point rest is in
    let next = and_left (precedes (b.program, b.point) (d.program, d.point)) (list_all (precedes (b.program, b.point)) (places_of points))
    (and_left (list_all (precedes (b.program, b.point)) (places_of (d ∷ points))) (rises (places_of (d ∷ points))) up) in
    let last = and_left (precedes (d.program, d.point) (program, point)) (list_all (λ a. precedes a (program, point)) (places_of points)) all in
    both_true (precedes (b.program, b.point) (program, point)) (list_all (λ a. precedes a (program, point)) (places_of (d ∷ points)))
    (transitive (b.program, b.point) (d.program, d.point) (program, point) next last) all

rises-push : (places : List Place) (a : Place) → rises places ≡ true → list_all (λ b. precedes b a) places ≡ true → rises (places ++ a ∷ []) ≡ true
rises-push [] a up all = refl
rises-push (b ∷ places) a up all =
    let first = and_left (precedes b a) (list_all (λ d. precedes d a) places) all in
    both_true (list_all (precedes b) (places ++ a ∷ [])) (rises (places ++ a ∷ []))
    (list_all-append (precedes b) places (a ∷ [])
    ∙ both_true (list_all (precedes b) places) (list_all (precedes b) (a ∷ [])) (and_left (list_all (precedes b) places) (rises places) up)
    (both_true (precedes b a) true first refl))
    (rises-push places a (and_right (list_all (precedes b) places) (rises places) up) (and_right (precedes b a) (list_all (λ d. precedes d a) places) all))

places_kept : (f : Bound → Bound) (points : List PointBound) → places_of (on_last f points) ≡ places_of points
unfolding on_last
places_kept f [] = refl
places_kept f (b ∷ []) = refl
places_kept f (b ∷ d ∷ points) = ap (λ places. (b.program, b.point) ∷ places) (places_kept f (d ∷ points))

rises_made : (c : Certificate) (line : Line) → stands c line ≡ true → rises (places_of c.points) ≡ true → rises (places_of (with_line c line).points) ≡ true
rises_made c (Begins_block program point mode) place up =
    let higher = above c.points program point up (block_stands c (above_blocks c.points program point) place) in
    ap rises (map-append (λ (b : PointBound). (b.program, b.point)) c.points _) ∙ rises-push (places_of c.points) (program, point) up higher
rises_made c (Bounds_register register interval) place up = ap rises (places_kept (λ b. with_interval b register interval) c.points) ∙ up
rises_made c (Bounds_slot number slot) place up = ap rises (places_kept (λ b. with_slot b number slot) c.points) ∙ up
rises_made c (Bounds_channel channel) place up = up
rises_made c (Begins_authority program) place up = up
rises_made c (Bounds_grant ceiling) place up = up
rises_made c (Holds_end held) place up = up

pub certificates_rise : (c : Certificate) → IsCertificate c → rises (places_of c.points) ≡ true
certificates_rise _ (begins version) = refl
certificates_rise _ (grows {c} {d} valid line proper own took) =
    let is = taken-back c line d took in
    subst (λ (e : Certificate). rises (places_of e.points) ≡ true) is.made (rises_made c line is.place (certificates_rise c valid))

-- THE HALVES.
pub rises_front : (front back : List Place) (x : Place) → rises (front ++ x ∷ back) ≡ true → (rises front ≡ true) × (list_all (λ a. precedes a x) front ≡ true)
rises_front [] back x up = (refl, refl)
rises_front (a ∷ front) back x up =
    let first = and_left (list_all (precedes a) (front ++ x ∷ back)) (rises (front ++ x ∷ back)) up in
    let both = sym (list_all-append (precedes a) front (x ∷ back)) ∙ first in
    let before = and_left (list_all (precedes a) front) (list_all (precedes a) (x ∷ back)) both in
    let next = and_left (precedes a x) (list_all (precedes a) back) (and_right (list_all (precedes a) front) (list_all (precedes a) (x ∷ back)) both) in
    let rest = rises_front front back x (and_right (list_all (precedes a) (front ++ x ∷ back)) (rises (front ++ x ∷ back)) up) in (
      both_true (list_all (precedes a) front) (rises front) before rest.0,
      both_true (precedes a x) (list_all (λ b. precedes b x) front) next rest.1,
    )

pub rises_back : (front back : List Place) (x : Place) → rises (front ++ x ∷ back) ≡ true → (rises back ≡ true) × (list_all (precedes x) back ≡ true)
rises_back [] back x up = (and_right (list_all (precedes x) back) (rises back) up, and_left (list_all (precedes x) back) (rises back) up)
rises_back (a ∷ front) back x up = rises_back front back x (and_right (list_all (precedes a) (front ++ x ∷ back)) (rises (front ++ x ∷ back)) up)
