-- Bounds that grow: by a join, or with a register in a wider interval.
use Rattle.std.proofs.Common.{◌≡◌, ℕ, zero, suc, true, List, [], ◌∷◌, length, sym, subst}
use Rattle.std.specs.Prelude.{◌&&◌, slice_set, Option, Some}
use Rattle.std.specs.List.{slice_index_or}
use Rattle.certificate.specs.Bounds.{Bound, Interval, full_interval, interval, with_interval}
use Rattle.certificate.specs.Joins.{bound_join}
use Rattle.certificate.specs.JoinLaws.{bound-left, bound-right}
use Rattle.certificate.specs.Order.{bound_within, each_within, interval_within, mode_within, slot_within}
use Rattle.certificate.specs.OrderLaws.{bound-refl, bound-trans}
use Rattle.certificate.specs.Views.{bound_of}
use Rattle.certificate.specs.declared.bounds.Bound.{Bound as BoundCode}
use Rattle.rules.specs.Outcomes.{Outcome}
use Rattle.searcher.specs.PointStateViews.{lies_in}
use Rattle.certificate.proofs.Growing.{and_left, and_right, both_true}

each_set : (xs ys : List Interval) (n : ℕ) (i : Interval) → each_within interval_within xs ys ≡ true → interval_within (slice_index_or xs n full_interval) i ≡ true
    → each_within interval_within xs (slice_set ys n i) ≡ true
each_set [] [] n i all one = all
each_set [] (y ∷ ys) n i all one = absurd cc
each_set (x ∷ xs) [] n i all one = absurd cc
each_set (x ∷ xs) (y ∷ ys) zero i all one =
    both_true (interval_within x i) (each_within interval_within xs ys) one (and_right (interval_within x y) (each_within interval_within xs ys) all)
each_set (x ∷ xs) (y ∷ ys) (suc n) i all one =
    both_true (interval_within x y) (each_within interval_within xs (slice_set ys n i)) (and_left (interval_within x y) (each_within interval_within xs ys) all)
    (each_set xs ys n i (and_right (interval_within x y) (each_within interval_within xs ys) all) one)

wider : (a b : Bound) (r : ℕ) (i : Interval) → bound_within a b ≡ true → interval_within (interval a.registers r) i ≡ true → bound_within a (with_interval b r i) ≡ true
wider a b r i all one =
    let first = mode_within a.mode b.mode && each_within interval_within a.registers b.registers in
    let slots = each_within slot_within a.slots b.slots in
    let two = and_left first slots all in
    both_true (mode_within a.mode b.mode && each_within interval_within a.registers (slice_set b.registers r i)) slots
    (both_true (mode_within a.mode b.mode) (each_within interval_within a.registers (slice_set b.registers r i))
    (and_left (mode_within a.mode b.mode) (each_within interval_within a.registers b.registers) two)
    (each_set a.registers b.registers r i (and_right (mode_within a.mode b.mode) (each_within interval_within a.registers b.registers) two) one))
    (and_right first slots all)

pub held_wider : (a b next : Bound) (r : ℕ) (old i : Interval) → bound_within a b ≡ true → old ≡ interval a.registers r → interval_within old i ≡ true
    → next ≡ with_interval b r i → bound_within a next ≡ true
held_wider a b next r old i all own one is =
    subst (λ n. bound_within a n ≡ true) (sym is) (wider a b r i all (subst (λ old. interval_within old i ≡ true) own one))

-- A join is above both of its bounds.
pub above_left : (a b joined : Bound) → joined ≡ bound_join a b → (length a.registers ≡ length b.registers) × (length a.slots ≡ length b.slots) → bound_within a joined ≡ true
above_left a b joined is fit = subst (λ j. bound_within a j ≡ true) (sym is) (bound-left a b fit.0 fit.1)

pub above_right : (a c b joined : Bound) → b ≡ c → joined ≡ bound_join a b → (length a.registers ≡ length b.registers) × (length a.slots ≡ length b.slots)
    → bound_within c joined ≡ true
above_right a c b joined same is fit = subst (λ d. bound_within d joined ≡ true) same (subst (λ j. bound_within b j ≡ true) (sym is) (bound-right a b fit.0 fit.1))

pub within_itself : (a b : Bound) → b ≡ a → bound_within a b ≡ true
within_itself a b is = subst (λ d. bound_within a d ≡ true) (sym is) (bound-refl a)

-- What lay in a bound lies in a greater one.
pub still_lies : (known : Option BoundCode) (there next : BoundCode) (o : Outcome) → known ≡ Some there → bound_within (bound_of there) (bound_of next) ≡ true
    → lies_in known o ≡ true → bound_within o.bound (bound_of next) ≡ true
still_lies known there next o is grows lies =
    bound-trans o.bound (bound_of there) (bound_of next) (subst (λ known. lies_in known o ≡ true) is lies) grows
