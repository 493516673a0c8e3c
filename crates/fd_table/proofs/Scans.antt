-- Searches below a number, and through a list.
use Rattle.std.proofs.Common.{◌&&◌, ◌≡◌, ℕ, zero, suc, ◌+◌, ◌<◌, Bool, true, false, ◌||◌, Option, Some, None, refl, arith, ap, ◌∙◌, sym, add-one}
use Rattle.std.specs.Prelude.{is_some, cond, not}
use Rattle.std.proofs.Math.Decide.{ℕ_discrete}
use Rattle.fd_table.specs.Descriptions.{Descriptor}
use Rattle.fd_table.specs.OpenFiles.{any_below, lowest_from}

or_true : (a b : Bool) → b ≡ true → (a || b) ≡ true
or_true true b is = refl
or_true false b is = is

pub or_false : (a b : Bool) → a ≡ false → b ≡ false → (a || b) ≡ false
or_false true b left right = absurd cc
or_false false b left right = right

pub left_false : (a b : Bool) → (a || b) ≡ false → a ≡ false
left_false true b is = absurd cc
left_false false b is = refl

pub right_false : (a b : Bool) → (a || b) ≡ false → b ≡ false
right_false true b is = absurd cc
right_false false b is = is

-- what passes is found
pub found_below : (n : ℕ) (test : ℕ → Bool) (i : ℕ) → i < n → test i ≡ true → any_below n test ≡ true
unfolding any_below
found_below zero test i below is = absurd (omega arith)
found_below (suc n) test i below is = go (ℕ_discrete i n) (λ less. found_below n test i less is)
  where
    go : Dec (i ≡ n) → (i < n → any_below n test ≡ true) → (test n || any_below n test) ≡ true
    go (yes same) rest = ap (λ k. test k || any_below n test) (sym same) ∙ ap (λ b. b || any_below n test) is
    go (no other) rest = or_true (test n) (any_below n test) (rest (omega (arith, other)))

-- a search that has found nothing goes on
pub none_more : (n : ℕ) (test : ℕ → Bool) → any_below n test ≡ false → test n ≡ false → any_below (n + 1) test ≡ false
unfolding any_below
none_more n test none here = rw add-one (or_false (test n) (any_below n test) here none)

pub none_at_start : (test : ℕ → Bool) → any_below 0 test ≡ false
unfolding any_below
none_at_start test = refl

-- where nothing is found, nothing passes
pub none_below : (n : ℕ) (test : ℕ → Bool) → any_below n test ≡ false → (i : ℕ) → i < n → test i ≡ false
unfolding any_below
none_below zero test none i below = absurd (omega arith)
none_below (suc n) test none i below = go (ℕ_discrete i n) (λ less. none_below n test (right_false (test n) (any_below n test) none) i less)
  where
    go : Dec (i ≡ n) → (i < n → test i ≡ false) → test i ≡ false
    go (yes same) rest = ap test same ∙ left_false (test n) (any_below n test) none
    go (no other) rest = rest (omega (arith, other))

pub nothing_below : (n : ℕ) (test : ℕ → Bool) → ((i : ℕ) → test i ≡ false) → any_below n test ≡ false
unfolding any_below
nothing_below zero test none = refl
nothing_below (suc n) test none = or_false (test n) (any_below n test) (none n) (nothing_below n test none)

pub two : (test : ℕ → Bool) → any_below 2 test ≡ (test 1 || (test 0 || false))
unfolding any_below
two test = refl

-- the lowest number without a descriptor
pub lowest_here : (left n m : ℕ) (row : ℕ → Option Descriptor) → m ≡ suc left → is_some (row n) ≡ false → lowest_from m n row ≡ Some n
unfolding lowest_from
lowest_here left n m row is free = ap (λ k. lowest_from k n row) is ∙ ap (λ b. cond b (lowest_from left (n + 1) row) (Some n)) free

pub lowest_later : (left n m : ℕ) (row : ℕ → Option Descriptor) → m ≡ suc left → is_some (row n) ≡ true → lowest_from m n row ≡ lowest_from left (n + 1) row
unfolding lowest_from
lowest_later left n m row is taken = ap (λ k. lowest_from k n row) is ∙ ap (λ b. cond b (lowest_from left (n + 1) row) (Some n)) taken

pub lowest_none : (n : ℕ) (row : ℕ → Option Descriptor) → lowest_from 0 n row ≡ None
unfolding lowest_from
lowest_none n row = refl

-- a search in one place, and then in another
pub first_found : (r x y : Bool) → r ≡ x → r ≡ true → r ≡ (x || (y || false))
first_found r true y is found = is
first_found r false y is found = absurd cc

pub second_decides : (r x y : Bool) → x ≡ false → r ≡ y → r ≡ (x || (y || false))
second_decides r true y none is = absurd cc
second_decides r false true none is = is
second_decides r false false none is = is

pub and_left : (a b : Bool) → a ≡ false → (a && b) ≡ false
and_left true b is = absurd cc
and_left false b is = refl

pub and_right : (a b : Bool) → b ≡ false → (a && b) ≡ false
and_right true b is = is
and_right false b is = refl

pub not_yes : (b : Bool) → not b ≡ true → b ≡ false
not_yes true is = absurd cc
not_yes false is = refl
