-- What fails of two lists, and of what elements give.
use Rattle.std.proofs.Common.{◌≡◌, Bool, true, false, List, [], ◌∷◌, ◌++◌, map, refl, ap, cond}
use Rattle.transfer.specs.Tested.{failing}

pub failing_append : {A : Type 0} (test : A → Bool) (xs ys : List A) → failing test (xs ++ ys) ≡ failing test xs ++ failing test ys
failing_append test [] ys = refl
failing_append {A} test (x ∷ xs) ys = go (test x) (failing_append test xs ys)
  where
    go : (passes : Bool) → failing test (xs ++ ys) ≡ failing test xs ++ failing test ys
        → cond passes (failing test (xs ++ ys)) (x ∷ failing test (xs ++ ys)) ≡ cond passes (failing test xs) (x ∷ failing test xs) ++ failing test ys
    go true same = same
    go false same = ap (λ rest. x ∷ rest) same

pub failing_map : {A B : Type 0} (test : B → Bool) (f : A → B) (xs : List A) → failing test (map f xs) ≡ map f (failing (λ x. test (f x)) xs)
failing_map test f [] = refl
failing_map {A} test f (x ∷ xs) = go (test (f x)) (failing_map test f xs)
  where
    go : (passes : Bool) → failing test (map f xs) ≡ map f (failing (λ y. test (f y)) xs)
        → cond passes (failing test (map f xs)) (f x ∷ failing test (map f xs)) ≡ map f (cond passes (failing (λ y. test (f y)) xs) (x ∷ failing (λ y. test (f y)) xs))
    go true same = same
    go false same = ap (λ rest. f x ∷ rest) same
