-- The different classes among some are the same ones.
use Rattle.std.proofs.Common.{◌≡◌, ◌||◌, ◌++◌, ◌∷◌, [], Bool, true, false, List, refl, ap, sym, ◌∙◌, subst}
use Rattle.std.specs.Prelude.{if◌then◌else◌}
use Rattle.std.specs.List.{list_any}
use Rattle.std.proofs.lemmas.List.Folds.{list_any-append}
use Rattle.rights.specs.Classes.{Class}
use Rattle.certificate.specs.Order.{same_class}
use Rattle.certificate.specs.OrderLaws.{class_is}
use Rattle.certificate.specs.Growth.{distinct, distinct_behind}

-- whether a class is among some
abbrev among : Class → List Class → Bool
among class classes = list_any (λ y. same_class y class) classes

or_false : (a b : Bool) → (a || (b || false)) ≡ (a || b)
or_false true b = refl
or_false false true = refl
or_false false false = refl

-- one that is among some already answers for no other one
swallows : (x class : Class) (listed : List Class) → among x listed ≡ true → same_class x class ≡ true → among class listed ≡ true
swallows x class listed is same = subst (λ c. among c listed ≡ true) (class_is x class same) is

known : (a b : Bool) → (b ≡ true → a ≡ true) → a ≡ (a || b)
known true b settles = refl
known false true settles = settles refl
known false false settles = refl

step : (x class : Class) (listed : List Class) (b : Bool) → b ≡ among x listed
    → among class (if b then listed else listed ++ x ∷ []) ≡ (among class listed || same_class x class)
step x class listed true is = known (among class listed) (same_class x class) (swallows x class listed (sym is))
step x class listed false is =
    list_any-append (λ y. same_class y class) listed (x ∷ []) ∙ or_false (among class listed) (same_class x class)

or_assoc : (a b c : Bool) → ((a || b) || c) ≡ (a || (b || c))
or_assoc true b c = refl
or_assoc false b c = refl

behind_any : (listed xs : List Class) (class : Class) → among class (distinct_behind same_class listed xs) ≡ (among class listed || among class xs)
unfolding distinct_behind
behind_any listed [] class = known (among class listed) false (λ no. absurd cc)
behind_any listed (x ∷ xs) class =
    behind_any (if among x listed then listed else listed ++ x ∷ []) xs class
    ∙ ap (λ b. b || among class xs) (step x class listed (among x listed) refl)
    ∙ or_assoc (among class listed) (same_class x class) (among class xs)

pub classes_any : (classes : List Class) (class : Class)
    → list_any (λ y. same_class y class) (distinct same_class classes) ≡ list_any (λ y. same_class y class) classes
classes_any classes class = behind_any [] classes class
