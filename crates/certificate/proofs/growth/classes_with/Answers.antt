use Rattle.std.proofs.Common.{◌≡◌, ◌≢◌, ◌+◌, ◌<◌, ◌||◌, Bool, true, false, List, length, ap, sym, ◌∙◌, arith, refl}
use Rattle.std.specs.Prelude.{◌≤◌, Some, option_map}
use Rattle.std.specs.List.{flat_map, list_any}
use Rattle.std.proofs.lemmas.List.{length_push}
use Rattle.std.proofs.lemmas.List.Folds.{list_any-append}
use Rattle.rights.specs.Classes.{Class}
use Rattle.certificate.specs.Bounds.{ChannelBound, Authority}
use Rattle.certificate.specs.Order.{same_class}
use Rattle.certificate.specs.Growth.{all_classes, classes_held, classes_in, distinct, most_classes}
use Rattle.certificate.specs.Views.{authorities_of, channels_of, class_of}
use Rattle.certificate.proofs.Distinct.{listed_full, listed_known, listed_new, listed_nothing}
use Rattle.certificate.proofs.ClassLaws.{classes_any}
use Rattle.certificate.proofs.growth.classes_with.Goals as goal
use Rattle.certificate.proofs.growth.classes_with.Goals.{then-has_class-via-then-has_class, then-has_class-via-else-has_class+then-is_class_held}

-- whether a class is counted already, by whether it is one of channels, or of ends
is_counted : (channels : List ChannelBound) (authorities : List Authority) (class : Class) (a b : Bool)
    → a ≡ list_any (λ y. same_class y class) (classes_in channels)
    → b ≡ list_any (λ y. same_class y class) (flat_map classes_held authorities)
    → list_any (λ y. same_class y class) (distinct same_class (all_classes channels authorities)) ≡ (a || b)
is_counted channels authorities class a b is_a is_b =
    classes_any (all_classes channels authorities) class ∙ list_any-append (λ y. same_class y class) (classes_in channels) (flat_map classes_held authorities)
    ∙ (λ i. sym is_a i || sym is_b i)

or_true : (a : Bool) → (a || true) ≡ true
or_true true = refl
or_true false = refl

held_counted : (channels : List ChannelBound) (authorities : List Authority) (class : Class) (a : Bool)
    → a ≡ list_any (λ y. same_class y class) (classes_in channels)
    → true ≡ list_any (λ y. same_class y class) (flat_map classes_held authorities)
    → list_any (λ y. same_class y class) (distinct same_class (all_classes channels authorities)) ≡ true
held_counted channels authorities class a is_a is_b = is_counted channels authorities class a true is_a is_b ∙ or_true a

pub returns-in_default : goal.returns-in_default
returns-in_default c =
    let known = distinct same_class (all_classes (channels_of c.args.channels.now) (authorities_of c.args.authorities.now)) in
    let few : length known ≤ most_classes = omega (arith, c.requires.counted, c.requires.few) in
    rw (c.in_default.ensures)
    (ap Some c.requires.counted ∙ sym (ap (option_map length) (listed_nothing same_class most_classes known few)))

pub returns-then-has_class : goal.returns-then-has_class
returns-then-has_class c =
    let channels = channels_of c.args.channels.now in
    let authorities = authorities_of c.args.authorities.now in
    let known = distinct same_class (all_classes channels authorities) in
    let few : length known ≤ most_classes = omega (arith, c.requires.counted, c.requires.few) in
    let class = class_of c.in-Some.class in
    rw (c.in-Some.ensures)
    (ap Some c.requires.counted ∙ sym (ap (option_map length) (listed_known same_class most_classes known class few
    (elim c.then-has_class.branch [
      | then-has_class-via-then-has_class w ↦ is_counted channels authorities class true _ (sym w.if-has_class.true ∙ c.has_class.ensures) refl
      | then-has_class-via-else-has_class+then-is_class_held w ↦ held_counted channels authorities class _ c.has_class.ensures (sym w.if-is_class_held.true ∙ w.is_class_held.ensures)
    ]))))

pub returns-then-classes-eq-MAX_CLASSES : goal.returns-then-classes-eq-MAX_CLASSES
returns-then-classes-eq-MAX_CLASSES c =
    let channels = channels_of c.args.channels.now in
    let authorities = authorities_of c.args.authorities.now in
    let known = distinct same_class (all_classes channels authorities) in
    let full : length known ≡ most_classes = sym c.requires.counted ∙ c.if-classes-eq-MAX_CLASSES.true in
    let class = class_of c.in-Some.class in
    rw (c.in-Some.ensures)
    (sym (ap (option_map length) (listed_full same_class most_classes known class full
    (is_counted channels authorities class false false (c.if-has_class.ensures) (c.if-is_class_held.ensures)))))

pub returns : goal.returns
returns c =
    let channels = channels_of c.args.channels.now in
    let authorities = authorities_of c.args.authorities.now in
    let known = distinct same_class (all_classes channels authorities) in
    let not_full : c.args.classes ≢ most_classes = c.if-classes-eq-MAX_CLASSES.false in
    let few : length known < most_classes = omega (arith, c.requires.counted, c.requires.few, not_full) in
    let class = class_of c.in-Some.class in
    rw (c.in-Some.ensures)
    (ap Some (ap (λ n. n + 1) c.requires.counted ∙ sym (length_push known class))
    ∙ sym (ap (option_map length) (listed_new same_class most_classes known class few
    (is_counted channels authorities class false false (c.if-has_class.ensures) (c.if-is_class_held.ensures)))))
