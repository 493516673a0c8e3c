-- What is written on a page, one part behind another.
use Rattle.std.proofs.Common.{◌≡◌, ◌+◌, ◌-◌, ◌<◌, ◌≤◌, ◌∙◌, ◌++◌, ◌∷◌, ℕ, true, false, List, [], ap, arith, drop, length, map, subst, sym, take}
use Rattle.std.specs.Prelude.{Result, Ok, Err, IfOk, OnOk, OnErr}
use Rattle.std.specs.List.{range_with_len, slice_index_or}
use Rattle.std.specs.declared.vec.Vec.{Vec}
use Rattle.std.specs.declared.alloc.Global.{Global}
use Rattle.std.proofs.lemmas.List.{append_assoc, append-nil, map-id, take_rest}
use Rattle.std.proofs.lemmas.List.FromFn.{map-range_with_len_more}
use Rattle.texts.specs.PageViews.{Adds}
use Rattle.texts.specs.declared.pages.Page.{Page}
use Rattle.explain.specs.Listing.{InOrder, no_more, one_more}
use Rattle.explain.specs.ListingViews.{AddsSome}

-- a text that is known
pub written : (Tells : List ℕ → Type 0) (p q : Page) (text : List ℕ) → Adds p q text → Tells text → AddsSome Tells p q
written Tells p q text adds told = record { keeps = adds.keeps; writes = λ whole. (text, told, adds.adds whole) }

-- two, one behind the other
pub both : (A B C : List ℕ → Type 0) (p q r : Page) → ((a b : List ℕ) → A a → B b → C (a ++ b)) → AddsSome A p q → AddsSome B q r → AddsSome C p r
both A B C p q r joins first second = record {
  keeps = λ whole. first.keeps (second.keeps whole);
  writes = λ whole.
      let one = first.writes (second.keeps whole) in
      let other = second.writes whole in (
        one.0 ++ other.0,
        joins one.0 other.0 one.1 other.1,
        other.2 ∙ (ap (λ text. text ++ other.0) one.2 ∙ append_assoc p.bytes.items one.0 other.0),
      );
}

-- nothing, and one before others
pub none_written : {X : Type 0} (Tells : X → List ℕ → Type 0) (p : Page) → AddsSome (InOrder Tells []) p p
none_written Tells p = record { keeps = λ whole. whole; writes = λ whole. ([], no_more, sym (append-nil p.bytes.items)) }

pub one_written : {X : Type 0} (Tells : X → List ℕ → Type 0) (p q r : Page) (x : X) (xs : List X) → AddsSome (Tells x) p q → AddsSome (InOrder Tells xs) q r
    → AddsSome (InOrder Tells (x ∷ xs)) p r
one_written Tells p q r x xs first others = both (Tells x) (InOrder Tells xs) (InOrder Tells (x ∷ xs)) p q r (λ a b told rest. one_more x told rest) first others

-- the first of a list, and the others
pub empty_written : {X Y : Type 0} (Tells : Y → List ℕ → Type 0) (f : X → Y) (p : Page) (xs : List X) → length xs < 1 → AddsSome (InOrder Tells (map f xs)) p p
empty_written Tells f p [] none = none_written Tells p
empty_written Tells f p (x ∷ xs) none = absurd (omega arith)

pub first_written : {X Y : Type 0} (Tells : Y → List ℕ → Type 0) (f : X → Y) (p q r : Page) (xs : List X) (x : X) → 1 ≤ length xs → x ≡ slice_index_or xs 0 x
    → AddsSome (Tells (f x)) p q → AddsSome (InOrder Tells (map f (take (length xs - 1) (drop 1 xs)))) q r → AddsSome (InOrder Tells (map f xs)) p r
first_written Tells f p q r [] x some is first others = absurd (omega arith)
first_written Tells f p q r (y ∷ xs) x some is first others =
    one_written Tells p q r (f y) (map f xs) (subst (λ z. AddsSome (Tells (f z)) p q) is first)
    (subst (λ rest. AddsSome (InOrder Tells (map f rest)) q r) (take_rest (y ∷ xs) 1) others)

-- one behind others
one_behind : {X : Type 0} (Tells : X → List ℕ → Type 0) (x : X) (last : List ℕ) {xs : List X} {text : List ℕ} → InOrder Tells xs text → Tells x last
    → InOrder Tells (xs ++ (x ∷ [])) (text ++ last)
one_behind Tells x last no_more told = subst (λ (text : List ℕ). InOrder Tells (x ∷ []) text) (append-nil last) (one_more x told no_more)
one_behind Tells x last (one_more y {xs} {text} {behind} before others) told =
    subst (λ (all : List ℕ). InOrder Tells (y ∷ (xs ++ (x ∷ []))) all) (sym (append_assoc text behind last)) (one_more y before (one_behind Tells x last others told))

range_more : (n : ℕ) → range_with_len 0 (n + 1) ≡ range_with_len 0 n ++ n ∷ []
range_more n =
    sym (map-id (range_with_len 0 (n + 1))) ∙ map-range_with_len_more (λ m. m) 0 n n (omega arith)
    ∙ ap (λ list. list ++ n ∷ []) (map-id (range_with_len 0 n))

pub number_written : (Tells : ℕ → List ℕ → Type 0) (p q r : Page) (n : ℕ) → AddsSome (InOrder Tells (range_with_len 0 n)) p q → AddsSome (Tells n) q r
    → AddsSome (InOrder Tells (range_with_len 0 (n + 1))) p r
number_written Tells p q r n before next =
    both (InOrder Tells (range_with_len 0 n)) (Tells n) (InOrder Tells (range_with_len 0 (n + 1))) p q r
    (λ a b others told. subst (λ (numbers : List ℕ). InOrder Tells numbers (a ++ b)) (sym (range_more n)) (one_behind Tells n b others told)) before next

-- What was gathered is told, unless memory was refused for it.
pub gathered_written : {X Y E : Type 0} (Tells : Y → List ℕ → Type 0) (f : X → Y) (p q r : Page) (found : Result (Vec X Global) E) (list : Vec X Global) (xs : List X) (all : List Y)
    → IfOk found (λ items. map f items.items ≡ all) → IfOk found (λ items. list ≡ items) → OnOk found (q ≡ p) → OnErr found (q.is_short ≡ true)
    → xs ≡ list.items → AddsSome (InOrder Tells (map f xs)) q r → AddsSome (InOrder Tells all) p r
gathered_written Tells f p q r (Ok items) list xs all are is same short lent writes =
    subst (λ (front : Page). AddsSome (InOrder Tells all) front r) same
    (subst (λ (ys : List _). AddsSome (InOrder Tells ys) q r) (ap (map f) (lent ∙ ap (λ vec. vec.items) is) ∙ are) writes)
gathered_written Tells f p q r (Err e) list xs all are is same short lent writes = record {
  keeps = λ whole. absurd (let clash : true ≡ false = sym short ∙ writes.keeps whole in cc);
  writes = λ whole. absurd (let clash : true ≡ false = sym short ∙ writes.keeps whole in cc);
}
