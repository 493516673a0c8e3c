-- Words that are read as a part of a line are that part's text.
use Rattle.std.proofs.Common.{◌≡◌, ℕ, ◌^◌, ◌<◌, ◌≤◌, Bool, true, false, cond, List, [], ◌∷◌, ◌++◌, decimal, refl, ap, sym, ◌∙◌, subst, arith, eqb-true, leb-true, lt-ltb}
use Rattle.std.specs.Prelude.{◌==◌, nat_le, nat_lt, codes, Option, Some, None, Result, Ok, Err}
use Rattle.std.specs.Str.{bytes_eq}
use Rattle.rights.specs.Classes.{Class, Initial, Made_at}
use Rattle.rights.proofs.Words.{same_bytes}
use Rattle.texts.specs.Names.{is_name}
use Rattle.texts.specs.Numbers.{number_of}
use Rattle.texts.specs.Parts.{joined, parts}
use Rattle.texts.proofs.NumberTexts.{decimal-number}
use Rattle.texts.proofs.WordLaws.{joined-parts}
use Rattle.certificate.specs.Bounds.{ModeBound, Off, On, Either}
use Rattle.certificate.specs.Lines.{is_named_class, is_numbered_class}
use Rattle.certificate_text.specs.Faults.{Fault, Syntax, Limit, both, formed, with_part}
use Rattle.certificate_text.specs.Texts.{class_word, mode_word, side_word}
use Rattle.certificate_text.specs.Words.{class_of_word}
use Rattle.certificate_text.specs.Words.{mode_of_word, name_of_word, point_of_program}
use Rattle.certificate_text.specs.Words.{side_of_word, up_to}

-- PARTS

-- what two parts are of which a whole is made
pub record Both {A B C : Type 0} (f : A → B → C) (a : Result A Fault) (b : Result B Fault) (c : C) : Type 0 where
  pub left : A
  pub right : B
  pub left_is : a ≡ Ok left
  pub right_is : b ≡ Ok right
  pub whole : f left right ≡ c

pub both-is : {A B C : Type 0} (f : A → B → C) (a : Result A Fault) (b : Result B Fault) (c : C) → both f a b ≡ Ok c → Both f a b c
both-is f (Ok a) (Ok b) c is = record { left = a; right = b; left_is = refl; right_is = refl; whole = cc }
both-is f (Ok a) (Err e) c is = absurd cc
both-is f (Err d) (Ok b) c is = absurd cc
both-is f (Err d) (Err e) c is = absurd cc

pub with-is : {A B : Type 0} (f : A → B) (a : Result A Fault) (b : B) → with_part f a ≡ Ok b → (x : A) × (a ≡ Ok x) × (f x ≡ b)
with-is f (Ok a) b is = (a, refl, cc)
with-is f (Err e) b is = absurd cc

pub formed-is : {A : Type 0} (o : Option A) (a : A) → formed o ≡ Ok a → o ≡ Some a
formed-is None a is = absurd cc
formed-is (Some x) a is = cc

-- WORDS

pub up-to-is : (limit n : ℕ) (word : List ℕ) → limit < 2 ^ 64 → up_to limit (number_of word) ≡ Ok n → (decimal n ≡ word) × (n ≤ limit)
up-to-is limit n word below is = go (number_of word) refl is
  where
    within : (m : ℕ) (small : Bool) → number_of word ≡ Some m → nat_le m limit ≡ small → cond small (Ok m) (Err Limit) ≡ Ok n → (decimal n ≡ word) × (n ≤ limit)
    within m false read small is = absurd cc
    within m true read small is =
        let same : m ≡ n = cc in
        let low = leb-true m limit small in
        (sym (decimal-number word n (omega (arith, same, low, below)) (read ∙ ap Some same)), omega (arith, same, low))

    go : (o : Option ℕ) → number_of word ≡ o → up_to limit o ≡ Ok n → (decimal n ≡ word) × (n ≤ limit)
    go None read is = absurd cc
    go (Some m) read is = within m (nat_le m limit) read refl is

pub name-is : (word name : List ℕ) → name_of_word word ≡ Ok name → (name ≡ word) × (is_name name ≡ true)
name-is word name is = go (is_name word) refl is
  where
    go : (named : Bool) → is_name word ≡ named → cond named (Ok word) (Err Syntax) ≡ Ok name → (name ≡ word) × (is_name name ≡ true)
    go false named is = absurd cc
    go true named is = let same : name ≡ word = cc in (same, ap is_name same ∙ named)

pub mode-is : (word : List ℕ) (mode : ModeBound) → mode_of_word word ≡ Some mode → mode_word mode ≡ word
mode-is word mode is = go (bytes_eq word (codes "off")) (bytes_eq word (codes "on")) (bytes_eq word (codes "maybe")) refl refl refl is
  where
    of-mode : (m : ModeBound) → Some m ≡ Some mode → bytes_eq word (mode_word m) ≡ true → mode_word mode ≡ word
    of-mode m is same = let mode_is : mode ≡ m = cc in ap mode_word mode_is ∙ sym (same_bytes word (mode_word m) same)

    go : (off on either : Bool) → bytes_eq word (codes "off") ≡ off → bytes_eq word (codes "on") ≡ on → bytes_eq word (codes "maybe") ≡ either
        → cond off (Some Off) (cond on (Some On) (cond either (Some Either) None)) ≡ Some mode → mode_word mode ≡ word
    go true on either a b c is = of-mode Off is a
    go false true either a b c is = of-mode On is b
    go false false true a b c is = of-mode Either is c
    go false false false a b c is = absurd cc

pub side-is : (word : List ℕ) (side : ℕ) → side_of_word word ≡ Some side → (side_word side ≡ word) × (nat_lt side 2 ≡ true)
side-is word side is = go (bytes_eq word (codes "a")) (bytes_eq word (codes "b")) refl refl is
  where
    of-side : (n : ℕ) → Some n ≡ Some side → bytes_eq word (side_word n) ≡ true → n < 2 → (side_word side ≡ word) × (nat_lt side 2 ≡ true)
    of-side n is same below =
        let side_is : side ≡ n = cc in (ap side_word side_is ∙ sym (same_bytes word (side_word n) same), lt-ltb side 2 (omega (arith, side_is, below)))

    go : (first second : Bool) → bytes_eq word (codes "a") ≡ first → bytes_eq word (codes "b") ≡ second
        → cond first (Some 0) (cond second (Some 1) None) ≡ Some side → (side_word side ≡ word) × (nat_lt side 2 ≡ true)
    go true second a b is = of-side 0 is a (omega arith)
    go false true a b is = of-side 1 is b (omega arith)
    go false false a b is = absurd cc

-- CLASSES

pub record ClassIs (word : List ℕ) (class : Class) : Type 0 where
  pub word_is : class_word class ≡ word
  pub named : is_named_class class ≡ true
  pub numbered : is_numbered_class class ≡ true

pub point-is : (words : List (List ℕ)) (class : Class) → point_of_program words ≡ Ok class → ClassIs (joined 58 words) class
point-is [] class is = absurd cc
point-is (program ∷ []) class is = absurd cc
point-is (program ∷ point ∷ []) class is =
    let parts_are = both-is Made_at (name_of_word program) (up_to 255 (number_of point)) class is in
    let name = name-is program parts_are.left parts_are.left_is in
    let number = up-to-is 255 parts_are.right point (omega arith) parts_are.right_is in
    let low = number.1 in
    subst (ClassIs (program ++ 58 ∷ point)) parts_are.whole (record {
      word_is = λ i. name.0 i ++ 58 ∷ number.0 i;
      named = name.1;
      numbered = lt-ltb parts_are.right 256 (omega (arith, low));
    })
point-is (program ∷ point ∷ more ∷ words) class is = absurd cc

pub class-is : (word : List ℕ) (class : Class) → class_of_word word ≡ Ok class → ClassIs word class
class-is [] class is = absurd cc
class-is (b ∷ word) class is = go (b == 64) refl is
  where
    go : (at : Bool) → (b == 64) ≡ at → cond at (with_part Initial (up_to 31 (number_of word))) (point_of_program (parts 58 (b ∷ word))) ≡ Ok class → ClassIs (b ∷ word) class
    go true at is =
        let part = with-is Initial (up_to 31 (number_of word)) class is in
        let number = up-to-is 31 part.0 word (omega arith) part.1 in
        let low = number.1 in
        subst (ClassIs (b ∷ word)) part.2 (record {
          word_is = λ i. sym (eqb-true b 64 at) i ∷ number.0 i;
          named = refl;
          numbered = lt-ltb part.0 32 (omega (arith, low));
        })
    go false at is = subst (λ w. ClassIs w class) (joined-parts 58 (b ∷ word)) (point-is (parts 58 (b ∷ word)) class is)
