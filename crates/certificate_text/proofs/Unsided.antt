-- A channel whose side is none has no form, whatever else its line says.
use Rattle.std.proofs.Common.{◌≡◌, ℕ, List, ◌∷◌, refl, ap, ◌∙◌}
use Rattle.std.specs.Prelude.{Option, None, Result, Ok, Err}
use Rattle.certificate.specs.Bounds.{Held, Version}
use Rattle.certificate.specs.Lines.{Line}
use Rattle.certificate_text.specs.Faults.{Fault, Syntax, Limit, Order, both, formed}
use Rattle.certificate_text.specs.Words.{channel_of_words, channel_with, class_of_word, sends_of_words, side_of_word}

second-fails : {A B C : Type 0} (f : A → B → C) (a : Result A Fault) → both f a (Err Syntax) ≡ Err Syntax
second-fails f (Ok a) = refl
second-fails f (Err Syntax) = refl
second-fails f (Err Limit) = refl
second-fails f (Err Order) = refl

first-fails : {A B C : Type 0} (f : A → B → C) (b : Result B Fault) → both f (Err Syntax) b ≡ Err Syntax
first-fails f (Ok b) = refl
first-fails f (Err e) = refl

pub no-side : (version : Version) (class side : List ℕ) (words : List (List ℕ)) → side_of_word side ≡ None → channel_of_words version (class ∷ side ∷ words) ≡ Err Syntax
no-side version class side words none =
    ap (λ (o : Option ℕ). both (λ (given : Option Held → Line) sends. given sends) (both channel_with (class_of_word class) (formed o)) (sends_of_words version words)) none
    ∙ ap (λ (front : Result (Option Held → Line) Fault). both (λ (given : Option Held → Line) sends. given sends) front (sends_of_words version words))
    (second-fails channel_with (class_of_word class))
    ∙ first-fails (λ (given : Option Held → Line) sends. given sends) (sends_of_words version words)
