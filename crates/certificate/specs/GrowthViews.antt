-- What the code's growing of a certificate comes to.
use Rattle.std.specs.Prelude.{◌≡◌, ℕ, List, [], ◌∷◌, Option, Some, None, Result, Ok, Err}
use Rattle.texts.specs.declared.names.Name.{Name as NameCode}
use Rattle.certificate.specs.declared.lines.Refusal.{Refusal}
use Rattle.certificate.specs.declared.lines.Refusal.TheVariants.{Limit, Order, Memory}
use Rattle.certificate.specs.Bounds.{Certificate}
use Rattle.certificate.specs.Growth.{Refused, No_room, Out_of_order}
use Rattle.texts.specs.Views.{name_of}

-- What a line makes of a certificate: what taking it gives, or the certificate as it was, with the reason.
abbrev pub LineTaken : Result (Unit {0}) Refusal → Certificate → Certificate → Result Certificate Refused → Type 0
LineTaken (Ok _) old new answer = answer ≡ Ok new
LineTaken (Err Limit) old new answer = (answer ≡ Err No_room) × (new ≡ old)
LineTaken (Err Order) old new answer = (answer ≡ Err Out_of_order) × (new ≡ old)
LineTaken (Err Memory) old new answer = new ≡ old

-- names, in places of which some are empty
abbrev pub names_there : List (Option NameCode) → List (List ℕ)
names_there [] = []
names_there (None ∷ places) = names_there places
names_there (Some name ∷ places) = name_of name ∷ names_there places

-- What the code's growing by several lines comes to: the certificate, or that a line is refused; unless memory is wanting.
abbrev pub Grows : Result (Unit {0}) Refusal → Certificate → Option Certificate → Type 0
Grows (Ok _) new answer = answer ≡ Some new
Grows (Err Limit) new answer = answer ≡ None
Grows (Err Order) new answer = answer ≡ None
Grows (Err Memory) new answer = Unit {0}
