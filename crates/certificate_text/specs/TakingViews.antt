-- What the code takes of the words of a line.
use Rattle.std.specs.Prelude.{◌≡◌, ℕ, Bool, true, false, nat_le, List, [], ◌∷◌, Option, Some, None, Result, Ok, Err, if◌then◌else◌}
use Rattle.std.specs.Borrow.{Bor}
use Rattle.certificate_text.specs.declared.faults.LineFault.{LineFault}
use Rattle.certificate_text.specs.declared.faults.LineFault.TheVariants as line
use Rattle.certificate.specs.Bounds.{Interval}
use Rattle.certificate.specs.Lines.{is_full}
use Rattle.certificate_text.specs.Faults.{Fault, Syntax}

abbrev pub has_two : List (List ℕ) → Bool
has_two [] = false
has_two (a ∷ []) = false
has_two (a ∷ b ∷ words) = true

abbrev pub is_one : List (List ℕ) → Bool
is_one [] = false
is_one (a ∷ []) = true
is_one (a ∷ b ∷ words) = false

abbrev pub are_two : List (List ℕ) → Bool
are_two [] = false
are_two (a ∷ words) = is_one words

abbrev pub are_three : List (List ℕ) → Bool
are_three [] = false
are_three (a ∷ words) = are_two words

abbrev pub has_four : List (List ℕ) → Bool
has_four [] = false
has_four (a ∷ []) = false
has_four (a ∷ b ∷ words) = has_two words

-- words, or none where there aren't so many
abbrev pub AreNextTwo : Option (Bor (List ℕ) × Bor (List ℕ)) → List (List ℕ) → List (List ℕ) → Type 0
AreNextTwo None before after = has_two before ≡ false
AreNextTwo (Some pair) before after = before ≡ pair.0.now ∷ pair.1.now ∷ after

abbrev pub IsOne : Option (Bor (List ℕ)) → List (List ℕ) → Type 0
IsOne None words = is_one words ≡ false
IsOne (Some word) words = words ≡ word.now ∷ []

abbrev pub AreTwo : Option (Bor (List ℕ) × Bor (List ℕ)) → List (List ℕ) → Type 0
AreTwo None words = are_two words ≡ false
AreTwo (Some pair) words = words ≡ pair.0.now ∷ pair.1.now ∷ []

abbrev pub AreThree : Option ((Bor (List ℕ) × Bor (List ℕ)) × Bor (List ℕ)) → List (List ℕ) → Type 0
AreThree None words = are_three words ≡ false
AreThree (Some three) words = words ≡ three.0.0.now ∷ three.0.1.now ∷ three.1.now ∷ []

abbrev pub AreNextFour : Option ((Bor (List ℕ) × Bor (List ℕ)) × (Bor (List ℕ) × Bor (List ℕ))) → List (List ℕ) → List (List ℕ) → Type 0
AreNextFour None before after = has_four before ≡ false
AreNextFour (Some four) before after = before ≡ four.0.0.now ∷ four.0.1.now ∷ four.1.0.now ∷ four.1.1.now ∷ after

-- the ends of an interval, which isn't full
abbrev pub rise_or_equal : Option ℕ → Option ℕ → Bool
rise_or_equal None n = false
rise_or_equal (Some m) None = false
rise_or_equal (Some m) (Some n) = nat_le m n

abbrev pub unless_full : Interval → Result Interval Fault
unless_full i = if is_full i then Err Syntax else Ok i

-- two parts of a line, or of their faults the one that counts
abbrev pub both_parts : {A B : Type 0} → Result A LineFault → Result B LineFault → Result (A × B) LineFault
both_parts (Ok a) (Ok b) = Ok (a, b)
both_parts (Ok a) (Err e) = Err e
both_parts (Err line.Syntax) b = Err line.Syntax
both_parts (Err line.Limit) (Ok b) = Err line.Limit
both_parts (Err line.Limit) (Err line.Limit) = Err line.Limit
both_parts (Err line.Limit) (Err line.Syntax) = Err line.Syntax
