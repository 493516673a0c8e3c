-- How the rules that a certificate breaks are told. (own)
use Rattle.std.specs.Prelude.{◌≡◌, ◌==◌, ◌&&◌, ℕ, Bool, true, false, List, [], ◌∷◌, ◌++◌, Option, Some, None, codes, if◌then◌else◌, min, ◌^◌, ◌-◌}
use Rattle.std.specs.Fmt.{decimal}
use Rattle.certificate.specs.Bounds.{Certificate}
use Rattle.checker.specs.Findings.{BrokenRule}
use Rattle.explain.specs.Covering.{count_under, is_counted}
use Rattle.task.specs.Plans.{Plan, program_name}

-- a point with the line where it stands in the file: `main:2 (line 31)`
abbrev pub point_with_line : List ℕ → ℕ → ℕ → List ℕ
point_with_line program point line = program ++ codes ":" ++ decimal point ++ codes " (line " ++ decimal line ++ codes ")"

-- The findings of a point stand under one line, which has the point and its instruction as it is written.
abbrev pub head_text : List ℕ → ℕ → ℕ → List ℕ → List ℕ
head_text program point line written = point_with_line program point line ++ (codes ": " ++ (written ++ codes "\n"))

-- whether a finding is of the same point as the one before it, if there is one
abbrev pub is_same_point : Option BrokenRule → BrokenRule → Bool
is_same_point None f = false
is_same_point (Some before) f = (before.program == f.program) && (before.point == f.point)

abbrev pub HasHead : Plan → BrokenRule → Bool → List ℕ → Type 0
HasHead plan f true text = text ≡ []
HasHead plan f false text = (line : ℕ) × (written : List ℕ) × (text ≡ head_text (program_name plan f.program) f.point line written)

-- A finding has a line with its rule's number, what the rule asks and what it compares there.
abbrev pub finding_text : BrokenRule → List ℕ → List ℕ
finding_text f sentence = codes "  K" ++ decimal f.rule ++ codes " " ++ sentence ++ codes "\n"

-- Behind it stands how many others are counted under it, if there are such, as a number of 32 bits.
abbrev pub others_text : ℕ → List ℕ
others_text count =
    if count == 0 then [] else codes "    later points that lead to no other without a bound, not told: " ++ decimal (min count (2 ^ 32 - 1)) ++ codes "\n"

-- Each of these findings among all is told, in their order, but those that are counted under another: to those before, of which this is the
-- last that is told, one more is added behind.
pub data TellsEach (plan : Plan) (c : Certificate) (all : List BrokenRule) : Option BrokenRule → List BrokenRule → List ℕ → Type 0 where
  none_yet : TellsEach plan c all None [] []
  one_more : {last : Option BrokenRule} {fs : List BrokenRule} {told : List ℕ} (f : BrokenRule) (head sentence : List ℕ) →
      TellsEach plan c all last fs told → is_counted plan c all f ≡ false → HasHead plan f (is_same_point last f) head →
      TellsEach plan c all (Some f) (fs ++ (f ∷ [])) (told ++ (head ++ (finding_text f sentence ++ others_text (count_under plan c all f))))
  one_counted : {last : Option BrokenRule} {fs : List BrokenRule} {told : List ℕ} (f : BrokenRule) →
      TellsEach plan c all last fs told → is_counted plan c all f ≡ true → TellsEach plan c all last (fs ++ (f ∷ [])) told

-- All are told, behind what is told of the certificate as a whole; or it is said that there is none.
pub record TellsAll (plan : Plan) (c : Certificate) (fs : List BrokenRule) (text : List ℕ) : Type 0 where
  pub last : Option BrokenRule
  pub before : List ℕ
  pub told : List ℕ
  pub each : TellsEach plan c fs last fs told
  pub whole : text ≡ before ++ told

abbrev pub no_rule_broken : List ℕ
no_rule_broken = codes "no rule is broken: the certificate is accepted\n"

unfoldable pub Tells : Plan → Certificate → List BrokenRule → List ℕ → Type 0
Tells plan c [] text = text ≡ no_rule_broken
Tells plan c (f ∷ fs) text = TellsAll plan c (f ∷ fs) text
