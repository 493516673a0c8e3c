-- Rules that are asked one by one, by their numbers.
use Rattle.std.specs.Prelude.{◌==◌, ℕ, Bool, true, List, [], ◌∷◌, Option, Some, None, if◌then◌else◌}
use Rattle.rules.specs.Rules.{Test}
use Rattle.checker.specs.Findings.{BrokenRule}

abbrev pub all_numbers : List ℕ
all_numbers = 1 ∷ 2 ∷ 3 ∷ 4 ∷ 5 ∷ 6 ∷ 7 ∷ 8 ∷ 9 ∷ 10 ∷ 11 ∷ 12 ∷ 13 ∷ 14 ∷ 15 ∷ 16 ∷ 17 ∷ 18 ∷ 19 ∷ 20 ∷ 21 ∷ 22 ∷ []

-- whether a rule is kept where these are the tests; one that isn't tested is
abbrev pub is_rule_kept : List Test → ℕ → Bool
is_rule_kept [] rule = true
is_rule_kept (t ∷ ts) rule = if t.rule == rule then t.kept else is_rule_kept ts rule

-- the first of these rules that isn't
abbrev pub first_unkept : List Test → List ℕ → Option ℕ
first_unkept ts [] = None
first_unkept ts (rule ∷ rules) = if is_rule_kept ts rule then first_unkept ts rules else Some rule

-- and all of them, at a point of a program
abbrev pub unkept_at : ℕ → ℕ → List Test → List ℕ → List BrokenRule
unkept_at program point ts [] = []
unkept_at program point ts (rule ∷ rules) =
    if is_rule_kept ts rule then unkept_at program point ts rules
    else record { program = program; point = point; rule = rule } ∷ unkept_at program point ts rules
