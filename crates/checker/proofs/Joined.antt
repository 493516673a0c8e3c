-- Where the rules before them are kept, those on marked programs decide.
use Rattle.std.proofs.Common.{◌≡◌, ℕ, Bool, true, false, List, [], ◌∷◌, ◌++◌, None, Some, refl, cond, ◌∙◌}
use Rattle.std.specs.Prelude.{not, ◌||◌}
use Rattle.certificate.specs.Bounds.{Bound, Certificate}
use Rattle.instruction_set.specs.Programs.{Instruction, Set, Mov, Add, In, Jmp, Jeq, Jlt, Halt, Invoke}
use Rattle.rules.specs.Outcomes.{error_outcomes, successes_in}
use Rattle.rules.specs.Slots.{may_be_on}
use Rattle.rules.specs.Rules.{Test, all_there, all_within, least_broken, mark_tests, starts_within, tests}
use Rattle.checker.specs.KeptUses.{tests_of_call}
use Rattle.task.specs.Plans.{Plan, program_name}

broken_later : (ts later : List Test) → least_broken ts ≡ None → least_broken (ts ++ later) ≡ least_broken later
broken_later [] later is = refl
broken_later (t ∷ ts) later is = go t.kept is (broken_later ts later)
  where
    go : (kept : Bool) → cond kept (least_broken ts) (Some t.rule) ≡ None → (least_broken ts ≡ None → least_broken (ts ++ later) ≡ least_broken later)
        → cond kept (least_broken (ts ++ later)) (Some t.rule) ≡ least_broken later
    go true is rest = rest is
    go false is rest = cc

pub or_true : (b : Bool) → (b || true) ≡ true
or_true true = refl
or_true false = refl

module _ (plan : Plan) (c : Certificate) (name : List ℕ) (program point : ℕ) (b : Bound) (named : name ≡ program_name plan program) where
  -- what is asked first of an instruction, and behind its call
  pub record FirstKept (i : Instruction) : Type 0 where
    pub starts : starts_within plan program point b ≡ true
    pub good : all_within c name (successes_in plan c name point b i) ≡ true
    pub bad : all_within c name (error_outcomes b i) ≡ true
    pub good_there : all_there c name (successes_in plan c name point b i) ≡ true
    pub bad_there : all_there c name (error_outcomes b i) ≡ true

  between : (i : Instruction) → FirstKept i → least_broken (tests plan c program point i b) ≡ least_broken (tests_of_call plan c point b i ++ mark_tests plan c program point i b)
  unfolding tests
  between (Set r value) first = rw (first.starts, ← named, first.good, first.bad, first.good_there, first.bad_there, or_true (not (may_be_on b.mode))) refl
  between (Mov r source) first = rw (first.starts, ← named, first.good, first.bad, first.good_there, first.bad_there, or_true (not (may_be_on b.mode))) refl
  between (Add r addend) first = rw (first.starts, ← named, first.good, first.bad, first.good_there, first.bad_there, or_true (not (may_be_on b.mode))) refl
  between (In r) first = rw (first.starts, ← named, first.good, first.bad, first.good_there, first.bad_there, or_true (not (may_be_on b.mode))) refl
  between (Jmp target) first = rw (first.starts, ← named, first.good, first.bad, first.good_there, first.bad_there, or_true (not (may_be_on b.mode))) refl
  between (Jeq r value target) first = rw (first.starts, ← named, first.good, first.bad, first.good_there, first.bad_there, or_true (not (may_be_on b.mode))) refl
  between (Jlt r value target) first = rw (first.starts, ← named, first.good, first.bad, first.good_there, first.bad_there, or_true (not (may_be_on b.mode))) refl
  between Halt first = rw (first.starts, ← named, first.good, first.bad, first.good_there, first.bad_there, or_true (not (may_be_on b.mode))) refl
  between (Invoke call otherwise) first = rw (first.starts, ← named, first.good, first.bad, first.good_there, first.bad_there) refl

  pub marks_decide : (i : Instruction) → FirstKept i → least_broken (tests_of_call plan c point b i) ≡ None
      → least_broken (tests plan c program point i b) ≡ least_broken (mark_tests plan c program point i b)
  marks_decide i first none = between i first ∙ broken_later (tests_of_call plan c point b i) (mark_tests plan c program point i b) none
