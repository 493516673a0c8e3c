-- What it says that nothing is found at a point.
use Rattle.std.proofs.Common.{◌≡◌, ℕ, Bool, true, false, List, [], ◌∷◌, refl, ap, sym, ◌∙◌, subst}
use Rattle.std.specs.Prelude.{◌&&◌, ◌||◌, not, Option, Some, None, cond, is_some, if◌then◌else◌}
use Rattle.rights.proofs.Tests.{both_left, both_right, not_true}
use Rattle.certificate.specs.Bounds.{Bound, Certificate, bound_at}
use Rattle.certificate.specs.Order.{bound_within}
use Rattle.instruction_set.specs.Programs.{Instruction}
use Rattle.task.specs.Plans.{Plan, program_name}
use Rattle.rules.specs.Points.{instruction_at}
use Rattle.rules.specs.Uses.{uses}
use Rattle.rules.specs.Channels.{keeps_channel_bound, all_have_channels}
use Rattle.rules.specs.Demands.{demands, keeps_single, keeps_numbers, keeps_beneath}
use Rattle.rules.specs.Outcomes.{Outcome, is_followed, successes, successes_in, error_outcomes}
use Rattle.rules.specs.Rules.{Test, starts_within, within_if_there, all_within, all_there, keeps_rights, keeps_commands, keeps_limit, works_on_known, keeps_policy, names_known}
use Rattle.rules.specs.Rules.{moves_within, of_call, each_use, in_the_mode, is_started, tests, tests_without, least_broken}
use Rattle.rules.specs.Verdicts.{found_with, found_at}
use Rattle.rules.proofs.Members.{Among, each_of}

-- every test is kept
abbrev pub AreKept : List Test → Type 0
AreKept [] = Unit {0}
AreKept (t ∷ ts) = (t.kept ≡ true) × AreKept ts

pub none_broken : (ts : List Test) → least_broken ts ≡ None → AreKept ts
none_broken [] none = tt
none_broken (t ∷ ts) none = go t.kept refl none (none_broken ts)
  where
    go : (b : Bool) → t.kept ≡ b → cond b (least_broken ts) (Some t.rule) ≡ None → (least_broken ts ≡ None → AreKept ts) → AreKept (t ∷ ts)
    go true kept is rest = (kept, rest is)
    go false kept is rest = absurd cc

-- ## Where outcomes lead
-- Where an outcome leads there is a bound, and the outcome's is within it.
pub record Leads (certificate : Certificate) (name : List ℕ) (o : Outcome) : Type 0 where
  pub bound : Bound
  pub at : bound_at certificate name o.point ≡ Some bound
  pub within : bound_within o.bound bound ≡ true

pub leads :
    (certificate : Certificate) (name : List ℕ) (o : Outcome) → within_if_there o.bound (bound_at certificate name o.point) ≡ true
    → is_some (bound_at certificate name o.point) ≡ true → Leads certificate name o
leads certificate name o within there = go (bound_at certificate name o.point) refl within there
  where
    go : (x : Option Bound) → bound_at certificate name o.point ≡ x → within_if_there o.bound x ≡ true → is_some x ≡ true → Leads certificate name o
    go None at is some = absurd cc
    go (Some b) at is some = record { bound = b; at = at; within = is }

abbrev pub AllLead : Certificate → List ℕ → List Outcome → Type 0
AllLead certificate name outs = (o : Outcome) → Among o outs → Leads certificate name o

all_lead : (certificate : Certificate) (name : List ℕ) (outs : List Outcome) → all_within certificate name outs ≡ true → all_there certificate name outs ≡ true → AllLead certificate name outs
all_lead certificate name outs within there o among =
    leads certificate name o
    (each_of (λ (x : Outcome). within_if_there x.bound (bound_at certificate name x.point)) outs within o among)
    (each_of (λ (x : Outcome). is_some (bound_at certificate name x.point)) outs there o among)

-- ## The rules at a point with an instruction and a bound, that is followed by the program's points
pub record Asked (plan : Plan) (certificate : Certificate) (program point : ℕ) (i : Instruction) (b : Bound) : Type 0 where
  pub starts : starts_within plan program point b ≡ true
  pub successes : AllLead certificate (program_name plan program) (successes plan.grants certificate (program_name plan program) point b i)
  pub errors : AllLead certificate (program_name plan program) (error_outcomes b i)
  pub single : of_call (keeps_single b) i ≡ true
  pub numbers : of_call (keeps_numbers b) i ≡ true
  pub beneath : of_call (keeps_beneath b) i ≡ true
  pub rights : each_use b keeps_rights i ≡ true
  pub commands : each_use b keeps_commands i ≡ true
  pub limits : each_use b keeps_limit i ≡ true
  pub known : in_the_mode b works_on_known i ≡ true
  pub policy : in_the_mode b (keeps_policy plan.grants) i ≡ true
  pub global_names : of_call (λ call. not (demands call).changes_global_names) i ≡ true
  pub names : each_use b names_known i ≡ true
  pub moves : each_use b moves_within i ≡ true
  pub channel_bounds : each_use b (λ u. keeps_channel_bound certificate u u.passing) i ≡ true
  pub channels : of_call (λ call. all_have_channels certificate (uses b call)) i ≡ true

all_followed :
    (plan : Plan) (certificate : Certificate) (program point : ℕ) (i : Instruction) (b : Bound) → is_followed plan (program_name plan program) i ≡ true
    → AllLead certificate (program_name plan program) (successes_in plan certificate (program_name plan program) point b i)
    → AllLead certificate (program_name plan program) (successes plan.grants certificate (program_name plan program) point b i)
unfolding successes_in
all_followed plan certificate program point i b followed all =
    let name = program_name plan program in
    subst (λ (m : Bool). AllLead certificate name (if m then successes plan.grants certificate name point b i else [])) followed all

asked_of :
    (plan : Plan) (certificate : Certificate) (program point : ℕ) (i : Instruction) (b : Bound) → is_followed plan (program_name plan program) i ≡ true → least_broken
    (tests plan certificate program point i b) ≡ None
    → Asked plan certificate program point i b
unfolding tests
asked_of plan certificate program point i b followed none =
    let name = program_name plan program in
    let good = successes_in plan certificate name point b i in
    let bad = error_outcomes b i in
    let all = none_broken (tests plan certificate program point i b) none in
    let from_4 = all.1.1.1 in
    let from_10 = from_4.1.1.1.1.1.1 in
    let there = from_10.1.1.1.1.1.1.0 in
    record {
      starts = all.0;
      successes =
          all_followed plan certificate program point i b followed
          (all_lead certificate name good all.1.0 (both_left _ (all_there certificate name bad) there));
      errors = all_lead certificate name bad all.1.1.0 (both_right (all_there certificate name good) _ there);
      single = from_4.0;
      numbers = from_4.1.0;
      beneath = from_4.1.1.0;
      rights = from_4.1.1.1.0;
      commands = from_4.1.1.1.1.0;
      limits = from_4.1.1.1.1.1.0;
      known = from_10.0;
      policy = from_10.1.0;
      global_names = both_left _ (each_use b names_known i) from_10.1.1.0;
      names = both_right (of_call (λ call. not (demands call).changes_global_names) i) _ from_10.1.1.0;
      moves = from_10.1.1.1.0;
      channel_bounds = from_10.1.1.1.1.0;
      channels = from_10.1.1.1.1.1.0;
    }

pub asked :
    (plan : Plan) (certificate : Certificate) (program point : ℕ) (i : Instruction) (b : Bound) → instruction_at plan program point ≡ Some i
    → bound_at certificate (program_name plan program) point ≡ Some b → is_followed plan (program_name plan program) i ≡ true → found_at plan certificate program point ≡ None
    → Asked plan certificate program point i b
unfolding found_at found_with
asked plan certificate program point i b here bounded followed none =
    asked_of plan certificate program point i b followed
    (subst (λ o. found_with plan certificate program point (Some i) o ≡ None) bounded
    (subst (λ o. found_with plan certificate program point o (bound_at certificate (program_name plan program) point) ≡ None) here none))

-- a program that a process starts has a bound at point 0
pub started :
    (plan : Plan) (certificate : Certificate) (program : ℕ) (i : Instruction) → instruction_at plan program 0 ≡ Some i → is_started plan program ≡ true
    → found_at plan certificate program 0 ≡ None → (b : Bound) × (bound_at certificate (program_name plan program) 0 ≡ Some b)
unfolding found_at found_with tests_without
started plan certificate program i here is none = go (bound_at certificate (program_name plan program) 0) refl
  where
    at : found_with plan certificate program 0 (Some i) (bound_at certificate (program_name plan program) 0) ≡ None
    at = subst (λ o. found_with plan certificate program 0 o (bound_at certificate (program_name plan program) 0) ≡ None) here none

    no_bound : is_started plan program ≡ false → ⊥
    no_bound none_starts = let wrong : true ≡ false = sym is ∙ none_starts in cc

    go : (o : Option Bound) → bound_at certificate (program_name plan program) 0 ≡ o → (b : Bound) × (bound_at certificate (program_name plan program) 0 ≡ Some b)
    go (Some b) bounded = (b, bounded)
    go None bounded =
        let without : least_broken (tests_without plan certificate program 0) ≡ None = subst (λ o. found_with plan certificate program 0 (Some i) o ≡ None) bounded at in
        let kept : not (is_started plan program) ≡ true = (none_broken (tests_without plan certificate program 0) without).0 in
        absurd (no_bound (not_true (is_started plan program) kept))
