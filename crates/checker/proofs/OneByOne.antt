-- Rules that are asked one by one say what the tests of a point say.
use Rattle.std.proofs.Common.{◌≡◌, ℕ, Bool, true, false, List, [], ◌∷◌, Some, None, ◌⊎◌, inl, inr, refl, ap, sym, subst, cond, ◌∙◌}
use Rattle.std.specs.Prelude.{not, ◌==◌, ◌&&◌, ◌||◌, take, drop, Option}
use Rattle.std.specs.List.{list_all}
use Rattle.certificate.specs.Bounds.{Bound, Certificate, bound_at}
use Rattle.certificate.proofs.Growing.{and_left, and_right}
use Rattle.instruction_set.specs.Programs.{Syscall, Instruction, Set, Mov, Add, In, Jmp, Jeq, Jlt, Halt, Invoke}
use Rattle.task.specs.Plans.{Plan, program_name}
use Rattle.rules.specs.Points.{instruction_at}
use Rattle.rules.specs.Authority.{authority_at}
use Rattle.rules.specs.Demands.{demands}
use Rattle.rules.specs.Outcomes.{error_outcomes, successes_in}
use Rattle.rules.specs.Rules.{Test, all_there, all_within, authority_tests, enters_within, in_the_mode, least_broken, mark_tests, marked_at, starts_in_authority, starts_within, tests, tests_without}
use Rattle.rules.specs.Expansions.{expansion}
use Rattle.rules.specs.Slots.{may_be_on}
use Rattle.rules.specs.Uses.{uses}
use Rattle.rules.proofs.expansions.Channelled.{expansion_marks, expansion_without}
use Rattle.rules.specs.Verdicts.{found_at, found_with}
use Rattle.checker.specs.Asked.{all_numbers, first_unkept, is_rule_kept, unkept_at}
use Rattle.checker.specs.KeptUses.{tests_of_call}
use Rattle.checker.specs.Findings.{findings_in, tests_there, tests_with}
use Rattle.checker.specs.RuleViews.{authority_rule_number, call_rule_number, keeps_at_slot, keeps_in_authority, rule_number, slot_rule_number}
use Rattle.checker.specs.declared.rule.AuthorityRule.{AuthorityRule}
use Rattle.checker.specs.declared.rule.AuthorityRule.TheVariants as authorities
use Rattle.checker.specs.declared.rule.CallRule.{CallRule}
use Rattle.checker.specs.declared.rule.CallRule.TheVariants as calls
use Rattle.checker.specs.declared.rule.Rule.{Rule}
use Rattle.checker.specs.declared.rule.Rule.TheVariants as rules
use Rattle.checker.specs.declared.rule.SlotRule.{SlotRule}
use Rattle.checker.specs.declared.rule.SlotRule.TheVariants as slots
use Rattle.checker.proofs.Joined.{or_true}

-- ## All of them in order
module _ (plan : Plan) (c : Certificate) (program point : ℕ) (i : Instruction) where
  first_with : (b : Bound) → first_unkept (tests plan c program point i b) all_numbers ≡ least_broken (tests plan c program point i b)
  unfolding tests mark_tests authority_tests
  first_with b = refl

  first_without : first_unkept (tests_without plan c program point) all_numbers ≡ least_broken (tests_without plan c program point)
  unfolding tests_without authority_tests
  first_without = refl

  pub first_is : (o : Option Bound) → first_unkept (tests_with plan c program point (Some i) o) all_numbers ≡ least_broken (tests_with plan c program point (Some i) o)
  unfolding tests_with
  first_is (Some b) = first_with b
  first_is None = first_without

  unkept_with : (b : Bound) → unkept_at program point (tests plan c program point i b) all_numbers ≡ findings_in program point (tests plan c program point i b)
  unfolding tests mark_tests authority_tests
  unkept_with b = refl

  unkept_without : unkept_at program point (tests_without plan c program point) all_numbers ≡ findings_in program point (tests_without plan c program point)
  unfolding tests_without authority_tests
  unkept_without = refl

  pub unkept_is : (o : Option Bound) → unkept_at program point (tests_with plan c program point (Some i) o) all_numbers
      ≡ findings_in program point (tests_with plan c program point (Some i) o)
  unfolding tests_with
  unkept_is (Some b) = unkept_with b
  unkept_is None = unkept_without

  pub with_is : (b : Bound) → tests_with plan c program point (Some i) (Some b) ≡ tests plan c program point i b
  unfolding tests_with
  with_is b = refl

  pub without_is : tests_with plan c program point (Some i) None ≡ tests_without plan c program point
  unfolding tests_with
  without_is = refl

-- ## What is found at a point
module _ (plan : Plan) (c : Certificate) (program point : ℕ) where
  found_in : (i : Option Instruction) (b : Option Bound) → found_with plan c program point i b ≡ least_broken (tests_with plan c program point i b)
  unfolding found_with tests_with
  found_in None b = refl
  found_in (Some i) None = refl
  found_in (Some i) (Some b) = refl

  pub found_is : found_at plan c program point ≡ least_broken (tests_there plan c program point)
  unfolding found_at tests_there
  found_is = found_in (instruction_at plan program point) (bound_at c (program_name plan program) point)

-- ## The rules on calls
nothing_in : {A : Type 0} {x : A} {xs : List A} → x ∷ xs ≡ [] → ⊥
nothing_in same = cc

and_false : (b : Bool) → (b && false) ≡ false
and_false true = refl
and_false false = refl

pub not_true : (b : Bool) → not b ≡ true → b ≡ false
not_true true is = cc
not_true false is = refl

none_asked : (ts : List Test) (rule : ℕ) → list_all (λ (t : Test). t.kept) ts ≡ true → is_rule_kept ts rule ≡ true
none_asked [] rule all = refl
none_asked (t ∷ ts) rule all =
    go (t.rule == rule) (and_left t.kept (list_all (λ (t : Test). t.kept) ts) all) (none_asked ts rule (and_right t.kept (list_all (λ (t : Test). t.kept) ts) all))
  where
    go : (here : Bool) → t.kept ≡ true → is_rule_kept ts rule ≡ true → cond here t.kept (is_rule_kept ts rule) ≡ true
    go true kept rest = kept
    go false kept rest = rest

module _ (plan : Plan) (c : Certificate) (program point : ℕ) (b : Bound) where
  abbrev middle : Instruction → List Test
  middle i = take 12 (drop 3 (tests plan c program point i b))

  all_kept : (i : Instruction) → tests_of_call plan c point b i ≡ [] → list_all (λ (t : Test). t.kept) (middle i) ≡ true
  unfolding tests
  all_kept (Set r value) none = rw (or_true (not (may_be_on b.mode))) refl
  all_kept (Mov r source) none = rw (or_true (not (may_be_on b.mode))) refl
  all_kept (Add r addend) none = rw (or_true (not (may_be_on b.mode))) refl
  all_kept (In r) none = rw (or_true (not (may_be_on b.mode))) refl
  all_kept (Jmp target) none = rw (or_true (not (may_be_on b.mode))) refl
  all_kept (Jeq r value target) none = rw (or_true (not (may_be_on b.mode))) refl
  all_kept (Jlt r value target) none = rw (or_true (not (may_be_on b.mode))) refl
  all_kept Halt none = rw (or_true (not (may_be_on b.mode))) refl
  all_kept (Invoke call otherwise) none = absurd (nothing_in none)

  middle_is : (i : Instruction) (rule : ℕ) → is_rule_kept (tests_of_call plan c point b i) rule ≡ is_rule_kept (middle i) rule
  unfolding tests
  middle_is (Set r value) rule = sym (none_asked (middle (Set r value)) rule (all_kept (Set r value) refl))
  middle_is (Mov r source) rule = sym (none_asked (middle (Mov r source)) rule (all_kept (Mov r source) refl))
  middle_is (Add r addend) rule = sym (none_asked (middle (Add r addend)) rule (all_kept (Add r addend) refl))
  middle_is (In r) rule = sym (none_asked (middle (In r)) rule (all_kept (In r) refl))
  middle_is (Jmp target) rule = sym (none_asked (middle (Jmp target)) rule (all_kept (Jmp target) refl))
  middle_is (Jeq r value target) rule = sym (none_asked (middle (Jeq r value target)) rule (all_kept (Jeq r value target) refl))
  middle_is (Jlt r value target) rule = sym (none_asked (middle (Jlt r value target)) rule (all_kept (Jlt r value target) refl))
  middle_is Halt rule = sym (none_asked (middle Halt) rule (all_kept Halt refl))
  middle_is (Invoke call otherwise) rule = refl

  in_middle : (i : Instruction) (rule : CallRule) → is_rule_kept (middle i) (call_rule_number rule) ≡ is_rule_kept (tests plan c program point i b) (call_rule_number rule)
  unfolding tests
  in_middle i calls.OneNumber = refl
  in_middle i calls.FreeNumbers = refl
  in_middle i calls.NoGlobalPath = refl
  in_middle i (calls.OfSlot slots.Rights) = refl
  in_middle i (calls.OfSlot slots.Commands) = refl
  in_middle i (calls.OfSlot slots.Limit) = refl
  in_middle i (calls.OfSlot slots.KnownObject) = refl
  in_middle i (calls.OfSlot slots.Policy) = refl
  in_middle i (calls.OfSlot slots.KnownNames) = refl
  in_middle i (calls.OfSlot slots.Moves) = refl
  in_middle i (calls.OfSlot slots.Sent) = refl
  in_middle i (calls.OfSlot slots.Channel) = refl

  pub of_call : (i : Instruction) (rule : CallRule) → is_rule_kept (tests_of_call plan c point b i) (call_rule_number rule) ≡ is_rule_kept (tests plan c program point i b) (call_rule_number rule)
  of_call i rule = middle_is i (call_rule_number rule) ∙ in_middle i rule

-- what is asked of each slot
module _ (plan : Plan) (c : Certificate) (point : ℕ) (b : Bound) (call : Syscall) where
  abbrev kept : SlotRule → Bool
  kept rule = is_rule_kept (tests_of_call plan c point b (Invoke call 0)) (slot_rule_number rule)

  abbrev on_each : SlotRule → Bool
  on_each rule = list_all (keeps_at_slot rule plan c) (uses b call)

  pub on_known_names : (not (demands call).changes_global_names && on_each slots.KnownNames) ≡ kept slots.KnownNames
  unfolding tests
  on_known_names = refl

  pub names_kept : (rule : SlotRule) → rule ≡ slots.KnownNames → not (demands call).changes_global_names ≡ true → on_each rule ≡ kept rule
  names_kept rule is none =
      subst (λ r. on_each r ≡ kept r) (sym is) (sym (ap (λ n. n && on_each slots.KnownNames) none) ∙ on_known_names)

  pub names_broken : (rule : SlotRule) → rule ≡ slots.KnownNames → not (demands call).changes_global_names ≡ false → false ≡ kept rule
  names_broken rule is some =
      subst (λ r. false ≡ kept r) (sym is) (sym (ap (λ n. n && on_each slots.KnownNames) some) ∙ on_known_names)

  pub in_mode : (rule : SlotRule) → (rule ≡ slots.KnownObject) ⊎ (rule ≡ slots.Policy) → in_the_mode b (keeps_at_slot rule plan c) (Invoke call 0) ≡ kept rule
  unfolding tests
  in_mode rule (inl is) = subst (λ r. in_the_mode b (keeps_at_slot r plan c) (Invoke call 0) ≡ kept r) (sym is) refl
  in_mode rule (inr is) = subst (λ r. in_the_mode b (keeps_at_slot r plan c) (Invoke call 0) ≡ kept r) (sym is) refl

  pub always : (rule : SlotRule)
      → (rule ≡ slots.Rights) ⊎ ((rule ≡ slots.Commands) ⊎ ((rule ≡ slots.Limit) ⊎ ((rule ≡ slots.Moves) ⊎ ((rule ≡ slots.Sent) ⊎ (rule ≡ slots.Channel)))))
      → on_each rule ≡ kept rule
  unfolding tests
  always rule (inl is) = subst (λ r. on_each r ≡ kept r) (sym is) refl
  always rule (inr (inl is)) = subst (λ r. on_each r ≡ kept r) (sym is) refl
  always rule (inr (inr (inl is))) = subst (λ r. on_each r ≡ kept r) (sym is) refl
  always rule (inr (inr (inr (inl is)))) = subst (λ r. on_each r ≡ kept r) (sym is) refl
  always rule (inr (inr (inr (inr (inl is))))) = subst (λ r. on_each r ≡ kept r) (sym is) refl
  always rule (inr (inr (inr (inr (inr is))))) = subst (λ r. on_each r ≡ kept r) (sym is) refl

-- ## The other rules at a point with a bound
module _ (plan : Plan) (c : Certificate) (program point : ℕ) (i : Instruction) (b : Bound) where
  abbrev there : List Test
  there = tests_with plan c program point (Some i) (Some b)

  pub at_1 : starts_within plan program point b ≡ is_rule_kept there 1
  unfolding tests_with tests
  at_1 = refl

  pub at_2 : (name : List ℕ) → name ≡ program_name plan program → all_within c name (successes_in plan c name point b i) ≡ is_rule_kept there 2
  unfolding tests_with tests
  at_2 name named = λ k. all_within c (named k) (successes_in plan c (named k) point b i)

  pub at_3 : (name : List ℕ) → name ≡ program_name plan program → all_within c name (error_outcomes b i) ≡ is_rule_kept there 3
  unfolding tests_with tests
  at_3 name named = λ k. all_within c (named k) (error_outcomes b i)

  pub at_call : (rule : CallRule) → is_rule_kept (tests_of_call plan c point b i) (call_rule_number rule) ≡ is_rule_kept there (call_rule_number rule)
  unfolding tests_with
  at_call rule = of_call plan c program point b i rule

  pub at_16 : (name : List ℕ) → name ≡ program_name plan program
      → (all_there c name (successes_in plan c name point b i) && all_there c name (error_outcomes b i)) ≡ is_rule_kept there 16
  unfolding tests_with tests
  at_16 name named = λ k. all_there c (named k) (successes_in plan c (named k) point b i) && all_there c (named k) (error_outcomes b i)

  pub at_17 : (not (marked_at plan program) || not (may_be_on b.mode)) ≡ is_rule_kept there 17
  unfolding tests_with tests mark_tests
  at_17 = refl

-- what is asked of what a marked program takes into the mode
abbrev takes_within : Plan → Certificate → ℕ → ℕ → Instruction → Bound → Bool
takes_within plan c program point i b =
    let a = authority_at c (program_name plan program) in
    not (marked_at plan program) || (enters_within plan.wide a i b && starts_in_authority plan a program point)

module _ (plan : Plan) (c : Certificate) (program point : ℕ) (i : Instruction) (b : Bound) where
  at_18 : takes_within plan c program point i b ≡ is_rule_kept (tests plan c program point i b) 18
  unfolding tests mark_tests
  at_18 = refl

  in_expansion : is_rule_kept (tests plan c program point i b) 18 ≡ is_rule_kept (tests plan (expansion plan c) program point i b) 18
  unfolding tests
  in_expansion = ap (λ ts. is_rule_kept ts 18) (sym (expansion_marks plan c program point i b))

  pub at_taking : takes_within plan c program point i b ≡ is_rule_kept (tests_with plan (expansion plan c) program point (Some i) (Some b)) 18
  unfolding tests_with
  at_taking = at_18 ∙ in_expansion

-- ## The rules on authorities
module _ (plan : Plan) (c : Certificate) (program point : ℕ) where
  same_authority : (c : Certificate) → authority_tests plan (expansion plan c) program point ≡ authority_tests plan c program point
  unfolding tests_without
  same_authority c = ap (drop 2) (expansion_without plan c program point)

  at_with : (c : Certificate) (i : Instruction) (b : Bound) (rule : AuthorityRule)
      → is_rule_kept (authority_tests plan c program point) (authority_rule_number rule) ≡ is_rule_kept (tests plan c program point i b) (authority_rule_number rule)
  unfolding tests mark_tests
  at_with c i b authorities.Ceilings = refl
  at_with c i b authorities.Moves = refl
  at_with c i b authorities.Received = refl
  at_with c i b authorities.Sent = refl

  at_without : (c : Certificate) (rule : AuthorityRule)
      → is_rule_kept (authority_tests plan c program point) (authority_rule_number rule) ≡ is_rule_kept (tests_without plan c program point) (authority_rule_number rule)
  unfolding tests_without
  at_without c authorities.Ceilings = refl
  at_without c authorities.Moves = refl
  at_without c authorities.Received = refl
  at_without c authorities.Sent = refl

  pub of_authority : (i : Instruction) (b : Bound) (rule : AuthorityRule) → is_rule_kept (authority_tests plan c program point) (authority_rule_number rule)
      ≡ is_rule_kept (tests_with plan (expansion plan c) program point (Some i) (Some b)) (authority_rule_number rule)
  unfolding tests_with
  of_authority i b rule = ap (λ ts. is_rule_kept ts (authority_rule_number rule)) (sym (same_authority c)) ∙ at_with (expansion plan c) i b rule

  pub of_authority_without : (rule : AuthorityRule) → is_rule_kept (authority_tests plan c program point) (authority_rule_number rule)
      ≡ is_rule_kept (tests_without plan (expansion plan c) program point) (authority_rule_number rule)
  of_authority_without rule = ap (λ ts. is_rule_kept ts (authority_rule_number rule)) (sym (same_authority c)) ∙ at_without (expansion plan c) rule

  -- a point without a bound is asked no rule on calls
  pub not_asked : (rule : CallRule) → true ≡ is_rule_kept (tests_without plan c program point) (call_rule_number rule)
  unfolding tests_without authority_tests
  not_asked calls.OneNumber = refl
  not_asked calls.FreeNumbers = refl
  not_asked calls.NoGlobalPath = refl
  not_asked (calls.OfSlot slots.Rights) = refl
  not_asked (calls.OfSlot slots.Commands) = refl
  not_asked (calls.OfSlot slots.Limit) = refl
  not_asked (calls.OfSlot slots.KnownObject) = refl
  not_asked (calls.OfSlot slots.Policy) = refl
  not_asked (calls.OfSlot slots.KnownNames) = refl
  not_asked (calls.OfSlot slots.Moves) = refl
  not_asked (calls.OfSlot slots.Sent) = refl
  not_asked (calls.OfSlot slots.Channel) = refl

  pub untested : (rule : Rule)
      → (rule ≡ rules.StartsWithin) ⊎ ((rule ≡ rules.SuccessesWithin) ⊎ ((rule ≡ rules.ErrorsWithin) ⊎ (((r : CallRule) × (rule ≡ rules.OfCall r)) ⊎ (rule ≡ rules.BoundsOutside))))
      → true ≡ is_rule_kept (tests_without plan c program point) (rule_number rule)
  unfolding tests_without authority_tests
  untested rule (inl is) = subst (λ r. true ≡ is_rule_kept (tests_without plan c program point) (rule_number r)) (sym is) refl
  untested rule (inr (inl is)) = subst (λ r. true ≡ is_rule_kept (tests_without plan c program point) (rule_number r)) (sym is) refl
  untested rule (inr (inr (inl is))) = subst (λ r. true ≡ is_rule_kept (tests_without plan c program point) (rule_number r)) (sym is) refl
  untested rule (inr (inr (inr (inl of)))) = subst (λ r. true ≡ is_rule_kept (tests_without plan c program point) (rule_number r)) (sym of.1) (not_asked of.0)
  untested rule (inr (inr (inr (inr is)))) = subst (λ r. true ≡ is_rule_kept (tests_without plan c program point) (rule_number r)) (sym is) refl

  pub first_kept : point ≡ 0 → marked_at plan program ≡ true → (rule : AuthorityRule)
      → keeps_in_authority rule plan.wide plan c (authority_at c (program_name plan program)) ≡ is_rule_kept (authority_tests plan c program point) (authority_rule_number rule)
  unfolding authority_tests
  first_kept first marked authorities.Ceilings = rw (first, marked) refl
  first_kept first marked authorities.Moves = rw (first, marked) refl
  first_kept first marked authorities.Received = rw (first, marked) refl
  first_kept first marked authorities.Sent = rw (first, marked) refl

-- ## The rules on marked programs
module _ (plan : Plan) (c : Certificate) (program point : ℕ) where
  pub unmarked : (i : Instruction) (b : Bound) → marked_at plan program ≡ false → least_broken (mark_tests plan c program point i b) ≡ None
  unfolding mark_tests authority_tests
  unmarked i b plain = rw (plain, and_false (point == 0)) refl

  abbrev mark_numbers : List ℕ
  mark_numbers = 17 ∷ 18 ∷ 19 ∷ 20 ∷ 21 ∷ 22 ∷ []

  each_kept : (ts : List Test) (rules : List ℕ) → list_all (is_rule_kept ts) rules ≡ true → first_unkept ts rules ≡ None
  each_kept ts [] all = refl
  each_kept ts (rule ∷ rules) all =
      let here : is_rule_kept ts rule ≡ true = and_left (is_rule_kept ts rule) (list_all (is_rule_kept ts) rules) all in
      ap (λ b. cond b (first_unkept ts rules) (Some rule)) here ∙ each_kept ts rules (and_right (is_rule_kept ts rule) (list_all (is_rule_kept ts) rules) all)

  marks_in_turn : (i : Instruction) (b : Bound) → first_unkept (tests plan c program point i b) mark_numbers ≡ least_broken (mark_tests plan c program point i b)
  unfolding tests mark_tests authority_tests
  marks_in_turn i b = refl

  pub marked_kept : (i : Instruction) (b : Bound) → list_all (is_rule_kept (tests plan c program point i b)) mark_numbers ≡ true → least_broken (mark_tests plan c program point i b) ≡ None
  marked_kept i b all = sym (marks_in_turn i b) ∙ each_kept (tests plan c program point i b) mark_numbers all

  -- a point without a bound that isn't point 0 is asked nothing
  pub unasked : (point == 0) ≡ false → least_broken (tests_without plan c program point) ≡ None
  unfolding tests_without authority_tests
  unasked later = rw (later, or_true (not (marked_at plan program))) refl
