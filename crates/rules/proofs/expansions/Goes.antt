-- Each outcome of an instruction goes to the next point, or to one that the instruction names.
use Rattle.std.proofs.Common.{◌≡◌, ◌+◌, ℕ, Bool, true, false, List, [], ◌∷◌, ◌++◌, refl, ap, ◌∙◌}
use Rattle.std.specs.Prelude.{◌==◌, ◌-◌, ◌||◌, Option, Some, None, if◌then◌else◌}
use Rattle.std.specs.List.{flat_map, list_all}
use Rattle.std.proofs.lemmas.Bool.{eq-eqb}
use Rattle.std.proofs.lemmas.List.Folds.{list_all-append}
use Rattle.rights.specs.Uses.{acts_beneath}
use Rattle.rights.specs.Limits.{most_bytes, most_processes}
use Rattle.certificate.specs.Bounds.{On, Target, In_grant, Any_node, Socket, Unknown, Interval, interval, with_interval, Held, Closed, with_slot, Bound, Certificate}
use Rattle.certificate.specs.Bounds as bounds
use Rattle.certificate.proofs.Growing.{both_true}
use Rattle.rights.specs.Sides.{other_side}
use Rattle.instruction_set.specs.Programs.{Operand, Syscall, Open, Openat, Read, Write, Sendfd, Recvfd, Lseek, Ftruncate, Fsync, Fstat, Fcntl_getfl, Fcntl_setfl, Fstatat, Stat, Mkdirat}
use Rattle.instruction_set.specs.Programs.{Mkdir, Unlinkat, Unlink, Renameat, Dup, Close, Cap_rights_limit}
use Rattle.instruction_set.specs.Programs.{Cap_fcntls_limit, Cap_enter, Cap_getmode, Socketpair, Fork, Use as Call_use, Instruction, Set}
use Rattle.instruction_set.specs.Programs.{Mov, Add, In, Jmp, Jeq, Jlt, Halt, Invoke}
use Rattle.task.specs.Plans.{Grant}
use Rattle.rules.specs.Intervals.{only, sums, equal_part, other_part, lower_part, upper_part}
use Rattle.rules.specs.Slots.{OpenSlot, slots_in, free_numbers}
use Rattle.rules.specs.Channels.{channel_at}
use Rattle.rules.specs.Demands.{demands}
use Rattle.rules.specs.Outcomes.{Outcome, outcomes_in, is_formed, at_lowest, at_pair, leads_on, gives_through, gives_at_node, with_pair, takes, all_held, unknown_held}
use Rattle.rules.specs.Outcomes.{target_of_path, with_rights, with_commands, from_to, mode_interval, error_interval, opens_beneath, comes, receives_at, successes_of, successes}
use Rattle.rules.specs.Outcomes.{error_outcomes, beneath_target, may_be_end, may_be_node}
use Rattle.rules.specs.Expansions.{names_point}

all_of_each : {A : Type 0} (test : Outcome → Bool) (rest : A → List Outcome) (xs : List A) → ((x : A) → list_all test (rest x) ≡ true) → list_all test (flat_map rest xs) ≡ true
all_of_each test rest [] each = refl
all_of_each test rest (x ∷ xs) each =
    list_all-append test (rest x) (flat_map rest xs) ∙ both_true (list_all test (rest x)) (list_all test (flat_map rest xs)) (each x) (all_of_each test rest xs each)

pub all_if : (test : Outcome → Bool) (b : Bool) (outs : List Outcome) → list_all test outs ≡ true → list_all test (if b then outs else []) ≡ true
all_if test true outs all = all
all_if test false outs all = refl

both_lists : (test : Outcome → Bool) (xs ys : List Outcome) → list_all test xs ≡ true → list_all test ys ≡ true → list_all test (xs ++ ys) ≡ true
both_lists test xs ys all others = list_all-append test xs ys ∙ both_true (list_all test xs) (list_all test ys) all others

pub or_right : (a : Bool) → (a || true) ≡ true
or_right true = refl
or_right false = refl

module _ (grants : List Grant) (c : Certificate) (name : List ℕ) (point : ℕ) (b : Bound) where
  -- A test that each outcome to the next point passes.
  module _ (test : Outcome → Bool) (next : (after : Bound) → test (record { point = point + 1; bound = after }) ≡ true) where
    on : (after : Bound) (i : Interval) → list_all test (leads_on grants c name point b after i) ≡ true
    on after i = both_true (test (record { point = point + 1; bound = with_interval after 0 i })) true (next (with_interval after 0 i)) refl

    numbered : (numbers : Option (List ℕ)) (rest : ℕ → List Outcome) → ((n : ℕ) → list_all test (rest n) ≡ true) → list_all test (at_lowest numbers rest) ≡ true
    numbered None rest each = refl
    numbered (Some []) rest each = refl
    numbered (Some (n ∷ numbers)) rest each = each n

    paired : (numbers : Option (List ℕ)) (rest : ℕ → ℕ → List Outcome) → ((n m : ℕ) → list_all test (rest n m) ≡ true) → list_all test (at_pair numbers rest) ≡ true
    paired None rest each = refl
    paired (Some []) rest each = refl
    paired (Some (n ∷ [])) rest each = refl
    paired (Some (n ∷ m ∷ numbers)) rest each = each n m

    taking : (h : Held) → list_all test (takes grants c name point b h) ≡ true
    taking h = numbered (free_numbers 1 b) (λ n. leads_on grants c name point b (with_slot b n (bounds.Open h)) (only n)) (λ n. on (with_slot b n (bounds.Open h)) (only n))

    beneath : (h : Held) (t : Option Target) → list_all test (opens_beneath grants c name point b h t) ≡ true
    beneath h None = refl
    beneath h (Some target) = taking (record h { target = target })

    coming : (sends : Option (Option Held)) → list_all test (comes grants c name point b sends) ≡ true
    coming None = refl
    coming (Some None) = refl
    coming (Some (Some h)) = taking h

    receiving : (t : Target) → list_all test (receives_at grants c name point b t) ≡ true
    receiving (In_grant grant) = refl
    receiving Any_node = refl
    receiving (Socket class side) = coming (channel_at c class (other_side side))
    receiving Unknown = taking unknown_held

    each_slot : (x : Operand) (rest : OpenSlot → List Outcome) → ((s : OpenSlot) → list_all test (rest s) ≡ true) → list_all test (flat_map rest (slots_in b x)) ≡ true
    each_slot x rest each = all_of_each test rest (slots_in b x) each

    gives : (x : Operand) (i : Interval) → list_all test (gives_through grants c name point b x i) ≡ true
    gives x i = each_slot x (λ (s : OpenSlot). leads_on grants c name point b b i) (λ s. on b i)

    at_node : (x : Operand) (rest : List Outcome) → list_all test rest ≡ true → list_all test (gives_at_node grants c name point b x rest) ≡ true
    at_node x rest all = each_slot x (λ (s : OpenSlot). if may_be_node s.held.target then rest else []) (λ s. all_if test (may_be_node s.held.target) rest all)

    use_goes : (beneath : Bool) (x : Operand)
        → list_all test (if beneath then gives_at_node grants c name point b x (leads_on grants c name point b b (only 0)) else gives_through grants c name point b x (only 0)) ≡ true
    use_goes true x = at_node x (leads_on grants c name point b b (only 0)) (on b (only 0))
    use_goes false x = gives x (only 0)

    call_goes : (call : Syscall) → list_all test (successes_of grants c name point b call) ≡ true
    call_goes (Open path f) = taking (all_held (target_of_path grants path))
    call_goes (Openat x path f) =
        each_slot x (λ (s : OpenSlot). opens_beneath grants c name point b s.held (beneath_target s.held.target)) (λ s. beneath s.held (beneath_target s.held.target))
    call_goes (Read x) = gives x (from_to 0 256)
    call_goes (Write x v) = gives x (only 1)
    call_goes (Sendfd x y v) =
        each_slot x (λ (s : OpenSlot). if may_be_end s.held.target then gives_through grants c name point b y (only 1) else [])
        (λ s. all_if test (may_be_end s.held.target) (gives_through grants c name point b y (only 1)) (gives y (only 1)))
    call_goes (Recvfd x) = each_slot x (λ (s : OpenSlot). receives_at grants c name point b s.held.target) (λ s. receiving s.held.target)
    call_goes (Lseek x v) = gives x (from_to 0 most_bytes)
    call_goes (Ftruncate x v) = gives x (only 0)
    call_goes (Fsync x) = gives x (only 0)
    call_goes (Fstat x) = gives x (from_to 1 3)
    call_goes (Fcntl_getfl x) = gives x (from_to 0 3)
    call_goes (Fcntl_setfl x v) = gives x (only 0)
    call_goes (Fstatat x path) = at_node x (leads_on grants c name point b b (from_to 1 2)) (on b (from_to 1 2))
    call_goes (Stat path) = on b (from_to 1 2)
    call_goes (Mkdirat x path) = at_node x (leads_on grants c name point b b (only 0)) (on b (only 0))
    call_goes (Mkdir path) = on b (only 0)
    call_goes (Unlinkat x path directory) = at_node x (leads_on grants c name point b b (only 0)) (on b (only 0))
    call_goes (Unlink path directory) = on b (only 0)
    call_goes (Renameat x from y to) =
        at_node x (gives_at_node grants c name point b y (leads_on grants c name point b b (only 0)))
        (at_node y (leads_on grants c name point b b (only 0)) (on b (only 0)))
    call_goes (Dup x) = each_slot x (λ (s : OpenSlot). takes grants c name point b s.held) (λ s. taking s.held)
    call_goes (Close x) = each_slot x (λ (s : OpenSlot). leads_on grants c name point b (with_slot b s.number Closed) (only 0))
        (λ s. on (with_slot b s.number Closed) (only 0))
    call_goes (Cap_rights_limit x rights) =
        each_slot x (λ (s : OpenSlot). leads_on grants c name point b (with_slot b s.number (bounds.Open (with_rights s.held rights))) (only 0))
        (λ s. on (with_slot b s.number (bounds.Open (with_rights s.held rights))) (only 0))
    call_goes (Cap_fcntls_limit x commands) =
        each_slot x (λ (s : OpenSlot). leads_on grants c name point b (with_slot b s.number (bounds.Open (with_commands s.held commands))) (only 0))
        (λ s. on (with_slot b s.number (bounds.Open (with_commands s.held commands))) (only 0))
    call_goes Cap_enter = on (record b { mode = On }) (only 0)
    call_goes Cap_getmode = on b (mode_interval b.mode)
    call_goes Socketpair =
        paired (free_numbers 2 b) (λ first second. leads_on grants c name point b (with_pair grants c name point b first second) (only first))
        (λ first second. on (with_pair grants c name point b first second) (only first))
    call_goes (Call_use x right) = use_goes (acts_beneath right) x
    call_goes Fork =
        both_lists test (leads_on grants c name point b b (only 0)) (leads_on grants c name point b b (from_to 1 (most_processes - 1))) (on b (only 0))
        (on b (from_to 1 (most_processes - 1)))

  -- whether an outcome of an instruction goes where it may
  abbrev pub goes : Instruction → Outcome → Bool
  goes i o = (o.point == point + 1) || names_point o.point i

  goes_next : (i : Instruction) (after : Bound) → goes i (record { point = point + 1; bound = after }) ≡ true
  goes_next i after = ap (λ is. is || names_point (point + 1) i) (eq-eqb (point + 1) (point + 1) refl)

  named : (target : ℕ) → (((target == target) || false) ≡ true)
  named target = ap (λ is. is || false) (eq-eqb target target refl)

  goes_there : (target : ℕ) → ((target == point + 1) || ((target == target) || false)) ≡ true
  goes_there target = ap (λ is. (target == point + 1) || is) (named target) ∙ or_right (target == point + 1)

  next_alone : (i : Instruction) (after : Bound) → list_all (goes i) ((record { point = point + 1; bound = after }) ∷ []) ≡ true
  next_alone i after = both_true (goes i (record { point = point + 1; bound = after })) true (goes_next i after) refl

  part_next : (i : Instruction) (r : ℕ) (part : Option Interval) → list_all (goes i) (outcomes_in (point + 1) b r part) ≡ true
  part_next i r None = refl
  part_next i r (Some part) = next_alone i (with_interval b r part)

  equal_there : (r value target : ℕ) (part : Option Interval) → list_all (goes (Jeq r value target)) (outcomes_in target b r part) ≡ true
  equal_there r value target None = refl
  equal_there r value target (Some interval) = both_true _ true (goes_there target) refl

  less_there : (r value target : ℕ) (part : Option Interval) → list_all (goes (Jlt r value target)) (outcomes_in target b r part) ≡ true
  less_there r value target None = refl
  less_there r value target (Some interval) = both_true _ true (goes_there target) refl

  pub successes_go : (i : Instruction) → list_all (goes i) (successes grants c name point b i) ≡ true
  unfolding successes
  successes_go (Set r value) = next_alone (Set r value) (with_interval b r (only value))
  successes_go (Mov r source) = next_alone (Mov r source) (with_interval b r (interval b.registers source))
  successes_go (Add r addend) = next_alone (Add r addend) (with_interval b r (sums (interval b.registers r) (interval b.registers addend)))
  successes_go (In r) = next_alone (In r) (with_interval b r (from_to 0 255))
  successes_go (Jmp target) = both_true _ true (goes_there target) refl
  successes_go (Jeq r value target) =
      both_lists (goes (Jeq r value target)) (outcomes_in target b r (equal_part (interval b.registers r) value))
      (outcomes_in (point + 1) b r (other_part (interval b.registers r) value)) (equal_there r value target (equal_part (interval b.registers r) value))
      (part_next (Jeq r value target) r (other_part (interval b.registers r) value))
  successes_go (Jlt r value target) =
      both_lists (goes (Jlt r value target)) (outcomes_in target b r (lower_part (interval b.registers r) value))
      (outcomes_in (point + 1) b r (upper_part (interval b.registers r) value)) (less_there r value target (lower_part (interval b.registers r) value))
      (part_next (Jlt r value target) r (upper_part (interval b.registers r) value))
  successes_go Halt = refl
  successes_go (Invoke call otherwise) =
      all_if (goes (Invoke call otherwise)) (is_formed c b call) (successes_of grants c name point b call)
      (call_goes (goes (Invoke call otherwise)) (λ after. goes_next (Invoke call otherwise) after) call)

  errors_if : (never : Bool) (call : Syscall) (otherwise : ℕ) (after : Bound)
      → list_all (goes (Invoke call otherwise)) (if never then [] else (record { point = otherwise; bound = after }) ∷ []) ≡ true
  errors_if true call otherwise after = refl
  errors_if false call otherwise after = both_true _ true (goes_there otherwise) refl

  pub errors_go : (i : Instruction) → list_all (goes i) (error_outcomes b i) ≡ true
  unfolding error_outcomes
  errors_go (Set r value) = refl
  errors_go (Mov r source) = refl
  errors_go (Add r addend) = refl
  errors_go (In r) = refl
  errors_go (Jmp target) = refl
  errors_go (Jeq r value target) = refl
  errors_go (Jlt r value target) = refl
  errors_go Halt = refl
  errors_go (Invoke call otherwise) = errors_if (demands call).never_fails call otherwise (with_interval b 7 error_interval)
