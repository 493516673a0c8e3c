-- Each outcome of an instruction fits a certificate as the bound before it does: it names programs that the bound or the
-- certificate's channels name, or the point's own.
use Rattle.std.proofs.Common.{◌≡◌, ◌+◌, ◌++◌, ◌∷◌, [], Bool, true, false, ℕ, List, refl, ◌∙◌}
use Rattle.std.specs.Prelude.{◌==◌, ◌-◌, Option, Some, None, if◌then◌else◌}
use Rattle.std.specs.List.{flat_map, list_all}
use Rattle.std.proofs.lemmas.List.Folds.{list_all-append}
use Rattle.rights.specs.Classes.{Made_at}
use Rattle.rights.specs.Uses.{acts_beneath}
use Rattle.rights.specs.Limits.{most_bytes, most_processes}
use Rattle.certificate.specs.Bounds.{On, Target, In_grant, Any_node, Socket, Unknown, Interval, interval, with_interval, Held, Closed, with_slot, Bound, Certificate}
use Rattle.certificate.specs.Bounds as bounds
use Rattle.certificate.specs.Growth.{programs_of_channel}
use Rattle.certificate.specs.Joins.{bound_join}
use Rattle.certificate.proofs.Fewer.{are_among, is_among}
use Rattle.certificate.proofs.Fits.{is_fit}
use Rattle.certificate.proofs.Growing.{and_left, and_right, both_true}
use Rattle.rights.specs.Sides.{other_side}
use Rattle.instruction_set.specs.Programs.{Operand, Syscall, Open, Openat, Read, Write, Sendfd, Recvfd, Lseek, Ftruncate, Fsync, Fstat, Fcntl_getfl, Fcntl_setfl, Fstatat, Stat, Mkdirat}
use Rattle.instruction_set.specs.Programs.{Mkdir, Unlinkat, Unlink, Renameat, Dup, Close, Cap_rights_limit}
use Rattle.instruction_set.specs.Programs.{Cap_fcntls_limit, Cap_enter, Cap_getmode, Socketpair, Fork, Use as Call_use, Instruction, Set}
use Rattle.instruction_set.specs.Programs.{Mov, Add, In, Jmp, Jeq, Jlt, Halt, Invoke}
use Rattle.task.specs.Plans.{Grant}
use Rattle.rules.specs.Carrying.{joined_at, joined_with}
use Rattle.rules.specs.Channels.{channel_at}
use Rattle.rules.specs.Demands.{demands}
use Rattle.rules.specs.Intervals.{only, sums, equal_part, other_part, lower_part, upper_part}
use Rattle.rules.specs.Slots.{OpenSlot, slots_in, free_numbers, operand_interval}
use Rattle.rules.specs.Outcomes.{Outcome, outcome_to, outcomes_in, is_formed, at_lowest, at_pair, leads_on, gives_through, gives_at_node, new_end, with_pair, takes, all_held}
use Rattle.rules.specs.Outcomes.{unknown_held, target_of_path, with_rights, with_commands, from_to, mode_interval, error_interval, opens_beneath, comes, receives_at, successes_of}
use Rattle.rules.specs.Outcomes.{successes, error_outcomes, beneath_target, may_be_end, may_be_node}
use Rattle.rules.proofs.expansions.FitBounds.{fit_interval, fit_join, fit_line, fit_mode, fit_slot, fit_slots, is_fit_bound, is_fit_line, is_fit_open, is_fit_target, parts}

-- what is asked of all, where it is of each that passes a test
all_of_passing : {A B : Type 0} (passes : A → Bool) (test : B → Bool) (rest : A → List B) (xs : List A) → list_all passes xs ≡ true
    → ((x : A) → passes x ≡ true → list_all test (rest x) ≡ true) → list_all test (flat_map rest xs) ≡ true
all_of_passing passes test rest [] all each = refl
all_of_passing passes test rest (x ∷ xs) all each =
    list_all-append test (rest x) (flat_map rest xs)
    ∙ both_true (list_all test (rest x)) (list_all test (flat_map rest xs)) (each x (and_left (passes x) (list_all passes xs) all))
    (all_of_passing passes test rest xs (and_right (passes x) (list_all passes xs) all) each)

all_if : {A : Type 0} (test : A → Bool) (b : Bool) (xs : List A) → list_all test xs ≡ true → list_all test (if b then xs else []) ≡ true
all_if test true xs all = all
all_if test false xs all = refl

module _ (names : List (List ℕ)) where
  abbrev is_fit_outcome : Outcome → Bool
  is_fit_outcome o = is_fit names o.bound

  abbrev all_fit : List Outcome → Bool
  all_fit outs = list_all is_fit_outcome outs

  both_fit : (xs ys : List Outcome) → all_fit xs ≡ true → all_fit ys ≡ true → all_fit (xs ++ ys) ≡ true
  both_fit xs ys all others = list_all-append is_fit_outcome xs ys ∙ both_true (all_fit xs) (all_fit ys) all others

  -- the target of a path names no program, nor does what lies beneath a target
  path_fit : (grants : List Grant) (path : List ℕ) → is_fit_target names (target_of_path grants path) ≡ true
  path_fit [] path = refl
  path_fit (g ∷ grants) path = go _ (path_fit grants path)
    where
      go : (b : Bool) → is_fit_target names (target_of_path grants path) ≡ true
          → is_fit_target names (if b then In_grant g.name else target_of_path grants path) ≡ true
      go true rest = refl
      go false rest = rest

  module _ (grants : List Grant) (c : Certificate) (name : List ℕ) (point : ℕ) (b : Bound) (fit : is_fit names b ≡ true)
      (own : is_among names name ≡ true) (among : are_among names (flat_map programs_of_channel c.channels) ≡ true) where
    to : (target : ℕ) (after : Bound) → is_fit names after ≡ true → all_fit (outcome_to target after) ≡ true
    to target after is = both_true (is_fit names after) true is refl

    on : (after : Bound) (i : Interval) → is_fit names after ≡ true → all_fit (leads_on grants c name point b after i) ≡ true
    on after i is = to (point + 1) (with_interval after 0 i) (fit_interval names after 0 i is)

    stays : (i : Interval) → all_fit (leads_on grants c name point b b i) ≡ true
    stays i = on b i fit

    holding : (n : ℕ) (h : Held) (i : Interval) → is_fit_target names h.target ≡ true
        → all_fit (leads_on grants c name point b (with_slot b n (bounds.Open h)) i) ≡ true
    holding n h i is = on (with_slot b n (bounds.Open h)) i (fit_slot names b n (bounds.Open h) fit is)

    numbered : (numbers : Option (List ℕ)) (rest : ℕ → List Outcome) → ((n : ℕ) → all_fit (rest n) ≡ true) → all_fit (at_lowest numbers rest) ≡ true
    numbered None rest each = refl
    numbered (Some []) rest each = refl
    numbered (Some (n ∷ numbers)) rest each = each n

    paired : (numbers : Option (List ℕ)) (rest : ℕ → ℕ → List Outcome) → ((n m : ℕ) → all_fit (rest n m) ≡ true) → all_fit (at_pair numbers rest) ≡ true
    paired None rest each = refl
    paired (Some []) rest each = refl
    paired (Some (n ∷ [])) rest each = refl
    paired (Some (n ∷ m ∷ numbers)) rest each = each n m

    taking : (h : Held) → is_fit_target names h.target ≡ true → all_fit (takes grants c name point b h) ≡ true
    taking h is = numbered (free_numbers 1 b) (λ n. leads_on grants c name point b (with_slot b n (bounds.Open h)) (only n)) (λ n. holding n h (only n) is)

    beneath : (h : Held) (t : Target) → all_fit (opens_beneath grants c name point b h (beneath_target t)) ≡ true
    beneath h (In_grant grant) = taking (record h { target = In_grant grant }) refl
    beneath h Any_node = taking (record h { target = Any_node }) refl
    beneath h (Socket class side) = refl
    beneath h Unknown = taking (record h { target = Any_node }) refl

    coming : (sends : Option (Option Held)) → is_fit_line names sends ≡ true → all_fit (comes grants c name point b sends) ≡ true
    coming None is = refl
    coming (Some None) is = refl
    coming (Some (Some h)) is = taking h is

    receiving : (t : Target) → all_fit (receives_at grants c name point b t) ≡ true
    unfolding channel_at
    receiving (In_grant grant) = refl
    receiving Any_node = refl
    receiving (Socket class side) = coming (channel_at c class (other_side side)) (fit_line names c.channels class (other_side side) among)
    receiving Unknown = taking unknown_held refl

    each_slot : (x : Operand) (rest : OpenSlot → List Outcome) → ((s : OpenSlot) → is_fit_open names s ≡ true → all_fit (rest s) ≡ true)
        → all_fit (flat_map rest (slots_in b x)) ≡ true
    unfolding slots_in
    each_slot x rest each =
        all_of_passing (is_fit_open names) is_fit_outcome rest (slots_in b x) (fit_slots names 0 (operand_interval b x) b.slots (parts names b fit).slots) each

    gives : (x : Operand) (i : Interval) → all_fit (gives_through grants c name point b x i) ≡ true
    gives x i = each_slot x (λ (s : OpenSlot). leads_on grants c name point b b i) (λ s is. stays i)

    at_node : (x : Operand) (rest : List Outcome) → all_fit rest ≡ true → all_fit (gives_at_node grants c name point b x rest) ≡ true
    at_node x rest all =
        each_slot x (λ (s : OpenSlot). if may_be_node s.held.target then rest else []) (λ s is. all_if is_fit_outcome (may_be_node s.held.target) rest all)

    -- both ends of a pair are of the point's own program
    ends : (first second : ℕ) → all_fit (leads_on grants c name point b (with_pair grants c name point b first second) (only first)) ≡ true
    ends first second =
        let mine : is_fit_target names (Socket (Made_at name point) 0) ≡ true = both_true (is_among names name) true own refl in
        let nought = bounds.Open (new_end grants c name point b 0) in
        let other = bounds.Open (new_end grants c name point b 1) in
        let one = with_slot b first nought in
        let two = with_slot one second other in
        on (with_pair grants c name point b first second) (only first)
        (fit_interval names two 1 (only second)
        (fit_slot names one second other (fit_slot names b first nought fit mine) mine))

    use_fits : (beneath : Bool) (x : Operand)
        → all_fit (if beneath then gives_at_node grants c name point b x (leads_on grants c name point b b (only 0)) else gives_through grants c name point b x (only 0)) ≡ true
    use_fits true x = at_node x (leads_on grants c name point b b (only 0)) (stays (only 0))
    use_fits false x = gives x (only 0)

    call_fits : (call : Syscall) → all_fit (successes_of grants c name point b call) ≡ true
    call_fits (Open path f) = taking (all_held (target_of_path grants path)) (path_fit grants path)
    call_fits (Openat x path f) =
        each_slot x (λ (s : OpenSlot). opens_beneath grants c name point b s.held (beneath_target s.held.target)) (λ s is. beneath s.held s.held.target)
    call_fits (Read x) = gives x (from_to 0 256)
    call_fits (Write x v) = gives x (only 1)
    call_fits (Sendfd x y v) =
        each_slot x (λ (s : OpenSlot). if may_be_end s.held.target then gives_through grants c name point b y (only 1) else [])
        (λ s is. all_if is_fit_outcome (may_be_end s.held.target) (gives_through grants c name point b y (only 1)) (gives y (only 1)))
    call_fits (Recvfd x) = each_slot x (λ (s : OpenSlot). receives_at grants c name point b s.held.target) (λ s is. receiving s.held.target)
    call_fits (Lseek x v) = gives x (from_to 0 most_bytes)
    call_fits (Ftruncate x v) = gives x (only 0)
    call_fits (Fsync x) = gives x (only 0)
    call_fits (Fstat x) = gives x (from_to 1 3)
    call_fits (Fcntl_getfl x) = gives x (from_to 0 3)
    call_fits (Fcntl_setfl x v) = gives x (only 0)
    call_fits (Fstatat x path) = at_node x (leads_on grants c name point b b (from_to 1 2)) (stays (from_to 1 2))
    call_fits (Stat path) = stays (from_to 1 2)
    call_fits (Mkdirat x path) = at_node x (leads_on grants c name point b b (only 0)) (stays (only 0))
    call_fits (Mkdir path) = stays (only 0)
    call_fits (Unlinkat x path directory) = at_node x (leads_on grants c name point b b (only 0)) (stays (only 0))
    call_fits (Unlink path directory) = stays (only 0)
    call_fits (Renameat x from y to) =
        at_node x (gives_at_node grants c name point b y (leads_on grants c name point b b (only 0)))
        (at_node y (leads_on grants c name point b b (only 0)) (stays (only 0)))
    call_fits (Dup x) = each_slot x (λ (s : OpenSlot). takes grants c name point b s.held) (λ s is. taking s.held is)
    call_fits (Close x) =
        each_slot x (λ (s : OpenSlot). leads_on grants c name point b (with_slot b s.number Closed) (only 0))
        (λ s is. on (with_slot b s.number Closed) (only 0) (fit_slot names b s.number Closed fit refl))
    call_fits (Cap_rights_limit x rights) =
        each_slot x (λ (s : OpenSlot). leads_on grants c name point b (with_slot b s.number (bounds.Open (with_rights s.held rights))) (only 0))
        (λ s is. holding s.number (with_rights s.held rights) (only 0) is)
    call_fits (Cap_fcntls_limit x commands) =
        each_slot x (λ (s : OpenSlot). leads_on grants c name point b (with_slot b s.number (bounds.Open (with_commands s.held commands))) (only 0))
        (λ s is. holding s.number (with_commands s.held commands) (only 0) is)
    call_fits Cap_enter = on (record b { mode = On }) (only 0) (fit_mode names b On fit)
    call_fits Cap_getmode = stays (mode_interval b.mode)
    call_fits Socketpair =
        paired (free_numbers 2 b) (λ first second. leads_on grants c name point b (with_pair grants c name point b first second) (only first))
        (λ first second. ends first second)
    call_fits (Call_use x right) = use_fits (acts_beneath right) x
    call_fits Fork =
        both_fit (leads_on grants c name point b b (only 0)) (leads_on grants c name point b b (from_to 1 (most_processes - 1))) (stays (only 0))
        (stays (from_to 1 (most_processes - 1)))

    -- AN INSTRUCTION
    set_to : (target r : ℕ) (i : Interval) → all_fit (outcome_to target (with_interval b r i)) ≡ true
    set_to target r i = to target (with_interval b r i) (fit_interval names b r i fit)

    part_fits : (target r : ℕ) (part : Option Interval) → all_fit (outcomes_in target b r part) ≡ true
    part_fits target r None = refl
    part_fits target r (Some i) = set_to target r i

    successes_fit : (i : Instruction) → all_fit (successes grants c name point b i) ≡ true
    unfolding successes
    successes_fit (Set r value) = set_to (point + 1) r (only value)
    successes_fit (Mov r source) = set_to (point + 1) r (interval b.registers source)
    successes_fit (Add r addend) = set_to (point + 1) r (sums (interval b.registers r) (interval b.registers addend))
    successes_fit (In r) = set_to (point + 1) r (from_to 0 255)
    successes_fit (Jmp target) = to target b fit
    successes_fit (Jeq r value target) =
        both_fit (outcomes_in target b r (equal_part (interval b.registers r) value)) (outcomes_in (point + 1) b r (other_part (interval b.registers r) value))
        (part_fits target r (equal_part (interval b.registers r) value)) (part_fits (point + 1) r (other_part (interval b.registers r) value))
    successes_fit (Jlt r value target) =
        both_fit (outcomes_in target b r (lower_part (interval b.registers r) value)) (outcomes_in (point + 1) b r (upper_part (interval b.registers r) value))
        (part_fits target r (lower_part (interval b.registers r) value)) (part_fits (point + 1) r (upper_part (interval b.registers r) value))
    successes_fit Halt = refl
    successes_fit (Invoke call otherwise) = all_if is_fit_outcome (is_formed c b call) (successes_of grants c name point b call) (call_fits call)

    error_fits : (never : Bool) (otherwise : ℕ) → all_fit (if never then [] else outcome_to otherwise (with_interval b 7 error_interval)) ≡ true
    error_fits true otherwise = refl
    error_fits false otherwise = set_to otherwise 7 error_interval

    errors_fit : (i : Instruction) → all_fit (error_outcomes b i) ≡ true
    unfolding error_outcomes
    errors_fit (Set r value) = refl
    errors_fit (Mov r source) = refl
    errors_fit (Add r addend) = refl
    errors_fit (In r) = refl
    errors_fit (Jmp target) = refl
    errors_fit (Jeq r value target) = refl
    errors_fit (Jlt r value target) = refl
    errors_fit Halt = refl
    errors_fit (Invoke call otherwise) = error_fits (demands call).never_fails otherwise

    -- WHAT IS CARRIED ON
    joined_fits : (to : ℕ) (before : Option Bound) (o : Outcome) → is_fit_bound names before ≡ true → is_fit_outcome o ≡ true
        → is_fit_bound names (joined_with to before o) ≡ true
    joined_fits to None o some is = go (o.point == to)
      where
        go : (there : Bool) → is_fit_bound names (if there then Some o.bound else None) ≡ true
        go true = is
        go false = refl
    joined_fits to (Some a) o some is = go (o.point == to)
      where
        go : (there : Bool) → is_fit_bound names (if there then Some (bound_join a o.bound) else Some a) ≡ true
        go true = fit_join names a o.bound some is
        go false = some

    all_joined : (to : ℕ) (before : Option Bound) (outs : List Outcome) → is_fit_bound names before ≡ true → all_fit outs ≡ true
        → is_fit_bound names (joined_at to before outs) ≡ true
    unfolding joined_at
    all_joined to before [] some all = some
    all_joined to before (o ∷ outs) some all =
        all_joined to (joined_with to before o) outs (joined_fits to before o some (and_left (is_fit_outcome o) (all_fit outs) all))
        (and_right (is_fit_outcome o) (all_fit outs) all)

    -- whether or not the successes are followed
    pub carried_fits : (followed : Bool) (i : Instruction)
        → is_fit_bound names (joined_at (point + 1) None ((if followed then successes grants c name point b i else []) ++ error_outcomes b i)) ≡ true
    carried_fits followed i =
        let good = if followed then successes grants c name point b i else [] in
        all_joined (point + 1) None (good ++ error_outcomes b i) refl
        (both_fit good (error_outcomes b i) (all_if is_fit_outcome followed (successes grants c name point b i) (successes_fit i)) (errors_fit i))
