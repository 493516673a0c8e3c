-- A step keeps a world well formed.
use Rattle.std.proofs.Common.{◌≡◌, inl, inr, ℕ, ◌+◌, ◌%◌, ◌<◌, ◌≤◌, ◌^◌, Bool, true, false, List, [], ◌∷◌, ◌++◌, refl, length, arith, subst, ap, sym, ◌∙◌, append-nil, length-append}
use Rattle.std.specs.Prelude.{◌≢◌, ◌==◌, ◌&&◌, Option, Some, None, nat_lt, slice_set}
use Rattle.std.specs.List.{slice_get}
use Rattle.std.proofs.Math.ListN.{length-set}
use Rattle.std.proofs.lemmas.Bool.{ltb-true}
use Rattle.std.proofs.lemmas.Option.{slice_get_past}
use Rattle.rights.specs.Errors.{Errno, errno_number}
use Rattle.rights.specs.Sets.{all_rights, all_commands}
use Rattle.rights.specs.Maps.{put, put2}
use Rattle.rights.proofs.Numbers.{errno_number-le}
use Rattle.rights.proofs.Changes.{put-cases, put-other}
use Rattle.rights.proofs.Lists.{slice_get-set_cases}
use Rattle.rights.proofs.Tests.{both_left, both_right}
use Rattle.file_tree.specs.Nodes.{Node}
use Rattle.process.specs.State.{Deed, ProcessState, ended, forked, left_by, moved_to}
use Rattle.instruction_set.specs.Programs.{Instruction, Set, Mov, Add, In, Jmp, Jeq, Jlt, Halt, Invoke, Syscall, is_register, is_syscall}
use Rattle.fd_table.specs.Descriptions.{Descriptor, descriptor_of, IfHeld}
use Rattle.kernel.specs.World.{World, Choice, IsFresh}
use Rattle.kernel.specs.Answers.{Event, TableChange, Same_table, Set_entry, Clear_entry, New_file, New_pair, New_process, Change, Answer, Fails, Waits, Gives, Walks, IsEvent}
use Rattle.rights.specs.Limits.{most_descriptors, most_messages, most_processes}
use Rattle.file_tree.specs.WellFormed.{IsTree}
use Rattle.kernel.specs.Calls.{answer}
use Rattle.kernel.specs.Changes.{table_after, second_number, given, processes_after, files_after, changed}
use Rattle.kernel.specs.Steps.{LineResult, Programs, Executed, after_deed, changed_at, next_instruction, register, with_register, goes_on, with_process, halted, failed}
use Rattle.kernel.specs.Steps.{answered, jumped, executed, stepped_at, stepped_by, stepped, step}
use Rattle.kernel.specs.WellFormed.{ArePrograms, EachMessage, HasPaths, IfKept, IsDeed, Numbering, HasNone, IsDescriptor, IsProcessIfMade, IsPoint, IsProcess, IsWorld, IsWellFormed}
use Rattle.kernel.specs.Runs.{FreshNumbersExist, MayChoose}
use Rattle.kernel.specs.Walks.{FitsLookups, IsWalkerIfMade, are_paths, call_in, lookups_of, under_way}
use Rattle.kernel.proofs.Brings.{Ground, ground, Known, BringsTable, Brings, Sound}
use Rattle.kernel.proofs.Deeds.{IsLike, StaysOrEnds, after_end, after_keeps, after_length, changed_cases, changed_keeps, each_executed, stays_or_ends}
use Rattle.kernel.proofs.KeptWalks.{AreWalkers, call_here, no_walker, slice_get-more_cases, walk_fits, walkers_changed, walkers_halted, walkers_moved, walkers_on}
use Rattle.kernel.proofs.Brought.{sound}
use Rattle.kernel.proofs.Fresh.{IsApart, known_entries, known_messages, fresh_with, fresh_some}
use Rattle.kernel.proofs.Later.{numbering_after, entries_later, numbers_later, messages_later, short_later, idle_later, sides_later}
use Rattle.kernel.proofs.Points.{Placed, instruction_paths, placed, register_small, still_on, process_at, process_forked, process_left, process_moved, process_ended, process_walking, process_with}

alive_has : (s : ProcessState) (row : ℕ → Option Descriptor) → s.alive ≡ true → HasNone (Some s) row
alive_has s row alive = λ ended. absurd (let clash : true ≡ false = sym alive ∙ ended in cc)

-- a well-formed world but for how its processes stand
record IsRest (numbering : Numbering) (w : World) : Type 0 where
  tree : IsTree w.tree
  some : 0 < length w.processes
  few : length w.processes ≤ most_processes
  entries : (p n : ℕ) → IfHeld (IsDescriptor w.tree numbering w.files.objects w.files.states) (w.files.table p n)
  numbers : (p n : ℕ) → most_descriptors ≤ n → w.files.table p n ≡ None
  gone : (p : ℕ) → HasNone (slice_get w.processes p) (w.files.table p)
  messages : (pair side : ℕ) → EachMessage (IsDescriptor w.tree numbering w.files.objects w.files.states) (w.files.queue pair side)
  short : (pair side : ℕ) → length (w.files.queue pair side) ≤ most_messages
  idle : (pair side : ℕ) → w.files.pairs ≤ pair → w.files.queue pair side ≡ []
  sides : (pair side : ℕ) → 2 ≤ side → w.files.queue pair side ≡ []

rest_of : (programs : Programs) (numbering : Numbering) (w : World) → IsWorld programs numbering w → IsRest numbering w
rest_of programs numbering w good = record {
  tree = good.tree;
  some = good.some;
  few = good.few;
  entries = good.entries;
  numbers = good.numbers;
  gone = good.gone;
  messages = good.messages;
  short = good.short;
  idle = good.idle;
  sides = good.sides;
}

-- ## A process is put in its place
module _ (programs : Programs) (numbering : Numbering) (w : World) (good : IsWorld programs numbering w) (p : ℕ) (t : ProcessState) where
  -- a living one
  rest-process : t.alive ≡ true → IsRest numbering (with_process w p t)
  rest-process alive = record {
    tree = good.tree;
    some = omega (arith, length-set w.processes p t, good.some);
    few = omega (arith, length-set w.processes p t, good.few);
    entries = good.entries;
    numbers = good.numbers;
    gone = λ m. slice_get-set_cases (λ o. HasNone o (w.files.table m)) w.processes p t m (λ _. alive_has t (w.files.table m) alive) (good.gone m);
    messages = good.messages;
    short = good.short;
    idle = good.idle;
    sides = good.sides;
  }

  -- an ended process, with its table closed
  rest-halted : IsRest numbering (halted w p t)
  rest-halted =
      let closed : ℕ → Option Descriptor = λ n. None in
      record {
        tree = good.tree;
        some = omega (arith, length-set w.processes p (ended t), good.some);
        few = omega (arith, length-set w.processes p (ended t), good.few);
        entries = λ q n. put-cases (λ row. IfHeld (IsDescriptor w.tree numbering w.files.objects w.files.states) (row n)) w.files.table p closed q (λ _. tt) (λ _. good.entries q n);
        numbers = λ q n far. put-cases (λ row. row n ≡ None) w.files.table p closed q (λ _. refl) (λ _. good.numbers q n far);
        gone = λ q.
            put-cases (λ row. HasNone (slice_get (slice_set w.processes p (ended t)) q) row) w.files.table p closed q
            (λ _. none_at_all (slice_get (slice_set w.processes p (ended t)) q))
            (λ other. slice_get-set_cases (λ o. HasNone o (w.files.table q)) w.processes p (ended t) q (λ same. absurd (other same)) (good.gone q));
        messages = good.messages;
        short = good.short;
        idle = good.idle;
        sides = good.sides;
      }
    where
      none_at_all : (o : Option ProcessState) → HasNone o (λ n. None)
      none_at_all None = λ n. refl
      none_at_all (Some s) = λ ended n. refl

  set_there : IsProcess programs t → (q : ℕ) → IsProcessIfMade programs (slice_get (slice_set w.processes p t) q)
  set_there made q = slice_get-set_cases (IsProcessIfMade programs) w.processes p t q (λ _. made) (good.processes q)

-- ## What a call changes
module _ (programs : Programs) (numbering : Numbering) (w : World) (good : IsWorld programs numbering w) (p : ℕ) (s : ProcessState)
    (made : slice_get w.processes p ≡ Some s) (alive : s.alive ≡ true) (choice : Choice) where
  gone_put : (number : ℕ) (o : Option Descriptor) (f : ℕ → ℕ → Option Descriptor) → ((q : ℕ) → HasNone (slice_get w.processes q) (f q)) → (q : ℕ) →
      HasNone (slice_get w.processes q) (put2 f p number o q)
  gone_put number o f all q =
      put-cases (HasNone (slice_get w.processes q)) f p (put (f p) number o) q
      (λ same. subst (λ o'. HasNone o' (put (f p) number o)) (sym (ap (slice_get w.processes) same ∙ made)) (alive_has s (put (f p) number o) alive))
      (λ _. all q)

  -- in the place of process p
  set_in : (t : ProcessState) → t.alive ≡ true → (row : ℕ → Option Descriptor) (q : ℕ) → HasNone (slice_get w.processes q) row → HasNone (slice_get (slice_set w.processes p t ++ []) q) row
  set_in t living row q old =
      subst (λ (xs : List ProcessState). HasNone (slice_get xs q) row) (sym (append-nil (slice_set w.processes p t)))
      (slice_get-set_cases (λ o. HasNone o row) w.processes p t q (λ _. alive_has t row living) old)

  gone_later : (t : ProcessState) → t.alive ≡ true → (table : TableChange) (q : ℕ) →
      HasNone (slice_get (processes_after w.processes p t table) q) (table_after w.files.table p (length w.processes) choice table q)
  gone_later t living Same_table q = set_in t living (w.files.table q) q (good.gone q)
  gone_later t living (Set_entry number d) q = set_in t living (put2 w.files.table p number (Some d) q) q (gone_put number (Some d) w.files.table good.gone q)
  gone_later t living (Clear_entry number) q = set_in t living (put2 w.files.table p number None q) q (gone_put number None w.files.table good.gone q)
  gone_later t living (New_file number n access append rights fcntls) q =
      set_in t living (put2 w.files.table p number (Some (descriptor_of choice.first rights fcntls)) q) q
      (gone_put number (Some (descriptor_of choice.first rights fcntls)) w.files.table good.gone q)
  gone_later t living (New_pair first second class) q =
      let one : ℕ → ℕ → Option Descriptor = put2 w.files.table p first (Some (descriptor_of choice.first all_rights all_commands)) in
      let other : Option Descriptor = Some (descriptor_of choice.second all_rights all_commands) in
      set_in t living (put2 one p second other q) q
      (gone_put second other one (gone_put first (Some (descriptor_of choice.first all_rights all_commands)) w.files.table good.gone) q)
  gone_later t living New_process q =
      let row : ℕ → Option Descriptor = put w.files.table (length w.processes) (w.files.table p) q in
      slice_get-more_cases (λ o. HasNone o row) (slice_set w.processes p t) (forked t) q
      (λ _. alive_has (forked t) row living)
      (λ other.
      let elsewhere : q ≢ length w.processes = λ same. other (same ∙ sym (length-set w.processes p t)) in
      slice_get-set_cases (λ o. HasNone o row) w.processes p t q (λ _. alive_has t row living)
      (subst (HasNone (slice_get w.processes q)) (sym (put-other w.files.table (length w.processes) (w.files.table p) q elsewhere)) (good.gone q)))

  made_in : (t : ProcessState) → IsProcess programs t → (q : ℕ) → IsProcessIfMade programs (slice_get (slice_set w.processes p t ++ []) q)
  made_in t fine q =
      subst (λ (xs : List ProcessState). IsProcessIfMade programs (slice_get xs q)) (sym (append-nil (slice_set w.processes p t)))
      (slice_get-set_cases (IsProcessIfMade programs) w.processes p t q (λ _. fine) (good.processes q))

  processes_later : (t : ProcessState) → IsProcess programs t → (table : TableChange) (q : ℕ) → IsProcessIfMade programs (slice_get (processes_after w.processes p t table) q)
  processes_later t fine Same_table q = made_in t fine q
  processes_later t fine (Set_entry number d) q = made_in t fine q
  processes_later t fine (Clear_entry number) q = made_in t fine q
  processes_later t fine (New_file number n access append rights fcntls) q = made_in t fine q
  processes_later t fine (New_pair first second class) q = made_in t fine q
  processes_later t fine New_process q =
      slice_get-more_cases (IsProcessIfMade programs) (slice_set w.processes p t) (forked t) q
      (λ _. process_forked programs t fine)
      (λ _. slice_get-set_cases (IsProcessIfMade programs) w.processes p t q (λ _. fine) (good.processes q))

  Few : List ProcessState → Type 0
  Few processes = (0 < length processes) × (length processes ≤ most_processes)

  few_in : (t : ProcessState) → Few (slice_set w.processes p t ++ [])
  unfolding Few
  few_in t =
      let count : length (slice_set w.processes p t ++ []) ≡ length w.processes = ap length (append-nil (slice_set w.processes p t)) ∙ length-set w.processes p t in
      (omega (arith, good.some), omega (arith, good.few))

  few_later : (Good : Descriptor → Type 0) (tree : List Node) (t : ProcessState) (table : TableChange) → BringsTable Good tree (length w.processes) table → Few (processes_after w.processes p t table)
  unfolding Few
  few_later Good tree t Same_table brings = few_in t
  few_later Good tree t (Set_entry number d) brings = few_in t
  few_later Good tree t (Clear_entry number) brings = few_in t
  few_later Good tree t (New_file number n access append rights fcntls) brings = few_in t
  few_later Good tree t (New_pair first second class) brings = few_in t
  few_later Good tree t New_process brings =
      let count : length (slice_set w.processes p t ++ forked t ∷ []) ≡ length w.processes + 1 = omega (arith, length-append (slice_set w.processes p t) (forked t ∷ []), length-set w.processes p t) in
      (omega arith, omega (arith, brings))

  -- the process goes on, with the value and a pair's second number
  given_process : (Good : Descriptor → Type 0) (tree : List Node) (made : ℕ) (value : ℕ) (mode : Bool) (table : TableChange) → (s.mode ≡ true → mode ≡ true) →
      BringsTable Good tree made table → IsProcess programs s → value < 2 ^ 32 → IsPoint (slice_get (programs s.program) (s.point + 1)) →
      IsProcess programs (record s { registers = second_number table (slice_set s.registers 0 value); point = s.point + 1; mode = mode; walk = None })
  given_process Good tree made value mode Same_table stays brings fine small next = process_at programs s 0 value (s.point + 1) mode fine small next stays
  given_process Good tree made value mode (Set_entry number d) stays brings fine small next = process_at programs s 0 value (s.point + 1) mode fine small next stays
  given_process Good tree made value mode (Clear_entry number) stays brings fine small next = process_at programs s 0 value (s.point + 1) mode fine small next stays
  given_process Good tree made value mode (New_file number n access append rights fcntls) stays brings fine small next = process_at programs s 0 value (s.point + 1) mode fine small next stays
  given_process Good tree made value mode (New_pair first second class) stays brings fine small next =
      let low : second < 2 ^ 32 = omega (arith, brings.1) in
      process_with programs (record s { registers = slice_set s.registers 0 value; point = s.point + 1; mode = mode; walk = None }) 1 second
      (process_at programs s 0 value (s.point + 1) mode fine small next stays) low
  given_process Good tree made value mode New_process stays brings fine small next = process_at programs s 0 value (s.point + 1) mode fine small next stays

  rest-changed : IsFresh w.files choice → (value : ℕ) (change : Change) → Brings (ground numbering w (IsApart w.files choice)) value change →
      IsRest (numbering_after numbering choice change.table) (changed w p (given s value change) choice change)
  unfolding changed files_after Few
  rest-changed fresh value change brings =
      let t : ProcessState = given s value change in
      let count = few_later (Known (ground numbering w (IsApart w.files choice))) _ t change.table brings.table in
      record {
        tree = brings.tree;
        some = count.0;
        few = count.1;
        entries = entries_later programs numbering w good choice fresh p (length w.processes) change.tree change.table change.state brings.table brings.state;
        numbers = numbers_later programs numbering w good choice fresh (Known (ground numbering w (IsApart w.files choice))) _ p (length w.processes) change.table brings.table;
        gone = gone_later t alive change.table;
        messages = messages_later programs numbering w good choice fresh change.tree change.table change.state change.queue brings.state brings.queue;
        short = short_later programs numbering w good choice fresh (Known (ground numbering w (IsApart w.files choice))) change.queue brings.queue;
        idle = idle_later programs numbering w good choice fresh change.queue;
        sides = sides_later programs numbering w good choice fresh (Known (ground numbering w (IsApart w.files choice))) change.queue brings.queue;
      }

  processes-changed : IsFresh w.files choice → IsProcess programs s → IsPoint (slice_get (programs s.program) (s.point + 1)) →
      (value : ℕ) (change : Change) → Brings (ground numbering w (IsApart w.files choice)) value change →
      (q : ℕ) → IsProcessIfMade programs (slice_get (changed w p (given s value change) choice change).processes q)
  unfolding changed
  processes-changed fresh fine next value change brings =
      let t : ProcessState = given s value change in
      let is_process : IsProcess programs t = given_process (Known (ground numbering w (IsApart w.files choice))) _
      (length w.processes) value t.mode change.table (still_on s.mode change.enters) brings.table fine brings.small next in
      processes_later t is_process change.table

-- ## Steps
number_small : (errno : Errno) → errno_number errno < 2 ^ 32
number_small errno = let low : errno_number errno ≤ 94 = errno_number-le errno in omega arith

-- a world in which all but how its processes stand is well formed
record IsKeptRest (programs : Programs) (w : World) : Type 0 where
  numbering : Numbering
  rest : IsRest numbering w
  walks : AreWalkers programs w

well : (programs : Programs) (w : World) → IsKeptRest programs w → ((p : ℕ) → IsProcessIfMade programs (slice_get w.processes p)) → IsWellFormed programs w
well programs w is processes = record {
  numbering = is.numbering;
  world = record {
    tree = is.rest.tree;
    some = is.rest.some;
    few = is.rest.few;
    processes = processes;
    entries = is.rest.entries;
    numbers = is.rest.numbers;
    gone = is.rest.gone;
    messages = is.rest.messages;
    short = is.rest.short;
    idle = is.rest.idle;
    sides = is.rest.sides;
  };
  walks = is.walks;
}

-- what a deed leaves of such a world is one too
rest_after : (programs : Programs) (w : World) (o : Option Deed) (p made : ℕ) (outcome : LineResult) → IsKeptRest programs w →
    IsKeptRest programs (record w { processes = after_deed o p made outcome w.processes })
rest_after programs w o p made outcome is = record {
  numbering = is.numbering;
  rest = record {
    tree = is.rest.tree;
    some = subst (λ n. 0 < n) (sym (after_length o p made outcome w.processes)) is.rest.some;
    few = subst (λ n. n ≤ most_processes) (sym (after_length o p made outcome w.processes)) is.rest.few;
    entries = is.rest.entries;
    numbers = is.rest.numbers;
    gone = λ q. after_keeps (λ o. HasNone o (w.files.table q)) p made w.processes q o outcome (λ deed t none. none) (is.rest.gone q);
    messages = is.rest.messages;
    short = is.rest.short;
    idle = is.rest.idle;
    sides = is.rest.sides;
  };
  walks = λ q.
      after_keeps (IsWalkerIfMade programs w.tree w.files.objects (w.files.table q)) p made w.processes q o outcome
      (λ deed t walker. no_walker programs w.tree w.files.objects (w.files.table q) (left_by deed t) refl) (is.walks q);
}

module _ (programs : Programs) (numbering : Numbering) (w : World) (good : IsWorld programs numbering w)
    (walkers : AreWalkers programs w) (e : Event) (byte : IsEvent e) (choice : Choice) (fresh : IsFresh w.files choice) where
  well_same : IsWellFormed programs w
  well_same = record { numbering = numbering; world = good; walks = walkers }

  abbrev left : ProcessState → Syscall → Ground
  left s call = record (ground numbering w (IsApart w.files choice)) { Left = FitsLookups w.tree w.files.objects (w.files.table e.process) s (lookups_of call) }

  same_brings : (s : ProcessState) (call : Syscall) (value : ℕ) (change : Change) → Brings (left s call) value change → Brings (ground numbering w (IsApart w.files choice)) value change
  same_brings s call value change brings = record { small = brings.small; tree = brings.tree; table = brings.table; queue = brings.queue; state = brings.state }

  call_sound : (s : ProcessState) (call : Syscall) → slice_get w.processes e.process ≡ Some s → under_way programs s ≡ Some call → are_paths (lookups_of call) ≡ true →
      Sound (left s call) (answer w e.process s e call)
  call_sound s call made here paths =
      sound programs (left s call)
      (record {
        good = good;
        entries = known_entries programs numbering w good choice fresh;
        messages =
            known_messages programs numbering w good choice fresh;
      }) e.process s e call paths (walk_fits programs w walkers e.process s call made here) (λ walking fits. fits)

  -- ## All but how the processes stand
  module _ (s : ProcessState) (made : slice_get w.processes e.process ≡ Some s) (alive : s.alive ≡ true) where
    moved_rest : (t : ProcessState) → t.alive ≡ true → t.walk ≡ None → IsKeptRest programs (with_process w e.process t)
    moved_rest t living none =
        record { numbering = numbering; rest = rest-process programs numbering w good e.process t living; walks = walkers_moved programs w walkers e.process t none }

    answered_rest : (call : Syscall) (otherwise : ℕ) (a : Answer) → under_way programs s ≡ Some call → Sound (left s call) a →
        IsKeptRest programs (answered w e.process s choice otherwise a).world
    unfolding answered Sound changed files_after
    answered_rest call otherwise (Fails errno cause) here brings = moved_rest (failed s errno otherwise) alive refl
    answered_rest call otherwise Waits here brings = record { numbering = numbering; rest = rest_of programs numbering w good; walks = walkers }
    answered_rest call otherwise (Gives value change effects) here brings = record {
      numbering = numbering_after numbering choice change.table;
      rest = rest-changed programs numbering w good e.process s made alive choice fresh value change (same_brings s call value change brings);
      walks = walkers_changed programs numbering w good walkers choice fresh e.process (given s value change) refl change.tree change.table;
    }
    answered_rest call otherwise (Walks walking) here fits = record {
      numbering = numbering;
      rest = rest-process programs numbering w good e.process (record s { walk = Some walking }) alive;
      walks = walkers_on programs w walkers e.process s walking call alive here fits;
    }

    jumped_rest : (taken : Bool) (target : ℕ) → IsKeptRest programs (with_process w e.process (jumped s taken target))
    unfolding jumped
    jumped_rest true target = moved_rest (moved_to s target) alive refl
    jumped_rest false target = moved_rest (goes_on s) alive refl

    executed_rest : (i : Instruction) → under_way programs s ≡ call_in (Some i) → HasPaths (call_in (Some i)) → IsKeptRest programs (executed w e choice s i).world
    unfolding executed
    executed_rest (Set r value) here paths = moved_rest _ alive refl
    executed_rest (Mov r source) here paths = moved_rest _ alive refl
    executed_rest (Add r addend) here paths = moved_rest _ alive refl
    executed_rest (In r) here paths = moved_rest _ alive refl
    executed_rest (Jmp target) here paths = moved_rest _ alive refl
    executed_rest (Jeq r value target) here paths = jumped_rest (register s r == value) target
    executed_rest (Jlt r value target) here paths = jumped_rest (nat_lt (register s r) value) target
    executed_rest Halt here paths =
        record { numbering = numbering; rest = rest-halted programs numbering w good e.process s; walks = walkers_halted programs w walkers e.process s }
    executed_rest (Invoke call otherwise) here paths = answered_rest call otherwise (answer w e.process s e call) here (call_sound s call made here paths)

  -- ## How they stand after an instruction of their program
  module _ (s : ProcessState) (made : slice_get w.processes e.process ≡ Some s) (alive : s.alive ≡ true) (fine : IsProcess programs s) where
    abbrev Stand : World → Type 0
    Stand v = (q : ℕ) → IsProcessIfMade programs (slice_get v.processes q)

    stand_with : (t : ProcessState) → IsProcess programs t → Stand (with_process w e.process t)
    stand_with t is = set_there programs numbering w good e.process t is

    answered_stand : (call : Syscall) (otherwise : ℕ) (a : Answer) → IsPoint (slice_get (programs s.program) otherwise) → IsPoint (slice_get (programs s.program) (s.point + 1)) →
        Sound (left s call) a → Stand (answered w e.process s choice otherwise a).world
    unfolding answered Sound
    answered_stand call otherwise (Fails errno cause) label next brings =
        stand_with (failed s errno otherwise) (process_at programs s 7 (errno_number errno) otherwise s.mode fine (number_small errno) label (λ on. on))
    answered_stand call otherwise Waits label next brings = good.processes
    answered_stand call otherwise (Gives value change effects) label next brings =
        processes-changed programs numbering w good e.process s made alive choice fresh fine next value change (same_brings s call value change brings)
    answered_stand call otherwise (Walks walking) label next fits = stand_with (record s { walk = Some walking }) (process_walking programs s (Some walking) fine)

    set_stand : (r value : ℕ) → IsPoint (slice_get (programs s.program) (s.point + 1)) → value < 2 ^ 32 → Stand (with_process w e.process (goes_on (with_register s r value)))
    set_stand r value next small = stand_with (goes_on (with_register s r value)) (process_at programs s r value (s.point + 1) s.mode fine small next (λ on. on))

    jumped_stand : (taken : Bool) (target : ℕ) → IsPoint (slice_get (programs s.program) target) → IsPoint (slice_get (programs s.program) (s.point + 1)) →
        Stand (with_process w e.process (jumped s taken target))
    unfolding jumped
    jumped_stand true target there next = stand_with (moved_to s target) (process_moved programs s target fine there)
    jumped_stand false target there next = stand_with (goes_on s) (process_moved programs s (s.point + 1) fine next)

    executed_stand : (i : Instruction) → under_way programs s ≡ call_in (Some i) → Placed (programs s.program) s.point i → Stand (executed w e choice s i).world
    unfolding executed
    executed_stand (Set r value) here at = set_stand r value (at.next refl) (ltb-true value (2 ^ 32) (both_right (is_register r) _ at.fits))
    executed_stand (Mov r source) here at = set_stand r (register s source) (at.next refl) (register_small s.registers source fine.small)
    executed_stand (Add r addend) here at =
        let small : (register s r + register s addend) % 2 ^ 32 < 2 ^ 32 = omega arith in
        set_stand r ((register s r + register s addend) % 2 ^ 32) (at.next refl) small
    executed_stand (In r) here at = let small : e.input < 2 ^ 32 = omega (arith, byte) in set_stand r e.input (at.next refl) small
    executed_stand (Jmp target) here at = stand_with (moved_to s target) (process_moved programs s target fine (at.target target (ltb-true target _ at.fits)))
    executed_stand (Jeq r value target) here at =
        jumped_stand (register s r == value) target (at.target target (ltb-true target _ (both_right (is_register r && nat_lt value (2 ^ 32)) _ at.fits))) (at.next refl)
    executed_stand (Jlt r value target) here at =
        jumped_stand (nat_lt (register s r) value) target (at.target target (ltb-true target _ (both_right (is_register r && nat_lt value (2 ^ 32)) _ at.fits))) (at.next refl)
    executed_stand Halt here at = stand_with (ended s) (process_ended programs s fine)
    executed_stand (Invoke call otherwise) here at =
        answered_stand call otherwise (answer w e.process s e call) (at.target otherwise (ltb-true otherwise _ (both_right (is_syscall call) _ at.fits))) (at.next refl)
        (call_sound s call made here (instruction_paths (length (programs s.program)) (Invoke call otherwise) at.fits))

    -- ## And after a deed
    abbrev IfLike : Option ProcessState → Type 0
    IfLike None = Unit {0}
    IfLike (Some t) = t.program ≡ s.program

    -- the process and a child are of its program, and the others stand as they stood
    record Stands (q : ℕ) (o : Option ProcessState) : Type 0 where
      own : q ≡ e.process → IfLike o
      child : q ≡ length w.processes → IfLike o
      others : q ≢ e.process → q ≢ length w.processes → IsProcessIfMade programs o

    stands_there : (q : ℕ) → Stands q (slice_get w.processes q)
    stands_there q = record {
      own = λ same. subst IfLike (sym (ap (slice_get w.processes) same ∙ made)) refl;
      child = λ same. subst IfLike (sym (slice_get_past w.processes q (omega (arith, same)))) tt;
      others = λ other below. good.processes q;
    }

    stands_like : (q : ℕ) (t : ProcessState) → IsLike s t → (q ≢ e.process → q ≢ length w.processes → ⊥) → Stands q (Some t)
    stands_like q t like one = record { own = λ same. like.program; child = λ same. like.program; others = λ other below. absurd (one other below) }

    executed_stands : (i : Instruction) (q : ℕ) → Stands q (slice_get (executed w e choice s i).world.processes q)
    executed_stands =
        each_executed w e choice s Stands stands_there (λ t like. stands_like e.process t like (λ other below. other refl))
        (λ t like. stands_like (length w.processes) t like (λ other below. below refl))

    left_stand : (deed : Deed) → IsDeed programs s.program deed → (xs : List ProcessState) → ((q : ℕ) → Stands q (slice_get xs q)) → (q : ℕ) →
        IsProcessIfMade programs (slice_get (changed_at (changed_at xs e.process (left_by deed)) (length w.processes) (left_by deed)) q)
    left_stand deed is xs stands q =
        changed_cases (IsProcessIfMade programs) (changed_at xs e.process (left_by deed)) (length w.processes) (left_by deed) q tt
        (λ t there same.
        process_left programs s.program deed t is
        (subst IfLike there (changed_keeps IfLike xs e.process (left_by deed) q (λ t like. like) ((stands q).child same))))
        (λ below. changed_cases (IsProcessIfMade programs) xs e.process (left_by deed) q tt
        (λ t there same. process_left programs s.program deed t is (subst IfLike there ((stands q).own same)))
        (λ other. (stands q).others other below))

    deed_stand : (i : Instruction) (deed : Deed) → IsDeed programs s.program deed →
        Stand (record w { processes = after_deed (Some deed) e.process (length w.processes) (executed w e choice s i).outcome (executed w e choice s i).world.processes })
    deed_stand i deed is = go (executed w e choice s i) (stays_or_ends w e choice s i) (executed_stands i)
      where
        go : (x : Executed) → StaysOrEnds w e choice s x → ((q : ℕ) → Stands q (slice_get x.world.processes q)) →
            Stand (record w { processes = after_deed (Some deed) e.process (length w.processes) x.outcome x.world.processes })
        go x (inl (walking, stays)) stands =
            subst (λ (y : Executed). Stand (record w { processes = after_deed (Some deed) e.process (length w.processes) y.outcome y.world.processes })) (sym stays)
            (stand_with (record s { walk = Some walking }) (process_walking programs s (Some walking) fine))
        go x (inr ends) stands =
            λ q. subst (λ (xs : List ProcessState). IsProcessIfMade programs (slice_get xs q)) (sym (after_end deed e.process (length w.processes) x.outcome x.world.processes ends))
            (left_stand deed is x.world.processes stands q)

  -- ## Every step
  module _ (valid : ArePrograms programs) (s : ProcessState) (made : slice_get w.processes e.process ≡ Some s) (fine : IsProcess programs s) where
    kept-executed : s.alive ≡ true → (i : Instruction) (o : Option Deed) → s.kept ≡ o → next_instruction o (slice_get (programs s.program) s.point) ≡ Some i →
        under_way programs s ≡ call_in (Some i) → IfKept programs s o →
        IsWellFormed programs (record (executed w e choice s i).world {
          processes = after_deed o e.process (length w.processes) (executed w e choice s i).outcome (executed w e choice s i).world.processes;
        })
    kept-executed alive i None own here call kept =
        let at = placed (programs s.program) s.point i (valid s.program) here in
        well programs (executed w e choice s i).world (executed_rest s made alive i call (instruction_paths (length (programs s.program)) i at.fits))
        (executed_stand s made alive fine i call at)
    kept-executed alive i (Some deed) own here call kept =
        let same : deed.instruction ≡ i = cc in
        let x = executed w e choice s i in
        well programs _
        (rest_after programs x.world (Some deed) e.process (length w.processes) x.outcome
        (executed_rest s made alive i call (subst (λ j. HasPaths (call_in (Some j))) same kept.is.paths)))
        (deed_stand s made alive fine i deed kept.is)

    kept-at : s.alive ≡ true → (o : Option Instruction) → next_instruction s.kept (slice_get (programs s.program) s.point) ≡ o →
        IsWellFormed programs (stepped_at w e choice s o).world
    unfolding stepped_at
    kept-at alive None here = well_same
    kept-at alive (Some i) here = kept-executed alive i s.kept refl here (call_here programs s i here) fine.kept

    kept-by : (alive : Bool) → s.alive ≡ alive → IsWellFormed programs (stepped_by programs w e choice s alive).world
    unfolding stepped_by
    kept-by false is = well_same
    kept-by true is = kept-at is (next_instruction s.kept (slice_get (programs s.program) s.point)) refl

  step_kept : ArePrograms programs → IsWellFormed programs (step programs w e choice).world
  unfolding step stepped
  step_kept valid = go (slice_get w.processes e.process) refl (good.processes e.process)
    where
      go : (o : Option ProcessState) → slice_get w.processes e.process ≡ o → IsProcessIfMade programs o → IsWellFormed programs (stepped programs w e choice o).world
      go None made fine = well_same
      go (Some s) made fine = kept-by valid s made fine s.alive refl

-- Each step, whatever numbers are chosen, keeps the world well formed.
pub kept : (programs : Programs) → ArePrograms programs → (numbering : Numbering) (w : World) → IsWorld programs numbering w → AreWalkers programs w → (e : Event) → IsEvent e →
    (choice : Choice) → IsFresh w.files choice → IsWellFormed programs (step programs w e choice).world
kept programs valid numbering w good walkers e byte choice fresh = step_kept programs numbering w good walkers e byte choice fresh valid

-- There is a next world, and each is well formed, also where a process is about to do a deed.
pub record HasFormed (programs : Programs) (w : World) (e : Event) : Type 0 where
  pub some : (choice : Choice) × IsFresh w.files choice
  pub each : (choice : Choice) → IsFresh w.files choice → IsWellFormed programs (step programs w e choice).world

pub next_formed : (programs : Programs) (w : World) (e : Event) → ArePrograms programs → IsWellFormed programs w → IsEvent e → HasFormed programs w e
next_formed programs w e valid good byte = record {
  some = fresh_some programs good.numbering w good.world;
  each = λ choice fresh. kept programs valid good.numbering w good.world good.walks e byte choice fresh;
}

pub may_choose : (programs : Programs) (numbering : Numbering) (w : World) → IsWorld programs numbering w → MayChoose w.files
may_choose programs numbering w good = record {
  with_first = fresh_with programs numbering w good;
  all = λ first second pair one two apart unused. record { first = one; second = two; apart = apart; pair = unused };
}

pub fresh_numbers : FreshNumbersExist
fresh_numbers programs w good = may_choose programs good.numbering w good.world
