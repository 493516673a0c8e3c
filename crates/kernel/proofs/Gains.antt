-- No run gains: no process leaves capability mode, and no descriptor comes from nowhere.
use Rattle.std.proofs.Common.{◌≡◌, ℕ, zero, suc, Bool, true, false, List, [], ◌∷◌, ◌++◌, drop, refl, length, arith, ap, sym, ◌∙◌, subst, append-nil}
use Rattle.std.specs.Prelude.{◌||◌, ◌==◌, nat_lt, Option, Some, None, slice_set}
use Rattle.std.specs.List.{slice_get}
use Rattle.std.proofs.Math.ListN.{length-set}
use Rattle.rights.specs.Sets.{all_rights, all_commands}
use Rattle.rights.specs.Maps.{put, put2}
use Rattle.rights.proofs.Changes.{put-cases}
use Rattle.rights.proofs.Lists.{slice_get-set_cases}
use Rattle.process.specs.State.{Deed, ProcessState, ended, forked, left_by}
use Rattle.instruction_set.specs.Programs.{Syscall, Fork, Instruction, Set, Mov, Add, In, Jmp, Jeq, Jlt, Halt, Invoke}
use Rattle.fd_table.specs.Descriptions.{Descriptor, Message, descriptor_of, IfHeld, EachPassed}
use Rattle.kernel.specs.World.{World, Choice}
use Rattle.kernel.specs.Answers.{Event, TableChange, Same_table, Set_entry, Clear_entry, New_file, New_pair, New_process, QueueChange, Same_queue, Push, Pop, Change, Answer, Fails, Waits, Gives}
use Rattle.kernel.specs.Answers.{Walks}
use Rattle.kernel.specs.Calls.{answer}
use Rattle.kernel.specs.Changes.{table_after, queue_after, given, processes_after, files_after, changed}
use Rattle.kernel.specs.Origins.{Caller, calls, calls_at, calls_by, caller_of, IsMade, ComesFrom, stood, was_made, was_copied, IsSent, QueuedFrom, had_waited, was_sent}
use Rattle.kernel.specs.Steps.{LineResult, Programs, after_deed, next_instruction, register, with_process, halted, failed, answered, jumped, executed, stepped_at, stepped_by, stepped, step}
use Rattle.kernel.specs.Gains.{StaysIn, GainsNothing, NoRunGains}
use Rattle.kernel.proofs.Origins.{MayTable, MayQueue, may_table, may_queue}
use Rattle.kernel.proofs.Deeds.{after_keeps}
use Rattle.kernel.proofs.KeptWalks.{slice_get-more_cases}
use Rattle.kernel.proofs.Points.{still_on}

-- a table or the queues, changed at one place
at-place : {A : Type 0} (Q : ℕ → ℕ → A → Type 0) (f : ℕ → ℕ → A) (p n : ℕ) (v : A) → Q p n v → ((q m : ℕ) → Q q m (f q m)) → (q m : ℕ) → Q q m (put2 f p n v q m)
at-place Q f p n v here there q m =
    put-cases (λ (row : ℕ → _). Q q m (row m)) f p (put (f p) n v) q
    (λ same. put-cases (Q q m) (f p) n v m
    (λ also. rw (same, also) here)
    (λ _. subst (λ x. Q q m (f x m)) same (there q m)))
    (λ _. there q m)

-- ## Entries and messages afterwards
module _ (w : World) (caller : Option Caller) where
  entry_stays : (q n : ℕ) → IfHeld (ComesFrom w caller q n) (w.files.table q n)
  entry_stays q n = go (w.files.table q n) refl
    where
      go : (o : Option Descriptor) → w.files.table q n ≡ o → IfHeld (ComesFrom w caller q n) o
      go None is = tt
      go (Some d) is = stood is

  passed_from : (pair side : ℕ) (messages : List Message) →
      ((i : ℕ) (m : Message) → slice_get messages i ≡ Some m → IfHeld (QueuedFrom w caller pair side) m.passed) →
      EachPassed (QueuedFrom w caller pair side) messages
  passed_from pair side [] all = tt
  passed_from pair side (m ∷ messages) all = (all 0 m refl, passed_from pair side messages (λ i m here. all (suc i) m here))

  queue_waits : (pair side : ℕ) → EachPassed (QueuedFrom w caller pair side) (w.files.queue pair side)
  queue_waits pair side = passed_from pair side (w.files.queue pair side) (λ i m here. go i m here m.passed refl)
    where
      go : (i : ℕ) (m : Message) → slice_get (w.files.queue pair side) i ≡ Some m → (o : Option Descriptor) → m.passed ≡ o → IfHeld (QueuedFrom w caller pair side) o
      go i m here None is = tt
      go i m here (Some d) is = had_waited i m here is

passed_more : (P : Descriptor → Type 0) (messages : List Message) (m : Message) → EachPassed P messages → IfHeld P m.passed → EachPassed P (messages ++ m ∷ [])
passed_more P [] m all one = (one, tt)
passed_more P (x ∷ messages) m all one = (all.0, passed_more P messages m all.1 one)

passed_fewer : (P : Descriptor → Type 0) (messages : List Message) → EachPassed P messages → EachPassed P (drop 1 messages)
passed_fewer P [] all = tt
passed_fewer P (x ∷ messages) all = all.1

module _ (w : World) (p : ℕ) (s : ProcessState) (call : Syscall) (choice : Choice) where
  abbrev calling : Option Caller
  calling = Some (record { process = p; state = s; call = call })

  makes : (n : ℕ) (d : Descriptor) → IsMade w p s n d call → ComesFrom w (Some (record { process = p; state = s; call = call })) p n d
  makes n d is = was_made (record { process = p; state = s; call = call }) refl refl is

  copies : call ≡ Fork → (q n : ℕ) → q ≡ length w.processes → IfHeld (ComesFrom w (Some (record { process = p; state = s; call = call })) q n) (w.files.table p n)
  copies forks q n at = go (w.files.table p n) refl
    where
      go : (o : Option Descriptor) → w.files.table p n ≡ o → IfHeld (ComesFrom w (Some (record { process = p; state = s; call = call })) q n) o
      go None is = tt
      go (Some d) is = was_copied (record { process = p; state = s; call = call }) refl forks at is

  entries_come : (table : TableChange) → MayTable w p s call table → (q n : ℕ) →
      IfHeld (ComesFrom w (Some (record { process = p; state = s; call = call })) q n)
      (table_after w.files.table p (length w.processes) choice table q n)
  entries_come Same_table may q n = entry_stays w calling q n
  entries_come (Set_entry number d) may q n =
      at-place (λ q n o. IfHeld (ComesFrom w calling q n) o) w.files.table p number (Some d) (makes number d may) (entry_stays w calling) q n
  entries_come (Clear_entry number) may q n =
      at-place (λ q n o. IfHeld (ComesFrom w calling q n) o) w.files.table p number None tt (entry_stays w calling) q n
  entries_come (New_file number m access append rights fcntls) may q n =
      at-place (λ q n o. IfHeld (ComesFrom w calling q n) o) w.files.table p number (Some (descriptor_of choice.first rights fcntls))
      (makes number (descriptor_of choice.first rights fcntls) (may choice.first)) (entry_stays w calling) q n
  entries_come (New_pair first second class) may q n =
      let one : Descriptor = descriptor_of choice.first all_rights all_commands in
      let two : Descriptor = descriptor_of choice.second all_rights all_commands in
      at-place (λ q n o. IfHeld (ComesFrom w calling q n) o) (put2 w.files.table p first (Some one)) p second (Some two) (makes second two (may choice.second).1)
      (at-place (λ q n o. IfHeld (ComesFrom w calling q n) o) w.files.table p first (Some one) (makes first one (may choice.first).0) (entry_stays w calling)) q n
  entries_come New_process may q n =
      put-cases (λ (row : ℕ → Option Descriptor). IfHeld (ComesFrom w calling q n) (row n)) w.files.table (length w.processes) (w.files.table p) q
      (λ at. copies may q n at) (λ _. entry_stays w calling q n)

  sends : (pair side : ℕ) (o : Option Descriptor) → IfHeld (λ d. IsSent w p s pair side d call) o → IfHeld (QueuedFrom w (Some (record { process = p; state = s; call = call })) pair side) o
  sends pair side None is = tt
  sends pair side (Some d) is = was_sent (record { process = p; state = s; call = call }) refl is

  messages_come : (queue : QueueChange) → MayQueue w p s call queue → (pair side : ℕ) →
      EachPassed (QueuedFrom w (Some (record { process = p; state = s; call = call })) pair side) (queue_after w.files.queue queue pair side)
  messages_come Same_queue may pair side = queue_waits w calling pair side
  messages_come (Push a b m) may pair side =
      at-place (λ x y ms. EachPassed (QueuedFrom w calling x y) ms) w.files.queue a b (w.files.queue a b ++ m ∷ [])
      (passed_more (QueuedFrom w calling a b) (w.files.queue a b) m (queue_waits w calling a b) (sends a b m.passed may)) (queue_waits w calling) pair side
  messages_come (Pop a b) may pair side =
      at-place (λ x y ms. EachPassed (QueuedFrom w calling x y) ms) w.files.queue a b (drop 1 (w.files.queue a b))
      (passed_fewer (QueuedFrom w calling a b) (w.files.queue a b) (queue_waits w calling a b)) (queue_waits w calling) pair side

-- ## Modes
stays_same : (caller o : Option ProcessState) → StaysIn caller o o
stays_same caller o = record { still = λ s is. (s, is, λ on. on); new = λ t none some. absurd cc }

-- a process that is there still, and a new one
pub stays_there : (caller : Option ProcessState) (s t : ProcessState) → (s.mode ≡ true → t.mode ≡ true) → StaysIn caller (Some s) (Some t)
stays_there caller s t stays = record {
  still = λ c is. let same : s ≡ c = cc in (t, refl, subst (λ (x : ProcessState). x.mode ≡ true → t.mode ≡ true) same stays);
  new = λ c none some. absurd cc;
}

new_in : (s t : ProcessState) → (s.mode ≡ true → t.mode ≡ true) → StaysIn (Some s) None (Some t)
new_in s t stays = record {
  still = λ c is. absurd cc;
  new = λ c none some. let same : t ≡ c = cc in (s, refl, subst (λ (x : ProcessState). s.mode ≡ true → x.mode ≡ true) same stays);
}

pub still_in : (caller : Option ProcessState) (s t : ProcessState) → StaysIn caller (Some s) (Some t) → s.mode ≡ true → t.mode ≡ true
still_in caller s t stays on =
    let k = stays.still s refl in
    let same : k.0 ≡ t = cc in
    subst (λ (x : ProcessState). x.mode ≡ true) same (k.2 on)

pub made_in : (s t : ProcessState) → StaysIn (Some s) None (Some t) → s.mode ≡ true → t.mode ≡ true
made_in s t stays on =
    let k = stays.new t refl refl in
    let same : s ≡ k.0 = cc in
    k.2 (subst (λ (x : ProcessState). x.mode ≡ true) same on)

module _ (processes : List ProcessState) (p : ℕ) (s t : ProcessState) (made : slice_get processes p ≡ Some s) (stays : s.mode ≡ true → t.mode ≡ true) where
  modes_set : (m : ℕ) → StaysIn (Some s) (slice_get processes m) (slice_get (slice_set processes p t) m)
  modes_set m =
      slice_get-set_cases (StaysIn (Some s) (slice_get processes m)) processes p t m
      (λ at. subst (λ o. StaysIn (Some s) o (Some t)) (sym (ap (slice_get processes) at ∙ made)) (stays_there (Some s) s t stays))
      (stays_same (Some s) (slice_get processes m))

  modes_more : (m : ℕ) → StaysIn (Some s) (slice_get processes m) (slice_get (slice_set processes p t ++ []) m)
  modes_more m = subst (λ (xs : List ProcessState). StaysIn (Some s) (slice_get processes m) (slice_get xs m)) (sym (append-nil (slice_set processes p t))) (modes_set m)

  beyond : (xs : List ProcessState) (k : ℕ) → k ≡ length xs → slice_get xs k ≡ None
  beyond [] k is = refl
  beyond (x ∷ xs) zero is = absurd (omega (arith, is))
  beyond (x ∷ xs) (suc k) is = beyond xs k (omega (arith, is))

  modes_later : (table : TableChange) (m : ℕ) → StaysIn (Some s) (slice_get processes m) (slice_get (processes_after processes p t table) m)
  modes_later Same_table m = modes_more m
  modes_later (Set_entry number d) m = modes_more m
  modes_later (Clear_entry number) m = modes_more m
  modes_later (New_file number n access append rights fcntls) m = modes_more m
  modes_later (New_pair first second class) m = modes_more m
  modes_later New_process m =
      slice_get-more_cases (StaysIn (Some s) (slice_get processes m)) (slice_set processes p t) (forked t) m
      (λ at. subst (λ o. StaysIn (Some s) o (Some (forked t))) (sym (beyond processes m (at ∙ length-set processes p t))) (new_in s (forked t) stays))
      (λ _. modes_set m)

-- what a deed leaves is in the mode if it was
stays_left : (caller o : Option ProcessState) (deed : Deed) (t : ProcessState) → StaysIn caller o (Some t) → StaysIn caller o (Some (left_by deed t))
stays_left caller o deed t stays = record {
  still = λ s is.
      let k = stays.still s is in
      let same : k.0 ≡ t = cc in
      (left_by deed t, refl, λ on. subst (λ (x : ProcessState). x.mode ≡ true) same (k.2 on));
  new = λ c none some.
      let k = stays.new t none refl in
      let same : left_by deed t ≡ c = cc in
      (k.0, k.1, λ on. subst (λ (x : ProcessState). x.mode ≡ true) same (k.2 on));
}

-- ## Steps
module _ (w : World) (e : Event) (choice : Choice) (caller : Option Caller) where
  same : GainsNothing w e.process caller w
  same = record { modes = λ p. stays_same _ (slice_get w.processes p); entries = entry_stays w caller; messages = queue_waits w caller }

  module _ (s : ProcessState) (there : slice_get w.processes e.process ≡ Some s) where
    set_gains : (t : ProcessState) → (s.mode ≡ true → t.mode ≡ true) → GainsNothing w e.process caller (with_process w e.process t)
    set_gains t stays = record {
      modes = λ m. subst (λ o. StaysIn o (slice_get w.processes m) (slice_get (slice_set w.processes e.process t) m)) (sym there) (modes_set w.processes e.process s t there stays m);
      entries = entry_stays w caller;
      messages = queue_waits w caller;
    }

    halt_gains : GainsNothing w e.process caller (halted w e.process s)
    halt_gains =
        let none : ℕ → Option Descriptor = λ n. None in
        record {
          modes = λ m. subst (λ o. StaysIn o (slice_get w.processes m) (slice_get (slice_set w.processes e.process (ended s)) m)) (sym there)
              (modes_set w.processes e.process s (ended s) there (λ on. on) m);
          entries = λ q n. put-cases (λ (row : ℕ → Option Descriptor). IfHeld (ComesFrom w caller q n) (row n)) w.files.table e.process none q (λ _. tt) (λ _. entry_stays w caller q n);
          messages = queue_waits w caller;
        }

    changed_gains : (call : Syscall) (value : ℕ) (change : Change) → caller ≡ Some (record { process = e.process; state = s; call = call }) →
        MayTable w e.process s call change.table → MayQueue w e.process s call change.queue →
        GainsNothing w e.process caller (changed w e.process (given s value change) choice change)
    unfolding changed files_after
    changed_gains call value change is table queue = record {
      modes = λ m.
          subst (λ o. StaysIn o (slice_get w.processes m) (slice_get (processes_after w.processes e.process (given s value change) change.table) m)) (sym there)
          (modes_later w.processes e.process s (given s value change) there (still_on s.mode change.enters) change.table m);
      entries = rw is (entries_come w e.process s call choice change.table table);
      messages = rw is (messages_come w e.process s call choice change.queue queue);
    }

    answered_gains : (otherwise : ℕ) (call : Syscall) (a : Answer) → caller ≡ Some (record { process = e.process; state = s; call = call }) →
        answer w e.process s e call ≡ a → GainsNothing w e.process caller (answered w e.process s choice otherwise a).world
    unfolding answered
    answered_gains otherwise call (Fails errno cause) calls is = set_gains (failed s errno otherwise) (λ on. on)
    answered_gains otherwise call Waits calls is = same
    answered_gains otherwise call (Walks walking) calls is = set_gains (record s { walk = Some walking }) (λ on. on)
    answered_gains otherwise call (Gives value change effects) calls is =
        changed_gains call value change calls (may_table w e.process s e call value change effects is) (may_queue w e.process s e call value change effects is)

    jump_gains : (taken : Bool) (target : ℕ) → GainsNothing w e.process caller (with_process w e.process (jumped s taken target))
    unfolding jumped
    jump_gains true target = set_gains _ (λ on. on)
    jump_gains false target = set_gains _ (λ on. on)

    -- whichever instruction is executed, if it is the caller's call where it is one
    pub executed_gains : (i : Instruction) → caller ≡ calls_at e.process s (Some i) → GainsNothing w e.process caller (executed w e choice s i).world
    unfolding executed
    executed_gains (Set r value) calls = set_gains _ (λ on. on)
    executed_gains (Mov r source) calls = set_gains _ (λ on. on)
    executed_gains (Add r addend) calls = set_gains _ (λ on. on)
    executed_gains (In r) calls = set_gains _ (λ on. on)
    executed_gains (Jmp target) calls = set_gains _ (λ on. on)
    executed_gains (Jeq r value target) calls = jump_gains (register s r == value) target
    executed_gains (Jlt r value target) calls = jump_gains (nat_lt (register s r) value) target
    executed_gains Halt calls = halt_gains
    executed_gains (Invoke call otherwise) calls = answered_gains otherwise call (answer w e.process s e call) calls refl

    -- and what a deed leaves
    after_gains : (o : Option Deed) (outcome : LineResult) (v : World) → GainsNothing w e.process caller v →
        GainsNothing w e.process caller (record v { processes = after_deed o e.process (length w.processes) outcome v.processes })
    after_gains o outcome v gains = record {
      modes = λ m.
          after_keeps (StaysIn (slice_get w.processes e.process) (slice_get w.processes m)) e.process (length w.processes) v.processes m o outcome
          (stays_left (slice_get w.processes e.process) (slice_get w.processes m)) (gains.modes m);
      entries = gains.entries;
      messages = gains.messages;
    }

    at_gains : (o : Option Instruction) → caller ≡ calls_at e.process s o → GainsNothing w e.process caller (stepped_at w e choice s o).world
    unfolding stepped_at
    at_gains None calls = same
    at_gains (Some i) calls = after_gains s.kept (executed w e choice s i).outcome (executed w e choice s i).world (executed_gains i calls)

    by_gains : (programs : Programs) (alive : Bool) → caller ≡ calls_by programs e.process s alive → GainsNothing w e.process caller (stepped_by programs w e choice s alive).world
    unfolding stepped_by
    by_gains programs false calls = same
    by_gains programs true calls = at_gains (next_instruction s.kept (slice_get (programs s.program) s.point)) calls

  of_gains : (programs : Programs) (o : Option ProcessState) → slice_get w.processes e.process ≡ o → caller ≡ calls programs e.process o →
      GainsNothing w e.process caller (stepped programs w e choice o).world
  unfolding stepped
  of_gains programs None there calls = same
  of_gains programs (Some s) there calls = by_gains s there programs s.alive calls

pub gains_nothing : (programs : Programs) (w : World) (e : Event) (choice : Choice) → GainsNothing w e.process (caller_of programs w e) (step programs w e choice).world
unfolding step
gains_nothing programs w e choice = of_gains w e choice (caller_of programs w e) programs (slice_get w.processes e.process) refl refl

pub never_gains : NoRunGains
never_gains programs w [] = tt
never_gains programs w (e ∷ events) =
    λ choice fresh. (gains_nothing programs w e choice, never_gains programs (step programs w e choice).world events)
