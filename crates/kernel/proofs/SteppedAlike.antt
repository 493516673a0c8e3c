-- Steps in worlds that differ only in numbers, where one choice is the other under the other numbers.
use Rattle.std.proofs.Common.{◌≡◌, ℕ, Bool, true, false, List, [], ◌∷◌, length, refl, sym, subst}
use Rattle.std.specs.Prelude.{◌≤◌, Option, Some, None}
use Rattle.std.specs.List.{slice_get}
use Rattle.rights.specs.Maps.{put}
use Rattle.rights.proofs.Changes.{put-cases, put-both}
use Rattle.process.specs.State.{Deed, ProcessState}
use Rattle.instruction_set.specs.Programs.{Instruction, Set, Mov, Add, In, Jmp, Jeq, Jlt, Halt, Invoke}
use Rattle.fd_table.specs.Descriptions.{Descriptor, Message, IfHeld}
use Rattle.fd_table.specs.OpenFiles.{OpenFiles, is_open}
use Rattle.kernel.specs.World.{World, Choice}
use Rattle.kernel.specs.Answers.{Event, TableChange, Same_table, Set_entry, Clear_entry, New_file, New_pair, New_process, Change, Answer, Fails, Waits, Gives, Walks}
use Rattle.kernel.specs.Calls.{answer}
use Rattle.kernel.specs.Changes.{given, processes_after, changed}
use Rattle.kernel.specs.Steps.{Programs, after_deed, next_instruction, Executed, Stepped, with_process, plain, halted, failed, answered, executed, register}
use Rattle.kernel.specs.Steps.{acted_as, stepped_at, stepped_by, stepped, step}
use Rattle.kernel.specs.Walks.{call_in, under_way}
use Rattle.kernel.specs.WellFormed.{ArePrograms, HasPaths, IfKept, IsProcess, IsProcessIfMade, Numbering, IsDescriptor, EachMessage, IsWorld}
use Rattle.kernel.specs.Renamings.{Renaming, SameObject, EachNamed, SameFiles, renamed_entry}
use Rattle.kernel.proofs.Brings.{ground, Known, Brings, Sound}
use Rattle.kernel.proofs.Brought.{sound}
use Rattle.kernel.proofs.KeptWalks.{AreWalkers, call_here, walk_fits}
use Rattle.kernel.proofs.Fresh.{held_map}
use Rattle.kernel.proofs.Opens.{same_open}
use Rattle.kernel.proofs.Points.{instruction_paths, placed}
use Rattle.kernel.proofs.Renamed.{renamed_table, renamed_change, renamed_answer, same_answer}
use Rattle.kernel.proofs.ChangedAlike.{Aims, each_named, files_alike}

-- all but the numbers is the same
pub record SameWorlds (r : Renaming) (w v : World) : Type 0 where
  pub tree : v.tree ≡ w.tree
  pub processes : v.processes ≡ w.processes
  pub files : SameFiles r w.files v.files

-- the same was done
record SameDone (r : Renaming) (x y : Executed) : Type 0 where
  world : SameWorlds r x.world y.world
  outcome : y.outcome ≡ x.outcome
  effects : y.effects ≡ x.effects

-- the same line
pub record SameStep (r : Renaming) (x y : Stepped) : Type 0 where
  pub line : y.acted ≡ x.acted
  pub world : SameWorlds r x.world y.world

-- what a success makes of the processes doesn't name numbers
processes-same : (r : Renaming) (processes : List ProcessState) (p : ℕ) (s : ProcessState) (value : ℕ) (change : Change) (table : TableChange) →
    processes_after processes p (given s value (record change { table = renamed_table r table }))
    (renamed_table r table) ≡ processes_after processes p (given s value (record change { table = table })) table
processes-same r processes p s value change Same_table = refl
processes-same r processes p s value change (Set_entry number d) = refl
processes-same r processes p s value change (Clear_entry number) = refl
processes-same r processes p s value change (New_file number n access append rights fcntls) = refl
processes-same r processes p s value change (New_pair first second class) = refl
processes-same r processes p s value change New_process = refl

module _ (r : Renaming) (programs : Programs) (valid : ArePrograms programs) (numbering : Numbering) (w : World) (good : IsWorld programs numbering w)
    (walkers : AreWalkers programs w) (g : OpenFiles) (alike : SameFiles r w.files g) (idle : (pair side : ℕ) → g.pairs ≤ pair → g.queue pair side ≡ []) (j k : Choice)
    (aims : Aims r j k) (e : Event) where
  abbrev other : World
  other = record { tree = w.tree; files = g; processes = w.processes }

  opens : (pair side : ℕ) → is_open w.files pair side ≡ is_open g (r.pair pair) side
  opens = same_open r w.files g alike good.idle idle

  -- what is named is the same description in both
  known_one : (o : Option Descriptor) → IfHeld (IsDescriptor w.tree numbering w.files.objects w.files.states) o →
      IfHeld (λ d. SameObject r w.files g d.description) o → IfHeld (Known (ground numbering w (SameObject r w.files g))) o
  known_one None fine twin = tt
  known_one (Some d) fine twin = (fine, twin)

  known_each : (messages : List Message) → EachMessage (IsDescriptor w.tree numbering w.files.objects w.files.states) messages →
      EachNamed (SameObject r w.files g) messages → EachMessage (Known (ground numbering w (SameObject r w.files g))) messages
  known_each [] fine twin = tt
  known_each (m ∷ messages) fine twin = (fine.0, known_one m.passed fine.1 twin.0, known_each messages fine.2 twin.1)

  process_alike : (s : ProcessState) → SameWorlds r (with_process w e.process s) (with_process other e.process s)
  process_alike s = record { tree = refl; processes = refl; files = alike }

  plain_alike : (s : ProcessState) → SameDone r (plain w e.process s) (plain other e.process s)
  plain_alike s = record { world = process_alike s; outcome = refl; effects = refl }

  same_world : SameWorlds r w other
  same_world = record { tree = refl; processes = refl; files = alike }

  -- a table that is closed
  closed : OpenFiles → OpenFiles
  closed f = record f { table = put f.table e.process (λ n. None) }

  twin_closed : (n : ℕ) → SameObject r w.files g n → SameObject r (closed w.files) (closed g) n
  unfolding closed
  twin_closed n twin = record { object = twin.object; state = twin.state }

  closed_alike : SameFiles r (closed w.files) (closed g)
  unfolding closed
  closed_alike =
      let none : ℕ → Option Descriptor = λ n. None in
      let Twin : Descriptor → Type 0 = λ d. SameObject r (record w.files { table = put w.files.table e.process none }) (record g { table = put g.table e.process none }) d.description in
      record {
        table = λ p n. put-both (λ (a b : ℕ → Option Descriptor). b n ≡ renamed_entry r (a n)) w.files.table g.table e.process none none refl (λ p. alike.table p n) p;
        queue = alike.queue;
        entries = λ p n.
            put-cases (λ (row : ℕ → Option Descriptor). IfHeld Twin (row n)) w.files.table e.process none p (λ _. tt)
            (λ _. held_map (λ d. SameObject r w.files g d.description) Twin (λ d twin. twin_closed d.description twin) (w.files.table p n) (alike.entries p n));
        messages = λ pair side. each_named (SameObject r w.files g)
            (SameObject r (record w.files { table = put w.files.table e.process none }) (record g { table = put g.table e.process none })) twin_closed
            (w.files.queue pair side) (alike.messages pair side);
      }

  halted_alike : (s : ProcessState) → SameWorlds r (halted w e.process s) (halted other e.process s)
  unfolding closed
  halted_alike s = record { tree = refl; processes = refl; files = closed_alike }

  changed_alike : (s : ProcessState) (value : ℕ) (change : Change) → Brings (ground numbering w (SameObject r w.files g)) value change →
      SameWorlds r (changed w e.process (given s value change) j change)
      (changed other e.process (given s value (renamed_change r change)) k (renamed_change r change))
  unfolding changed
  changed_alike s value change brings = record {
    tree = refl;
    processes = processes-same r w.processes e.process s value change change.table;
    files = files_alike r w.files g alike j k aims e.process _ (Known (ground numbering w (SameObject r w.files g))) _ _ change (λ d known. known.1) brings.table brings.queue;
  }

  answered_alike : (s : ProcessState) (otherwise : ℕ) (a : Answer) → Sound (ground numbering w (SameObject r w.files g)) a →
      SameDone r (answered w e.process s j otherwise a) (answered other e.process s k otherwise (renamed_answer r a))
  unfolding answered Sound
  answered_alike s otherwise (Fails errno cause) brings = record { world = process_alike (failed s errno otherwise); outcome = refl; effects = refl }
  answered_alike s otherwise Waits brings = record { world = same_world; outcome = refl; effects = refl }
  answered_alike s otherwise (Gives value change effects) brings = record { world = changed_alike s value change brings; outcome = refl; effects = refl }
  answered_alike s otherwise (Walks walking) brings = record { world = process_alike (record s { walk = Some walking }); outcome = refl; effects = refl }

  executed_alike : (s : ProcessState) (i : Instruction) → slice_get w.processes e.process ≡ Some s → under_way programs s ≡ call_in (Some i) → HasPaths (call_in (Some i)) →
      SameDone r (executed w e j s i) (executed other e k s i)
  unfolding executed
  executed_alike s (Set register value) made here paths = plain_alike _
  executed_alike s (Mov register source) made here paths = plain_alike _
  executed_alike s (Add register addend) made here paths = plain_alike _
  executed_alike s (In register) made here paths = plain_alike _
  executed_alike s (Jmp target) made here paths = plain_alike _
  executed_alike s (Jeq register value target) made here paths = plain_alike _
  executed_alike s (Jlt register value target) made here paths = plain_alike _
  executed_alike s Halt made here paths = record { world = halted_alike s; outcome = refl; effects = refl }
  executed_alike s (Invoke call otherwise) made here paths =
      subst (λ a. SameDone r (answered w e.process s j otherwise (answer w e.process s e call)) (answered other e.process s k otherwise a))
      (sym (same_answer r w g alike opens e.process s e call))
      (answered_alike s otherwise (answer w e.process s e call)
      (sound programs (ground numbering w (SameObject r w.files g))
      (record {
        good = good;
        entries = λ p n. known_one (w.files.table p n) (good.entries p n) (alike.entries p n);
        messages = λ pair side. known_each (w.files.queue pair side) (good.messages pair side) (alike.messages pair side);
      })
      e.process s e call paths
      (walk_fits programs w walkers e.process s call made here) (λ walking fits. tt)))

  -- the paths of what a process goes on with are ones
  paths_here : (s : ProcessState) (i : Instruction) (o : Option Deed) → IfKept programs s o → next_instruction o (slice_get (programs s.program) s.point) ≡ Some i → HasPaths (call_in (Some i))
  paths_here s i None kept here = instruction_paths (length (programs s.program)) i (placed (programs s.program) s.point i (valid s.program) here).fits
  paths_here s i (Some deed) kept here = let same : deed.instruction ≡ i = cc in subst (λ j. HasPaths (call_in (Some j))) same kept.is.paths

  at_alike : (s : ProcessState) (o : Option Instruction) → slice_get w.processes e.process ≡ Some s → next_instruction s.kept (slice_get (programs s.program) s.point) ≡ o →
      SameStep r (stepped_at w e j s o) (stepped_at other e k s o)
  unfolding stepped_at
  at_alike s None made here = record { line = refl; world = same_world }
  at_alike s (Some i) made here =
      let fine : IsProcess programs s = subst (IsProcessIfMade programs) made (good.processes e.process) in
      let both = executed_alike s i made (call_here programs s i here) (paths_here s i s.kept fine.kept here) in
      record {
        line = λ t. acted_as s (both.outcome t) (both.effects t);
        world = record {
          tree = both.world.tree;
          processes = λ t. after_deed s.kept e.process (length w.processes) (both.outcome t) (both.world.processes t);
          files = both.world.files;
        };
      }

  by_alike : (s : ProcessState) (alive : Bool) → slice_get w.processes e.process ≡ Some s → SameStep r (stepped_by programs w e j s alive) (stepped_by programs other e k s alive)
  unfolding stepped_by
  by_alike s false made = record { line = refl; world = same_world }
  by_alike s true made = at_alike s (next_instruction s.kept (slice_get (programs s.program) s.point)) made refl

  of_alike : (o : Option ProcessState) → slice_get w.processes e.process ≡ o → SameStep r (stepped programs w e j o) (stepped programs other e k o)
  unfolding stepped
  of_alike None made = record { line = refl; world = same_world }
  of_alike (Some s) made = by_alike s s.alive made

  step_alike : SameStep r (step programs w e j) (step programs other e k)
  unfolding step
  step_alike = of_alike (slice_get w.processes e.process) refl

-- the same of any world that is the first but for its numbers
pub steps_same : (r : Renaming) (programs : Programs) → ArePrograms programs → (numbering : Numbering) (w v : World) → IsWorld programs numbering w →
    AreWalkers programs w → SameWorlds r w v → ((pair side : ℕ) → v.files.pairs ≤ pair → v.files.queue pair side ≡ []) → (j k : Choice) → Aims r j k → (e : Event) →
    SameStep r (step programs w e j) (step programs v e k)
steps_same r programs valid numbering w v good walkers alike idle j k aims e =
    let path : v ≡ record { tree = w.tree; files = v.files; processes = w.processes } = λ i. record { tree = alike.tree i; files = v.files; processes = alike.processes i } in
    subst (λ u. SameStep r (step programs w e j) (step programs u e k)) (sym path)
    (step_alike r programs valid numbering w good walkers v.files alike.files idle j k aims e)
