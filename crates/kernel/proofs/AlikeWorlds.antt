-- Worlds that are alike act alike: they differ in no number, so that the other numbers are the same numbers.
use Rattle.std.proofs.Common.{◌≡◌, ℕ, ◌≤◌, List, [], ◌∷◌, refl, length, sym, ◌∙◌, subst}
use Rattle.std.specs.Prelude.{Option, Some, None}
use Rattle.std.specs.List.{slice_get}
use Rattle.rights.specs.Limits.{most_bytes, most_messages}
use Rattle.process.specs.State.{ProcessState}
use Rattle.instruction_set.specs.Programs.{Syscall}
use Rattle.fd_table.specs.Descriptions.{Object, At_node, At_end, State, Descriptor, Message, IfHeld}
use Rattle.fd_table.specs.OpenFiles.{OpenFiles, Alike, SameDescriptions, IsOther, AreOther, IsUnnamed, IsUnused, is_open}
use Rattle.fd_table.specs.OpenFiles as open_files
use Rattle.kernel.specs.World.{World, Choice, IsFresh}
use Rattle.kernel.specs.Answers.{Event, TableChange, Same_table, Set_entry, Clear_entry, New_file, New_pair, New_process, QueueChange, Same_queue, Push, Pop, StateChange}
use Rattle.kernel.specs.Answers.{Same_state, Set_state, Answer, Fails, Waits, Gives, Walks, IsEvent}
use Rattle.kernel.specs.Calls.{answer}
use Rattle.kernel.specs.Steps.{Programs, step}
use Rattle.kernel.specs.WellFormed.{ArePrograms, Numbering, IsObject, IsDescriptor, EachMessage, HasNone, IsWorld, IsWellFormed}
use Rattle.kernel.specs.Renamings.{Renaming, SameObject, EachNamed, SameFiles, renamed_object, renamed_entry, renamed_messages}
use Rattle.kernel.specs.Alike.{AlikeWorldsTwice, StepsAsOne, ActsAs, AlikeWorldsActAlike}
use Rattle.kernel.proofs.Keeping.{kept}
use Rattle.kernel.proofs.KeptWalks.{AreWalkers, walkers_alike}
use Rattle.kernel.proofs.Opens.{same_open}
use Rattle.kernel.proofs.Renamed.{renamed_table, renamed_queue, renamed_state, renamed_answer, same_answer}
use Rattle.kernel.proofs.ChangedAlike.{Aims}
use Rattle.kernel.proofs.SteppedAlike.{SameStep, steps_same}

-- ## The same numbers
pub own_numbers : Renaming
own_numbers = record {
  description = λ n. n;
  pair = λ n. n;
  description_back = λ n. n;
  pair_back = λ n. n;
  description_there = λ n. refl;
  description_here = λ n. refl;
  pair_there = λ n. refl;
  pair_here = λ n. refl;
}

module _ where
  object_own : (o : Object) → renamed_object own_numbers o ≡ o
  unfolding own_numbers
  object_own (At_node n access) = refl
  object_own (At_end pair side class) = refl

  entry_own : (o : Option Descriptor) → renamed_entry own_numbers o ≡ o
  unfolding own_numbers
  entry_own None = refl
  entry_own (Some d) = refl

  messages_own : (messages : List Message) → renamed_messages own_numbers messages ≡ messages
  unfolding own_numbers
  messages_own [] = refl
  messages_own (m ∷ messages) = λ i. record { byte = m.byte; passed = entry_own m.passed i } ∷ messages_own messages i

  table_own : (table : TableChange) → renamed_table own_numbers table ≡ table
  unfolding own_numbers
  table_own Same_table = refl
  table_own (Set_entry number d) = refl
  table_own (Clear_entry number) = refl
  table_own (New_file number n access append rights fcntls) = refl
  table_own (New_pair first second class) = refl
  table_own New_process = refl

  queue_own : (queue : QueueChange) → renamed_queue own_numbers queue ≡ queue
  unfolding own_numbers
  queue_own Same_queue = refl
  queue_own (Push pair side m) = λ i. Push pair side (record { byte = m.byte; passed = entry_own m.passed i })
  queue_own (Pop pair side) = refl

  state_own : (state : StateChange) → renamed_state own_numbers state ≡ state
  unfolding own_numbers
  state_own Same_state = refl
  state_own (Set_state n state) = refl

  answer_own : (a : Answer) → renamed_answer own_numbers a ≡ a
  answer_own (Fails errno cause) = refl
  answer_own Waits = refl
  answer_own (Walks walking) = refl
  answer_own (Gives value change effects) =
      λ i. Gives value (record { tree = change.tree; table = table_own change.table i; queue = queue_own change.queue i; state = state_own change.state i; enters = change.enters }) effects

  aims_own : (choice : Choice) → Aims own_numbers choice choice
  unfolding own_numbers
  aims_own choice = record { first = refl; second = refl; pair = refl }

-- ## Alike, as the same under the same numbers
named_same : (f g : OpenFiles) (o : Option Descriptor) → open_files.SameDescription f g o → IfHeld (λ d. SameObject own_numbers f g d.description) o
unfolding own_numbers
named_same f g None same = tt
named_same f g (Some d) same = record { object = same.0 ∙ sym (object_own (f.objects d.description)); state = same.1 }

each_same : (f g : OpenFiles) (messages : List Message) → SameDescriptions f g messages → EachNamed (SameObject own_numbers f g) messages
each_same f g [] same = tt
each_same f g (m ∷ messages) same = (named_same f g m.passed same.0, each_same f g messages same.1)

pub same_files : (f g : OpenFiles) → Alike f g → SameFiles own_numbers f g
unfolding own_numbers
same_files f g alike = record {
  table = λ p n. alike.table p n ∙ sym (entry_own (f.table p n));
  queue = λ pair side. alike.queue pair side ∙ sym (messages_own (f.queue pair side));
  entries = λ p n. named_same f g (f.table p n) (alike.entries p n);
  messages = λ pair side. each_same f g (f.queue pair side) (alike.messages pair side);
}

-- what is open is the same as itself
held_own : (f : OpenFiles) (o : Option Descriptor) → IfHeld (λ d. SameObject own_numbers f f d.description) o
held_own f o = named_same f f o (itself o)
  where
    itself : (o : Option Descriptor) → open_files.SameDescription f f o
    itself None = tt
    itself (Some d) = (refl, refl)

each_own : (f : OpenFiles) (messages : List Message) → EachNamed (SameObject own_numbers f f) messages
each_own f [] = tt
each_own f (m ∷ messages) = (held_own f m.passed, each_own f messages)

pub own_files : (f : OpenFiles) → SameFiles own_numbers f f
unfolding own_numbers
own_files f = record {
  table = λ p n. sym (entry_own (f.table p n));
  queue = λ pair side. sym (messages_own (f.queue pair side));
  entries = λ p n. held_own f (f.table p n);
  messages = λ pair side. each_own f (f.queue pair side);
}

same_named : (f g : OpenFiles) (o : Option Descriptor) → IfHeld (λ d. SameObject own_numbers f g d.description) o → open_files.SameDescription f g o
unfolding own_numbers
same_named f g None same = tt
same_named f g (Some d) same = (same.object ∙ object_own (f.objects d.description), same.state)

same_each : (f g : OpenFiles) (messages : List Message) → EachNamed (SameObject own_numbers f g) messages → SameDescriptions f g messages
same_each f g [] same = tt
same_each f g (m ∷ messages) same = (same_named f g m.passed same.0, same_each f g messages same.1)

alike_files : (f g : OpenFiles) → SameFiles own_numbers f g → ((pair side : ℕ) → g.pairs ≤ pair → g.queue pair side ≡ []) → Alike f g
unfolding own_numbers
alike_files f g same idle = record {
  table = λ p n. same.table p n ∙ entry_own (f.table p n);
  queue = λ pair side. same.queue pair side ∙ messages_own (f.queue pair side);
  entries = λ p n. same_named f g (f.table p n) (same.entries p n);
  messages = λ pair side. same_each f g (f.queue pair side) (same.messages pair side);
  idle = idle;
}

-- ## Well formed
module _ (programs : Programs) (numbering : Numbering) (w : World) (good : IsWorld programs numbering w) (walkers : AreWalkers programs w) (g : OpenFiles)
    (alike : Alike w.files g) where
  descriptor_alike : (o : Option Descriptor) → open_files.SameDescription w.files g o →
      IfHeld (IsDescriptor w.tree numbering w.files.objects w.files.states) o → IfHeld (IsDescriptor w.tree numbering g.objects g.states) o
  descriptor_alike None same fine = tt
  descriptor_alike (Some d) same fine = record {
    number = fine.number;
    rights = fine.rights;
    fcntls = fine.fcntls;
    object = subst (IsObject w.tree numbering d.description) (sym same.0) fine.object;
    offset = subst (λ (state : State). state.offset ≤ most_bytes) (sym same.1) fine.offset;
  }

  messages_alike : (messages : List Message) → SameDescriptions w.files g messages →
      EachMessage (IsDescriptor w.tree numbering w.files.objects w.files.states) messages →
      EachMessage (IsDescriptor w.tree numbering g.objects g.states) messages
  messages_alike [] same fine = tt
  messages_alike (m ∷ messages) same fine = (fine.0, descriptor_alike m.passed same.0 fine.1, messages_alike messages same.1 fine.2)

  none_alike : (p : ℕ) (o : Option ProcessState) → HasNone o (w.files.table p) → HasNone o (g.table p)
  none_alike p None none = λ n. alike.table p n ∙ none n
  none_alike p (Some s) none = λ ended n. alike.table p n ∙ none ended n

  well_formed : IsWorld programs numbering (record { tree = w.tree; files = g; processes = w.processes })
  well_formed = record {
    tree = good.tree;
    some = good.some;
    few = good.few;
    processes = good.processes;
    entries = λ p n. subst (IfHeld (IsDescriptor w.tree numbering g.objects g.states)) (sym (alike.table p n)) (descriptor_alike (w.files.table p n) (alike.entries p n) (good.entries p n));
    numbers = λ p n far. alike.table p n ∙ good.numbers p n far;
    gone = λ p. none_alike p (slice_get w.processes p) (good.gone p);
    messages = λ pair side. subst (EachMessage (IsDescriptor w.tree numbering g.objects g.states)) (sym (alike.queue pair side))
        (messages_alike (w.files.queue pair side) (alike.messages pair side) (good.messages pair side));
    short = λ pair side. subst (λ messages. length messages ≤ most_messages) (sym (alike.queue pair side)) (good.short pair side);
    idle = alike.idle;
    sides = λ pair side far. alike.queue pair side ∙ good.sides pair side far;
  }

  -- ## Fresh
  open_alike : (pair side : ℕ) → is_open w.files pair side ≡ is_open g pair side
  unfolding own_numbers
  open_alike pair side = same_open own_numbers w.files g (same_files w.files g alike) good.idle alike.idle pair side

  unnamed_there : (n : ℕ) → IsUnnamed w.files n → IsUnnamed g n
  unnamed_there n free = record {
    entries = λ p m. subst (IsOther n) (sym (alike.table p m)) (free.entries p m);
    messages = λ pair side. subst (AreOther n) (sym (alike.queue pair side)) (free.messages pair side);
  }

  unnamed_here : (n : ℕ) → IsUnnamed g n → IsUnnamed w.files n
  unnamed_here n free = record {
    entries = λ p m. subst (IsOther n) (alike.table p m) (free.entries p m);
    messages = λ pair side. subst (AreOther n) (alike.queue pair side) (free.messages pair side);
  }

  fresh_there : (choice : Choice) → IsFresh w.files choice → IsFresh g choice
  fresh_there choice fresh = record {
    first = unnamed_there choice.first fresh.first;
    second = unnamed_there choice.second fresh.second;
    apart = fresh.apart;
    pair = record {
      closed = λ side. sym (open_alike choice.pair side) ∙ fresh.pair.closed side;
      empty = λ side. alike.queue choice.pair side ∙ fresh.pair.empty side;
    };
  }

  fresh_here : (choice : Choice) → IsFresh g choice → IsFresh w.files choice
  fresh_here choice fresh = record {
    first = unnamed_here choice.first fresh.first;
    second = unnamed_here choice.second fresh.second;
    apart = fresh.apart;
    pair = record {
      closed = λ side. open_alike choice.pair side ∙ fresh.pair.closed side;
      empty = λ side. sym (alike.queue choice.pair side) ∙ fresh.pair.empty side;
    };
  }

  answers : (p : ℕ) (s : ProcessState) (e : Event) (call : Syscall) → answer (record { tree = w.tree; files = g; processes = w.processes }) p s e call ≡ answer w p s e call
  unfolding own_numbers
  answers p s e call = same_answer own_numbers w g (same_files w.files g alike) open_alike p s e call ∙ answer_own (answer w p s e call)

  steps : ArePrograms programs → (e : Event) (choice : Choice) → IsEvent e → IsFresh w.files choice → StepsAsOne programs w (record { tree = w.tree; files = g; processes = w.processes }) e choice
  steps valid e choice byte fresh =
      let v : World = record { tree = w.tree; files = g; processes = w.processes } in
      let both : SameStep own_numbers (step programs w e choice) (step programs v e choice) =
      steps_same own_numbers programs valid numbering w v good walkers (record { tree = refl; processes = refl; files = same_files w.files g alike }) alike.idle choice choice (aims_own choice) e
      in
      let after : IsWellFormed programs (step programs v e choice).world = kept programs valid numbering v well_formed (walkers_alike programs w walkers g alike) e byte choice
      (fresh_there choice fresh) in
      record {
        line = both.line;
        next = record {
          tree = both.world.tree;
          processes = both.world.processes;
          files = alike_files (step programs w e choice).world.files (step programs v e choice).world.files both.world.files after.world.idle;
        };
      }

  acts : ArePrograms programs → ActsAs programs w (record { tree = w.tree; files = g; processes = w.processes })
  acts valid = record {
    well_formed = record { numbering = numbering; world = well_formed; walks = walkers_alike programs w walkers g alike };
    answers = answers;
    fresh_there = fresh_there;
    fresh_here = fresh_here;
    steps = steps valid;
  }

pub act_alike : AlikeWorldsActAlike
act_alike programs w v valid good alike =
    let path : v ≡ record { tree = w.tree; files = v.files; processes = w.processes } = λ i. record { tree = alike.tree i; files = v.files; processes = alike.processes i } in
    subst (ActsAs programs w) (sym path) (acts programs good.numbering w good.world good.walks v.files alike.files valid)

-- ## Alike twice
named_twice : (f g h : OpenFiles) (o : Option Descriptor) → open_files.SameDescription f g o → open_files.SameDescription g h o → open_files.SameDescription f h o
named_twice f g h None one two = tt
named_twice f g h (Some d) one two = (two.0 ∙ one.0, two.1 ∙ one.1)

each_twice : (f g h : OpenFiles) (messages : List Message) → SameDescriptions f g messages → SameDescriptions g h messages → SameDescriptions f h messages
each_twice f g h [] one two = tt
each_twice f g h (m ∷ messages) one two = (named_twice f g h m.passed one.0 two.0, each_twice f g h messages one.1 two.1)

pub alike_twice : AlikeWorldsTwice
alike_twice u v w one two = record {
  tree = two.tree ∙ one.tree;
  processes = two.processes ∙ one.processes;
  files = record {
    table = λ p n. two.files.table p n ∙ one.files.table p n;
    queue = λ pair side. two.files.queue pair side ∙ one.files.queue pair side;
    entries = λ p n.
        named_twice u.files v.files w.files (u.files.table p n) (one.files.entries p n)
        (subst (open_files.SameDescription v.files w.files) (one.files.table p n) (two.files.entries p n));
    messages = λ pair side.
        each_twice u.files v.files w.files (u.files.queue pair side) (one.files.messages pair side)
        (subst (SameDescriptions v.files w.files) (one.files.queue pair side) (two.files.messages pair side));
    idle = two.files.idle;
  };
}

-- the first one's bound doesn't matter
pub alike_bound : (f g : OpenFiles) (pairs : ℕ) → Alike f g → Alike (record f { pairs = pairs }) g
alike_bound f g pairs alike = record {
  table = alike.table;
  queue = alike.queue;
  entries = λ p n. named_bound (f.table p n) (alike.entries p n);
  messages = λ pair side. each_bound (f.queue pair side) (alike.messages pair side);
  idle = alike.idle;
}
  where
    named_bound : (o : Option Descriptor) → open_files.SameDescription f g o → open_files.SameDescription (record f { pairs = pairs }) g o
    named_bound None same = tt
    named_bound (Some d) same = same

    each_bound : (messages : List Message) → SameDescriptions f g messages → SameDescriptions (record f { pairs = pairs }) g messages
    each_bound [] same = tt
    each_bound (m ∷ messages) same = (named_bound m.passed same.0, each_bound messages same.1)
