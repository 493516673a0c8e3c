-- Both ends of a pair are of one class, and stay so.
use Rattle.std.proofs.Common.{◌≡◌, ◌≢◌, ℕ, length, refl}
use Rattle.std.specs.Prelude.{Option, Some, None}
use Rattle.rights.specs.Maps.{put, put2}
use Rattle.rights.specs.Sets.{all_rights, all_commands}
use Rattle.rights.proofs.Changes.{put-cases, put2-cases, put-other}
use Rattle.process.specs.State.{ProcessState}
use Rattle.fd_table.specs.Descriptions.{PairClass, Object, At_node, At_end, Descriptor, descriptor_of, IfHeld, EachPassed}
use Rattle.kernel.specs.World.{World, Choice}
use Rattle.kernel.specs.Answers.{TableChange, Same_table, Set_entry, Clear_entry, New_file, New_pair, New_process, Change}
use Rattle.kernel.specs.Changes.{objects_after, table_after, files_after, changed}
use Rattle.kernel.proofs.Brings.{ground, Known}
use Rattle.kernel.proofs.Fresh.{IsApart, known_entries, known_messages}
use Rattle.task.specs.Plans.{Plan, programs_of_plan}
use Rattle.rules.proofs.worlds.Invariant.{Asks, IsOfClass, HasClass, IsCarried, Invariant}
use Rattle.rules.proofs.frames.KeptTrees.{IsDeepChange}
use Rattle.rules.proofs.frames.Frames.{KeepsClasses, each_known, class_later}
use Rattle.rules.proofs.frames.ChangeKinds.{Acts, frame_changed}

-- A new pair is of its own class.
abbrev pub classes_after : (ℕ → PairClass) → Choice → TableChange → ℕ → PairClass
classes_after classes choice Same_table = classes
classes_after classes choice (Set_entry number d) = classes
classes_after classes choice (Clear_entry number) = classes
classes_after classes choice (New_file number n access append rights fcntls) = classes
classes_after classes choice (New_pair first second class) = put classes choice.pair class
classes_after classes choice New_process = classes

pub classes_kept : (classes : ℕ → PairClass) (choice : Choice) (table : TableChange) (pair : ℕ) → pair ≢ choice.pair → classes_after classes choice table pair ≡ classes pair
classes_kept classes choice Same_table pair other = refl
classes_kept classes choice (Set_entry number d) pair other = refl
classes_kept classes choice (Clear_entry number) pair other = refl
classes_kept classes choice (New_file number n access append rights fcntls) pair other = refl
classes_kept classes choice (New_pair first second class) pair other = put-other classes choice.pair class pair other
classes_kept classes choice New_process pair other = refl

-- a descriptor that is named: no choice is of its description, and it has its pair's class
pub record IsNamed (w : World) (choice : Choice) (classes : ℕ → PairClass) (d : Descriptor) : Type 0 where
  pub apart : IsApart w.files choice d.description
  pub class : HasClass w.files.objects classes d

-- what is put into a table is named already
abbrev pub BringsNamed : World → Choice → (ℕ → PairClass) → TableChange → Type 0
BringsNamed w choice classes Same_table = Unit {0}
BringsNamed w choice classes (Set_entry number d) = IsNamed w choice classes d
BringsNamed w choice classes (Clear_entry number) = Unit {0}
BringsNamed w choice classes (New_file number n access append rights fcntls) = Unit {0}
BringsNamed w choice classes (New_pair first second class) = Unit {0}
BringsNamed w choice classes New_process = Unit {0}

-- ## Tables, entry by entry
abbrev pub OfNew : (Descriptor → Type 0) → Choice → TableChange → Type 0
OfNew P choice Same_table = Unit {0}
OfNew P choice (Set_entry number d) = P d
OfNew P choice (Clear_entry number) = Unit {0}
OfNew P choice (New_file number n access append rights fcntls) = P (descriptor_of choice.first rights fcntls)
OfNew P choice (New_pair first second class) =
    P (descriptor_of choice.first all_rights all_commands) × P (descriptor_of choice.second all_rights all_commands)
OfNew P choice New_process = Unit {0}

-- what holds of each entry and of each new one
pub each_entry : (P : Descriptor → Type 0) (table : ℕ → ℕ → Option Descriptor) (p made : ℕ) (choice : Choice) (change : TableChange)
    → OfNew P choice change → ((q n : ℕ) → IfHeld P (table q n)) → (q n : ℕ) → IfHeld P (table_after table p made choice change q n)
each_entry P table p made choice Same_table new old q n = old q n
each_entry P table p made choice (Set_entry number d) new old q n = put2-cases (IfHeld P) table p number (Some d) q n new (old q n)
each_entry P table p made choice (Clear_entry number) new old q n = put2-cases (IfHeld P) table p number None q n tt (old q n)
each_entry P table p made choice (New_file number m access append rights fcntls) new old q n =
    put2-cases (IfHeld P) table p number (Some (descriptor_of choice.first rights fcntls)) q n new (old q n)
each_entry P table p made choice (New_pair first second class) new old q n =
    let one : Option Descriptor = Some (descriptor_of choice.first all_rights all_commands) in
    put2-cases (IfHeld P) (put2 table p first one) p second (Some (descriptor_of choice.second all_rights all_commands)) q n new.1
    (put2-cases (IfHeld P) table p first one q n new.0 (old q n))
each_entry P table p made choice New_process new old q n =
    put-cases (λ (row : ℕ → Option Descriptor). IfHeld P (row n)) table made (table p) q (λ _. old p n) (λ _. old q n)

-- new descriptions are of the class of their pair
module _ (objects : ℕ → Object) (classes : ℕ → PairClass) (choice : Choice) where
  at_new : (first second : ℕ) (class : PairClass) (side : ℕ) → IsOfClass (put classes choice.pair class) (At_end choice.pair side class)
  at_new first second class side = put-cases (λ c. c ≡ class) classes choice.pair class choice.pair (λ _. refl) (λ other. absurd (other refl))

  new_first : (first second : ℕ) (class : PairClass) → choice.first ≢ choice.second
      → IsOfClass (put classes choice.pair class) (objects_after objects choice (New_pair first second class) choice.first)
  new_first first second class apart =
      put-cases (IsOfClass (put classes choice.pair class)) (put objects choice.first (At_end choice.pair 0 class)) choice.second (At_end choice.pair 1 class) choice.first
      (λ same. absurd (apart same))
      (λ _. put-cases (IsOfClass (put classes choice.pair class)) objects choice.first (At_end choice.pair 0 class) choice.first (λ _. at_new first second class 0) (λ other. absurd (other refl)))

  new_second : (first second : ℕ) (class : PairClass) → IsOfClass (put classes choice.pair class) (objects_after objects choice (New_pair first second class) choice.second)
  new_second first second class =
      put-cases (IsOfClass (put classes choice.pair class)) (put objects choice.first (At_end choice.pair 0 class)) choice.second (At_end choice.pair 1 class) choice.second
      (λ _. at_new first second class 1) (λ other. absurd (other refl))

  new_file : (number n : ℕ) (access : _) (append : _) (rights fcntls : ℕ)
      → IsOfClass classes (objects_after objects choice (New_file number n access append rights fcntls) choice.first)
  new_file number n access append rights fcntls =
      put-cases (IsOfClass classes) objects choice.first (At_node n access) choice.first (λ _. tt) (λ other. absurd (other refl))

-- ## In a world with the invariant
module _ (plan : Plan) (w : World) (p : ℕ) (s : ProcessState) (choice : Choice) (acts : Acts plan w p s choice) (asks : Asks) (inv : Invariant plan asks w) where
  -- each entry is named, and so is what each message carries
  pub entry_named : (q n : ℕ) → IfHeld (IsNamed w choice inv.classes) (w.files.table q n)
  entry_named q n =
      both (w.files.table q n) (known_entries (programs_of_plan plan) acts.formed.numbering w acts.formed.world choice acts.fresh q n) (inv.ends q n)
    where
      both : (o : Option Descriptor) → IfHeld (Known (ground acts.formed.numbering w (IsApart w.files choice))) o
          → IfHeld (HasClass w.files.objects inv.classes) o → IfHeld (IsNamed w choice inv.classes) o
      both None known class = tt
      both (Some d) known class = record { apart = known.1; class = class }

  pub message_named : (pair side : ℕ) → EachPassed (λ d. IsNamed w choice inv.classes d × asks.Carries w (inv.classes pair) side d) (w.files.queue pair side)
  message_named pair side =
      each_known (Known (ground acts.formed.numbering w (IsApart w.files choice))) (IsCarried asks w inv.classes pair side)
      (λ d. IsNamed w choice inv.classes d × asks.Carries w (inv.classes pair) side d)
      (λ d known is. (record { apart = known.1; class = is.0 }, is.1))
      (w.files.queue pair side)
      (known_messages (programs_of_plan plan) acts.formed.numbering w acts.formed.world choice acts.fresh pair side)
      (inv.carried pair side)

  module _ (t : ProcessState) (change : Change) (deep : IsDeepChange plan.grants w.tree change.tree) where
    pub named_later : (d : Descriptor) → IsNamed w choice inv.classes d → HasClass (changed w p t choice change).files.objects (classes_after inv.classes choice change.table) d
    named_later d named =
        class_later plan w (changed w p t choice change) choice change.queue p (frame_changed plan w p s choice acts t change deep) inv.classes
        (classes_after inv.classes choice change.table) (classes_kept inv.classes choice change.table) d named.apart named.class

    -- what is new has its class
    of_new : (table : TableChange) → BringsNamed w choice inv.classes table
        → ((d : Descriptor) → IsNamed w choice inv.classes d → HasClass (objects_after w.files.objects choice table) (classes_after inv.classes choice table) d)
        → OfNew (HasClass (objects_after w.files.objects choice table) (classes_after inv.classes choice table)) choice table
    of_new Same_table brings later = tt
    of_new (Set_entry number d) brings later = later d brings
    of_new (Clear_entry number) brings later = tt
    of_new (New_file number n access append rights fcntls) brings later = new_file w.files.objects inv.classes choice number n access append rights fcntls
    of_new (New_pair first second class) brings later =
        (new_first w.files.objects inv.classes choice first second class acts.fresh.apart, new_second w.files.objects inv.classes choice first second class)
    of_new New_process brings later = tt

    pub classes_changed : BringsNamed w choice inv.classes change.table
        → KeepsClasses (changed w p t choice change) choice inv.classes (classes_after inv.classes choice change.table)
    unfolding changed files_after
    classes_changed brings = record {
      same = classes_kept inv.classes choice change.table;
      ends =
          each_entry (HasClass (objects_after w.files.objects choice change.table) (classes_after inv.classes choice change.table)) w.files.table p (length w.processes) choice change.table
          (of_new change.table brings named_later)
          (λ q n. old (w.files.table q n) (entry_named q n));
    }
      where
        old : (o : Option Descriptor) → IfHeld (IsNamed w choice inv.classes) o
            → IfHeld (HasClass (objects_after w.files.objects choice change.table) (classes_after inv.classes choice change.table)) o
        old None named = tt
        old (Some d) named = named_later d named
