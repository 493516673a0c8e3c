-- What a process of a marked program leaves that does anything in the mode.
use Rattle.std.proofs.Common.{◌≡◌, ◌≢◌, ℕ, ◌<◌, Bool, true, false, List, length, refl, arith, ap, sym, ◌∙◌, subst}
use Rattle.std.specs.Prelude.{◌==◌, nat_lt, Option, Some, None}
use Rattle.std.specs.Cmp.Derive.{both_true}
use Rattle.std.specs.List.{slice_get}
use Rattle.std.proofs.lemmas.Option.{slice_get_within}
use Rattle.rights.specs.Sets.{all_rights}
use Rattle.process.specs.State.{Deed, ProcessState, Walking, forked, left_by}
use Rattle.instruction_set.specs.Programs.{Instruction, Set, Mov, Add, In, Jmp, Jeq, Jlt, Halt, Invoke, Syscall}
use Rattle.fd_table.specs.Descriptions.{PairClass, Initial, Made_at, Made_by, Object, At_end, Descriptor, IfHeld}
use Rattle.certificate.specs.Bounds.{Certificate}
use Rattle.kernel.specs.World.{World, Choice}
use Rattle.kernel.specs.Answers.{Effect, Event, TreeChange, TableChange, Same_table, Set_entry, Clear_entry, New_file, New_pair, New_process, QueueChange, Same_queue, Push, Pop, Change, Answer}
use Rattle.kernel.specs.Answers.{Fails, Waits, Gives, Walks}
use Rattle.kernel.specs.Calls.{answer}
use Rattle.kernel.specs.Changes.{objects_after, table_after, tree_after, given, files_after, changed}
use Rattle.kernel.specs.Steps.{Executed, LineResult, after_deed, answered, executed, failed, jumped, register, with_process}
use Rattle.kernel.specs.Walks.{call_in, under_way}
use Rattle.kernel.proofs.Deeds.{IsLike, after_keeps, after_other, each_executed}
use Rattle.kernel.proofs.Points.{still_on}
use Rattle.task.specs.Plans.{Plan, program_name, programs_of_plan}
use Rattle.task.specs.Sandboxed.{AreAllowed}
use Rattle.rules.proofs.calls.Owing.{Leaves, leaves_halted, leaves_process, leaves_same}
use Rattle.rules.proofs.frames.Arrivals.{IfChild, child_owed, if_child, lives_on, own_owed, sent_arrives}
use Rattle.rules.proofs.frames.ChangeKinds.{frame_changed, get_below}
use Rattle.rules.proofs.frames.Frames.{Frame, IfPushed, bounds_persist, object_stays, row_within, within_stays}
use Rattle.rules.proofs.frames.OwnRows.{child_row, file_object, first_object, own_row, row_after, second_object}
use Rattle.rules.proofs.frames.PairClasses.{BringsNamed, IsNamed, OfNew, classes_after, classes_changed, each_entry}
use Rattle.rules.proofs.hostile.Calls.{answer_may}
use Rattle.rules.proofs.hostile.Confining.{Adds, Confines, MayDo, Roams, Sends, SendsThere, free, table_within}
use Rattle.rules.proofs.worlds.Invariant.{Carries, IfAlive, IsCarried, IsLiving, LivesBy, is_free, bounds}
use Rattle.rules.specs.Seen.{subject_of}
use Rattle.rules.proofs.worlds.Walks.{WalksIn, rests}
use Rattle.rules.specs.Within.{IsTableWithin, IsWithinAuthority, MayHave, own_authority}

-- what it does is allowed, and it leaves what it must
pub record Freely (plan : Plan) (certificate : Certificate) (w : World) (p : ℕ) (choice : Choice) (classes : ℕ → PairClass) (x : Executed) : Type 0 where
  pub allowed : AreAllowed plan.grants x.effects
  pub leaves : Leaves plan certificate w x.world p choice classes

module _ (plan : Plan) (certificate : Certificate) (w : World) (e : Event) (s : ProcessState) (choice : Choice) (known : Roams plan certificate w e.process s choice) where
  abbrev p : ℕ
  p = e.process

  abbrev pub LeavesTo : World → Type 0
  LeavesTo v = Leaves plan certificate w v e.process choice known.inv.classes

  -- such a process in a world where its table is the same
  same_lives : (t : ProcessState) → t.program ≡ s.program → is_free t ≡ true → LivesBy plan certificate (is_free t) (with_process w e.process t) e.process t
  same_lives t same is =
      subst (λ b. LivesBy plan certificate b (with_process w e.process t) e.process t) (sym is)
      (subst (IsTableWithin plan certificate w e.process) (sym same) (table_within plan certificate w e.process s choice known))

  moved : (t : ProcessState) → t.program ≡ s.program → is_free t ≡ true → t.walk ≡ None → LeavesTo (with_process w e.process t)
  moved t same is none =
      leaves_process plan certificate w e.process s choice known.acts known.inv t
      (λ alive. record { asked = same_lives t same is; walker = rests plan w.tree w.files.objects (w.files.table e.process) t none })

  free_now : is_free s ≡ true
  free_now = free plan certificate w e.process s choice known

  -- ## A success
  module _ (value : ℕ) (change : Change) (effects : List Effect) (done : MayDo plan certificate w e.process s choice known change effects) where
    abbrev t : ProcessState
    t = given s value change

    abbrev v : World
    v = changed w e.process t choice change

    frame : Frame plan w v choice change.queue e.process
    frame = frame_changed plan w e.process s choice known.acts t change done.deep

    -- what comes into the table is of what its program may have
    of_new : (tree : TreeChange) (table : TableChange) → Adds plan certificate w e.process s choice known tree table
        → ((d : Descriptor) → IsNamed w choice known.inv.classes d → IsWithinAuthority plan certificate w s.program d
        → MayHave plan.wide plan.grants (own_authority plan certificate s.program) (program_name plan s.program)
        (subject_of plan (tree_after w.tree tree) (objects_after w.files.objects choice table d.description)) d.rights)
        → OfNew (λ d. MayHave plan.wide plan.grants (own_authority plan certificate s.program) (program_name plan s.program)
        (subject_of plan (tree_after w.tree tree) (objects_after w.files.objects choice table d.description)) d.rights) choice table
    of_new tree Same_table adds later = tt
    of_new tree (Set_entry number d) adds later = later d adds.0 adds.1
    of_new tree (Clear_entry number) adds later = tt
    of_new tree (New_file number n access append rights fcntls) adds later =
        subst (λ o. MayHave plan.wide plan.grants (own_authority plan certificate s.program) (program_name plan s.program) (subject_of plan (tree_after w.tree tree) o) rights)
        (sym (file_object w.files.objects choice number n access append rights fcntls)) adds
    of_new tree (New_pair first second class) adds later =
        let Has : Object → Type 0 = λ o. MayHave plan.wide plan.grants (own_authority plan certificate s.program) (program_name plan s.program)
        (subject_of plan (tree_after w.tree tree) o) all_rights in (
          subst Has (sym (first_object w.files.objects choice first second class known.acts.fresh.apart)) (subst (λ c. Has (At_end choice.pair 0 c)) (sym adds) refl),
          subst Has (sym (second_object w.files.objects choice first second class)) (subst (λ c. Has (At_end choice.pair 1 c)) (sym adds) refl),
        )
    of_new tree New_process adds later = tt

    named_of : (tree : TreeChange) (table : TableChange) → Adds plan certificate w e.process s choice known tree table → BringsNamed w choice known.inv.classes table
    named_of tree Same_table adds = tt
    named_of tree (Set_entry number d) adds = adds.0
    named_of tree (Clear_entry number) adds = tt
    named_of tree (New_file number n access append rights fcntls) adds = tt
    named_of tree (New_pair first second class) adds = tt
    named_of tree New_process adds = tt

    later_within : (d : Descriptor) → IsNamed w choice known.inv.classes d → IsWithinAuthority plan certificate w s.program d → IsWithinAuthority plan certificate v s.program d
    later_within d named is =
        within_stays plan w v choice change.queue e.process frame certificate s.program d
        (object_stays plan w v choice change.queue e.process frame d.description named.apart) is

    old_row : (n : ℕ) → IfHeld (IsWithinAuthority plan certificate v s.program) (w.files.table e.process n)
    old_row n = row_within plan w v choice change.queue e.process frame certificate s.program e.process (table_within plan certificate w e.process s choice known) n

    not_new : e.process ≢ length w.processes
    not_new same = let below : e.process < length w.processes = get_below w.processes e.process s known.acts.made in absurd (omega (arith, same, below))

    -- its row, and a child's
    new_row : (n : ℕ) → IfHeld (IsWithinAuthority plan certificate v s.program) (row_after (w.files.table e.process) choice change.table n)
    unfolding changed files_after
    new_row n =
        subst (λ row. IfHeld (IsWithinAuthority plan certificate (changed w e.process t choice change) s.program) (row n))
        (own_row (λ q. w.files.table e.process) e.process (length w.processes) choice change.table not_new)
        (each_entry (IsWithinAuthority plan certificate (changed w e.process t choice change) s.program) (λ q. w.files.table e.process) e.process (length w.processes) choice change.table
        (of_new change.tree change.table done.adds later_within) (λ q m. old_row m) e.process n)

    own_table : IsTableWithin plan certificate v e.process s.program
    unfolding changed files_after
    own_table n =
        subst (λ row. IfHeld (IsWithinAuthority plan certificate (changed w e.process t choice change) s.program) (row n))
        (sym (own_row w.files.table e.process (length w.processes) choice change.table not_new)) (new_row n)

    child_table : change.table ≡ New_process → IsTableWithin plan certificate v (length w.processes) s.program
    unfolding changed files_after
    child_table forks n =
        subst (λ row. IfHeld (IsWithinAuthority plan certificate (changed w e.process t choice change) s.program) (row n))
        (sym (ap (λ c. table_after w.files.table e.process (length w.processes) choice c (length w.processes)) forks
        ∙ child_row w.files.table e.process (length w.processes) choice)) (old_row n)

    free_given : is_free t ≡ true
    free_given = both_true known.marked (still_on s.mode change.enters known.mode)

    own_lives : LivesBy plan certificate (is_free t) v e.process t
    own_lives = subst (λ b. LivesBy plan certificate b v e.process t) (sym free_given) own_table

    child_lives : (table : TableChange) → change.table ≡ table
        → IfChild table ((forked t).alive ≡ true → LivesBy plan certificate (is_free (forked t)) v (length w.processes) (forked t))
    child_lives Same_table is = tt
    child_lives (Set_entry number d) is = tt
    child_lives (Clear_entry number) is = tt
    child_lives (New_file number n access append rights fcntls) is = tt
    child_lives (New_pair first second class) is = tt
    child_lives New_process is = λ alive. subst (λ b. LivesBy plan certificate b v (length w.processes) (forked t)) (sym free_given) (child_table is)

    sends_on : (queue : QueueChange) → change.queue ≡ queue → Sends plan certificate w e.process s choice known queue
        → IfPushed (IsCarried (bounds plan certificate) v (classes_after known.inv.classes choice change.table)) queue
    sends_on Same_queue is sends = tt
    sends_on (Pop pair side) is sends = tt
    sends_on (Push pair side m) is sends = one m.passed sends
      where
        one : (o : Option Descriptor) → IfHeld (SendsThere plan certificate w e.process s choice known pair side) o
            → IfHeld (IsCarried (bounds plan certificate) v (classes_after known.inv.classes choice change.table) pair side) o
        one None sends = tt
        one (Some d) sends =
            sent_arrives plan w e.process s choice known.acts (bounds plan certificate) known.inv t change done.deep
            (bounds_persist plan w v choice change.queue e.process frame certificate) pair side sends.0 d sends.1 sends.2

    changed_leaves : LeavesTo v
    unfolding changed
    changed_leaves = record {
      queue = change.queue;
      frame = frame;
      after = classes_after known.inv.classes choice change.table;
      kept =
          classes_changed plan w e.process s choice known.acts (bounds plan certificate) known.inv t change done.deep (named_of change.tree change.table done.adds);
      owes = record {
        own =
            own_owed plan w e.process s choice known.acts (bounds plan certificate) known.inv (IsLiving plan (bounds plan certificate) (changed w e.process t choice change) e.process) t _
            (λ alive. lives_on plan w e.process s choice known.acts (bounds plan certificate) known.inv (changed w e.process t choice change) e.process t refl own_lives);
        child =
            child_owed plan w e.process s choice known.acts (bounds plan certificate) known.inv (IsLiving plan (bounds plan certificate) (changed w e.process t choice change)) t change.table
            (if_child change.table
            (λ owed alive. lives_on plan w e.process s choice known.acts (bounds plan certificate) known.inv (changed w e.process t choice change) (length w.processes) (forked t) refl (owed alive))
            (child_lives change.table refl));
        pushed = sends_on change.queue refl done.sends;
      };
    }

  -- ## An answer, and an instruction
  under_on : (call : Syscall) (walking : Walking) → under_way (programs_of_plan plan) s ≡ Some call → under_way (programs_of_plan plan) (record s { walk = Some walking }) ≡ Some call
  unfolding under_way
  under_on call walking here = here

  abbrev pub DoesFreely : Executed → Type 0
  DoesFreely x = Freely plan certificate w e.process choice known.inv.classes x

  answered_freely : (call : Syscall) (otherwise : ℕ) (here : under_way (programs_of_plan plan) s ≡ Some call) (a : Answer)
      → Confines plan certificate w e.process s choice known call here a → DoesFreely (answered w e.process s choice otherwise a)
  unfolding answered Confines
  answered_freely call otherwise here (Fails errno cause) may = record { allowed = tt; leaves = moved (failed s errno otherwise) refl free_now refl }
  answered_freely call otherwise here Waits may = record { allowed = tt; leaves = leaves_same plan certificate w e.process s choice known.acts known.inv }
  answered_freely call otherwise here (Gives value change effects) may = record { allowed = may.allowed; leaves = changed_leaves value change effects may }
  answered_freely call otherwise here (Walks walking) may =
      let t : ProcessState = record s { walk = Some walking } in
      record {
        allowed = tt;
        leaves =
            leaves_process plan certificate w e.process s choice known.acts known.inv t
            (λ alive. record {
              asked = same_lives t refl free_now;
              walker = record {
                walks =
                    subst (λ o. WalksIn plan.grants w.tree w.files.objects (w.files.table e.process) t o (Some walking)) (sym (under_on call walking here)) may;
              };
            });
      }

  jumped_freely : (taken : Bool) (target : ℕ) → LeavesTo (with_process w e.process (jumped s taken target))
  unfolding jumped
  jumped_freely true target = moved _ refl free_now refl
  jumped_freely false target = moved _ refl free_now refl

  pub executed_freely : (i : Instruction) → under_way (programs_of_plan plan) s ≡ call_in (Some i) → DoesFreely (executed w e choice s i)
  unfolding executed
  executed_freely (Set r value) here = record { allowed = tt; leaves = moved _ refl free_now refl }
  executed_freely (Mov r source) here = record { allowed = tt; leaves = moved _ refl free_now refl }
  executed_freely (Add r addend) here = record { allowed = tt; leaves = moved _ refl free_now refl }
  executed_freely (In r) here = record { allowed = tt; leaves = moved _ refl free_now refl }
  executed_freely (Jmp target) here = record { allowed = tt; leaves = moved _ refl free_now refl }
  executed_freely (Jeq r value target) here = record { allowed = tt; leaves = jumped_freely (register s r == value) target }
  executed_freely (Jlt r value target) here = record { allowed = tt; leaves = jumped_freely (nat_lt (register s r) value) target }
  executed_freely Halt here = record { allowed = tt; leaves = leaves_halted plan certificate w e.process s choice known.acts known.inv }
  executed_freely (Invoke call otherwise) here =
      answered_freely call otherwise here (answer w e.process s e call) (answer_may plan certificate w e s choice known call here)

  -- ## After a deed
  abbrev pub IfFree : Option ProcessState → Type 0
  IfFree None = Unit {0}
  IfFree (Some t) = is_free t ≡ true

  -- the process and a child are free
  pub record Roaming (q : ℕ) (o : Option ProcessState) : Type 0 where
    pub own : q ≡ e.process → IfFree o
    pub child : slice_get w.processes q ≡ None → IfFree o

  roams_there : (q : ℕ) → Roaming q (slice_get w.processes q)
  roams_there q = record {
    own = λ same. subst IfFree (sym (ap (slice_get w.processes) same ∙ known.acts.made)) free_now;
    child = λ none. subst IfFree (sym none) tt;
  }

  roams_like : (q : ℕ) (t : ProcessState) → IsLike s t → Roaming q (Some t)
  roams_like q t like =
      let is : is_free t ≡ true = both_true (like.marked ∙ known.marked) (like.mode known.mode) in
      record { own = λ same. is; child = λ none. is }

  pub executed_roams : (i : Instruction) (q : ℕ) → Roaming q (slice_get (executed w e choice s i).world.processes q)
  executed_roams = each_executed w e choice s Roaming roams_there (λ t like. roams_like e.process t like) (λ t like. roams_like (length w.processes) t like)

  module _ (x : World) (roams : (q : ℕ) → Roaming q (slice_get x.processes q)) (o : Option Deed) (outcome : LineResult) where
    abbrev pub later : World
    later = record x { processes = after_deed o e.process (length w.processes) outcome x.processes }

    abbrev FreeAlive : ℕ → Option ProcessState → Type 0
    FreeAlive q r = IfFree r × IfAlive (IsLiving plan (bounds plan certificate) x q) r

    left_living : (q : ℕ) (deed : Deed) (t : ProcessState) → FreeAlive q (Some t) → FreeAlive q (Some (left_by deed t))
    left_living q deed t is = (
      is.0,
      λ alive. record {
        asked =
            subst (λ b. LivesBy plan certificate b x q (left_by deed t)) (sym is.0)
            (subst (λ b. LivesBy plan certificate b x q t) is.0 (is.1 alive).asked);
        walker = rests plan x.tree x.files.objects (x.files.table q) (left_by deed t) refl;
      },
    )

    -- what is asked of a free process
    after_living : (q : ℕ) → IfFree (slice_get x.processes q) → IfAlive (IsLiving plan (bounds plan certificate) x q) (slice_get x.processes q)
        → IfAlive (IsLiving plan (bounds plan certificate) x q) (slice_get (after_deed o e.process (length w.processes) outcome x.processes) q)
    after_living q is living = (after_keeps (FreeAlive q) e.process (length w.processes) x.processes q o outcome (left_living q) (is, living)).1

    later_world : (q : ℕ) (r : Option ProcessState) → IfAlive (IsLiving plan (bounds plan certificate) x q) r → IfAlive (IsLiving plan (bounds plan certificate) later q) r
    later_world q None living = tt
    later_world q (Some t) living = λ alive.
        let old : IsLiving plan (bounds plan certificate) x q t = living alive in
        record { asked = same (is_free t) t old.asked; walker = record { walks = old.walker.walks } }
      where
        same : (b : Bool) (t : ProcessState) → LivesBy plan certificate b x q t → LivesBy plan certificate b later q t
        same true t is = is
        same false t is = record { bound = is.bound; at = is.at; is = is.is }

    pub after_leaves : LeavesTo x → LeavesTo later
    after_leaves leaves = record {
      queue = leaves.queue;
      frame = record {
        formed = leaves.frame.formed;
        fresh = leaves.frame.fresh;
        keeps = record {
          objects = leaves.frame.keeps.objects;
          tree = leaves.frame.keeps.tree;
          processes = λ q r other made.
              let below : q < length w.processes = slice_get_within w.processes q r made in
              after_other o e.process (length w.processes) outcome x.processes q other (λ same. absurd (omega (arith, same, below)))
              ∙ leaves.frame.keeps.processes q r other made;
          tables = leaves.frame.keeps.tables;
          queues = leaves.frame.keeps.queues;
        };
      };
      after = leaves.after;
      kept = record { same = leaves.kept.same; ends = leaves.kept.ends };
      owes = record {
        own = later_world e.process (slice_get (after_deed o e.process (length w.processes) outcome x.processes) e.process) (after_living e.process ((roams e.process).own refl) leaves.owes.own);
        child = λ q none.
            later_world q (slice_get (after_deed o e.process (length w.processes) outcome x.processes) q) (after_living q ((roams q).child none) (leaves.owes.child q none));
        pushed = pushed_later leaves.queue leaves.owes.pushed;
      };
    }
      where
        carried_later : (pair side : ℕ) (r : Option Descriptor) → IfHeld (IsCarried (bounds plan certificate) x leaves.after pair side) r
            → IfHeld (IsCarried (bounds plan certificate) later leaves.after pair side) r
        carried_later pair side None is = tt
        carried_later pair side (Some d) is = (is.0, by_class (leaves.after pair) is.1)
          where
            by_class : (class : PairClass) → Carries plan certificate x class side d → Carries plan certificate later class side d
            by_class (Initial n) is = is
            by_class (Made_at program point) is = is
            by_class (Made_by program) is = is

        pushed_later : (queue : QueueChange) → IfPushed (IsCarried (bounds plan certificate) x leaves.after) queue → IfPushed (IsCarried (bounds plan certificate) later leaves.after) queue
        pushed_later Same_queue is = tt
        pushed_later (Pop pair side) is = tt
        pushed_later (Push pair side m) is = carried_later pair side m.passed is
