-- From the parts of a call to the whole: its process, and its fresh numbers.
use Rattle.std.proofs.Common.{◌≡◌, ◌≢◌, ◌<◌, ◌≤◌, arith, ℕ, Bool, List, [], ◌++◌, map, length, slice_set, refl, ap, sym, subst, ◌∙◌, append-nil}
use Rattle.std.specs.Prelude.{Option, Some, None}
use Rattle.std.specs.List.{slice_get}
use Rattle.std.proofs.Math.ListN.{get_or}
use Rattle.std.proofs.lemmas.Option.{slice_get_within, get_or_from_slice_get}
use Rattle.process.specs.State.{ProcessState, Walking}
use Rattle.file_tree.specs.Nodes.{Node}
use Rattle.fd_table.specs.Descriptions.{Object, At_node, At_end, Descriptor, IfHeld}
use Rattle.fd_table.specs.OpenFiles.{OpenFiles, Alike}
use Rattle.rights.specs.Errors.{Errno, Cause}
use Rattle.syscalls.specs.declared.outcomes.Besides.{Besides}
use Rattle.syscalls.specs.declared.outcomes.Besides.TheVariants as besides
use Rattle.instruction_set.specs.Programs.{Syscall}
use Rattle.kernel.specs.World.{World, Choice, IsFresh}
use Rattle.kernel.specs.Answers.{Event, TreeChange, TableChange, Same_table, Set_entry, Clear_entry, New_file, New_pair, New_process, QueueChange, StateChange, Change, Fails, Waits, Walks}
use Rattle.kernel.specs.Calls.{answer}
use Rattle.kernel.specs.Changes.{files_after, changed, given, children, processes_after}
use Rattle.kernel.specs.Steps.{Value, Failed, Waiting, Walks_on, Programs, answered, failed}
use Rattle.kernel.specs.WellFormed.{Numbering, IsObject, IsDescriptor, IsWorld}
use Rattle.lookup.proofs.UnderWay.{there_if_opened}
use Rattle.kernel.specs.Runs.{MayChoose}
use Rattle.kernel.specs.Alike.{AlikeWorlds}
use Rattle.kernel.proofs.Fresh.{fresh_some}
use Rattle.kernel.proofs.Keeping.{may_choose}
use Rattle.syscalls.specs.Shows.{Shown, shown}
use Rattle.syscalls.specs.Views.{world_with}
use Rattle.syscalls.specs.AnswerViews.{Suits, IsBesides, Succeeds, IsIdle, IsReady, IsReadyDescription, IsReadyObject}
use Rattle.syscalls.specs.MayCall.{MayCall}
use Rattle.syscalls.specs.CallViews.{Comes, processes_as, succeeded_as}
use Rattle.syscalls.proofs.Keeping.{alike_refl}

-- A fresh choice with which the change leaves the same.
record Chosen (f : OpenFiles) (p n : ℕ) (change : Change) (g : OpenFiles) : Type 0 where
  choice : Choice
  fresh : IsFresh f choice
  alike : Alike (files_after f p n choice change) g

chosen : (f : OpenFiles) (p n : ℕ) (tree : TreeChange) (table : TableChange) (queue : QueueChange) (state : StateChange) (enters : Bool)
    (choice : Choice) (g : OpenFiles) → MayChoose f → (some : Choice) → IsFresh f some → Suits f choice table →
    Alike (files_after f p n choice (record { tree = tree; table = table; queue = queue; state = state; enters = enters })) g →
    Chosen f p n (record { tree = tree; table = table; queue = queue; state = state; enters = enters }) g
unfolding files_after
chosen f p n tree Same_table queue state enters choice g may some fresh suits alike = record { choice = some; fresh = fresh; alike = alike }
chosen f p n tree (Set_entry number d) queue state enters choice g may some fresh suits alike = record { choice = some; fresh = fresh; alike = alike }
chosen f p n tree (Clear_entry number) queue state enters choice g may some fresh suits alike = record { choice = some; fresh = fresh; alike = alike }
chosen f p n tree (New_file number node access append rights fcntls) queue state enters choice g may some fresh suits alike =
    let with = may.with_first choice.first suits in
    record {
      choice = with.0;
      fresh = with.2;
      alike = subst (λ first. Alike (files_after f p n (record { first = first; second = 0; pair = 0 })
          (record { tree = tree; table = New_file number node access append rights fcntls; queue = queue; state = state; enters = enters })) g)
          (sym with.1) alike;
    }
chosen f p n tree (New_pair first second class) queue state enters choice g may some fresh (one, two, apart, unused) alike = record {
  choice = choice;
  fresh = record { first = one; second = two; apart = apart; pair = unused };
  alike = alike;
}
chosen f p n tree New_process queue state enters choice g may some fresh suits alike = record { choice = some; fresh = fresh; alike = alike }

-- what a change makes of the processes
processes_besides : (processes : List ProcessState) (p : ℕ) (s : ProcessState) (value : ℕ) (b : Besides) (change : Change) → IsBesides b change →
    processes_after processes p (given s value change) change.table ≡ processes_as processes p s value b
processes_besides processes p s value b change is =
    ap (λ (x : ProcessState). slice_set processes p x ++ children change.table x) (is.process s value)
    ∙ ap (λ more. slice_set processes p (succeeded_as s value b) ++ more) (is.children (succeeded_as s value b))

-- ## The three ways of a call
module _ (programs : Programs) (t : List Node) (f : OpenFiles) (processes : List ProcessState)
    (numbering : Numbering) (good : IsWorld programs numbering (world_with t f processes)) (p : ℕ) (s : ProcessState) (e : Event) (call : Syscall) (otherwise : ℕ) where
  abbrev pub w : World
  w = world_with t f processes

  idle : IsIdle f
  idle = good.idle

  some : (choice : Choice) × IsFresh f choice
  some = fresh_some programs numbering w good

  -- it succeeds
  pub succeeds : (after : List Node) (left : OpenFiles) (value : ℕ) (b : Besides) (shows : List Shown) →
      Succeeds w p after left value b shows (answer w p s e call) →
      Comes w p s e call otherwise (Value value) shows (world_with after left (processes_as processes p s value b))
  unfolding answered changed
  succeeds after left value b shows y =
      let c = chosen f p (length processes) y.change.tree y.change.table y.change.queue y.change.state y.change.enters y.choice left
      (may_choose programs numbering w good) some.0 some.1 y.suits y.files in
      let v = world_with after left (processes_as processes p s value b) in
      record {
        choice = c.choice;
        fresh = c.fresh;
        outcome = ap (λ a. (answered w p s c.choice otherwise a).outcome) (sym y.is);
        prints = sym y.prints ∙ ap (λ a. map shown (answered w p s c.choice otherwise a).effects) (sym y.is);
        world = subst (λ a. AlikeWorlds (answered w p s c.choice otherwise a).world v) (sym y.is)
            (record { tree = y.tree; processes = sym (processes_besides processes p s value b y.change y.makes); files = c.alike });
      }

  -- it fails
  pub fails : (errno : Errno) (cause : Cause) → answer w p s e call ≡ Fails errno cause →
      Comes w p s e call otherwise (Failed errno cause) [] (world_with t f (slice_set processes p (failed s errno otherwise)))
  unfolding answered
  fails errno cause is =
      let v = world_with t f (slice_set processes p (failed s errno otherwise)) in
      record {
        choice = some.0;
        fresh = some.1;
        outcome = ap (λ a. (answered w p s some.0 otherwise a).outcome) (sym is);
        prints = ap (λ a. map shown (answered w p s some.0 otherwise a).effects) (sym is);
        world = subst (λ a. AlikeWorlds (answered w p s some.0 otherwise a).world v) (sym is) (record { tree = refl; processes = refl; files = alike_refl f idle });
      }

  -- it waits
  pub waits : answer w p s e call ≡ Waits → Comes w p s e call otherwise Waiting [] w
  unfolding answered
  waits is = record {
    choice = some.0;
    fresh = some.1;
    outcome = ap (λ a. (answered w p s some.0 otherwise a).outcome) (sym is);
    prints = ap (λ a. map shown (answered w p s some.0 otherwise a).effects) (sym is);
    world = subst (λ a. AlikeWorlds (answered w p s some.0 otherwise a).world w) (sym is) (record { tree = refl; processes = refl; files = alike_refl f idle });
  }

  -- it has names left
  pub walks : (walking : Walking) → answer w p s e call ≡ Walks walking →
      Comes w p s e call otherwise Walks_on [] (world_with t f (slice_set processes p (record s { walk = Some walking })))
  unfolding answered
  walks walking is =
      let v = world_with t f (slice_set processes p (record s { walk = Some walking })) in
      record {
        choice = some.0;
        fresh = some.1;
        outcome = ap (λ a. (answered w p s some.0 otherwise a).outcome) (sym is);
        prints = ap (λ a. map shown (answered w p s some.0 otherwise a).effects) (sym is);
        world = subst (λ a. AlikeWorlds (answered w p s some.0 otherwise a).world v) (sym is) (record { tree = refl; processes = refl; files = alike_refl f idle });
      }

-- What a well-formed world gives to the parts of a call.
ready_object : (t : List Node) (numbering : Numbering) (d : ℕ) (o : Object) → IsObject t numbering d o → IsReadyObject t o
ready_object t numbering d (At_node n access) is = (there_if_opened t n is, is)
ready_object t numbering d (At_end pair side class) is = tt

ready_entry : (t : List Node) (numbering : Numbering) (f : OpenFiles) (o : Option Descriptor) →
    IfHeld (IsDescriptor t numbering f.objects f.states) o → (d : Descriptor) → o ≡ Some d → IsReadyDescription t f d.description
ready_entry t numbering f None is d there = absurd cc
ready_entry t numbering f (Some c) is d there =
    let good = subst (IfHeld (IsDescriptor t numbering f.objects f.states)) there is in
    (ready_object t numbering d.description (f.objects d.description) good.object, good.offset)

pub made_few : (t : List Node) (f : OpenFiles) (processes : List ProcessState) (p : ℕ) (call : Syscall) → MayCall (world_with t f processes) p call → p < length processes
made_few t f processes p call may = slice_get_within processes p may.process may.made

pub few : (t : List Node) (f : OpenFiles) (processes : List ProcessState) (p : ℕ) (call : Syscall) → MayCall (world_with t f processes) p call → p < 16
few t f processes p call may =
    let low : p < length processes = made_few t f processes p call may in
    let most : length processes ≤ 16 = may.good.few in
    omega arith

pub ready : (t : List Node) (f : OpenFiles) (processes : List ProcessState) (p : ℕ) (call : Syscall) → MayCall (world_with t f processes) p call → IsReady t f p
ready t f processes p call may =
    let good = may.good in
    record {
      tree = good.tree;
      process = few t f processes p call may;
      numbers = good.numbers p;
      entries = λ n. ready_entry t may.numbering f (f.table p n) (good.entries p n);
      idle = good.idle;
    }

-- what stands at a number is what the list gives there
pub stands : (processes : List ProcessState) (p : ℕ) (s x : ProcessState) → slice_get processes p ≡ Some s → x ≡ get_or processes p x → x ≡ s
stands processes p s x made read = read ∙ get_or_from_slice_get processes p s x made

-- ## The same of what the code left
-- worlds of equal parts
pub same_world : {t u : List Node} {f h : OpenFiles} {processes others : List ProcessState} → t ≡ u → f ≡ h → processes ≡ others → world_with t f processes ≡ world_with u h others
same_world tree files processes i = world_with (tree i) (files i) (processes i)

module _ (programs : Programs) (t : List Node) (f : OpenFiles) (processes : List ProcessState)
    (numbering : Numbering) (good : IsWorld programs numbering (world_with t f processes)) (p : ℕ) (s : ProcessState) (e : Event) (call : Syscall) (otherwise : ℕ)
    (after : List Node) (left : OpenFiles) (shows : List Shown) where
  pub succeeds_as : (value : ℕ) (b : Besides) → Succeeds (world_with t f processes) p after left value b shows (answer (world_with t f processes) p s e call) →
      (others : List ProcessState) → others ≡ processes_as processes p s value b →
      Comes (world_with t f processes) p s e call otherwise (Value value) shows (world_with after left others)
  succeeds_as value b y others is =
      subst (λ (v : World). Comes (world_with t f processes) p s e call otherwise (Value value) shows v) (same_world refl refl (sym is))
      (succeeds programs t f processes numbering good p s e call otherwise after left value b shows y)

-- the process that calls, whatever is known to stand at its number
pub same_process : (processes : List ProcessState) (p : ℕ) (s x : ProcessState) → slice_get processes p ≡ Some s → slice_get processes p ≡ Some x → s ≡ x
same_process processes p s x made read = some_same (sym made ∙ read)
  where
    some_same : {a b : ProcessState} → Some a ≡ Some b → a ≡ b
    some_same is = cc

-- the processes where none is made
pub alone : (processes : List ProcessState) (p : ℕ) (s : ProcessState) (value : ℕ) (b : Besides) → b ≢ besides.Child →
    slice_set processes p (succeeded_as s value b) ≡ processes_as processes p s value b
alone processes p s value besides.Nothing other = sym (append-nil (slice_set processes p (succeeded_as s value besides.Nothing)))
alone processes p s value besides.Mode other = sym (append-nil (slice_set processes p (succeeded_as s value besides.Mode)))
alone processes p s value (besides.Second second) other = sym (append-nil (slice_set processes p (succeeded_as s value (besides.Second second))))
alone processes p s value besides.Child other = absurd (other refl)
