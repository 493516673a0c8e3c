-- What each kind of change leaves of everybody else: the frame of each world that a step leads to.
use Rattle.std.proofs.Common.{◌≡◌, ◌≢◌, ℕ, zero, suc, ◌<◌, List, [], ◌∷◌, ◌++◌, refl, ap, ◌∙◌, length, arith}
use Rattle.std.specs.Prelude.{slice_set, Option, Some, None}
use Rattle.std.specs.List.{slice_get}
use Rattle.rights.specs.Maps.{put, put2}
use Rattle.rights.specs.Sets.{all_rights, all_commands}
use Rattle.rights.proofs.Changes.{put-other}
use Rattle.rights.proofs.Lists.{slice_get-set_cases}
use Rattle.process.specs.State.{ProcessState, ended}
use Rattle.fd_table.specs.Descriptions.{Object, At_node, At_end, Descriptor, descriptor_of}
use Rattle.kernel.specs.World.{World, Choice, IsFresh}
use Rattle.kernel.specs.Answers.{Same_tree, TableChange, Same_table, Set_entry, Clear_entry, New_file, New_pair, New_process, QueueChange, Same_queue, Change}
use Rattle.kernel.specs.Changes.{objects_after, table_after, files_after, changed}
use Rattle.kernel.specs.Steps.{with_process, halted}
use Rattle.kernel.specs.WellFormed.{IsWellFormed}
use Rattle.task.specs.Plans.{Plan, programs_of_plan}
use Rattle.task.specs.KeptLimits.{KeepsGrants}
use Rattle.rules.proofs.frames.KeptTrees.{IsDeepChange, keeps_tree}
use Rattle.rules.proofs.frames.Frames.{Keeps, Frame}

-- A process of a well-formed world acts under a fresh choice.
pub record Acts (plan : Plan) (w : World) (p : ℕ) (s : ProcessState) (choice : Choice) : Type 0 where
  pub grants : KeepsGrants plan
  pub formed : IsWellFormed (programs_of_plan plan) w
  pub made : slice_get w.processes p ≡ Some s
  pub fresh : IsFresh w.files choice

-- ## Processes
pub get_front : {A : Type 0} (xs ys : List A) (i : ℕ) (x : A) → slice_get xs i ≡ Some x → slice_get (xs ++ ys) i ≡ Some x
get_front [] ys i x is = absurd cc
get_front (y ∷ xs) ys zero x is = is
get_front (y ∷ xs) ys (suc i) x is = get_front xs ys i x is

pub get_below : {A : Type 0} (xs : List A) (i : ℕ) (x : A) → slice_get xs i ≡ Some x → i < length xs
get_below [] i x is = absurd cc
get_below (y ∷ xs) zero x is = omega arith
get_below (y ∷ xs) (suc i) x is = let rest : i < length xs = get_below xs i x is in omega (arith, rest)

other_process : (processes : List ProcessState) (p : ℕ) (t : ProcessState) (q : ℕ) (s : ProcessState) → q ≢ p → slice_get processes q ≡ Some s
    → slice_get (slice_set processes p t) q ≡ Some s
other_process processes p t q s other is =
    slice_get-set_cases (λ o. o ≡ Some s) processes p t q (λ same. absurd (other same)) is

-- ## Objects and tables
pub object_kept : (objects : ℕ → Object) (choice : Choice) (table : TableChange) (n : ℕ) → n ≢ choice.first → n ≢ choice.second → objects_after objects choice table n ≡ objects n
object_kept objects choice Same_table n one two = refl
object_kept objects choice (Set_entry number d) n one two = refl
object_kept objects choice (Clear_entry number) n one two = refl
object_kept objects choice (New_file number m access append rights fcntls) n one two = put-other objects choice.first (At_node m access) n one
object_kept objects choice (New_pair first second class) n one two =
    put-other (put objects choice.first (At_end choice.pair 0 class)) choice.second (At_end choice.pair 1 class) n two
    ∙ put-other objects choice.first (At_end choice.pair 0 class) n one
object_kept objects choice New_process n one two = refl

other_row : (table : ℕ → ℕ → Option Descriptor) (p number : ℕ) (o : Option Descriptor) (q n : ℕ) → q ≢ p → put2 table p number o q n ≡ table q n
other_row table p number o q n other = ap (λ (row : ℕ → Option Descriptor). row n) (put-other table p (put (table p) number o) q other)

other_table : (table : ℕ → ℕ → Option Descriptor) (p made : ℕ) (choice : Choice) (change : TableChange) (q n : ℕ) → q ≢ p → q ≢ made
    → table_after table p made choice change q n ≡ table q n
other_table table p made choice Same_table q n other old = refl
other_table table p made choice (Set_entry number d) q n other old = other_row table p number (Some d) q n other
other_table table p made choice (Clear_entry number) q n other old = other_row table p number None q n other
other_table table p made choice (New_file number m access append rights fcntls) q n other old =
    other_row table p number (Some (descriptor_of choice.first rights fcntls)) q n other
other_table table p made choice (New_pair first second class) q n other old =
    let one : ℕ → ℕ → Option Descriptor = put2 table p first (Some (descriptor_of choice.first all_rights all_commands)) in
    other_row one p second (Some (descriptor_of choice.second all_rights all_commands)) q n other
    ∙ other_row table p first (Some (descriptor_of choice.first all_rights all_commands)) q n other
other_table table p made choice New_process q n other old = ap (λ (row : ℕ → Option Descriptor). row n) (put-other table made (table p) q old)

-- ## Frames
module _ (plan : Plan) (w : World) (p : ℕ) (s : ProcessState) (choice : Choice) (acts : Acts plan w p s choice) where
  framed : (v : World) (queue : QueueChange) → Keeps plan w v choice queue p → Frame plan w v choice queue p
  framed v queue keeps = record { formed = acts.formed; fresh = acts.fresh; keeps = keeps }

  -- nothing changes
  pub frame_same : Frame plan w w choice Same_queue p
  frame_same = framed w Same_queue (record {
    objects = λ n one two. refl;
    tree = keeps_tree plan acts.grants w.tree Same_tree tt;
    processes = λ q r other is. is;
    tables = λ q r other is n. refl;
    queues = λ pair side. refl;
  })

  -- another state of the process
  pub frame_process : (t : ProcessState) → Frame plan w (with_process w p t) choice Same_queue p
  frame_process t = framed (with_process w p t) Same_queue (record {
    objects = λ n one two. refl;
    tree = keeps_tree plan acts.grants w.tree Same_tree tt;
    processes = λ q r other is. other_process w.processes p t q r other is;
    tables = λ q r other is n. refl;
    queues = λ pair side. refl;
  })

  -- the process ends and its table is closed
  pub frame_halted : (t : ProcessState) → Frame plan w (halted w p t) choice Same_queue p
  frame_halted t = framed (halted w p t) Same_queue (record {
    objects = λ n one two. refl;
    tree = keeps_tree plan acts.grants w.tree Same_tree tt;
    processes = λ q r other is. other_process w.processes p (ended t) q r other is;
    tables = λ q r other is n. ap (λ (row : ℕ → Option Descriptor). row n) (put-other w.files.table p (λ k. None) q other);
    queues = λ pair side. refl;
  })

  -- a call's change, where it is deep
  pub frame_changed : (t : ProcessState) (change : Change) → IsDeepChange plan.grants w.tree change.tree → Frame plan w (changed w p t choice change) choice change.queue p
  unfolding changed files_after
  frame_changed t change deep = framed (changed w p t choice change) change.queue (record {
    objects = λ n one two. object_kept w.files.objects choice change.table n one two;
    tree = keeps_tree plan acts.grants w.tree change.tree deep;
    processes = λ q r other is. get_front (slice_set w.processes p t) _ q r (other_process w.processes p t q r other is);
    tables = λ q r other is n.
        let below : q < length w.processes = get_below w.processes q r is in
        other_table w.files.table p (length w.processes) choice change.table q n other (λ same. absurd (omega (arith, same, below)));
    queues = λ pair side. refl;
  })
