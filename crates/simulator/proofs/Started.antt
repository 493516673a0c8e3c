-- The world that a task's start makes is the model's but for numbers, and well formed.
use Rattle.std.proofs.Common.{◌≡◌, ◌⊎◌, inl, inr, ℕ, zero, suc, ◌+◌, ◌<◌, ◌≤◌, true, false, List, [], length, map, ap, sym, subst, ◌∙◌, arith}
use Rattle.std.specs.Prelude.{Option, Some, None}
use Rattle.std.specs.List.{slice_get}
use Rattle.process.specs.State.{ProcessState}
use Rattle.file_tree.specs.Nodes.{Node, is_link, node}
use Rattle.fd_table.specs.Descriptions.{Object, At_node, At_end, Descriptor, State, IfHeld}
use Rattle.fd_table.specs.OpenFiles.{OpenFiles}
use Rattle.file_tree.specs.WellFormed.{IsTree}
use Rattle.kernel.proofs.Fresh.{lt_or_le}
use Rattle.kernel.specs.World.{World}
use Rattle.kernel.specs.Renamings.{DiffersInNumbers, SameObject, SameFiles, renamed_entry, renamed_messages, renamed_object}
use Rattle.kernel.specs.WellFormed.{EachMessage, HasNone, IsDescriptor, IsProcessIfMade, IsObject, IsWellFormed, Numbering}
use Rattle.task.specs.Plans.{Plan, programs_of_plan}
use Rattle.task.specs.Limits.{is_plan}
use Rattle.syscalls.specs.Views.{world_with}
use Rattle.task.specs.Begins.{first_files, first_process, first_world}
use Rattle.task.proofs.AsGiven.{first_is_first}
use Rattle.kernel.specs.Walks.{IsWalkerIfMade}
use Rattle.task.proofs.FirstWorlds.{first_well_formed, none_walks}
use Rattle.simulator.specs.Starts.{Awaits, awaiting, owned_from}
use Rattle.simulator.proofs.Given.{all_given}

-- ## Well-formed worlds
bound : (ℕ → ℕ) → ℕ → ℕ
bound f zero = 0
bound f (suc n) = bound f n + f n + 1

below_bound : (f : ℕ → ℕ) (n m : ℕ) → m < n → f m < bound f n
unfolding bound
below_bound f zero m low = absurd (omega arith)
below_bound f (suc n) m low = by_place (lt_or_le m n) (λ before. below_bound f n m before)
  where
    by_place : (m < n) ⊎ (n ≤ m) → (m < n → f m < bound f n) → f m < bound f (suc n)
    by_place (inl before) rest = let one : f m < bound f n = rest before in omega arith
    by_place (inr last) rest =
        let same : m ≡ n = omega arith in
        let number : f m ≡ f n = ap f same in
        omega arith

module _ (plan : Plan) (test : is_plan plan ≡ true) (w : World) (d : DiffersInNumbers (first_world plan) w) where
  abbrev first : World
  first = first_world plan

  abbrev good : IsWellFormed (programs_of_plan plan) first
  good = (first_well_formed plan test).1.formed

  abbrev numbering : Numbering
  numbering = record {
    descriptions = bound d.renaming.description good.numbering.descriptions;
    pairs = bound d.renaming.pair good.numbering.pairs;
    holder = λ pair side. d.renaming.description (good.numbering.holder (d.renaming.pair_back pair) side);
    class = λ pair. good.numbering.class (d.renaming.pair_back pair);
  }

  object : (n : ℕ) (o : Object) → IsObject first.tree good.numbering n o → IsObject w.tree numbering (d.renaming.description n) (renamed_object d.renaming o)
  object n (At_node m access) fine = subst (λ tree. is_link (node tree m).kind ≡ false) (sym d.tree) fine
  object n (At_end pair side class) fine = (
    below_bound d.renaming.pair good.numbering.pairs pair fine.0,
    fine.1,
    ap (λ p. d.renaming.description (good.numbering.holder p side)) (d.renaming.pair_here pair) ∙ ap d.renaming.description fine.2,
    ap good.numbering.class (d.renaming.pair_here pair) ∙ fine.3,
  )

  descriptor : (e : Option Descriptor) → IfHeld (IsDescriptor first.tree good.numbering first.files.objects first.files.states) e →
      IfHeld (λ x. SameObject d.renaming first.files w.files x.description) e →
      IfHeld (IsDescriptor w.tree numbering w.files.objects w.files.states) (renamed_entry d.renaming e)
  descriptor None fine same = tt
  descriptor (Some x) fine same = record {
    number = below_bound d.renaming.description good.numbering.descriptions x.description fine.number;
    rights = fine.rights;
    fcntls = fine.fcntls;
    object = subst (IsObject w.tree numbering (d.renaming.description x.description)) (sym same.object) (object x.description (first.files.objects x.description) fine.object);
    offset = subst (λ (s : State). s.offset ≤ 4096) (sym same.state) fine.offset;
  }

  no_queue : (pair side : ℕ) → w.files.queue pair side ≡ []
  no_queue pair side =
      ap (λ q. w.files.queue q side) (sym (d.renaming.pair_there pair))
      ∙ d.files.queue (d.renaming.pair_back pair) side
      ∙ ap (renamed_messages d.renaming) ((first_is_first plan test).queues (d.renaming.pair_back pair) side)

  no_entry : (e : Option Descriptor) → e ≡ None → renamed_entry d.renaming e ≡ None
  no_entry e is = ap (renamed_entry d.renaming) is

  none_more : (s : Option ProcessState) (p : ℕ) → HasNone s (first.files.table p) → HasNone s (w.files.table p)
  none_more None p none = λ n. d.files.table p n ∙ no_entry (first.files.table p n) (none n)
  none_more (Some s) p none = λ dead n. d.files.table p n ∙ no_entry (first.files.table p n) (none dead n)

  resting : (p : ℕ) → IsWalkerIfMade (programs_of_plan plan) w.tree w.files.objects (w.files.table p) (slice_get w.processes p)
  unfolding first_world
  resting p =
      subst (λ ps. IsWalkerIfMade (programs_of_plan plan) w.tree w.files.objects (w.files.table p) (slice_get ps p)) (sym d.processes)
      (none_walks plan w.tree w.files.objects (w.files.table p) plan.starts p)

  pub started_good : IsWellFormed (programs_of_plan plan) w
  started_good = record {
    walks = resting;
    numbering = numbering;
    world = record {
      tree = subst IsTree (sym d.tree) good.world.tree;
      some = subst (λ ps. 0 < length ps) (sym d.processes) good.world.some;
      few = subst (λ ps. length ps ≤ 16) (sym d.processes) good.world.few;
      processes = λ p. subst (λ ps. IsProcessIfMade (programs_of_plan plan) (slice_get ps p)) (sym d.processes) (good.world.processes p);
      entries = λ p n. subst (IfHeld (IsDescriptor w.tree numbering w.files.objects w.files.states)) (sym (d.files.table p n))
          (descriptor (first.files.table p n) (good.world.entries p n) (d.files.entries p n));
      numbers = λ p n far. d.files.table p n ∙ no_entry (first.files.table p n) (good.world.numbers p n far);
      gone = λ p. subst (λ s. HasNone s (w.files.table p)) (ap (λ ps. slice_get ps p) (sym d.processes)) (none_more (slice_get first.processes p) p (good.world.gone p));
      messages = λ pair side. subst (EachMessage (IsDescriptor w.tree numbering w.files.objects w.files.states)) (sym (no_queue pair side)) tt;
      short = λ pair side. subst (λ messages. length messages ≤ 16) (sym (no_queue pair side)) (omega arith);
      idle = λ pair side far. no_queue pair side;
      sides = λ pair side far. no_queue pair side;
    };
  }

-- where all are open as they are given, the world is the model's but for numbers
pub begun_world : (plan : Plan) (tree : List Node) (f : OpenFiles) (processes : List ProcessState) → Awaits (owned_from 0 plan.starts) [] f →
    tree ≡ plan.nodes → processes ≡ map (first_process plan.programs) plan.starts → DiffersInNumbers (first_world plan) (world_with tree f processes)
unfolding first_world awaiting first_files
begun_world plan tree f processes b same_tree same_processes =
    record { renaming = b.renaming; tree = same_tree; processes = same_processes; files = subst (λ given. SameFiles b.renaming (first_files given) f) (all_given plan.starts) b.files }
