-- What other processes have under way stays in its grants, whatever a step changes in the tree.
use Rattle.std.proofs.Common.{◌≡◌, ℕ, ◌<◌, true, List, [], ◌∷◌, ap, sym, ◌∙◌, subst, length}
use Rattle.std.specs.Prelude.{Option, Some, None}
use Rattle.std.specs.List.{slice_get}
use Rattle.file_tree.specs.Nodes.{Node, node, is_link}
use Rattle.file_tree.specs.Places.{begins}
use Rattle.file_tree.proofs.PlaceLaws.{begins_from}
use Rattle.lookup.specs.ByNodes.{Walked}
use Rattle.lookup.specs.Walks.{WalkState}
use Rattle.lookup.proofs.UnderWay.{there_if_opened}
use Rattle.process.specs.State.{ProcessState, Walking, One, Two}
use Rattle.instruction_set.specs.Programs.{Syscall}
use Rattle.fd_table.specs.Descriptions.{Access, Object, At_node, Descriptor}
use Rattle.kernel.specs.Answers.{value_of}
use Rattle.kernel.specs.Walks.{Lookups, No_path, From_root, From_directory, From_directories, lookups_of, under_way}
use Rattle.task.specs.Plans.{Grant, Plan, programs_of_plan}
use Rattle.task.specs.KeptLimits.{KeepsGrants}
use Rattle.rules.proofs.worlds.Walks.{AllIn, IsBeside, StartsBeside, IsAlong, IsOpening, WalkIn, WalksIn, IsWalkerIn}
use Rattle.rules.proofs.frames.KeptTrees.{IsDeep, IsStill, KeepsTree, goes_on, not_deep}

module _ (plan : Plan) (grants : KeepsGrants plan) (t u : List Node) (keeps : KeepsTree plan.grants t u) where
  in_later : (name : List ℕ) (nodes : List ℕ) → AllIn plan.grants name t nodes → AllIn plan.grants name u nodes
  in_later name [] all = tt
  in_later name (n ∷ nodes) all = (goes_on plan.grants t u keeps n name all.0, in_later name nodes all.1)

  beside_later : (start : ℕ) (at : Walked) → start < length t → IsBeside plan.grants t start at → IsBeside plan.grants u start at
  beside_later start at there is =
      record { within = λ name held. in_later name (at.current ∷ at.before) (is.within name (sym (keeps.holds start there name) ∙ held)) }

  along_later : (i : ℕ) (g : Grant) → slice_get plan.grants i ≡ Some g → (at : Walked) (left : List (List ℕ)) → IsAlong t g.path at left → IsAlong u g.path at left
  along_later i g there at left is =
      let fronts : begins is.front g.path ≡ true = begins_from is.front g.path left is.whole in
      let out : IsDeep plan.grants (node t at.current).place → ⊥ =
      λ deep. not_deep plan grants t i g there is.front fronts (subst (IsDeep plan.grants) is.stands deep) in
      let same : IsStill (node t at.current) (node u at.current) = keeps.outside at.current (there_if_opened t at.current is.opened) out in
      record {
        front = is.front;
        whole = is.whole;
        opened = ap is_link same.kind ∙ is.opened;
        stands = same.place ∙ is.stands;
      }

  opening_later : (path : List ℕ) (walk : WalkState) → IsOpening plan.grants t path walk → IsOpening plan.grants u path walk
  opening_later path walk is =
      record { along = λ i g there same. along_later i g there walk.stand.cursor walk.stand.left (is.along i g there same) }

  -- A process whose state and table stay, and the descriptions that its table names.
  module _ (objects later : ℕ → Object) (row new : ℕ → Option Descriptor) (s : ProcessState) (rows : (m : ℕ) → new m ≡ row m)
      (same : (m : ℕ) (d : Descriptor) → row m ≡ Some d → later d.description ≡ objects d.description)
      (nodes : (m : ℕ) (d : Descriptor) (n : ℕ) (access : Access) → row m ≡ Some d → objects d.description ≡ At_node n access → n < length t) where
    starts_later : (m : ℕ) (walk : WalkState) → StartsBeside plan.grants t objects (row m) walk → StartsBeside plan.grants u later (new m) walk
    starts_later m walk is = record {
      beside = λ d n access here at.
          let old : row m ≡ Some d = sym (rows m) ∙ here in
          let object : objects d.description ≡ At_node n access = sym (same m d old) ∙ at in
          beside_later n walk.stand.cursor (nodes m d n access old object) (is.beside d n access old object);
    }

    walk_later : (looks : Lookups) (walking : Walking) → WalkIn plan.grants t objects row s looks walking → WalkIn plan.grants u later new s looks walking
    walk_later No_path walking is = tt
    walk_later (From_root path last) (One walk) is = opening_later path walk is
    walk_later (From_root path last) (Two one other) is = tt
    walk_later (From_directory x path last) (One walk) is = starts_later (value_of s x) walk is
    walk_later (From_directory x path last) (Two one other) is = tt
    walk_later (From_directories x from y to) (One walk) is = tt
    walk_later (From_directories x from y to) (Two one other) is = (starts_later (value_of s x) one is.0, starts_later (value_of s y) other is.1)

    walks_later : (call : Option Syscall) (walking : Option Walking) → WalksIn plan.grants t objects row s call walking → WalksIn plan.grants u later new s call walking
    walks_later call None is = tt
    walks_later None (Some walking) is = tt
    walks_later (Some call) (Some walking) is = walk_later (lookups_of call) walking is

    pub walker_later : IsWalkerIn plan t objects row s → IsWalkerIn plan u later new s
    walker_later is = record { walks = walks_later (under_way (programs_of_plan plan) s) s.walk is.walks }
