-- What holds of the lookups that processes have under way, besides that they are of their calls.
use Rattle.std.proofs.Common.{◌≡◌, ℕ, true, false, List, [], ◌∷◌, ◌++◌}
use Rattle.std.specs.Prelude.{Option, Some, None}
use Rattle.std.specs.List.{slice_get}
use Rattle.file_tree.specs.Places.{place_text}
use Rattle.file_tree.specs.Nodes.{Node, node, is_link}
use Rattle.lookup.specs.ByNodes.{Walked}
use Rattle.lookup.specs.Walks.{WalkState}
use Rattle.process.specs.State.{ProcessState, Walking, One, Two}
use Rattle.instruction_set.specs.Programs.{Syscall}
use Rattle.fd_table.specs.Descriptions.{Access, Object, At_node, Descriptor}
use Rattle.kernel.specs.Answers.{value_of}
use Rattle.kernel.specs.Walks.{Lookups, No_path, From_root, From_directory, From_directories, lookups_of, under_way}
use Rattle.task.specs.Plans.{Grant, Plan, programs_of_plan}
use Rattle.task.specs.Policies.{grant_holds}

-- ## One lookup
-- each node of a list lies in the grant
abbrev pub AllIn : List Grant → List ℕ → List Node → List ℕ → Type 0
AllIn grants name t [] = Unit {0}
AllIn grants name t (n ∷ nodes) = (grant_holds grants name (node t n).place ≡ true) × AllIn grants name t nodes

-- Where it stands, and what it walked before, lies in each grant that its start lies in.
pub record IsBeside (grants : List Grant) (t : List Node) (start : ℕ) (at : Walked) : Type 0 where
  pub within : (name : List ℕ) → grant_holds grants name (node t start).place ≡ true → AllIn grants name t (at.current ∷ at.before)

-- the same of the start that a descriptor is of
pub record StartsBeside (grants : List Grant) (t : List Node) (objects : ℕ → Object) (entry : Option Descriptor) (walk : WalkState) : Type 0 where
  pub beside : (d : Descriptor) (n : ℕ) (access : Access) → entry ≡ Some d → objects d.description ≡ At_node n access → IsBeside grants t n walk.stand.cursor

-- It stands at the first names of a place, and has the others left.
pub record IsAlong (t : List Node) (place : List (List ℕ)) (at : Walked) (left : List (List ℕ)) : Type 0 where
  pub front : List (List ℕ)
  pub whole : place ≡ front ++ left
  pub opened : is_link (node t at.current).kind ≡ false
  pub stands : (node t at.current).place ≡ front

-- so it does where its path is that of a grant
pub record IsOpening (grants : List Grant) (t : List Node) (path : List ℕ) (walk : WalkState) : Type 0 where
  pub along : (i : ℕ) (g : Grant) → slice_get grants i ≡ Some g → place_text g.path ≡ path → IsAlong t g.path walk.stand.cursor walk.stand.left

-- ## What a process has under way
module _ (grants : List Grant) (t : List Node) (objects : ℕ → Object) (row : ℕ → Option Descriptor) (s : ProcessState) where
  abbrev pub WalkIn : Lookups → Walking → Type 0
  WalkIn No_path walking = Unit {0}
  WalkIn (From_root path last) (One walk) = IsOpening grants t path walk
  WalkIn (From_root path last) (Two one other) = Unit {0}
  WalkIn (From_directory x path last) (One walk) = StartsBeside grants t objects (row (value_of s x)) walk
  WalkIn (From_directory x path last) (Two one other) = Unit {0}
  WalkIn (From_directories x from y to) (One walk) = Unit {0}
  WalkIn (From_directories x from y to) (Two one other) =
      StartsBeside grants t objects (row (value_of s x)) one × StartsBeside grants t objects (row (value_of s y)) other

  abbrev pub WalksIn : Option Syscall → Option Walking → Type 0
  WalksIn call None = Unit {0}
  WalksIn None (Some walking) = Unit {0}
  WalksIn (Some call) (Some walking) = WalkIn (lookups_of call) walking

pub record IsWalkerIn (plan : Plan) (t : List Node) (objects : ℕ → Object) (row : ℕ → Option Descriptor) (s : ProcessState) : Type 0 where
  pub walks : WalksIn plan.grants t objects row s (under_way (programs_of_plan plan) s) s.walk

-- nothing is under way
pub rests : (plan : Plan) (t : List Node) (objects : ℕ → Object) (row : ℕ → Option Descriptor) (s : ProcessState) → s.walk ≡ None → IsWalkerIn plan t objects row s
rests plan t objects row s none = record { walks = go s.walk none }
  where
    go : (o : Option Walking) → o ≡ None → WalksIn plan.grants t objects row s (under_way (programs_of_plan plan) s) o
    go None is = tt
    go (Some walking) is = absurd cc
