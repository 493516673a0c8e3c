-- What fits a call is under way as the call's paths say; and a call without one has nothing under way.
use Rattle.std.proofs.Common.{◌≡◌, ℕ, List, Option, Some, None, refl}
use Rattle.file_tree.specs.Nodes.{Node}
use Rattle.lookup.specs.Answers.{Beneath, Global, Last, Keep}
use Rattle.lookup.specs.UnderWay.{IsUnderWay}
use Rattle.process.specs.State.{ProcessState, Walking, One, Two}
use Rattle.instruction_set.specs.Programs.{Operand, Syscall}
use Rattle.fd_table.specs.Descriptions.{Object, Descriptor}
use Rattle.kernel.specs.Walks.{FitsIfWalking, From_directories, From_directory, From_root, IfOne, IfTwo, IsDirectory, No_path, lookups_of}
use Rattle.kernel.specs.Answers.{value_of}

module _ (tree : List Node) (objects : ℕ → Object) (row : ℕ → Option Descriptor) (s : ProcessState) where
  abbrev IsFit : Syscall → Option Walking → Type 0
  IsFit call o = FitsIfWalking tree objects row s (Some call) o

  pub root_under : (call : Syscall) (path : List ℕ) (last : Last) (o : Option Walking) → lookups_of call ≡ From_root path last → IsFit call o → IfOne (IsUnderWay tree path Global last) o
  root_under call path last None is fits = tt
  root_under call path last (Some (One walk)) is fits = rw is at fits
  root_under call path last (Some (Two one other)) is fits = tt

  pub directory_under : (call : Syscall) (x : Operand) (path : List ℕ) (last : Last) (o : Option Walking) → lookups_of call ≡ From_directory x path last → IsFit call o →
      IfOne (IsUnderWay tree path Beneath last) o
  directory_under call x path last None is fits = tt
  directory_under call x path last (Some (One walk)) is fits = let both = rw is at fits in both.1
  directory_under call x path last (Some (Two one other)) is fits = tt

  pub both_under : (call : Syscall) (x : Operand) (from : List ℕ) (y : Operand) (to : List ℕ) (o : Option Walking) → lookups_of call ≡ From_directories x from y to → IsFit call o →
      IfTwo (IsUnderWay tree from Beneath Keep) (IsUnderWay tree to Beneath Keep) o
  both_under call x from y to None is fits = tt
  both_under call x from y to (Some (One walk)) is fits = tt
  both_under call x from y to (Some (Two one other)) is fits = let all = rw is at fits in (all.2, all.3)

  pub none_under : (call : Syscall) (o : Option Walking) → lookups_of call ≡ No_path → IsFit call o → o ≡ None
  none_under call None is fits = refl
  none_under call (Some walking) is fits = let never = rw is at fits in absurd never

  -- its descriptors are of directories
  pub directory_start : (call : Syscall) (x : Operand) (path : List ℕ) (last : Last) (walking : Walking) → lookups_of call ≡ From_directory x path last →
      IsFit call (Some walking) → IsDirectory tree objects (row (value_of s x))
  directory_start call x path last (One walk) is fits = let both = rw is at fits in both.0
  directory_start call x path last (Two one other) is fits = let never = rw is at fits in absurd never

  pub both_starts : (call : Syscall) (x : Operand) (from : List ℕ) (y : Operand) (to : List ℕ) (walking : Walking) → lookups_of call ≡ From_directories x from y to →
      IsFit call (Some walking) → IsDirectory tree objects (row (value_of s x)) × IsDirectory tree objects (row (value_of s y))
  both_starts call x from y to (One walk) is fits = let never = rw is at fits in absurd never
  both_starts call x from y to (Two one other) is fits = let all = rw is at fits in (all.0, all.1)
