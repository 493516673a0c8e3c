-- What an event of a call's lookups comes to, by what is found beneath the directories that its descriptors are of, or is left under way.
use Rattle.std.proofs.Common.{◌≡◌, ℕ, true, false, List, refl, ap, sym, ◌∙◌, subst}
use Rattle.std.specs.Prelude.{Option, Some, None}
use Rattle.file_tree.specs.Nodes.{node, is_dir, is_link}
use Rattle.file_tree.specs.WellFormed.{IsTree}
use Rattle.lookup.specs.Answers.{Beneath, Last, Keep, No_entry}
use Rattle.lookup.specs.Answers as lookups
use Rattle.lookup.specs.Walks.{WalkState}
use Rattle.lookup.proofs.PlaceLaws.{directory_kind, no_directory_link}
use Rattle.process.specs.State.{ProcessState, Walking, One, Two}
use Rattle.instruction_set.specs.Programs.{Operand, Syscall}
use Rattle.fd_table.specs.Descriptions.{Access, At_node, Descriptor}
use Rattle.kernel.specs.World.{World}
use Rattle.kernel.specs.Answers.{Event, Answer, Walks, lookup_fails, value_of}
use Rattle.kernel.specs.Calls.{looks, looks_twice}
use Rattle.kernel.specs.Walks.{FitsIfWalking, From_directory, From_directories, IfOne, IfTwo, lookups_of}
use Rattle.kernel.proofs.Looking.{looks_any, looks_twice_any}
use Rattle.task.specs.Plans.{Plan}
use Rattle.rules.proofs.worlds.Walks.{IsBeside, StartsBeside, WalkIn, WalksIn}
use Rattle.rules.proofs.findings.Findings.{FoundBeneath}
use Rattle.rules.proofs.findings.FoundIn.{IsWalkBeneath, begun_beneath, fault_beneath, first_beneath, later_beneath}

module _ (plan : Plan) (w : World) (p : ℕ) (s : ProcessState) (e : Event) (call : Syscall) (tree : IsTree w.tree)
    (fitting : FitsIfWalking w.tree w.files.objects (w.files.table p) s (Some call) s.walk) (within : WalksIn plan.grants w.tree w.files.objects (w.files.table p) s (Some call) s.walk)
    (P : Answer → Type 0)
    (walks : (walking : Walking) → WalkIn plan.grants w.tree w.files.objects (w.files.table p) (record s { walk = Some walking }) (lookups_of call) walking → P (Walks walking)) where
  abbrev row : ℕ → Option Descriptor
  row = w.files.table p

  -- the directory of a descriptor is where its lookup starts
  starts_at : (entry : Option Descriptor) (d : Descriptor) → entry ≡ Some d → (n : ℕ) (access : Access) → w.files.objects d.description ≡ At_node n access
      → (walk : WalkState) → IsBeside plan.grants w.tree n walk.stand.cursor → StartsBeside plan.grants w.tree w.files.objects entry walk
  starts_at entry d held n access at walk is = record {
    beside = λ k m other here object.
        let both : Some d ≡ Some k = sym held ∙ here in
        let one : d ≡ k = cc in
        let nodes : At_node n access ≡ At_node m other = sym at ∙ ap (λ (x : Descriptor). w.files.objects x.description) one ∙ object in
        let same : n ≡ m = cc in
        subst (λ j. IsBeside plan.grants w.tree j walk.stand.cursor) same is;
  }

  -- ## Beneath a directory
  under_beneath : (x : Operand) (path : List ℕ) (last : Last) → lookups_of call ≡ From_directory x path last → (d : Descriptor) → row (value_of s x) ≡ Some d
      → (n : ℕ) (access : Access) → w.files.objects d.description ≡ At_node n access → (o : Option Walking)
      → FitsIfWalking w.tree w.files.objects row s (Some call) o → WalksIn plan.grants w.tree w.files.objects row s (Some call) o
      → IfOne (IsWalkBeneath plan.grants w.tree tree n path last) o
  under_beneath x path last asks d held n access at None fits is = tt
  under_beneath x path last asks d held n access at (Some (One walk)) fits is =
      let both = rw asks at fits in
      let starts = rw asks at is in
      (both.1, starts.beside d n access held at)
  under_beneath x path last asks d held n access at (Some (Two one other)) fits is = tt

  pub looks_beneath : (x : Operand) (path : List ℕ) (last : Last) → lookups_of call ≡ From_directory x path last → (d : Descriptor) → row (value_of s x) ≡ Some d
      → (n : ℕ) (access : Access) → w.files.objects d.description ≡ At_node n access → is_dir (node w.tree n).kind ≡ true → (rest : lookups.Finding → Answer)
      → ((a : lookups.Finding) → FoundBeneath plan.grants w.tree n path last a → P (rest a)) → P (looks w p s e n Beneath path last rest)
  looks_beneath x path last asks d held n access at dir rest owed =
      let opened : is_link (node w.tree n).kind ≡ false = no_directory_link (node w.tree n).kind (directory_kind (node w.tree n).kind dir) in
      looks_any P w p s e n Beneath path last rest (FoundBeneath plan.grants w.tree n path last) (IsWalkBeneath plan.grants w.tree tree n path last)
      (under_beneath x path last asks d held n access at s.walk fitting within)
      (first_beneath plan.grants w.tree tree n path last opened)
      (later_beneath plan.grants w.tree tree n path last)
      owed
      (λ walk is. walks (One walk) (rw asks (starts_at (row (value_of s x)) d held n access at walk is.1)))

  -- ## Beneath two directories
  under_both : (x : Operand) (from : List ℕ) (y : Operand) (to : List ℕ) → lookups_of call ≡ From_directories x from y to
      → (d : Descriptor) → row (value_of s x) ≡ Some d → (n : ℕ) (access : Access) → w.files.objects d.description ≡ At_node n access
      → (k : Descriptor) → row (value_of s y) ≡ Some k → (m : ℕ) (second : Access) → w.files.objects k.description ≡ At_node m second
      → (o : Option Walking) → FitsIfWalking w.tree w.files.objects row s (Some call) o → WalksIn plan.grants w.tree w.files.objects row s (Some call) o
      → IfTwo (IsWalkBeneath plan.grants w.tree tree n from Keep) (IsWalkBeneath plan.grants w.tree tree m to Keep) o
  under_both x from y to asks d held n access at k other m second there None fits is = tt
  under_both x from y to asks d held n access at k other m second there (Some (One walk)) fits is = tt
  under_both x from y to asks d held n access at k other m second there (Some (Two one two)) fits is =
      let all = rw asks at fits in
      let starts = rw asks at is in
      ((all.2, starts.0.beside d n access held at), (all.3, starts.1.beside k m second other there))

  pub looks_both : ((fault : lookups.LookupFault) → P (lookup_fails fault)) → (x : Operand) (from : List ℕ) (y : Operand) (to : List ℕ) → lookups_of call ≡ From_directories x from y to
      → (d : Descriptor) → row (value_of s x) ≡ Some d → (n : ℕ) (access : Access) → w.files.objects d.description ≡ At_node n access → is_dir (node w.tree n).kind ≡ true
      → (k : Descriptor) → row (value_of s y) ≡ Some k → (m : ℕ) (second : Access) → w.files.objects k.description ≡ At_node m second → is_dir (node w.tree m).kind ≡ true
      → (rest : lookups.Finding → lookups.Finding → Answer)
      → ((a b : lookups.Finding) → FoundBeneath plan.grants w.tree n from Keep a → FoundBeneath plan.grants w.tree m to Keep b → P (rest a b))
      → P (looks_twice w p s e n from m to rest)
  looks_both faults x from y to asks d held n access at dir k other m second there also rest owed =
      let opened : is_link (node w.tree n).kind ≡ false = no_directory_link (node w.tree n).kind (directory_kind (node w.tree n).kind dir) in
      let no_link : is_link (node w.tree m).kind ≡ false = no_directory_link (node w.tree m).kind (directory_kind (node w.tree m).kind also) in
      looks_twice_any P w p s e faults n from m to rest
      (FoundBeneath plan.grants w.tree n from Keep) (FoundBeneath plan.grants w.tree m to Keep)
      (IsWalkBeneath plan.grants w.tree tree n from Keep) (IsWalkBeneath plan.grants w.tree tree m to Keep)
      (under_both x from y to asks d held n access at k other m second there s.walk fitting within)
      (begun_beneath plan.grants w.tree tree n from Keep opened refl) (begun_beneath plan.grants w.tree tree m to Keep no_link refl)
      (fault_beneath plan.grants w.tree tree n from Keep No_entry) (fault_beneath plan.grants w.tree tree m to Keep No_entry)
      (later_beneath plan.grants w.tree tree n from Keep) (later_beneath plan.grants w.tree tree m to Keep)
      (λ found place one two. owed found place one two)
      (λ one two first last.
      walks (Two one two)
      (rw asks (starts_at (row (value_of s x)) d held n access at one first.1, starts_at (row (value_of s y)) k other m second there two last.1)))
