-- What processes have under way stays of their calls, whatever a step of one of them changes.
use Rattle.std.proofs.Common.{◌≡◌, ℕ, zero, suc, ◌<◌, true, false, List, [], ◌∷◌, ◌++◌, refl, length, arith, subst, ap, sym, ◌∙◌, append-nil}
use Rattle.std.specs.Prelude.{◌≢◌, Option, Some, None, slice_set}
use Rattle.std.specs.List.{slice_get}
use Rattle.std.proofs.lemmas.Option.{slice_get_within}
use Rattle.rights.specs.Maps.{put, put2}
use Rattle.rights.proofs.Changes.{put-other}
use Rattle.file_tree.specs.Nodes.{Node, node, is_link}
use Rattle.lookup.specs.Answers.{Way, Last}
use Rattle.lookup.specs.UnderWay.{AreOpened, IsUnderWay}
use Rattle.lookup.specs.Walks.{WalkState}
use Rattle.process.specs.State.{ProcessState, Walking, One, Two, ended, forked}
use Rattle.instruction_set.specs.Programs.{Instruction, Operand, Syscall}
use Rattle.fd_table.specs.Descriptions.{At_node, At_end, Object, Descriptor, IfHeld}
use Rattle.fd_table.specs.OpenFiles as open_files
use Rattle.fd_table.specs.OpenFiles.{OpenFiles, Alike}
use Rattle.kernel.specs.World.{World, Choice, IsFresh}
use Rattle.kernel.specs.Answers.{TreeChange, TableChange, Same_table, Set_entry, Clear_entry, New_file, New_pair, New_process, operand_value, value_of}
use Rattle.kernel.specs.Changes.{tree_after, objects_after, table_after, processes_after}
use Rattle.kernel.specs.Steps.{Programs, with_process, halted, next_instruction}
use Rattle.kernel.specs.Walks.{FitsLookups, FitsIfWalking, From_directories, From_directory, From_root, IsDirectory, IsDirectoryOf, IsWalker, IsWalkerIfMade, Lookups, No_path, call_in}
use Rattle.kernel.specs.Walks.{lookups_of, under_way}
use Rattle.kernel.specs.WellFormed.{Numbering, IsWorld}
use Rattle.kernel.proofs.Brings.{ground, Known}
use Rattle.kernel.proofs.Fresh.{IsApart, known_entries}
use Rattle.kernel.proofs.Later.{object-kept}
use Rattle.kernel.proofs.Trees.{kinds_kept}

-- the others of a list where one is set, and one more behind it
pub set_other_cases : {A : Type 0} (Q : Option A → Type 0) (xs : List A) (p : ℕ) (v : A) (m : ℕ) → Q None → (m ≡ p → Q (Some v)) → (m ≢ p → Q (slice_get xs m)) →
    Q (slice_get (slice_set xs p v) m)
set_other_cases Q [] p v m none here there = none
set_other_cases Q (x ∷ xs) zero v zero none here there = here refl
set_other_cases Q (x ∷ xs) zero v (suc m) none here there = there (λ same. absurd (omega (arith, same)))
set_other_cases Q (x ∷ xs) (suc p) v zero none here there = there (λ same. absurd (omega (arith, same)))
set_other_cases Q (x ∷ xs) (suc p) v (suc m) none here there =
    set_other_cases Q xs p v m none (λ same. here (ap suc same)) (λ other. there (λ same. other (omega (arith, same))))

pub slice_get-more_cases : {A : Type 0} (Q : Option A → Type 0) (xs : List A) (c : A) (m : ℕ) → (m ≡ length xs → Q (Some c)) → (m ≢ length xs → Q (slice_get xs m)) → Q (slice_get (xs ++ c ∷ []) m)
slice_get-more_cases Q [] c zero here there = here refl
slice_get-more_cases Q [] c (suc m) here there = there (λ same. absurd (omega (arith, same)))
slice_get-more_cases Q (x ∷ xs) c zero here there = there (λ same. absurd (omega (arith, same)))
slice_get-more_cases Q (x ∷ xs) c (suc m) here there =
    slice_get-more_cases Q xs c m (λ same. here (ap suc same)) (λ other. there (λ same. other (omega (arith, same))))

-- ## One process, whose tree and descriptions change
-- the same registers give the same operands
same_value : (s t : ProcessState) → t.registers ≡ s.registers → (x : Operand) → value_of t x ≡ value_of s x
same_value s t same x = ap (λ registers. operand_value registers x) same

module _ (t u : List Node) (objects later : ℕ → Object) (row new : ℕ → Option Descriptor) (s v : ProcessState)
    (kinds : (n : ℕ) → is_link (node t n).kind ≡ false → (node u n).kind ≡ (node t n).kind)
    (same : (n : ℕ) (d : Descriptor) → row n ≡ Some d → later d.description ≡ objects d.description) (rows : (n : ℕ) → new n ≡ row n)
    (registers : v.registers ≡ s.registers) where
  opened_later : (nodes : List ℕ) → AreOpened t nodes → AreOpened u nodes
  opened_later [] opened = tt
  opened_later (n ∷ nodes) opened = (ap is_link (kinds n opened.0) ∙ opened.0, opened_later nodes opened.1)

  under_later : (path : List ℕ) (way : Way) (last : Last) (walk : WalkState) → IsUnderWay t path way last walk → IsUnderWay u path way last walk
  under_later path way last walk is = record {
    same_way = is.same_way;
    same_last = is.same_last;
    text = is.text;
    opened = opened_later (walk.stand.cursor.current ∷ walk.stand.cursor.before) is.opened;
    left = is.left;
    few = is.few;
  }

  object_later : (o : Object) → IsDirectoryOf t o → IsDirectoryOf u o
  object_later (At_node n access) dir = kinds n (ap is_link dir) ∙ dir
  object_later (At_end pair side class) dir = absurd dir

  start_later : (n : ℕ) → IsDirectory t objects (row n) → IsDirectory u later (row n)
  start_later n dir = by_entry (row n) refl dir
    where
      by_entry : (o : Option Descriptor) → row n ≡ o → IsDirectory t objects o → IsDirectory u later o
      by_entry None is dir = absurd dir
      by_entry (Some d) is dir = subst (IsDirectoryOf u) (sym (same n d is)) (object_later (objects d.description) dir)

  operand_later : (x : Operand) → IsDirectory t objects (row (value_of s x)) → IsDirectory u later (new (value_of v x))
  operand_later x dir =
      subst (λ n. IsDirectory u later (new n)) (sym (same_value s v registers x)) (subst (IsDirectory u later) (sym (rows (value_of s x))) (start_later (value_of s x) dir))

  fits_later : (looks : Lookups) (walking : Walking) → FitsLookups t objects row s looks walking → FitsLookups u later new v looks walking
  fits_later No_path walking fits = absurd fits
  fits_later (From_root path last) (One walk) fits = under_later path _ last walk fits
  fits_later (From_root path last) (Two one other) fits = absurd fits
  fits_later (From_directory x path last) (One walk) fits = (operand_later x fits.0, under_later path _ last walk fits.1)
  fits_later (From_directory x path last) (Two one other) fits = absurd fits
  fits_later (From_directories x from y to) (One walk) fits = absurd fits
  fits_later (From_directories x from y to) (Two one other) fits =
      (operand_later x fits.0, operand_later y fits.1, under_later from _ _ one fits.2, under_later to _ _ other fits.3)

  pub if_walking_later : (call : Option Syscall) (o : Option Walking) → FitsIfWalking t objects row s call o → FitsIfWalking u later new v call o
  if_walking_later call None fits = tt
  if_walking_later None (Some walking) fits = absurd fits
  if_walking_later (Some call) (Some walking) fits = fits_later (lookups_of call) walking fits

-- a process that has nothing under way
pub no_walker : (programs : Programs) (tree : List Node) (objects : ℕ → Object) (row : ℕ → Option Descriptor) (s : ProcessState) → s.walk ≡ None → IsWalker programs tree objects row s
no_walker programs tree objects row s none = record { lives = λ gone. none; fits = fits s.walk none }
  where
    fits : (o : Option Walking) → o ≡ None → FitsIfWalking tree objects row s (under_way programs s) o
    fits None is = tt
    fits (Some walking) is = absurd cc

-- ## All processes of a world
abbrev pub AreWalkers : Programs → World → Type 0
AreWalkers programs w = (p : ℕ) → IsWalkerIfMade programs w.tree w.files.objects (w.files.table p) (slice_get w.processes p)

module _ (programs : Programs) (w : World) (walkers : AreWalkers programs w) (p : ℕ) (t : ProcessState) where
  walkers_with : IsWalker programs w.tree w.files.objects (w.files.table p) t → AreWalkers programs (with_process w p t)
  walkers_with is q =
      set_other_cases (IsWalkerIfMade programs w.tree w.files.objects (w.files.table q)) w.processes p t q tt
      (λ same. subst (λ k. IsWalker programs w.tree w.files.objects (w.files.table k) t) (sym same) is) (λ other. walkers q)

  pub walkers_moved : t.walk ≡ None → AreWalkers programs (with_process w p t)
  walkers_moved none = walkers_with (no_walker programs w.tree w.files.objects (w.files.table p) t none)

  -- what its call has under way now is of the call
  pub walkers_on : (walking : Walking) (call : Syscall) → t.alive ≡ true → under_way programs t ≡ Some call →
      FitsLookups w.tree w.files.objects (w.files.table p) t (lookups_of call) walking → AreWalkers programs (with_process w p (record t { walk = Some walking }))
  unfolding under_way
  walkers_on walking call alive here fits q =
      set_other_cases (IsWalkerIfMade programs w.tree w.files.objects (w.files.table q)) w.processes p (record t { walk = Some walking }) q tt
      (λ same. subst (λ k. IsWalker programs w.tree w.files.objects (w.files.table k) (record t { walk = Some walking })) (sym same) is) (λ other. walkers q)
    where
      fits_on : FitsIfWalking w.tree w.files.objects (w.files.table p) (record t { walk = Some walking }) (under_way programs t) (Some walking)
      fits_on =
          subst (λ o. FitsIfWalking w.tree w.files.objects (w.files.table p) (record t { walk = Some walking }) o (Some walking)) (sym here)
          (fits_later w.tree w.tree w.files.objects w.files.objects (w.files.table p) (w.files.table p) t (record t { walk = Some walking }) (λ n opened. refl) (λ n d is. refl) (λ n. refl)
          refl (lookups_of call) walking fits)

      is : IsWalker programs w.tree w.files.objects (w.files.table p) (record t { walk = Some walking })
      is = record { lives = λ gone. absurd (let clash : true ≡ false = sym alive ∙ gone in cc); fits = fits_on }

  pub walkers_halted : AreWalkers programs (halted w p t)
  walkers_halted q =
      set_other_cases (IsWalkerIfMade programs w.tree w.files.objects (put w.files.table p (λ n. None) q)) w.processes p (ended t) q tt
      (λ same. no_walker programs w.tree w.files.objects (put w.files.table p (λ n. None) q) (ended t) refl)
      (λ other. subst (λ row. IsWalkerIfMade programs w.tree w.files.objects row (slice_get w.processes q)) (sym (put-other w.files.table p (λ n. None) q other)) (walkers q))

-- the tables of others stay
pub table-kept : (f : ℕ → ℕ → Option Descriptor) (p made : ℕ) (choice : Choice) (table : TableChange) (q : ℕ) → q ≢ p → q ≢ made → table_after f p made choice table q ≡ f q
table-kept f p made choice Same_table q other below = refl
table-kept f p made choice (Set_entry number d) q other below = put-other f p _ q other
table-kept f p made choice (Clear_entry number) q other below = put-other f p _ q other
table-kept f p made choice (New_file number n access append rights fcntls) q other below = put-other f p _ q other
table-kept f p made choice (New_pair first second class) q other below = put-other (put2 f p first _) p _ q other ∙ put-other f p _ q other
table-kept f p made choice New_process q other below = put-other f made (f p) q below

module _ (programs : Programs) (numbering : Numbering) (w : World) (good : IsWorld programs numbering w) (walkers : AreWalkers programs w) (choice : Choice)
    (fresh : IsFresh w.files choice) (p : ℕ) (t : ProcessState) (none : t.walk ≡ None) (tree : TreeChange) (table : TableChange) where
  same_objects : (q n : ℕ) (d : Descriptor) → w.files.table q n ≡ Some d → objects_after w.files.objects choice table d.description ≡ w.files.objects d.description
  same_objects q n d is =
      let known : IfHeld (Known (ground numbering w (IsApart w.files choice))) (Some d) =
      subst (IfHeld (Known (ground numbering w (IsApart w.files choice)))) is (known_entries programs numbering w good choice fresh q n) in
      object-kept w.files.objects choice table d.description known.1.first known.1.second

  abbrev Later : (ℕ → Option Descriptor) → Option ProcessState → Type 0
  Later row o = IsWalkerIfMade programs (tree_after w.tree tree) (objects_after w.files.objects choice table) row o

  other_later : (q : ℕ) (o : Option ProcessState) → IsWalkerIfMade programs w.tree w.files.objects (w.files.table q) o → Later (w.files.table q) o
  other_later q None is = tt
  other_later q (Some s) is = record {
    lives = is.lives;
    fits = if_walking_later w.tree (tree_after w.tree tree) w.files.objects (objects_after w.files.objects choice table) (w.files.table q) (w.files.table q) s s
        (kinds_kept w.tree tree) (same_objects q) (λ n. refl) refl (under_way programs s) s.walk is.fits;
  }

  resting : (row : ℕ → Option Descriptor) (s : ProcessState) → s.walk ≡ None → Later row (Some s)
  resting row s is = no_walker programs (tree_after w.tree tree) (objects_after w.files.objects choice table) row s is

  made_later : (q : ℕ) → q ≢ p → (o : Option ProcessState) → slice_get w.processes q ≡ o → IsWalkerIfMade programs w.tree w.files.objects (w.files.table q) o →
      Later (table_after w.files.table p (length w.processes) choice table q) o
  made_later q other None is old = tt
  made_later q other (Some s) is old =
      let within : q < length w.processes = slice_get_within w.processes q s is in
      subst (λ row. Later row (Some s)) (sym (table-kept w.files.table p (length w.processes) choice table q other (λ same. absurd (omega (arith, same))))) (other_later q (Some s) old)

  set_later : (q : ℕ) → Later (table_after w.files.table p (length w.processes) choice table q) (slice_get (slice_set w.processes p t) q)
  set_later q =
      set_other_cases (Later (table_after w.files.table p (length w.processes) choice table q)) w.processes p t q tt
      (λ same. resting (table_after w.files.table p (length w.processes) choice table q) t none) (λ other. made_later q other (slice_get w.processes q) refl (walkers q))

  nothing_more : (q : ℕ) → Later (table_after w.files.table p (length w.processes) choice table q) (slice_get (slice_set w.processes p t ++ []) q)
  nothing_more q =
      subst (λ (xs : List ProcessState). Later (table_after w.files.table p (length w.processes) choice table q) (slice_get xs q)) (sym (append-nil (slice_set w.processes p t))) (set_later q)

-- what the call of one of them changes
pub walkers_changed : (programs : Programs) (numbering : Numbering) (w : World) → IsWorld programs numbering w → AreWalkers programs w → (choice : Choice) → IsFresh w.files choice →
    (p : ℕ) (t : ProcessState) → t.walk ≡ None → (tree : TreeChange) (table : TableChange) (q : ℕ) →
    IsWalkerIfMade programs (tree_after w.tree tree) (objects_after w.files.objects choice table) (table_after w.files.table p (length w.processes) choice table q)
    (slice_get (processes_after w.processes p t table) q)
walkers_changed programs numbering w good walkers choice fresh p t none tree Same_table q = nothing_more programs numbering w good walkers choice fresh p t none tree Same_table q
walkers_changed programs numbering w good walkers choice fresh p t none tree (Set_entry number d) q =
    nothing_more programs numbering w good walkers choice fresh p t none tree (Set_entry number d) q
walkers_changed programs numbering w good walkers choice fresh p t none tree (Clear_entry number) q =
    nothing_more programs numbering w good walkers choice fresh p t none tree (Clear_entry number) q
walkers_changed programs numbering w good walkers choice fresh p t none tree (New_file number n access append rights fcntls) q =
    nothing_more programs numbering w good walkers choice fresh p t none tree (New_file number n access append rights fcntls) q
walkers_changed programs numbering w good walkers choice fresh p t none tree (New_pair first second class) q =
    nothing_more programs numbering w good walkers choice fresh p t none tree (New_pair first second class) q
walkers_changed programs numbering w good walkers choice fresh p t none tree New_process q =
    slice_get-more_cases (Later programs numbering w good walkers choice fresh p t none tree New_process (table_after w.files.table p (length w.processes) choice New_process q))
    (slice_set w.processes p t) (forked t) q
    (λ _. resting programs numbering w good walkers choice fresh p t none tree New_process (table_after w.files.table p (length w.processes) choice New_process q) (forked t) none)
    (λ _. set_later programs numbering w good walkers choice fresh p t none tree New_process q)

-- what the process of the next instruction has under way is of its call
pub walk_fits : (programs : Programs) (w : World) → AreWalkers programs w → (p : ℕ) (s : ProcessState) (call : Syscall) → slice_get w.processes p ≡ Some s →
    under_way programs s ≡ Some call → FitsIfWalking w.tree w.files.objects (w.files.table p) s (Some call) s.walk
walk_fits programs w walkers p s call made here =
    let is : IsWalker programs w.tree w.files.objects (w.files.table p) s =
    subst (IsWalkerIfMade programs w.tree w.files.objects (w.files.table p)) made (walkers p) in
    subst (λ o. FitsIfWalking w.tree w.files.objects (w.files.table p) s o s.walk) here is.fits

pub call_here : (programs : Programs) (s : ProcessState) (i : Instruction) → next_instruction s.kept (slice_get (programs s.program) s.point) ≡ Some i →
    under_way programs s ≡ call_in (Some i)
unfolding under_way
call_here programs s i here = ap call_in here

-- the same in a world that says the same of all that is named
module _ (programs : Programs) (w : World) (walkers : AreWalkers programs w) (g : OpenFiles) (alike : Alike w.files g) where
  pub walkers_alike : AreWalkers programs (record { tree = w.tree; files = g; processes = w.processes })
  walkers_alike p = by_process (slice_get w.processes p) (walkers p)
    where
      named : (n : ℕ) (d : Descriptor) → w.files.table p n ≡ Some d → g.objects d.description ≡ w.files.objects d.description
      named n d is = let both : open_files.SameDescription w.files g (Some d) = subst (open_files.SameDescription w.files g) is (alike.entries p n) in both.0

      by_process : (o : Option ProcessState) → IsWalkerIfMade programs w.tree w.files.objects (w.files.table p) o → IsWalkerIfMade programs w.tree g.objects (g.table p) o
      by_process None is = tt
      by_process (Some s) is = record {
        lives = is.lives;
        fits = if_walking_later w.tree w.tree w.files.objects g.objects (w.files.table p) (g.table p) s s (λ n opened. refl) named (λ n. alike.table p n) refl
            (under_way programs s) s.walk is.fits;
      }
