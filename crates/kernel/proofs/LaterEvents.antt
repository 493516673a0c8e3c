-- What a call's first event has asked holds at its later events.
use Rattle.std.proofs.Common.{◌≡◌, ◌≢◌, ◌<◌, ℕ, Bool, true, false, List, [], ◌∷◌, ◌++◌, length, refl, subst, ap, sym, ◌∙◌, arith, append-nil, cond}
use Rattle.std.specs.Prelude.{◌==◌, nat_lt, not, Option, Some, None, slice_set}
use Rattle.std.specs.List.{slice_get}
use Rattle.std.proofs.lemmas.Option.{slice_get_within}
use Rattle.rights.specs.Errors.{Errno, ENOTCAPABLE, ENOTDIR, Cause, MissingRight}
use Rattle.rights.specs.Errors as errors
use Rattle.rights.specs.Maps.{put}
use Rattle.rights.specs.Opens.{OpenRequest, no_request}
use Rattle.rights.specs.Sets.{is_within}
use Rattle.rights.specs.Needs.{First, Second, needs_of}
use Rattle.rights.proofs.Changes.{put-other}
use Rattle.file_tree.specs.Nodes.{Kind, Dir, File, Link, is_dir, node}
use Rattle.lookup.specs.Answers.{Way, Beneath, Last, Follow, Keep, LookupFault, Escape, No_entry, Not_dir, Loop, Too_long, Bad_last, Finding, Found_node, Found_free, Not_found}
use Rattle.lookup.specs.Looks.{lookup_fault}
use Rattle.lookup.specs.Walks.{WalkState, Progress, Done, More, begun, first_handled, handled}
use Rattle.process.specs.State.{Deed, ProcessState, Walking, One, Two, ended, forked, handed_to, left_by}
use Rattle.instruction_set.specs.Programs.{Instruction, Set, Mov, Add, In, Jmp, Jeq, Jlt, Halt, Invoke, Operand, called}
use Rattle.instruction_set.specs.Programs.{Syscall, Open, Openat, Fstatat, Stat, Mkdirat, Mkdir, Unlinkat, Unlink, Renameat}
use Rattle.fd_table.specs.Descriptions.{Object, At_node, At_end, Descriptor}
use Rattle.kernel.specs.World.{World, Choice, IsFresh}
use Rattle.kernel.specs.Answers.{Event, TableChange, Same_table, Set_entry, Clear_entry, New_file, New_pair, New_process, Answer, Fails, Waits, Gives, Walks, unless, held, at_object}
use Rattle.kernel.specs.Answers.{at_number, lookup_fails, value_of}
use Rattle.kernel.specs.Calls.{answer, existing, found_last, in_directory, is_at_last, last_if, looks, looks_twice, lost, made_directory, opened, opened_as}
use Rattle.kernel.specs.Calls.{or_fails, renamed_over, renamed_to, resumed_both, stats_at, unlinks, walked, walked_both}
use Rattle.kernel.specs.Changes.{changed, files_after, given, processes_after, table_after}
use Rattle.kernel.specs.Steps.{LineResult, Programs, after_deed, next_instruction, answered, executed, failed, halted, jumped, register, step, stepped, stepped_at, stepped_by, with_process}
use Rattle.kernel.specs.Walks.{FitsIfWalking, From_directory, IsDirectory, IsDirectoryOf, IsWalker, IsWalkerIfMade, call_in, lookups_of, under_way}
use Rattle.kernel.proofs.FittingWalks.{both_starts, directory_start}
use Rattle.kernel.specs.WellFormed.{ArePrograms, IsWellFormed}
use Rattle.kernel.specs.Hostile.{Act, Own, Does, about, step_as}
use Rattle.kernel.specs.LaterEvents.{AreAtLast, AskAgain, AsksAgain, FailsLate, LacksRemoval, LaterEventsFailLate, is_early}
use Rattle.kernel.proofs.Keeping.{kept}
use Rattle.kernel.proofs.Deeds.{after_keeps, changed_keeps}
use Rattle.kernel.proofs.Hostile.{about_well_formed, files_about, handed_cases, rests_now}
use Rattle.kernel.proofs.KeptWalks.{call_here, set_other_cases, slice_get-more_cases, table-kept}
use Rattle.kernel.proofs.Looking.{any_event, any_one, looks_any}

-- what the first event has asked of the mode and of rights
abbrev HasRight : (ℕ → Option Descriptor) → ℕ → ℕ → Type 0
HasRight row n need = (d : Descriptor) × (row n ≡ Some d) × (is_within need d.rights ≡ true)

abbrev first_need : Syscall → OpenRequest → ℕ
first_need call request = needs_of (called call) request First false

unfoldable Asked : (ℕ → Option Descriptor) → ProcessState → Syscall → Type 0
Asked row s (Open path f) = s.mode ≡ false
Asked row s (Openat x path f) = HasRight row (value_of s x) (first_need (Openat x path f) f)
Asked row s (Fstatat x path) = HasRight row (value_of s x) (first_need (Fstatat x path) no_request)
Asked row s (Stat path) = s.mode ≡ false
Asked row s (Mkdirat x path) = HasRight row (value_of s x) (first_need (Mkdirat x path) no_request)
Asked row s (Mkdir path) = s.mode ≡ false
Asked row s (Unlinkat x path directory) = HasRight row (value_of s x) (first_need (Unlinkat x path directory) no_request)
Asked row s (Unlink path directory) = s.mode ≡ false
Asked row s (Renameat x from y to) =
    HasRight row (value_of s x) (first_need (Renameat x from y to) no_request)
    × HasRight row (value_of s y) (needs_of (called (Renameat x from y to)) no_request Second false)
Asked row s _ = Unit {0}

-- ## The first event
unless_walks : (test : Bool) (errno : Errno) (cause : Cause) (rest : Answer) (walking : Walking) → unless test errno cause rest ≡ Walks walking → (test ≡ true) × (rest ≡ Walks walking)
unfolding unless
unless_walks true errno cause rest walking is = (refl, is)
unless_walks false errno cause rest walking is = absurd cc

record HeldWalks (o : Option Descriptor) (rest : Descriptor → Answer) (walking : Walking) : Type 0 where
  d : Descriptor
  is : o ≡ Some d
  goes : rest d ≡ Walks walking

held_walks : (o : Option Descriptor) (rest : Descriptor → Answer) (walking : Walking) → held o rest ≡ Walks walking → HeldWalks o rest walking
unfolding held
held_walks None rest walking is = absurd cc
held_walks (Some d) rest walking is = record { d = d; is = refl; goes = is }

not_mode : (mode : Bool) → not mode ≡ true → mode ≡ false
not_mode true is = absurd cc
not_mode false is = refl

module _ (w : World) (p : ℕ) (s : ProcessState) (e : Event) (walking : Walking) where
  outside : (rest : Answer) (errno : Errno) (cause : Cause) → unless (not s.mode) errno cause rest ≡ Walks walking → s.mode ≡ false
  outside rest errno cause is = not_mode s.mode (unless_walks (not s.mode) errno cause rest walking is).0

  through_right : (n need : ℕ) (errno : Errno) (cause : Cause) (rest : Descriptor → Answer) →
      held (w.files.table p n) (λ d. unless (is_within need d.rights) errno cause (rest d)) ≡ Walks walking → HasRight (w.files.table p) n need
  through_right n need errno cause rest is =
      let h = held_walks (w.files.table p n) _ walking is in
      (h.d, h.is, (unless_walks (is_within need h.d.rights) errno cause (rest h.d) walking h.goes).0)

  asked : (call : Syscall) → answer w p s e call ≡ Walks walking → Asked (w.files.table p) s call
  unfolding answer Asked
  asked (Open path f) is = outside _ _ _ is
  asked (Openat x path f) is = through_right (value_of s x) _ _ _ _ is
  asked (Fstatat x path) is = through_right (value_of s x) _ _ _ _ is
  asked (Stat path) is = outside _ _ _ is
  asked (Mkdirat x path) is = through_right (value_of s x) _ _ _ _ is
  asked (Mkdir path) is = outside _ _ _ is
  asked (Unlinkat x path directory) is = through_right (value_of s x) _ _ _ _ is
  asked (Unlink path directory) is = outside _ _ _ is
  asked (Renameat x from y to) is =
      let one = held_walks (w.files.table p (value_of s x)) _ walking is in
      let two = held_walks (w.files.table p (value_of s y)) _ walking one.goes in
      let right = unless_walks _ _ _ _ walking two.goes in
      let also = unless_walks _ _ _ _ walking right.1 in
      ((one.d, one.is, right.0), (two.d, two.is, also.0))
  asked call is = tt

-- the process itself, with something under way
asked_on : (row : ℕ → Option Descriptor) (s : ProcessState) (o : Option Walking) (call : Syscall) → Asked row s call → Asked row (record s { walk = o }) call
unfolding Asked
asked_on row s o (Open path f) is = is
asked_on row s o (Openat x path f) is = is
asked_on row s o (Fstatat x path) is = is
asked_on row s o (Stat path) is = is
asked_on row s o (Mkdirat x path) is = is
asked_on row s o (Mkdir path) is = is
asked_on row s o (Unlinkat x path directory) is = is
asked_on row s o (Unlink path directory) is = is
asked_on row s o (Renameat x from y to) is = is
asked_on row s o call is = tt

-- ## The later ones
late : (row : ℕ → Option Descriptor) (s : ProcessState) (call : Syscall) (errno : Errno) (cause : Cause) → is_early cause ≡ false → FailsLate row s call (Fails errno cause)
unfolding FailsLate
late row s call errno cause behind = λ early. absurd (let clash : false ≡ true = sym behind ∙ early in cc)

module _ (w : World) (p : ℕ) (s : ProcessState) (e : Event) (call : Syscall) where
  abbrev Late : Answer → Type 0
  Late a = FailsLate (w.files.table p) s call a

  late-gives : (value : ℕ) (change : _) (effects : _) → Late (Gives value change effects)
  unfolding FailsLate
  late-gives value change effects = tt

  late-walks : (walking : Walking) → Late (Walks walking)
  unfolding FailsLate
  late-walks walking = tt

  late-unless : (test : Bool) (errno : Errno) (cause : Cause) (rest : Answer) → is_early cause ≡ false → Late rest → Late (unless test errno cause rest)
  unfolding unless
  late-unless true errno cause rest behind goes = goes
  late-unless false errno cause rest behind goes = late (w.files.table p) s call errno cause behind

  late-passed : (test : Bool) (errno : Errno) (cause : Cause) (rest : Answer) → test ≡ true → Late rest → Late (unless test errno cause rest)
  unfolding unless
  late-passed true errno cause rest is goes = goes
  late-passed false errno cause rest is goes = absurd cc

  late-held : (o : Option Descriptor) (d : Descriptor) (rest : Descriptor → Answer) → o ≡ Some d → Late (rest d) → Late (held o rest)
  unfolding held
  late-held None d rest is goes = absurd cc
  late-held (Some c) d rest is goes = let same : d ≡ c = cc in subst (λ x. Late (rest x)) same goes

  late-directory : (o : Option Descriptor) (d : Descriptor) (rest : ℕ → Answer) → o ≡ Some d → IsDirectory w.tree w.files.objects o → ((n : ℕ) → Late (rest n)) →
      Late (in_directory w p s e d.description rest)
  unfolding at_object
  late-directory o d rest is dir goes = by_object (w.files.objects d.description) (subst (IsDirectory w.tree w.files.objects) is dir)
    where
      by_object : (object : Object) → IsDirectoryOf w.tree object →
          Late (at_object object (λ n access. unless (is_dir (node w.tree n).kind) ENOTDIR errors.Kind (rest n)) (λ pair side. Fails ENOTDIR errors.Kind))
      by_object (At_node n access) kind = late-passed (is_dir (node w.tree n).kind) _ _ (rest n) (ap is_dir kind) (goes n)
      by_object (At_end pair side class) kind = absurd kind

  late-number : (o : Option ℕ) (rest : ℕ → Answer) → ((n : ℕ) → Late (rest n)) → Late (at_number o rest)
  unfolding at_number
  late-number None rest goes = late (w.files.table p) s call _ _ refl
  late-number (Some n) rest goes = goes n

  late-lookup_fails : (fault : LookupFault) → Late (lookup_fails fault)
  late-lookup_fails Escape = late (w.files.table p) s call _ _ refl
  late-lookup_fails No_entry = late (w.files.table p) s call _ _ refl
  late-lookup_fails Not_dir = late (w.files.table p) s call _ _ refl
  late-lookup_fails Loop = late (w.files.table p) s call _ _ refl
  late-lookup_fails Too_long = late (w.files.table p) s call _ _ refl
  late-lookup_fails Bad_last = late (w.files.table p) s call _ _ refl

  late-looks : (start : ℕ) (way : Way) (path : List ℕ) (last : Last) (rest : Finding → Answer) → ((found : Finding) → Late (rest found)) → Late (looks w p s e start way path last rest)
  late-looks start way path last rest goes =
      looks_any Late w p s e start way path last rest (λ found. Unit {0}) (λ walk. Unit {0}) (any_one s.walk) (any_event (first_handled w.tree start path way last))
      (λ walk is. any_event (handled w.tree walk)) (λ found is. goes found) (λ walk is. late-walks (One walk))

  late-lost : (found : Finding) → Late (lost found)
  late-lost (Not_found fault) = late-lookup_fails fault
  late-lost (Found_node n) = late (w.files.table p) s call _ _ refl
  late-lost (Found_free d) = late (w.files.table p) s call _ _ refl

  late-before_last : (keep : WalkState → Walking) (event : Progress) → Late (walked keep lost event)
  late-before_last keep (Done found) = late-lost found
  late-before_last keep (More walk) = late-walks (keep walk)

  -- what is found is found where both lookups are at their last name
  late-looks_twice : (n : ℕ) (from : List ℕ) (m : ℕ) (to : List ℕ) (rest : Finding → Finding → Answer) (one other : WalkState) → s.walk ≡ Some (Two one other) →
      (AreAtLast s.walk → (found place : Finding) → Late (rest found place)) → Late (looks_twice w p s e n from m to rest)
  unfolding looks_twice
  late-looks_twice n from m to rest one other is goes =
      subst (λ o. Late (resumed_both o
      (or_fails (lookup_fault w.tree n from Beneath Keep)
      (or_fails (lookup_fault w.tree m to Beneath Keep) (walked_both w p s e rest (begun n from Beneath Keep) (begun m to Beneath Keep))))
      (walked_both w p s e rest))) (sym is) (by_first (is_at_last one) refl)
    where
      by_second : is_at_last one ≡ true → (b : Bool) → is_at_last other ≡ b →
          Late (cond (not b) (walked (λ walk. Two one walk) lost (handled w.tree other)) (rest (found_last (handled w.tree one)) (found_last (handled w.tree other))))
      by_second first true second = goes (subst AreAtLast (sym is) (first, second)) _ _
      by_second first false second = late-before_last (λ walk. Two one walk) (handled w.tree other)

      by_first : (b : Bool) → is_at_last one ≡ b → Late (cond (not b) (walked (λ walk. Two walk other) lost (handled w.tree one))
          (cond (not (is_at_last other)) (walked (λ walk. Two one walk) lost (handled w.tree other)) (rest (found_last (handled w.tree one)) (found_last (handled w.tree other)))))
      by_first true first = by_second first (is_at_last other) refl
      by_first false first = late-before_last (λ walk. Two walk other) (handled w.tree one)

  late-opened_as : (f : OpenRequest) (rights fcntls n : ℕ) (kind : Kind) → Late (opened_as w p s e f rights fcntls n kind)
  late-opened_as f rights fcntls n Link = late (w.files.table p) s call _ _ refl
  late-opened_as f rights fcntls n Dir = late-unless _ _ _ _ refl (late-number _ _ (λ number. late-unless _ _ _ _ refl (late-gives _ _ _)))
  late-opened_as f rights fcntls n File = late-number _ _ (λ number. late-unless _ _ _ _ refl (late-gives _ _ _))

  late-opened : (f : OpenRequest) (rights fcntls : ℕ) (path : List ℕ) (found : Finding) → Late (opened w p s e f rights fcntls path found)
  late-opened f rights fcntls path (Not_found fault) = late-lookup_fails fault
  late-opened f rights fcntls path (Found_free d) = late-number _ _ (λ number. late-unless _ _ _ _ refl (late-unless _ _ _ _ refl (late-gives _ _ _)))
  late-opened f rights fcntls path (Found_node n) = late-opened_as f rights fcntls n (node w.tree n).kind

  late-stats : (found : Finding) → Late (stats_at w p s e found)
  late-stats (Not_found fault) = late-lookup_fails fault
  late-stats (Found_free d) = late (w.files.table p) s call _ _ refl
  late-stats (Found_node n) = late-gives _ _ _

  late-made : (path : List ℕ) (found : Finding) → Late (made_directory w p s e path found)
  late-made path (Not_found fault) = late-lookup_fails fault
  late-made path (Found_node n) = late (w.files.table p) s call _ _ refl
  late-made path (Found_free d) = late-unless _ _ _ _ refl (late-unless _ _ _ _ refl (late-gives _ _ _))

  late-unlinks : (directory : Bool) (found : Finding) → Late (unlinks w p s e directory found)
  late-unlinks directory (Not_found fault) = late-lookup_fails fault
  late-unlinks directory (Found_free d) = late (w.files.table p) s call _ _ refl
  late-unlinks true (Found_node n) = late-unless _ _ _ _ refl (late-unless _ _ _ _ refl (late-gives _ _ _))
  late-unlinks false (Found_node n) = late-unless _ _ _ _ refl (late-gives _ _ _)

  late-existing : (found : Finding) (rest : ℕ → Answer) → ((n : ℕ) → Late (rest n)) → Late (existing found rest)
  late-existing (Not_found fault) rest goes = late-lookup_fails fault
  late-existing (Found_free d) rest goes = late (w.files.table p) s call _ _ refl
  late-existing (Found_node n) rest goes = goes n

  late-over : (n m : ℕ) → Late (renamed_over w p s e n m)
  late-over n m = late-unless _ _ _ _ refl (late-unless _ _ _ _ refl (late-unless _ _ _ _ refl (late-unless _ _ _ _ refl (late-gives _ _ _))))

  late-if : (test : Bool) (a b : Answer) → Late a → Late b → Late (cond test a b)
  late-if true a b first second = first
  late-if false a b first second = second

  -- the right to remove what is replaced is asked at the end
  late-replacing : (test : Bool) (errno : Errno) (rest : Answer) → (test ≡ false → LacksRemoval (w.files.table p) s call) → Late rest → Late (unless test errno MissingRight rest)
  unfolding unless FailsLate
  late-replacing true errno rest lacks goes = goes
  late-replacing false errno rest lacks goes = λ early. (refl, lacks refl)

  late-renamed_to : (target : Descriptor) (n : ℕ) (path : List ℕ) (found : Finding) →
      (is_within (needs_of (called call) no_request Second true) target.rights ≡ false → LacksRemoval (w.files.table p) s call) → Late (renamed_to w p s e call target n path found)
  late-renamed_to target n path (Not_found fault) lacks = late-lookup_fails fault
  late-renamed_to target n path (Found_free d) lacks = late-unless _ _ _ _ refl (late-gives _ _ _)
  late-renamed_to target n path (Found_node m) lacks = late-if (n == m) _ _ (late-gives _ _ _) (late-replacing _ _ _ lacks (late-over n m))

-- two lookups are under way
record HasTwo (s : ProcessState) : Type 0 where
  one : WalkState
  other : WalkState
  is : s.walk ≡ Some (Two one other)

module _ (w : World) (p : ℕ) (s : ProcessState) (e : Event) (walking : Walking) (under : s.walk ≡ Some walking) where
  abbrev Fit : Syscall → Type 0
  Fit call = FitsIfWalking w.tree w.files.objects (w.files.table p) s (Some call) (Some walking)

  started : (call : Syscall) (x : Operand) (path : List ℕ) (last : Last) → lookups_of call ≡ From_directory x path last → Fit call →
      IsDirectory w.tree w.files.objects (w.files.table p (value_of s x))
  started call x path last is fit = directory_start w.tree w.files.objects (w.files.table p) s call x path last walking is fit

  from_directory : (call : Syscall) (x : Operand) (path : List ℕ) (last : Last) (need : ℕ) (rest : Descriptor → Finding → Answer) → lookups_of call ≡ From_directory x path last →
      Fit call → HasRight (w.files.table p) (value_of s x) need → ((d : Descriptor) (found : Finding) → FailsLate (w.files.table p) s call (rest d found)) →
      FailsLate (w.files.table p) s call (held (w.files.table p (value_of s x)) (λ d. unless (is_within need d.rights) ENOTCAPABLE MissingRight
      (in_directory w p s e d.description (λ n. looks w p s e n Beneath path last (rest d)))))
  from_directory call x path last need rest looks_up fit (d, is, right) goes =
      late-held w p s e call (w.files.table p (value_of s x)) d _ is (late-passed w p s e call _ _ _ _ right
      (late-directory w p s e call (w.files.table p (value_of s x)) d _ is (started call x path last looks_up fit) (λ n. late-looks w p s e call _ _ _ _ _ (goes d))))

  fails_late : (call : Syscall) → Fit call → Asked (w.files.table p) s call → FailsLate (w.files.table p) s call (answer w p s e call)
  unfolding answer Asked lookups_of
  fails_late (Open path f) fit off =
      late-passed w p s e (Open path f) _ _ _ _ (ap not off) (late-looks w p s e (Open path f) _ _ _ _ _ (late-opened w p s e (Open path f) f _ _ path))
  fails_late (Openat x path f) fit right =
      from_directory (Openat x path f) x path (last_if f.create) _ _ refl fit right (λ d. late-opened w p s e (Openat x path f) f d.rights d.fcntls path)
  fails_late (Fstatat x path) fit right = from_directory (Fstatat x path) x path Follow _ _ refl fit right (λ d. late-stats w p s e (Fstatat x path))
  fails_late (Stat path) fit off = late-passed w p s e (Stat path) _ _ _ _ (ap not off) (late-looks w p s e (Stat path) _ _ _ _ _ (late-stats w p s e (Stat path)))
  fails_late (Mkdirat x path) fit right = from_directory (Mkdirat x path) x path Keep _ _ refl fit right (λ d. late-made w p s e (Mkdirat x path) path)
  fails_late (Mkdir path) fit off = late-passed w p s e (Mkdir path) _ _ _ _ (ap not off) (late-looks w p s e (Mkdir path) _ _ _ _ _ (late-made w p s e (Mkdir path) path))
  fails_late (Unlinkat x path directory) fit right =
      from_directory (Unlinkat x path directory) x path Keep _ _ refl fit right (λ d. late-unlinks w p s e (Unlinkat x path directory) directory)
  fails_late (Unlink path directory) fit off =
      late-passed w p s e (Unlink path directory) _ _ _ _ (ap not off) (late-looks w p s e (Unlink path directory) _ _ _ _ _ (late-unlinks w p s e (Unlink path directory) directory))
  fails_late (Renameat x from y to) fit ((d, is, right), (target, target_is, also)) =
      let call = Renameat x from y to in
      let starts = both_starts w.tree w.files.objects (w.files.table p) s call x from y to walking refl fit in
      let both = both_walk walking fit under in
      late-held w p s e call (w.files.table p (value_of s x)) d _ is (late-held w p s e call (w.files.table p (value_of s y)) target _ target_is
      (late-passed w p s e call _ _ _ _ right (late-passed w p s e call _ _ _ _ also
      (late-directory w p s e call (w.files.table p (value_of s x)) d _ is starts.0 (λ n.
      late-directory w p s e call (w.files.table p (value_of s y)) target _ target_is starts.1 (λ m.
      late-looks_twice w p s e call _ _ _ _ _ both.one both.other both.is (λ last source place. late-existing w p s e call source _ (λ k.
      late-renamed_to w p s e call target k to place (λ lacks. (last, target, target_is, lacks))))))))))
    where
      both_walk : (o : Walking) → FitsIfWalking w.tree w.files.objects (w.files.table p) s (Some (Renameat x from y to)) (Some o) → s.walk ≡ Some o → HasTwo s
      both_walk (One walk) fit is = absurd fit
      both_walk (Two one other) fit is = record { one = one; other = other; is = is }
  fails_late call fit asks = absurd fit

-- ## Runs
-- what each process that walks has asked
abbrev HaveAskedIf : (ℕ → Option Descriptor) → ProcessState → Option Syscall → Option Walking → Type 0
HaveAskedIf row s call None = Unit {0}
HaveAskedIf row s None (Some walking) = Unit {0}
HaveAskedIf row s (Some call) (Some walking) = Asked row s call

abbrev HasAsked : Programs → (ℕ → Option Descriptor) → Option ProcessState → Type 0
HasAsked programs row None = Unit {0}
HasAsked programs row (Some s) = HaveAskedIf row s (under_way programs s) s.walk

abbrev HaveAsked : Programs → World → Type 0
HaveAsked programs w = (p : ℕ) → HasAsked programs (w.files.table p) (slice_get w.processes p)

rests : (programs : Programs) (row : ℕ → Option Descriptor) (s : ProcessState) → s.walk ≡ None → HasAsked programs row (Some s)
rests programs row s none = subst (HaveAskedIf row s (under_way programs s)) (sym none) tt

module _ (programs : Programs) (w : World) (before : HaveAsked programs w) (p : ℕ) (t : ProcessState) where
  asked_with : HasAsked programs (w.files.table p) (Some t) → HaveAsked programs (with_process w p t)
  asked_with is q =
      set_other_cases (HasAsked programs (w.files.table q)) w.processes p t q tt
      (λ same. subst (λ k. HasAsked programs (w.files.table k) (Some t)) (sym same) is) (λ other. before q)

  asked_moved : t.walk ≡ None → HaveAsked programs (with_process w p t)
  asked_moved none = asked_with (rests programs (w.files.table p) t none)

  asked_halted : HaveAsked programs (halted w p t)
  asked_halted q =
      set_other_cases (HasAsked programs (put w.files.table p (λ n. None) q)) w.processes p (ended t) q tt
      (λ same. rests programs (put w.files.table p (λ n. None) q) (ended t) refl)
      (λ other. subst (λ row. HasAsked programs row (slice_get w.processes q)) (sym (put-other w.files.table p (λ n. None) q other)) (before q))

  module _ (none : t.walk ≡ None) (choice : Choice) (table : TableChange) where
    abbrev row_after : ℕ → ℕ → Option Descriptor
    row_after = table_after w.files.table p (length w.processes) choice table

    others_later : (q : ℕ) → q ≢ p → (o : Option ProcessState) → slice_get w.processes q ≡ o → HasAsked programs (w.files.table q) o → HasAsked programs (row_after q) o
    others_later q other None is old = tt
    others_later q other (Some s) is old =
        let within : q < length w.processes = slice_get_within w.processes q s is in
        subst (λ row. HasAsked programs row (Some s)) (sym (table-kept w.files.table p (length w.processes) choice table q other (λ same. absurd (omega (arith, same))))) old

    set_later : (q : ℕ) → HasAsked programs (row_after q) (slice_get (slice_set w.processes p t) q)
    set_later q =
        set_other_cases (HasAsked programs (row_after q)) w.processes p t q tt (λ same. rests programs (row_after q) t none) (λ other. others_later q other (slice_get w.processes q) refl (before q))

    no_child : (q : ℕ) → HasAsked programs (row_after q) (slice_get (slice_set w.processes p t ++ []) q)
    no_child q = subst (λ (xs : List ProcessState). HasAsked programs (row_after q) (slice_get xs q)) (sym (append-nil (slice_set w.processes p t))) (set_later q)

asked_changed : (programs : Programs) (w : World) → HaveAsked programs w → (p : ℕ) (t : ProcessState) → t.walk ≡ None → (choice : Choice) (table : TableChange) (q : ℕ) →
    HasAsked programs (table_after w.files.table p (length w.processes) choice table q) (slice_get (processes_after w.processes p t table) q)
asked_changed programs w before p t none choice Same_table q = no_child programs w before p t none choice Same_table q
asked_changed programs w before p t none choice (Set_entry number d) q = no_child programs w before p t none choice (Set_entry number d) q
asked_changed programs w before p t none choice (Clear_entry number) q = no_child programs w before p t none choice (Clear_entry number) q
asked_changed programs w before p t none choice (New_file number n access append rights fcntls) q =
    no_child programs w before p t none choice (New_file number n access append rights fcntls) q
asked_changed programs w before p t none choice (New_pair first second class) q = no_child programs w before p t none choice (New_pair first second class) q
asked_changed programs w before p t none choice New_process q =
    slice_get-more_cases (HasAsked programs (row_after programs w before p t none choice New_process q)) (slice_set w.processes p t) (forked t) q
    (λ _. rests programs (row_after programs w before p t none choice New_process q) (forked t) none)
    (λ _. set_later programs w before p t none choice New_process q)

-- a step keeps it
module _ (programs : Programs) (w : World) (before : HaveAsked programs w) (e : Event) (choice : Choice) where
  answered_later : (s : ProcessState) (call : Syscall) (otherwise : ℕ) (a : Answer) → under_way programs s ≡ Some call → answer w e.process s e call ≡ a →
      HaveAsked programs (answered w e.process s choice otherwise a).world
  unfolding answered changed files_after under_way
  answered_later s call otherwise (Fails errno cause) here is = asked_moved programs w before e.process (failed s errno otherwise) refl
  answered_later s call otherwise Waits here is = before
  answered_later s call otherwise (Gives value change effects) here is = asked_changed programs w before e.process (given s value change) refl choice change.table
  answered_later s call otherwise (Walks walking) here is =
      asked_with programs w before e.process (record s { walk = Some walking })
      (subst (λ o. HaveAskedIf (w.files.table e.process) (record s { walk = Some walking }) o (Some walking)) (sym here)
      (asked_on (w.files.table e.process) s (Some walking) call (asked w e.process s e walking call is)))

  jumped_later : (s : ProcessState) (taken : Bool) (target : ℕ) → HaveAsked programs (with_process w e.process (jumped s taken target))
  unfolding jumped
  jumped_later s true target = asked_moved programs w before e.process _ refl
  jumped_later s false target = asked_moved programs w before e.process _ refl

  executed_later : (s : ProcessState) (i : Instruction) → under_way programs s ≡ call_in (Some i) → HaveAsked programs (executed w e choice s i).world
  unfolding executed
  executed_later s (Set r value) here = asked_moved programs w before e.process _ refl
  executed_later s (Mov r source) here = asked_moved programs w before e.process _ refl
  executed_later s (Add r addend) here = asked_moved programs w before e.process _ refl
  executed_later s (In r) here = asked_moved programs w before e.process _ refl
  executed_later s (Jmp target) here = asked_moved programs w before e.process _ refl
  executed_later s (Jeq r value target) here = jumped_later s (register s r == value) target
  executed_later s (Jlt r value target) here = jumped_later s (nat_lt (register s r) value) target
  executed_later s Halt here = asked_halted programs w before e.process s
  executed_later s (Invoke call otherwise) here = answered_later s call otherwise (answer w e.process s e call) here refl

  after_later : (o : Option Deed) (outcome : LineResult) (v : World) → HaveAsked programs v →
      HaveAsked programs (record v { processes = after_deed o e.process (length w.processes) outcome v.processes })
  after_later o outcome v asked q =
      after_keeps (HasAsked programs (v.files.table q)) e.process (length w.processes) v.processes q o outcome
      (λ deed t is. rests programs (v.files.table q) (left_by deed t) refl) (asked q)

  at_later : (s : ProcessState) (o : Option Instruction) → next_instruction s.kept (slice_get (programs s.program) s.point) ≡ o →
      HaveAsked programs (stepped_at w e choice s o).world
  unfolding stepped_at
  at_later s None here = before
  at_later s (Some i) here = after_later s.kept (executed w e choice s i).outcome (executed w e choice s i).world (executed_later s i (call_here programs s i here))

  by_later : (s : ProcessState) (alive : Bool) → HaveAsked programs (stepped_by programs w e choice s alive).world
  unfolding stepped_by
  by_later s false = before
  by_later s true = at_later s (next_instruction s.kept (slice_get (programs s.program) s.point)) refl

  of_later : (o : Option ProcessState) → HaveAsked programs (stepped programs w e choice o).world
  unfolding stepped
  of_later None = before
  of_later (Some s) = by_later s s.alive

  step_later : HaveAsked programs (step programs w e choice).world
  unfolding step
  step_later = of_later (slice_get w.processes e.process)

asks_again : (programs : Programs) (w : World) (e : Event) → IsWellFormed programs w → HaveAsked programs w → AsksAgain programs w e
asks_again programs w e good before s walking call made walks here =
    fails_late w e.process s e walking walks call
    (subst (λ o. FitsIfWalking w.tree w.files.objects (w.files.table e.process) s (Some call) o) walks
    (subst (λ o. FitsIfWalking w.tree w.files.objects (w.files.table e.process) s o s.walk) here walker.fits))
    (subst (HaveAskedIf (w.files.table e.process) s (Some call)) walks (subst (λ o. HaveAskedIf (w.files.table e.process) s o s.walk) here own))
  where
    walker : IsWalker programs w.tree w.files.objects (w.files.table e.process) s
    walker = subst (IsWalkerIfMade programs w.tree w.files.objects (w.files.table e.process)) made (good.walks e.process)

    own : HaveAskedIf (w.files.table e.process) s (under_way programs s) s.walk
    own = subst (HasAsked programs (w.files.table e.process)) made (before e.process)

-- what one who is about to do something has asked before
asked_about : (programs : Programs) (w : World) (p : ℕ) (act : Act) → HaveAsked programs w → HaveAsked programs (about w p act)
asked_about programs w p Own before q = before q
asked_about programs w p (Does deed) before q =
    changed_keeps (HasAsked programs (w.files.table q)) w.processes p (handed_to deed) q
    (λ s asked. handed_cases (λ t. HasAsked programs (w.files.table q) (Some t)) deed s
    (λ hostile. rests programs (w.files.table q) (record s { kept = Some deed }) (rests_now programs deed s hostile)) asked)
    (before q)

all_ask_again : (programs : Programs) (w : World) (events : List (Event × Act)) → ArePrograms programs → IsWellFormed programs w → HaveAsked programs w → AskAgain programs w events
all_ask_again programs w [] valid good before = tt
all_ask_again programs w ((e, act) ∷ events) valid good before = (
  asks_again programs w e good before,
  λ choice fresh byte is.
      let formed = about_well_formed programs w e.process act good is in
      all_ask_again programs (step_as programs w e act choice).world events valid
      (kept programs valid formed.numbering (about w e.process act) formed.world formed.walks e byte choice
      (subst (λ f. IsFresh f choice) (sym (files_about w e.process act)) fresh))
      (step_later programs (about w e.process act) (asked_about programs w e.process act before) e choice),
)

pub later_events_fail_late : LaterEventsFailLate
later_events_fail_late programs w events valid good resting = all_ask_again programs w events valid good asked_nothing
  where
    asked_nothing : HaveAsked programs w
    asked_nothing p = by_process (slice_get w.processes p) refl
      where
        by_process : (o : Option ProcessState) → slice_get w.processes p ≡ o → HasAsked programs (w.files.table p) o
        by_process None is = tt
        by_process (Some s) is = rests programs (w.files.table p) s (resting p s is)
