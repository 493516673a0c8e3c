-- A deed comes to the same at any point.
use Rattle.std.proofs.Common.{◌≡◌, ℕ, zero, suc, ◌<◌, ◌≤◌, Bool, true, false, List, [], ◌∷◌, ◌++◌, length, refl, arith, ap, sym, subst, ◌∙◌, append-nil}
use Rattle.std.specs.Prelude.{◌&&◌, ◌==◌, ◌+◌, ◌-◌, not, slice_set, Option, Some, None, nat_lt, if◌then◌else◌}
use Rattle.std.specs.List.{slice_get}
use Rattle.std.proofs.Math.ListN.{get_or, length-set}
use Rattle.std.proofs.lemmas.List.{set-set}
use Rattle.rights.specs.Errors.{EAGAIN, ENFILE, EMFILE}
use Rattle.rights.specs.Errors as errors
use Rattle.rights.specs.Limits.{most_descriptors, most_processes}
use Rattle.process.specs.State.{Deed, ProcessState, Walking, ended, forked, left_by}
use Rattle.instruction_set.specs.Programs.{Instruction, Set, Mov, Add, In, Jmp, Jeq, Jlt, Halt, Invoke, Syscall, Open, Openat, Read, Write, Sendfd, Recvfd, Lseek, Ftruncate, Fsync, Fstat}
use Rattle.instruction_set.specs.Programs.{Fcntl_getfl, Fcntl_setfl, Fstatat, Stat, Mkdirat, Mkdir, Unlinkat, Unlink, Renameat, Dup, Close, Cap_rights_limit, Cap_fcntls_limit, Cap_enter}
use Rattle.instruction_set.specs.Programs.{Cap_getmode, Socketpair, Fork, Use}
use Rattle.fd_table.specs.Descriptions.{PairClass, Made_at, Made_by}
use Rattle.kernel.specs.World.{World, Choice}
use Rattle.kernel.specs.Answers.{Event, TableChange, Same_table, Set_entry, Clear_entry, New_file, New_pair, New_process, Change, Answer, Fails, Waits, Gives, Walks, at_number, same, unless}
use Rattle.fd_table.specs.OpenFiles.{lowest_from, lowest_free}
use Rattle.kernel.specs.Calls.{answer, looks, looks_twice, own_class}
use Rattle.kernel.specs.Changes.{changed, files_after, given, processes_after}
use Rattle.kernel.specs.Steps.{Executed, after_deed, answered, changed_at, executed, failed, jumped, plain, register, with_process}
use Rattle.simulator.specs.Deeds.{finished, set_aside, set_back}
use Rattle.simulator.proofs.Doing.{put_back}

-- ## One process of a list changed
module _ (f : ProcessState → ProcessState) where
  pub changed_set : (xs : List ProcessState) (p : ℕ) (t : ProcessState) → changed_at (slice_set xs p t) p f ≡ slice_set xs p (f t)
  changed_set [] p t = refl
  changed_set (x ∷ xs) zero t = refl
  changed_set (x ∷ xs) (suc p) t = ap (λ ys. x ∷ ys) (changed_set xs p t)

  pub changed_past : (xs : List ProcessState) (p : ℕ) → length xs ≤ p → changed_at xs p f ≡ xs
  changed_past [] p past = refl
  changed_past (x ∷ xs) zero past = absurd (omega arith)
  changed_past (x ∷ xs) (suc p) past = ap (λ ys. x ∷ ys) (changed_past xs p (omega arith))

  changed_front : (xs rest : List ProcessState) (p : ℕ) (t : ProcessState) → p < length xs → changed_at (slice_set xs p t ++ rest) p f ≡ slice_set xs p (f t) ++ rest
  changed_front [] rest p t there = absurd (omega arith)
  changed_front (x ∷ xs) rest zero t there = refl
  changed_front (x ∷ xs) rest (suc p) t there = ap (λ ys. x ∷ ys) (changed_front xs rest p t (omega arith))

  changed_last : (xs : List ProcessState) (c : ProcessState) (n : ℕ) → length xs ≡ n → changed_at (xs ++ c ∷ []) n f ≡ xs ++ f c ∷ []
  changed_last [] c zero is = refl
  changed_last [] c (suc n) is = absurd (omega (arith, is))
  changed_last (x ∷ xs) c zero is = absurd (omega (arith, is))
  changed_last (x ∷ xs) c (suc n) is = ap (λ ys. x ∷ ys) (changed_last xs c n (omega (arith, is)))

  -- as the code changes it
  pub set_is_changed : (xs : List ProcessState) (p : ℕ) (x : ProcessState) → p < length xs → x ≡ get_or xs p x → slice_set xs p (f x) ≡ changed_at xs p f
  set_is_changed [] p x there read = absurd (omega arith)
  set_is_changed (y ∷ xs) zero x there read = ap (λ z. f z ∷ xs) read
  set_is_changed (y ∷ xs) (suc p) x there read = ap (λ ys. y ∷ ys) (set_is_changed xs p x (omega arith) read)

-- ## What is executed
module _ (w : World) (e : Event) (choice : Choice) (s : ProcessState) (deed : Deed) (kept : s.kept ≡ Some deed) (own : (s.marked && s.mode) ≡ true)
    (there : slice_get w.processes e.process ≡ Some s) (below : e.process < length w.processes) where
  abbrev other : World
  other = with_process w e.process (set_aside s)

  abbrev count : length other.processes ≡ length w.processes
  count = length-set w.processes e.process (set_aside s)

  -- the same was done, and then the deed leaves the same
  pub record SameDone (x y : Executed) : Type 0 where
    pub tree : y.world.tree ≡ x.world.tree
    pub files : y.world.files ≡ x.world.files
    pub processes : finished deed s.point e.process (length w.processes) y.outcome y.world.processes
        ≡ after_deed (Some deed) e.process (length w.processes) x.outcome x.world.processes
    pub outcome : y.outcome ≡ x.outcome
    pub effects : y.effects ≡ x.effects

  class_same : own_class (set_aside s) ≡ own_class s
  class_same = ap (λ b. if b then Made_by s.program else Made_at s.program 0) own ∙ ap (λ b. if b then Made_by s.program else Made_at s.program s.point) (sym own)

  answer_same : (call : Syscall) → answer other e.process (set_aside s) e call ≡ answer w e.process s e call
  unfolding answer looks looks_twice
  answer_same (Open path f) = refl
  answer_same (Openat x path f) = refl
  answer_same (Read x) = refl
  answer_same (Write x v) = refl
  answer_same (Sendfd x y v) = refl
  answer_same (Recvfd x) = refl
  answer_same (Lseek x v) = refl
  answer_same (Ftruncate x v) = refl
  answer_same (Fsync x) = refl
  answer_same (Fstat x) = refl
  answer_same (Fcntl_getfl x) = refl
  answer_same (Fcntl_setfl x v) = refl
  answer_same (Fstatat x path) = refl
  answer_same (Stat path) = refl
  answer_same (Mkdirat x path) = refl
  answer_same (Mkdir path) = refl
  answer_same (Unlinkat x path directory) = refl
  answer_same (Unlink path directory) = refl
  answer_same (Renameat x from y to) = refl
  answer_same (Dup x) = refl
  answer_same (Close x) = refl
  answer_same (Cap_rights_limit x rights) = refl
  answer_same (Cap_fcntls_limit x commands) = refl
  answer_same Cap_enter = refl
  answer_same Cap_getmode = refl
  answer_same Socketpair = pairs (lowest_free (w.files.table e.process))
    where
      pair : (class : PairClass) (first : ℕ) → Answer
      pair class first =
          at_number (lowest_from (most_descriptors - 1 - first) (first + 1) (w.files.table e.process)) (λ second.
          unless (not e.refuse) ENFILE errors.Refused (Gives first (record same { table = New_pair first second class }) []))

      at_first : PairClass → Option ℕ → Answer
      at_first class None = Fails EMFILE errors.Full
      at_first class (Some first) = pair class first

      pairs : (o : Option ℕ) → at_first (own_class (set_aside s)) o ≡ at_first (own_class s) o
      pairs o = ap (λ class. at_first class o) class_same
  answer_same (Use x right) = refl
  answer_same Fork =
      ap (λ n. unless (nat_lt n most_processes) EAGAIN errors.Full (unless (not e.refuse) EAGAIN errors.Refused (Gives n (record same { table = New_process }) []))) count

  -- ## What is left of the processes
  abbrev leaves : List ProcessState → List ProcessState
  leaves processes = changed_at (changed_at processes e.process (left_by deed)) (length w.processes) (left_by deed)

  one_left : (t : ProcessState) → leaves (slice_set w.processes e.process t) ≡ slice_set w.processes e.process (left_by deed t)
  one_left t =
      ap (λ ys. changed_at ys (length w.processes) (left_by deed)) (changed_set (left_by deed) w.processes e.process t)
      ∙ changed_past (left_by deed) (slice_set w.processes e.process (left_by deed t)) (length w.processes)
      (omega (arith, length-set w.processes e.process (left_by deed t)))

  two_left : (t c : ProcessState) → leaves (slice_set w.processes e.process t ++ c ∷ []) ≡ slice_set w.processes e.process (left_by deed t) ++ left_by deed c ∷ []
  two_left t c =
      ap (λ ys. changed_at ys (length w.processes) (left_by deed)) (changed_front (left_by deed) w.processes (c ∷ []) e.process t below)
      ∙ changed_last (left_by deed) (slice_set w.processes e.process (left_by deed t)) c (length w.processes) (length-set w.processes e.process (left_by deed t))

  twice : (t : ProcessState) → slice_set other.processes e.process t ≡ slice_set w.processes e.process t
  twice t = set-set w.processes e.process (set_aside s) t

  set_left : (t u : ProcessState) → left_by deed u ≡ left_by deed t → leaves (slice_set other.processes e.process u) ≡ leaves (slice_set w.processes e.process t)
  set_left t u same =
      ap leaves (twice u) ∙ one_left u ∙ ap (slice_set w.processes e.process) same ∙ sym (one_left t)

  given_left : (value : ℕ) (change : Change) (table : TableChange) →
      leaves (processes_after other.processes e.process (given (set_aside s) value change) table) ≡ leaves (processes_after w.processes e.process (given s value change) table)
  given_left value change table = by_table table
    where
      alone : leaves (slice_set other.processes e.process (given (set_aside s) value change) ++ []) ≡ leaves (slice_set w.processes e.process (given s value change) ++ [])
      alone =
          ap leaves (append-nil (slice_set other.processes e.process (given (set_aside s) value change)))
          ∙ set_left (given s value change) (given (set_aside s) value change) refl ∙ sym (ap leaves (append-nil (slice_set w.processes e.process (given s value change))))

      by_table : (table : TableChange) →
          leaves (processes_after other.processes e.process (given (set_aside s) value change) table) ≡ leaves (processes_after w.processes e.process (given s value change) table)
      by_table Same_table = alone
      by_table (Set_entry number d) = alone
      by_table (Clear_entry number) = alone
      by_table (New_file number n access append rights fcntls) = alone
      by_table (New_pair first second class) = alone
      by_table New_process =
          ap (λ ys. leaves (ys ++ forked (given (set_aside s) value change) ∷ [])) (twice (given (set_aside s) value change))
          ∙ two_left (given (set_aside s) value change) (forked (given (set_aside s) value change))
          ∙ sym (two_left (given s value change) (forked (given s value change)))

  walking_left : (walking : Walking) →
      changed_at (slice_set other.processes e.process (record (set_aside s) { walk = Some walking })) e.process (set_back deed s.point)
      ≡ slice_set w.processes e.process (record s { walk = Some walking })
  walking_left walking =
      ap (λ ys. changed_at ys e.process (set_back deed s.point)) (twice (record (set_aside s) { walk = Some walking }))
      ∙ changed_set (set_back deed s.point) w.processes e.process (record (set_aside s) { walk = Some walking })
      ∙ ap (λ o. slice_set w.processes e.process (record s { walk = Some walking; kept = o })) (sym kept)

  -- ## By instruction
  plain_same : (t u : ProcessState) → left_by deed u ≡ left_by deed t → SameDone (plain w e.process t) (plain other e.process u)
  plain_same t u same = record { tree = refl; files = refl; processes = set_left t u same; outcome = refl; effects = refl }

  jumped_same : (taken : Bool) (target : ℕ) → left_by deed (jumped (set_aside s) taken target) ≡ left_by deed (jumped s taken target)
  unfolding jumped
  jumped_same true target = refl
  jumped_same false target = refl

  waits_left : leaves other.processes ≡ leaves w.processes
  waits_left = one_left (set_aside s) ∙ sym (one_left s) ∙ ap leaves (put_back w.processes e.process s there)

  answered_same : (otherwise : ℕ) (a : Answer) → SameDone (answered w e.process s choice otherwise a) (answered other e.process (set_aside s) choice otherwise a)
  unfolding answered changed
  answered_same otherwise (Fails errno cause) =
      record { tree = refl; files = refl; processes = set_left (failed s errno otherwise) (failed (set_aside s) errno otherwise) refl; outcome = refl; effects = refl }
  answered_same otherwise Waits = record { tree = refl; files = refl; processes = waits_left; outcome = refl; effects = refl }
  answered_same otherwise (Gives value change effects) = record {
    tree = refl;
    files = ap (λ n. files_after w.files e.process n choice change) count;
    processes = given_left value change change.table;
    outcome = refl;
    effects = refl;
  }
  answered_same otherwise (Walks walking) = record { tree = refl; files = refl; processes = walking_left walking; outcome = refl; effects = refl }

  pub executed_same : (i : Instruction) → SameDone (executed w e choice s i) (executed other e choice (set_aside s) i)
  unfolding executed
  executed_same (Set r value) = plain_same _ _ refl
  executed_same (Mov r source) = plain_same _ _ refl
  executed_same (Add r addend) = plain_same _ _ refl
  executed_same (In r) = plain_same _ _ refl
  executed_same (Jmp target) = plain_same _ _ refl
  executed_same (Jeq r value target) = plain_same _ _ (jumped_same (register s r == value) target)
  executed_same (Jlt r value target) = plain_same _ _ (jumped_same (nat_lt (register s r) value) target)
  executed_same Halt = record { tree = refl; files = refl; processes = set_left (ended s) (ended (set_aside s)) refl; outcome = refl; effects = refl }
  executed_same (Invoke call otherwise) =
      subst (λ a. SameDone (answered w e.process s choice otherwise (answer w e.process s e call)) (answered other e.process (set_aside s) choice otherwise a))
      (sym (answer_same call)) (answered_same otherwise (answer w e.process s e call))
