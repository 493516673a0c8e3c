-- What a deed leaves of the processes.
use Rattle.std.proofs.Common.{◌≡◌, inl, inr, ℕ, zero, suc, ◌+◌, Bool, true, false, List, [], ◌∷◌, ◌++◌, refl, length, arith, ap, sym, ◌∙◌, subst, append-nil}
use Rattle.std.specs.Prelude.{◌≢◌, ◌⊎◌, Option, Some, None, slice_set}
use Rattle.std.specs.List.{slice_get}
use Rattle.std.proofs.Math.ListN.{length-set}
use Rattle.rights.proofs.Lists.{slice_get-set_cases}
use Rattle.process.specs.State.{Deed, ProcessState, Walking, ended, forked, left_by}
use Rattle.instruction_set.specs.Programs.{Instruction, Set, Mov, Add, In, Jmp, Jeq, Jlt, Halt, Invoke}
use Rattle.kernel.specs.World.{World, Choice}
use Rattle.kernel.specs.Answers.{Event, TableChange, Same_table, Set_entry, Clear_entry, New_file, New_pair, New_process, Answer, Fails, Waits, Gives, Walks}
use Rattle.kernel.specs.Calls.{answer}
use Rattle.kernel.specs.Changes.{given, processes_after, changed}
use Rattle.kernel.specs.Steps.{LineResult, No_call, Halted, Value, Failed, Waiting, Walks_on, Ended, Executed, after_deed, answered, changed_at, executed, failed, jumped}
use Rattle.kernel.specs.Steps.{with_process}
use Rattle.kernel.proofs.KeptWalks.{slice_get-more_cases}
use Rattle.kernel.proofs.Points.{still_on}

-- ## One process changed
pub changed_cases : (Q : Option ProcessState → Type 0) (xs : List ProcessState) (p : ℕ) (f : ProcessState → ProcessState) (m : ℕ) → Q None →
    ((s : ProcessState) → slice_get xs m ≡ Some s → m ≡ p → Q (Some (f s))) → (m ≢ p → Q (slice_get xs m)) → Q (slice_get (changed_at xs p f) m)
changed_cases Q [] p f m none here there = none
changed_cases Q (x ∷ xs) zero f zero none here there = here x refl refl
changed_cases Q (x ∷ xs) zero f (suc m) none here there = there (λ same. absurd (omega (arith, same)))
changed_cases Q (x ∷ xs) (suc p) f zero none here there = there (λ same. absurd (omega (arith, same)))
changed_cases Q (x ∷ xs) (suc p) f (suc m) none here there =
    changed_cases Q xs p f m none (λ s is same. here s is (ap suc same)) (λ other. there (λ same. other (omega (arith, same))))

pub changed_keeps : (Q : Option ProcessState → Type 0) (xs : List ProcessState) (p : ℕ) (f : ProcessState → ProcessState) (m : ℕ) →
    ((s : ProcessState) → Q (Some s) → Q (Some (f s))) → Q (slice_get xs m) → Q (slice_get (changed_at xs p f) m)
changed_keeps Q [] p f m keeps is = is
changed_keeps Q (x ∷ xs) zero f zero keeps is = keeps x is
changed_keeps Q (x ∷ xs) zero f (suc m) keeps is = is
changed_keeps Q (x ∷ xs) (suc p) f zero keeps is = is
changed_keeps Q (x ∷ xs) (suc p) f (suc m) keeps is = changed_keeps Q xs p f m keeps is

-- what holds of each process and itself holds of it and what it is changed to, if it does so there
pub changed_at_there : (Q : Option ProcessState → Option ProcessState → Type 0) (xs : List ProcessState) (p : ℕ) (f : ProcessState → ProcessState) (m : ℕ) →
    ((o : Option ProcessState) → Q o o) → ((s : ProcessState) → Q (Some s) (Some (f s))) → Q (slice_get xs m) (slice_get (changed_at xs p f) m)
changed_at_there Q [] p f m same here = same None
changed_at_there Q (x ∷ xs) zero f zero same here = here x
changed_at_there Q (x ∷ xs) zero f (suc m) same here = same (slice_get xs m)
changed_at_there Q (x ∷ xs) (suc p) f zero same here = same (Some x)
changed_at_there Q (x ∷ xs) (suc p) f (suc m) same here = changed_at_there Q xs p f m same here

pub changed_length : (xs : List ProcessState) (p : ℕ) (f : ProcessState → ProcessState) → length (changed_at xs p f) ≡ length xs
changed_length [] p f = refl
changed_length (x ∷ xs) zero f = refl
changed_length (x ∷ xs) (suc p) f = ap suc (changed_length xs p f)

-- ## What a deed leaves
pub is_end : LineResult → Bool
is_end Walks_on = false
is_end No_call = true
is_end Halted = true
is_end (Value value) = true
is_end (Failed errno cause) = true
is_end Waiting = true
is_end Ended = true

pub after_end : (deed : Deed) (p made : ℕ) (outcome : LineResult) (xs : List ProcessState) → is_end outcome ≡ true →
    after_deed (Some deed) p made outcome xs ≡ changed_at (changed_at xs p (left_by deed)) made (left_by deed)
unfolding is_end
after_end deed p made Walks_on xs ends = absurd cc
after_end deed p made No_call xs ends = refl
after_end deed p made Halted xs ends = refl
after_end deed p made (Value value) xs ends = refl
after_end deed p made (Failed errno cause) xs ends = refl
after_end deed p made Waiting xs ends = refl
after_end deed p made Ended xs ends = refl

module _ (Q : Option ProcessState → Type 0) (p made : ℕ) (xs : List ProcessState) (m : ℕ) where
  left_keeps : (deed : Deed) → ((t : ProcessState) → Q (Some t) → Q (Some (left_by deed t))) → Q (slice_get xs m) →
      Q (slice_get (changed_at (changed_at xs p (left_by deed)) made (left_by deed)) m)
  left_keeps deed keeps is = changed_keeps Q (changed_at xs p (left_by deed)) made (left_by deed) m keeps (changed_keeps Q xs p (left_by deed) m keeps is)

  pub after_keeps : (o : Option Deed) (outcome : LineResult) → ((deed : Deed) (t : ProcessState) → Q (Some t) → Q (Some (left_by deed t))) → Q (slice_get xs m) →
      Q (slice_get (after_deed o p made outcome xs) m)
  after_keeps None outcome keeps is = is
  after_keeps (Some deed) Walks_on keeps is = is
  after_keeps (Some deed) No_call keeps is = left_keeps deed (keeps deed) is
  after_keeps (Some deed) Halted keeps is = left_keeps deed (keeps deed) is
  after_keeps (Some deed) (Value value) keeps is = left_keeps deed (keeps deed) is
  after_keeps (Some deed) (Failed errno cause) keeps is = left_keeps deed (keeps deed) is
  after_keeps (Some deed) Waiting keeps is = left_keeps deed (keeps deed) is
  after_keeps (Some deed) Ended keeps is = left_keeps deed (keeps deed) is

-- the others stay
pub after_other : (o : Option Deed) (p made : ℕ) (outcome : LineResult) (xs : List ProcessState) (m : ℕ) → m ≢ p → m ≢ made →
    slice_get (after_deed o p made outcome xs) m ≡ slice_get xs m
after_other o p made outcome xs m one other = by_deed o outcome
  where
    at_other : (ys : List ProcessState) (k : ℕ) (f : ProcessState → ProcessState) (n : ℕ) → n ≢ k → slice_get (changed_at ys k f) n ≡ slice_get ys n
    at_other [] k f n apart = refl
    at_other (y ∷ ys) zero f zero apart = absurd (apart refl)
    at_other (y ∷ ys) zero f (suc n) apart = refl
    at_other (y ∷ ys) (suc k) f zero apart = refl
    at_other (y ∷ ys) (suc k) f (suc n) apart = at_other ys k f n (λ same. apart (ap suc same))

    twice : (deed : Deed) → slice_get (changed_at (changed_at xs p (left_by deed)) made (left_by deed)) m ≡ slice_get xs m
    twice deed = at_other (changed_at xs p (left_by deed)) made (left_by deed) m other ∙ at_other xs p (left_by deed) m one

    by_deed : (o : Option Deed) (outcome : LineResult) → slice_get (after_deed o p made outcome xs) m ≡ slice_get xs m
    by_deed None outcome = refl
    by_deed (Some deed) Walks_on = refl
    by_deed (Some deed) No_call = twice deed
    by_deed (Some deed) Halted = twice deed
    by_deed (Some deed) (Value value) = twice deed
    by_deed (Some deed) (Failed errno cause) = twice deed
    by_deed (Some deed) Waiting = twice deed
    by_deed (Some deed) Ended = twice deed

pub after_length : (o : Option Deed) (p made : ℕ) (outcome : LineResult) (xs : List ProcessState) → length (after_deed o p made outcome xs) ≡ length xs
after_length o p made outcome xs = by_deed o outcome
  where
    twice : (deed : Deed) → length (changed_at (changed_at xs p (left_by deed)) made (left_by deed)) ≡ length xs
    twice deed = changed_length (changed_at xs p (left_by deed)) made (left_by deed) ∙ changed_length xs p (left_by deed)

    by_deed : (o : Option Deed) (outcome : LineResult) → length (after_deed o p made outcome xs) ≡ length xs
    by_deed None outcome = refl
    by_deed (Some deed) Walks_on = refl
    by_deed (Some deed) No_call = twice deed
    by_deed (Some deed) Halted = twice deed
    by_deed (Some deed) (Value value) = twice deed
    by_deed (Some deed) (Failed errno cause) = twice deed
    by_deed (Some deed) Waiting = twice deed
    by_deed (Some deed) Ended = twice deed

-- ## What an instruction makes of the processes
-- of the same program, in the mode if the other is, and without a deed if the other is
pub record IsLike (s t : ProcessState) : Type 0 where
  pub program : t.program ≡ s.program
  pub marked : t.marked ≡ s.marked
  pub mode : s.mode ≡ true → t.mode ≡ true
  pub kept : (t.kept ≡ s.kept) ⊎ (t.kept ≡ None)

pub stays_none : {s t : ProcessState} → IsLike s t → s.kept ≡ None → t.kept ≡ None
stays_none like none = elim like.kept [ inl same ↦ same ∙ none | inr own ↦ own ]

module _ (w : World) (e : Event) (choice : Choice) (s : ProcessState) where
  -- its own process and a child are like it, and the others are as they were
  module _ (R : ℕ → Option ProcessState → Type 0) (there : (q : ℕ) → R q (slice_get w.processes q)) (own : (t : ProcessState) → IsLike s t → R e.process (Some t))
      (child : (t : ProcessState) → IsLike s t → R (length w.processes) (Some t)) where
    each_set : (t : ProcessState) → IsLike s t → (q : ℕ) → R q (slice_get (slice_set w.processes e.process t) q)
    each_set t like q = slice_get-set_cases (R q) w.processes e.process t q (λ same. subst (λ k. R k (Some t)) (sym same) (own t like)) (there q)

    each_no_more : (t : ProcessState) → IsLike s t → (q : ℕ) → R q (slice_get (slice_set w.processes e.process t ++ []) q)
    each_no_more t like q = subst (λ (xs : List ProcessState). R q (slice_get xs q)) (sym (append-nil (slice_set w.processes e.process t))) (each_set t like q)

    each_after : (t : ProcessState) → IsLike s t → IsLike s (forked t) → (table : TableChange) (q : ℕ) → R q (slice_get (processes_after w.processes e.process t table) q)
    each_after t like also Same_table q = each_no_more t like q
    each_after t like also (Set_entry number d) q = each_no_more t like q
    each_after t like also (Clear_entry number) q = each_no_more t like q
    each_after t like also (New_file number n access append rights fcntls) q = each_no_more t like q
    each_after t like also (New_pair first second class) q = each_no_more t like q
    each_after t like also New_process q =
        slice_get-more_cases (R q) (slice_set w.processes e.process t) (forked t) q
        (λ at. subst (λ k. R k (Some (forked t))) (sym (at ∙ length-set w.processes e.process t)) (child (forked t) also))
        (λ _. each_set t like q)

    each_answered : (otherwise : ℕ) (a : Answer) (q : ℕ) → R q (slice_get (answered w e.process s choice otherwise a).world.processes q)
    unfolding answered changed
    each_answered otherwise (Fails errno cause) q = each_set (failed s errno otherwise) (record { program = refl; marked = refl; mode = λ on. on; kept = inl refl }) q
    each_answered otherwise Waits q = there q
    each_answered otherwise (Gives value change effects) q =
        let on = still_on s.mode change.enters in
        each_after (given s value change) (record { program = refl; marked = refl; mode = on; kept = inl refl })
        (record { program = refl; marked = refl; mode = on; kept = inr refl }) change.table q
    each_answered otherwise (Walks walking) q = each_set (record s { walk = Some walking }) (record { program = refl; marked = refl; mode = λ on. on; kept = inl refl }) q

    each_jumped : (taken : Bool) (target : ℕ) (q : ℕ) → R q (slice_get (slice_set w.processes e.process (jumped s taken target)) q)
    unfolding jumped
    each_jumped true target q = each_set _ (record { program = refl; marked = refl; mode = λ on. on; kept = inl refl }) q
    each_jumped false target q = each_set _ (record { program = refl; marked = refl; mode = λ on. on; kept = inl refl }) q

    pub each_executed : (i : Instruction) (q : ℕ) → R q (slice_get (executed w e choice s i).world.processes q)
    unfolding executed
    each_executed (Set r value) q = each_set _ (record { program = refl; marked = refl; mode = λ on. on; kept = inl refl }) q
    each_executed (Mov r source) q = each_set _ (record { program = refl; marked = refl; mode = λ on. on; kept = inl refl }) q
    each_executed (Add r addend) q = each_set _ (record { program = refl; marked = refl; mode = λ on. on; kept = inl refl }) q
    each_executed (In r) q = each_set _ (record { program = refl; marked = refl; mode = λ on. on; kept = inl refl }) q
    each_executed (Jmp target) q = each_set _ (record { program = refl; marked = refl; mode = λ on. on; kept = inl refl }) q
    each_executed (Jeq r value target) q = each_jumped _ target q
    each_executed (Jlt r value target) q = each_jumped _ target q
    each_executed Halt q = each_set (ended s) (record { program = refl; marked = refl; mode = λ on. on; kept = inl refl }) q
    each_executed (Invoke call otherwise) q = each_answered otherwise (answer w e.process s e call) q

  -- an instruction has names of a path left, or has come to an end
  abbrev pub StaysOrEnds : Executed → Type 0
  StaysOrEnds x =
      ((walking : Walking) × (x ≡ record { world = with_process w e.process (record s { walk = Some walking }); outcome = Walks_on; effects = [] }))
      ⊎ (is_end x.outcome ≡ true)

  answer_ends : (otherwise : ℕ) (a : Answer) → StaysOrEnds (answered w e.process s choice otherwise a)
  unfolding answered is_end
  answer_ends otherwise (Fails errno cause) = inr refl
  answer_ends otherwise Waits = inr refl
  answer_ends otherwise (Gives value change effects) = inr refl
  answer_ends otherwise (Walks walking) = inl (walking, refl)

  pub stays_or_ends : (i : Instruction) → StaysOrEnds (executed w e choice s i)
  unfolding executed is_end
  stays_or_ends (Set r value) = inr refl
  stays_or_ends (Mov r source) = inr refl
  stays_or_ends (Add r addend) = inr refl
  stays_or_ends (In r) = inr refl
  stays_or_ends (Jmp target) = inr refl
  stays_or_ends (Jeq r value target) = inr refl
  stays_or_ends (Jlt r value target) = inr refl
  stays_or_ends Halt = inr refl
  stays_or_ends (Invoke call otherwise) = answer_ends otherwise (answer w e.process s e call)
