-- From what a call came to, and what became of its process, to the whole.
use Rattle.std.proofs.Common.{◌≡◌, ◌<◌, ◌+◌, ℕ, zero, suc, List, [], ◌∷◌, ◌++◌, length, slice_set, refl, ap, sym, subst, ◌∙◌}
use Rattle.std.specs.Prelude.{Option, Some, None, Result, Ok, Err, IfOk}
use Rattle.std.proofs.Math.ListN.{get_or, length-set}
use Rattle.std.proofs.lemmas.Option.{slice_get_within}
use Rattle.std.specs.List.{slice_get}
use Rattle.process.specs.State.{ProcessState, Walking}
use Rattle.process.specs.Views.{walking_of}
use Rattle.file_tree.specs.Nodes.{Node}
use Rattle.fd_table.specs.Descriptions.{Descriptor}
use Rattle.fd_table.specs.OpenFiles.{OpenFiles}
use Rattle.instruction_set.specs.Programs.{Syscall}
use Rattle.rights.specs.Views.{errno_of, cause_of}
use Rattle.kernel.specs.World.{World}
use Rattle.kernel.specs.Answers.{Answer, Event, Waits}
use Rattle.kernel.specs.Calls.{answer}
use Rattle.kernel.specs.Changes.{children}
use Rattle.kernel.specs.Steps.{LineResult, Programs, Value, Failed, Waiting, Walks_on, failed}
use Rattle.kernel.specs.Walks.{FitsIfWalking}
use Rattle.kernel.specs.WellFormed.{Numbering, IsWorld}
use Rattle.kernel.proofs.FittingWalks.{none_under}
use Rattle.kernel.proofs.KeptWalks.{if_walking_later}
use Rattle.syscalls.specs.declared.effects.Effects.{Effects}
use Rattle.syscalls.specs.declared.outcomes.Refusal.{Refusal}
use Rattle.syscalls.specs.declared.outcomes.Refusal.TheVariants as refusal
use Rattle.syscalls.specs.declared.outcomes.Success.{Success}
use Rattle.syscalls.specs.AnswerViews.{DoesNothing, Meets}
use Rattle.syscalls.specs.CallViews.{Comes, Settles, succeeded_as}
use Rattle.syscalls.specs.Shows.{Shown}
use Rattle.syscalls.specs.Views.{AreThere, change_of, effects_in, world_with}
use Rattle.syscalls.proofs.Calling.{fails, same_process, same_world, stands, succeeds_as, waits, walks}
use Rattle.syscalls.proofs.Unwaiting.{looks_nothing}

-- one element set twice, and one set to what it is
set_twice : {A : Type 0} (xs : List A) (p : ℕ) (a b : A) → slice_set (slice_set xs p a) p b ≡ slice_set xs p b
set_twice [] p a b = refl
set_twice (x ∷ xs) zero a b = refl
set_twice (x ∷ xs) (suc p) a b = ap (λ rest. x ∷ rest) (set_twice xs p a b)

set_itself : {A : Type 0} (xs : List A) (p : ℕ) (a : A) → slice_get xs p ≡ Some a → slice_set xs p a ≡ xs
set_itself [] p a is = refl
set_itself (x ∷ xs) zero a is = let same : x ≡ a = cc in ap (λ y. y ∷ xs) (sym same)
set_itself (x ∷ xs) (suc p) a is = ap (λ rest. x ∷ rest) (set_itself xs p a is)

-- the process without what its call had under way
abbrev pub rested : ProcessState → ProcessState
rested s = record s { walk = None }

pub stays_made : (processes : List ProcessState) (p : ℕ) (s x : ProcessState) → slice_get processes p ≡ Some s → slice_get (slice_set processes p x) p ≡ Some x
stays_made [] p s x made = absurd cc
stays_made (y ∷ processes) zero s x made = refl
stays_made (y ∷ processes) (suc p) s x made = stays_made processes p s x made

-- the list after what a process has under way was taken out
module _ (processes others : List ProcessState) (p : ℕ) (s : ProcessState) (made : slice_get processes p ≡ Some s) (left : others ≡ slice_set processes p (rested s)) where
  pub stays_there : slice_get others p ≡ Some (rested s)
  stays_there = subst (λ xs. slice_get xs p ≡ Some (rested s)) (sym left) (stays_made processes p s (rested s) made)

  pub still_made : p < length others
  still_made = slice_get_within others p (rested s) stays_there

  pub as_many : length others ≡ length processes
  as_many = ap length left ∙ length-set processes p (rested s)

  pub stands_rested : (x : ProcessState) → x ≡ get_or others p x → x ≡ rested s
  stands_rested x read = stands others p (rested s) x stays_there read

  pub next_rested : s.point + 1 < 256 → (x : ProcessState) → slice_get others p ≡ Some x → x.point + 1 < 256
  next_rested next x there = subst (λ (y : ProcessState). y.point + 1 < 256) (same_process others p (rested s) x stays_there there) next

-- what fits the process fits it without what it has under way, in its place
pub fits_rested : (t : List Node) (f : OpenFiles) (row : ℕ → Option Descriptor) (s x : ProcessState) (call : Syscall) (o : Option Walking) → x ≡ rested s → o ≡ s.walk →
    FitsIfWalking t f.objects row s (Some call) s.walk → FitsIfWalking t f.objects row x (Some call) o
fits_rested t f row s x call o is taken fits =
    subst (λ y. FitsIfWalking t f.objects row y (Some call) o) (sym is) (subst (FitsIfWalking t f.objects row (rested s) (Some call)) (sym taken)
    (if_walking_later t t f.objects f.objects row row s (rested s) (λ n opened. refl) (λ n d there. refl) (λ n. refl) refl (Some call) s.walk fits))

-- the process with what was taken out of it
pub whole_again : (s x : ProcessState) (o : Option Walking) → x ≡ rested s → o ≡ s.walk → record x { walk = o } ≡ s
whole_again s x o is taken = ap (λ (y : ProcessState). record y { walk = o }) is ∙ ap (λ w. record s { walk = w }) taken

pub if_ok_map : {A E : Type 0} (r : Result A E) (P Q : A → Type 0) → ((a : A) → P a → Q a) → IfOk r P → IfOk r Q
if_ok_map (Ok a) P Q f h = f a h
if_ok_map (Err error) P Q f h = tt

module _ (programs : Programs) (t : List Node) (f : OpenFiles) (processes : List ProcessState) (numbering : Numbering)
    (good : IsWorld programs numbering (world_with t f processes)) (p : ℕ) (s : ProcessState) (e : Event) (call : Syscall) (otherwise : ℕ)
    (made : slice_get processes p ≡ Some s) (fits : FitsIfWalking t f.objects (f.table p) s (Some call) s.walk) (after : List Node) (left : OpenFiles) where
  abbrev w : World
  w = world_with t f processes

  told_as : (told other : LineResult) (shows more : List Shown) (v u : World) → told ≡ other → shows ≡ more → v ≡ u → Comes w p s e call otherwise other more u →
      Comes w p s e call otherwise told shows v
  told_as told other shows more v u one two three comes = rw (one, two, three) comes

  unchanged : (others more : List ProcessState) → DoesNothing w after left → others ≡ more → world_with after left others ≡ world_with t f more
  unchanged others more nothing same = same_world nothing.tree nothing.files same

  -- a call that waits had nothing under way
  was_rested : answer w p s e call ≡ Waits → slice_set processes p (rested s) ≡ processes
  was_rested waiting =
      let none : s.walk ≡ None = none_under t f.objects (f.table p) s call s.walk (looks_nothing w p s e call waiting) fits in
      ap (slice_set processes p) (ap (λ o. record s { walk = o }) (sym none)) ∙ set_itself processes p s made

  pub settled : (came : Result Success Refusal) → Meets w p after left came (answer w p s e call) → (told : LineResult) (does : Effects) (others : List ProcessState) →
      Settles (slice_set processes p (rested s)) p (rested s) otherwise came told does others →
      Comes w p s e call otherwise told (effects_in after does) (world_with after left others)
  settled (Ok success) meets told does others is =
      told_as told (Value success.value) (effects_in after does) (effects_in after success.effects) (world_with after left others) (world_with after left others)
      is.0 (ap (effects_in after) is.1) refl
      (succeeds_as programs t f processes numbering good p s e call otherwise after left (effects_in after success.effects) success.value success.besides meets.0 others
      (is.2 ∙ ap (λ list. list ++ children (change_of success.besides).table (succeeded_as s success.value success.besides))
      (set_twice processes p (rested s) (succeeded_as s success.value success.besides))))
  settled (Err (refusal.Fails errno cause)) meets told does others is =
      told_as told (Failed (errno_of errno) (cause_of cause)) (effects_in after does) [] (world_with after left others)
      (world_with t f (slice_set processes p (failed s (errno_of errno) otherwise))) is.0 (ap (effects_in after) is.1)
      (unchanged others (slice_set processes p (failed s (errno_of errno) otherwise)) meets.1 (is.2 ∙ set_twice processes p (rested s) (failed s (errno_of errno) otherwise)))
      (fails programs t f processes numbering good p s e call otherwise (errno_of errno) (cause_of cause) meets.0)
  settled (Err refusal.Waits) meets told does others is =
      told_as told Waiting (effects_in after does) [] (world_with after left others) w is.0 (ap (effects_in after) is.1)
      (unchanged others processes meets.1 (is.2 ∙ was_rested meets.0)) (waits programs t f processes numbering good p s e call otherwise meets.0)
  settled (Err (refusal.Walks walking)) meets told does others is =
      let walker : ProcessState = record s { walk = Some (walking_of walking) } in
      told_as told Walks_on (effects_in after does) [] (world_with after left others) (world_with t f (slice_set processes p walker)) is.0 (ap (effects_in after) is.1)
      (unchanged others (slice_set processes p walker) meets.1 (is.2 ∙ set_twice processes p (rested s) walker))
      (walks programs t f processes numbering good p s e call otherwise (walking_of walking) meets.0)
  settled (Err refusal.Memory) meets told does others is = absurd is

-- what a call did is there
pub there_told : (w : World) (p : ℕ) (after : List Node) (left : OpenFiles) (a : Answer) (came : Result Success Refusal) → Meets w p after left came a →
    (processes others : List ProcessState) (s : ProcessState) (otherwise : ℕ) (told : LineResult) (does : Effects) → Settles processes p s otherwise came told does others → AreThere after does
there_told w p after left a (Ok success) meets processes others s otherwise told does is = subst (AreThere after) (sym is.1) meets.1
there_told w p after left a (Err (refusal.Fails errno cause)) meets processes others s otherwise told does is = rw is.1 tt
there_told w p after left a (Err refusal.Waits) meets processes others s otherwise told does is = rw is.1 tt
there_told w p after left a (Err (refusal.Walks walking)) meets processes others s otherwise told does is = rw is.1 tt
there_told w p after left a (Err refusal.Memory) meets processes others s otherwise told does is = absurd is
