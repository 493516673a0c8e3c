-- What an instruction does, by what is found of it.
use Rattle.std.proofs.Common.{◌≡◌, ℕ, ◌+◌, ◌<◌, ◌≤◌, true, false, List, [], ◌∷◌, refl, arith, length, map, ap, sym, subst, ◌∙◌}
use Rattle.std.specs.Prelude.{slice_set, Option, Some, None, Result, Ok, Err, IfOk}
use Rattle.std.specs.List.{slice_get, list_all}
use Rattle.std.specs.Option.{option_map}
use Rattle.std.proofs.lemmas.Bool.{leb-true}
use Rattle.std.proofs.Math.ListN.{get_or}
use Rattle.std.proofs.lemmas.List.{set-get_or}
use Rattle.std.proofs.lemmas.Option.{slice_get_within, get_or_from_slice_get, slice_get-get_or}
use Rattle.rights.proofs.Tests.{both_left}
use Rattle.process.specs.State.{ProcessState}
use Rattle.instruction_set.specs.Programs.{Instruction, Set, Mov, Add, In, Jmp, Jeq, Jlt, Halt, Invoke, is_instruction, is_last}
use Rattle.kernel.specs.World.{World, Choice, IsFresh}
use Rattle.kernel.specs.Answers.{Event}
use Rattle.kernel.specs.Steps.{No_call, Ended, Executed, Halted, LineResult, Programs, Stepped, after_deed, executed, halted, next_instruction, plain, step, stepped, stepped_at, stepped_by}
use Rattle.kernel.specs.Alike.{AlikeWorlds}
use Rattle.kernel.specs.Walks.{FitsIfWalking, IsWalker, IsWalkerIfMade, call_in}
use Rattle.kernel.specs.WellFormed.{ArePrograms, IsCode, IsPoint, IsWellFormed}
use Rattle.kernel.proofs.Fresh.{fresh_some}
use Rattle.kernel.proofs.KeptWalks.{AreWalkers, call_here}
use Rattle.kernel.proofs.Points.{placed}
use Rattle.syscalls.specs.MayCall.{CallComes, MayInvoke}
use Rattle.syscalls.specs.Shows.{Shown, shown}
use Rattle.syscalls.proofs.Keeping.{alike_refl}
use Rattle.simulator.specs.Lines.{line_at, shown_step}
use Rattle.simulator.specs.Steps.{Calls, DoesAs, Ends, Executes, Moves, NeedsNext, MayExecute, StepsMachine, acted_on, action}

-- what holds of a value holds of it further
pub if_ok_so : {A E : Type 0} (r : Result A E) (P Q : A → Type 0) → ((x : A) → P x → Q x) → IfOk r P → IfOk r Q
if_ok_so (Ok x) P Q so is = so x is
if_ok_so (Err e) P Q so is = tt

-- ## Points
few_points : (code : List Instruction) → IsCode code → length code ≤ 256
few_points [] valid = omega arith
few_points (i ∷ code) valid =
    leb-true (length (i ∷ code)) 256 (both_left _ (list_all (is_instruction (length (i ∷ code))) (i ∷ code)) (both_left _ _ valid))

point_there : (code : List Instruction) (k : ℕ) → IsPoint (slice_get code k) → k < length code
point_there code k there = by_answer (slice_get code k) refl there
  where
    by_answer : (o : Option Instruction) → slice_get code k ≡ o → IsPoint o → k < length code
    by_answer None is there = absurd there
    by_answer (Some i) is there = slice_get_within code k i is

needs_there : (code : List Instruction) (k : ℕ) (i : Instruction) → IsCode code → slice_get code k ≡ Some i → NeedsNext i (k + 1 < 256)
needs_there code k i valid here = by_instruction i here
  where
    below : (i : Instruction) → slice_get code k ≡ Some i → is_last i ≡ false → k + 1 < 256
    below i here on =
        let there : k + 1 < length code = point_there code (k + 1) ((placed code k i valid here).next on) in
        let few : length code ≤ 256 = few_points code valid in
        omega arith

    by_instruction : (i : Instruction) → slice_get code k ≡ Some i → NeedsNext i (k + 1 < 256)
    by_instruction (Set r value) here = below _ here refl
    by_instruction (Mov r source) here = below _ here refl
    by_instruction (Add r addend) here = below _ here refl
    by_instruction (In r) here = below _ here refl
    by_instruction (Jmp target) here = tt
    by_instruction (Jeq r value target) here = below _ here refl
    by_instruction (Jlt r value target) here = below _ here refl
    by_instruction Halt here = tt
    by_instruction (Invoke call otherwise) here = below _ here refl

-- what a process has under way is of the call that it goes on with
pub walks_on : (programs : Programs) (w : World) → AreWalkers programs w → (p : ℕ) (s : ProcessState) (i : Instruction) → slice_get w.processes p ≡ Some s →
    next_instruction s.kept (slice_get (programs s.program) s.point) ≡ Some i → FitsIfWalking w.tree w.files.objects (w.files.table p) s (call_in (Some i)) s.walk
walks_on programs w walkers p s i made here =
    let is : IsWalker programs w.tree w.files.objects (w.files.table p) s =
    subst (IsWalkerIfMade programs w.tree w.files.objects (w.files.table p)) made (walkers p) in
    subst (λ o. FitsIfWalking w.tree w.files.objects (w.files.table p) s o s.walk) (call_here programs s i here) is.fits

-- ## An instruction at its point
pub next_here : (programs : Programs) (s : ProcessState) (i : Instruction) → s.kept ≡ None → slice_get (programs s.program) s.point ≡ Some i →
    next_instruction s.kept (slice_get (programs s.program) s.point) ≡ Some i
next_here programs s i alone here = ap (λ o. next_instruction o (slice_get (programs s.program) s.point)) alone ∙ here

pub may_follow : (programs : Programs) (w : World) (p : ℕ) (s : ProcessState) (i : Instruction) → ArePrograms programs → IsWellFormed programs w →
    slice_get w.processes p ≡ Some s → s.kept ≡ None → slice_get (programs s.program) s.point ≡ Some i → MayExecute w p i
may_follow programs w p s i valid good made alone here = record {
  programs = programs;
  numbering = good.numbering;
  good = good.world;
  process = s;
  made = made;
  next = needs_there (programs s.program) s.point i (valid s.program) here;
  fits = walks_on programs w good.walks p s i made (next_here programs s i alone here);
}

-- ## Processes
-- what stands at a number is what the list gives there, and put back it changes nothing
pub stands : (processes : List ProcessState) (p : ℕ) (s x : ProcessState) → slice_get processes p ≡ Some s → x ≡ get_or processes p x → x ≡ s
stands processes p s x made read = read ∙ get_or_from_slice_get processes p s x made

pub put_back : (processes : List ProcessState) (p : ℕ) (s : ProcessState) → slice_get processes p ≡ Some s → slice_set processes p s ≡ processes
put_back processes p s made = ap (slice_set processes p) (sym (get_or_from_slice_get processes p s s made)) ∙ set-get_or processes p s

pub made_at : (processes : List ProcessState) (p : ℕ) (x : ProcessState) → p < length processes → x ≡ get_or processes p x → slice_get processes p ≡ Some x
made_at processes p x there read = slice_get-get_or processes p x there ∙ ap Some (sym read)

pub needs_next : (w : World) (p : ℕ) (i : Instruction) (x : ProcessState) → MayExecute w p i → x ≡ get_or w.processes p x → NeedsNext i (x.point + 1 < 256)
needs_next w p i x at read = subst (λ (y : ProcessState). NeedsNext i (y.point + 1 < 256)) (sym (stands w.processes p at.process x at.made read)) at.next

pub made_within : (w : World) (p : ℕ) (i : Instruction) → MayExecute w p i → p < length w.processes
made_within w p i at = slice_get_within w.processes p at.process at.made

pub made_few : (w : World) (p : ℕ) (i : Instruction) → MayExecute w p i → p < 16
made_few w p i at =
    let low : p < length w.processes = made_within w p i at in
    let few : length w.processes ≤ 16 = at.good.few in
    omega arith

-- an instruction that ends its process, or that is a call, leaves the world for others to change
module _ (w : World) (p : ℕ) (x next : ProcessState) (input : ℕ) (read : x ≡ get_or w.processes p x) where
  unchanged : (i : Instruction) → MayExecute w p i → acted_on x input i ≡ x → next ≡ acted_on x input i → slice_set w.processes p next ≡ w.processes
  unchanged i at stays is =
      ap (slice_set w.processes p) (is ∙ stays ∙ stands w.processes p at.process x at.made read) ∙ put_back w.processes p at.process at.made

  pub ends_unchanged : (i : Instruction) → MayExecute w p i → Ends ≡ action i → next ≡ acted_on x input i → slice_set w.processes p next ≡ w.processes
  ends_unchanged (Set r value) at ends is = absurd cc
  ends_unchanged (Mov r source) at ends is = absurd cc
  ends_unchanged (Add r addend) at ends is = absurd cc
  ends_unchanged (In r) at ends is = absurd cc
  ends_unchanged (Jmp target) at ends is = absurd cc
  ends_unchanged (Jeq r value target) at ends is = absurd cc
  ends_unchanged (Jlt r value target) at ends is = absurd cc
  ends_unchanged Halt at ends is = unchanged Halt at refl is
  ends_unchanged (Invoke call otherwise) at ends is = absurd cc

  pub calls_unchanged : (i : Instruction) → MayExecute w p i → Calls ≡ action i → next ≡ acted_on x input i → slice_set w.processes p next ≡ w.processes
  calls_unchanged (Set r value) at calls is = absurd cc
  calls_unchanged (Mov r source) at calls is = absurd cc
  calls_unchanged (Add r addend) at calls is = absurd cc
  calls_unchanged (In r) at calls is = absurd cc
  calls_unchanged (Jmp target) at calls is = absurd cc
  calls_unchanged (Jeq r value target) at calls is = absurd cc
  calls_unchanged (Jlt r value target) at calls is = absurd cc
  calls_unchanged Halt at calls is = absurd cc
  calls_unchanged (Invoke call otherwise) at calls is = unchanged (Invoke call otherwise) at refl is

pub may_call : (w : World) (p : ℕ) (i : Instruction) → MayExecute w p i → Calls ≡ action i → MayInvoke w p i
may_call w p (Set r value) at is = absurd cc
may_call w p (Mov r source) at is = absurd cc
may_call w p (Add r addend) at is = absurd cc
may_call w p (In r) at is = absurd cc
may_call w p (Jmp target) at is = absurd cc
may_call w p (Jeq r value target) at is = absurd cc
may_call w p (Jlt r value target) at is = absurd cc
may_call w p Halt at is = absurd cc
may_call w p (Invoke call otherwise) at is = record {
  programs = at.programs;
  numbering = at.numbering;
  good = at.good;
  process = at.process;
  made = at.made;
  next = at.next;
  fits = at.fits;
}

-- ## Instructions that are no calls
alike_world : (w : World) (p : ℕ) (i : Instruction) → MayExecute w p i → (ps : List ProcessState) → AlikeWorlds (record w { processes = ps }) (record w { processes = ps })
alike_world w p i at ps = record { tree = refl; processes = refl; files = alike_refl w.files at.good.idle }

moved : (w : World) (e : Event) (choice : Choice) (s : ProcessState) (i : Instruction) → Moves ≡ action i → executed w e choice s i ≡ plain w e.process (acted_on s e.input i)
unfolding executed
moved w e choice s (Set r value) is = refl
moved w e choice s (Mov r source) is = refl
moved w e choice s (Add r addend) is = refl
moved w e choice s (In r) is = refl
moved w e choice s (Jmp target) is = refl
moved w e choice s (Jeq r value target) is = refl
moved w e choice s (Jlt r value target) is = refl
moved w e choice s Halt is = absurd cc
moved w e choice s (Invoke call otherwise) is = absurd cc

ended : (w : World) (e : Event) (choice : Choice) (s : ProcessState) (i : Instruction) → Ends ≡ action i →
    executed w e choice s i ≡ record { world = halted w e.process s; outcome = Halted; effects = [] }
unfolding executed
ended w e choice s (Set r value) is = absurd cc
ended w e choice s (Mov r source) is = absurd cc
ended w e choice s (Add r addend) is = absurd cc
ended w e choice s (In r) is = absurd cc
ended w e choice s (Jmp target) is = absurd cc
ended w e choice s (Jeq r value target) is = absurd cc
ended w e choice s (Jlt r value target) is = absurd cc
ended w e choice s Halt is = refl
ended w e choice s (Invoke call otherwise) is = absurd cc

-- what was done is what the model does
as_executed : (w : World) (e : Event) (i : Instruction) (outcome : LineResult) (effects : List Shown) (next : World) → (at : MayExecute w e.process i) →
    (choice : Choice) → IsFresh w.files choice → (x : Executed) → executed w e choice at.process i ≡ x → outcome ≡ x.outcome →
    effects ≡ map shown x.effects → AlikeWorlds x.world next → Executes w e i outcome effects next
as_executed w e i outcome effects next at choice fresh x is told prints alike = record {
  process = at.process;
  made = at.made;
  choice = choice;
  fresh = fresh;
  outcome_is = told ∙ ap (λ (y : Executed). y.outcome) (sym is);
  prints = prints ∙ ap (λ (y : Executed). map shown y.effects) (sym is);
  world_is = subst (λ (y : Executed). AlikeWorlds y.world next) (sym is) alike;
}

pub executes_moved : (w : World) (e : Event) (x next : ProcessState) (i : Instruction) (outcome : LineResult) (effects : List Shown) →
    MayExecute w e.process i → x ≡ get_or w.processes e.process x → Moves ≡ action i → next ≡ acted_on x e.input i → outcome ≡ No_call → effects ≡ [] →
    Executes w e i outcome effects (record w { processes = slice_set w.processes e.process next })
executes_moved w e x next i outcome effects at read moves is told none =
    let some = fresh_some at.programs at.numbering w at.good in
    let same : acted_on at.process e.input i ≡ next = ap (λ y. acted_on y e.input i) (sym (stands w.processes e.process at.process x at.made read)) ∙ sym is in
    as_executed w e i outcome effects _ at some.0 some.1 (plain w e.process next)
    (moved w e some.0 at.process i moves ∙ ap (plain w e.process) same) told none
    (alike_world w e.process i at (slice_set w.processes e.process next))

pub executes_ended : (w : World) (e : Event) (i : Instruction) (outcome : LineResult) (effects : List Shown) (next : World) → MayExecute w e.process i →
    Ends ≡ action i → outcome ≡ Halted → effects ≡ [] →
    ((s : ProcessState) → slice_get w.processes e.process ≡ Some s → AlikeWorlds (halted w e.process s) next) → Executes w e i outcome effects next
executes_ended w e i outcome effects next at is told none alike =
    let some = fresh_some at.programs at.numbering w at.good in
    as_executed w e i outcome effects next at some.0 some.1 (record { world = halted w e.process at.process; outcome = Halted; effects = [] })
    (ended w e some.0 at.process i is) told none (alike at.process at.made)

pub executes_called : (w : World) (e : Event) (i : Instruction) (outcome : LineResult) (effects : List Shown) (next : World) →
    MayExecute w e.process i → CallComes w e.process e i outcome effects next → Executes w e i outcome effects next
unfolding executed
executes_called w e (Set r value) outcome effects next at comes = absurd comes
executes_called w e (Mov r source) outcome effects next at comes = absurd comes
executes_called w e (Add r addend) outcome effects next at comes = absurd comes
executes_called w e (In r) outcome effects next at comes = absurd comes
executes_called w e (Jmp target) outcome effects next at comes = absurd comes
executes_called w e (Jeq r value target) outcome effects next at comes = absurd comes
executes_called w e (Jlt r value target) outcome effects next at comes = absurd comes
executes_called w e Halt outcome effects next at comes = absurd comes
executes_called w e (Invoke call otherwise) outcome effects next at comes =
    let x = comes at.process at.made in
    record { process = at.process; made = at.made; choice = x.choice; fresh = x.fresh; outcome_is = x.outcome; prints = x.prints; world_is = x.world }

-- ## Steps
pub some_same : {x y : ProcessState} → Some x ≡ Some y → x ≡ y
some_same is = cc

does_nothing : (programs : Programs) (w : World) (e : Event) (s : ProcessState) (outcome : LineResult) (effects : List Shown) →
    IsWellFormed programs w → ((choice : Choice) →
    stepped programs w e choice (Some s) ≡ record {
      world = w;
      acted = Some
          (record { program = s.program; point = s.point; outcome = Ended; effects = [] });
    }) → slice_get w.processes e.process ≡ Some s → outcome ≡ Ended →
    effects ≡ [] → DoesAs programs w e outcome effects w
does_nothing programs w e s outcome effects good is made told none =
    let some = fresh_some programs good.numbering w good.world in
    record {
      process = s;
      made = made;
      choice = some.0;
      fresh = some.1;
      does =
          ap (λ (x : Stepped). option_map shown_step x.acted) (is some.0)
          ∙ (λ i. Some (record { program = s.program; point = s.point; outcome = sym told i; effects = sym none i }));
      world_is = subst (λ (x : Stepped). AlikeWorlds x.world w) (sym (is some.0)) (record { tree = refl; processes = refl; files = alike_refl w.files good.world.idle });
    }

pub does_ended : (programs : Programs) (w : World) (e : Event) (s : ProcessState) (outcome : LineResult) (effects : List Shown) →
    IsWellFormed programs w → s.alive ≡ false → slice_get w.processes e.process ≡ Some s → outcome ≡ Ended → effects ≡ [] →
    DoesAs programs w e outcome effects w
unfolding stepped stepped_by
does_ended programs w e s outcome effects good dead made told none =
    does_nothing programs w e s outcome effects good
    (λ choice. ap (stepped_by programs w e choice s) dead) made told none

-- ## What a process goes on with
module _ (programs : Programs) (w : World) (e : Event) (s : ProcessState) (lives : s.alive ≡ true) where
  stepped_next : (choice : Choice) (o : Option Instruction) → next_instruction s.kept (slice_get (programs s.program) s.point) ≡ o →
      stepped programs w e choice (Some s) ≡ stepped_at w e choice s o
  unfolding stepped stepped_by
  stepped_next choice o is = ap (stepped_by programs w e choice s) lives ∙ ap (stepped_at w e choice s) is

  pub does_nowhere : (outcome : LineResult) (effects : List Shown) → IsWellFormed programs w → s.kept ≡ None →
      slice_get (programs s.program) s.point ≡ None → slice_get w.processes e.process ≡ Some s → outcome ≡ Ended → effects ≡ [] → DoesAs programs w e outcome effects w
  unfolding stepped_at
  does_nowhere outcome effects good alone nowhere made told none =
      does_nothing programs w e s outcome effects good
      (λ choice. stepped_next choice None (ap (λ o. next_instruction o (slice_get (programs s.program) s.point)) alone ∙ nowhere)) made told none

  -- what was executed, and what is made of the processes then
  pub does_next : (i : Instruction) (outcome : LineResult) (effects : List Shown) (next : World) (choice : Choice) → slice_get w.processes e.process ≡ Some s →
      next_instruction s.kept (slice_get (programs s.program) s.point) ≡ Some i → IsFresh w.files choice → outcome ≡ (executed w e choice s i).outcome →
      effects ≡ map shown (executed w e choice s i).effects →
      AlikeWorlds (record (executed w e choice s i).world {
        processes = after_deed s.kept e.process (length w.processes) (executed w e choice s i).outcome (executed w e choice s i).world.processes;
      }) next → DoesAs programs w e outcome effects next
  unfolding stepped_at
  does_next i outcome effects next choice made is fresh told prints alike = record {
    process = s;
    made = made;
    choice = choice;
    fresh = fresh;
    does =
        ap (λ (y : Stepped). option_map shown_step y.acted) (stepped_next choice (Some i) is)
        ∙ (λ k. Some (record { program = s.program; point = s.point; outcome = sym told k; effects = sym prints k }));
    world_is = subst (λ (y : Stepped). AlikeWorlds y.world next) (sym (stepped_next choice (Some i) is)) alike;
  }

  pub does_executed : (i : Instruction) (outcome : LineResult) (effects : List Shown) (next : World) → slice_get w.processes e.process ≡ Some s →
      s.kept ≡ None → slice_get (programs s.program) s.point ≡ Some i → Executes w e i outcome effects next → DoesAs programs w e outcome effects next
  does_executed i outcome effects next made alone here x =
      let same : x.process ≡ s = some_same (sym x.made ∙ made) in
      does_next i outcome effects next x.choice made (next_here programs s i alone here) x.fresh
      (x.outcome_is ∙ ap (λ t. (executed w e x.choice t i).outcome) same) (x.prints ∙ ap (λ t. map shown (executed w e x.choice t i).effects) same)
      (subst (λ o. AlikeWorlds (record (executed w e x.choice s i).world {
        processes = after_deed o e.process (length w.processes) (executed w e x.choice s i).outcome (executed w e x.choice s i).world.processes;
      }) next) (sym alone) (subst (λ t. AlikeWorlds (executed w e x.choice t i).world next) same x.world_is))

pub steps_unmade : (programs : Programs) (w : World) (e : Event) → IsWellFormed programs w → slice_get w.processes e.process ≡ None →
    StepsMachine programs w e (record { process = e.process; acted = None }) w
unfolding step stepped
steps_unmade programs w e good none =
    let some = fresh_some programs good.numbering w good.world in
    let is : step programs w e some.0 ≡ record { world = w; acted = None } = ap (stepped programs w e some.0) none in
    record {
      choice = some.0;
      fresh = some.1;
      line_is = ap (λ (x : Stepped). line_at e x.acted) (sym is);
      world_is = subst (λ (x : Stepped). AlikeWorlds x.world w) (sym is) (record { tree = refl; processes = refl; files = alike_refl w.files good.world.idle });
    }

pub steps_done : (programs : Programs) (w : World) (e : Event) (program point : ℕ) (outcome : LineResult) (effects : List Shown) (next : World) →
    ((s : ProcessState) → slice_get w.processes e.process ≡ Some s → (program ≡ s.program) × (point ≡ s.point)) →
    DoesAs programs w e outcome effects next →
    StepsMachine programs w e (record {
      process = e.process;
      acted = Some
          (record { program = program; point = point; outcome = outcome; effects = effects });
    }) next
unfolding step
steps_done programs w e program point outcome effects next here x =
    let is : step programs w e x.choice ≡ stepped programs w e x.choice (Some x.process) = ap (stepped programs w e x.choice) x.made in
    let at = here x.process x.made in
    record {
      choice = x.choice;
      fresh = x.fresh;
      line_is = (λ k. record {
        process = e.process;
        acted = Some
            (record { program = at.0 k; point = at.1 k; outcome = outcome; effects = effects });
      })
          ∙ (λ k. record { process = e.process; acted = sym x.does k }) ∙ ap (λ (y : Stepped). line_at e y.acted) (sym is);
      world_is = subst (λ (y : Stepped). AlikeWorlds y.world next) (sym is) x.world_is;
    }
