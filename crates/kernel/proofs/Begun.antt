-- Between two steps a process has a deed to do only while a lookup of it is under way.
use Rattle.std.proofs.Common.{◌≡◌, inl, inr, ℕ, zero, suc, Bool, true, false, List, refl, length, arith, ap, sym, subst}
use Rattle.std.specs.Prelude.{◌≢◌, Option, Some, None}
use Rattle.std.specs.List.{slice_get}
use Rattle.process.specs.State.{Deed, ProcessState, left_by}
use Rattle.instruction_set.specs.Programs.{Instruction}
use Rattle.kernel.specs.World.{World, Choice}
use Rattle.kernel.specs.Answers.{Event}
use Rattle.kernel.specs.Runs.{NextWorldExists}
use Rattle.kernel.specs.Steps.{Executed, Programs, after_deed, changed_at, executed, next_instruction, step, stepped, stepped_at, stepped_by}
use Rattle.kernel.specs.WellFormed.{IsBegun}
use Rattle.kernel.proofs.Deeds.{StaysOrEnds, stays_none, after_end, changed_cases, each_executed, stays_or_ends}
use Rattle.kernel.proofs.Keeping.{next_formed}
use Rattle.kernel.proofs.KeptWalks.{set_other_cases}

same_or_other : {B : Type 0} (m p : ℕ) → (m ≡ p → B) → (m ≢ p → B) → B
same_or_other zero zero same other = same refl
same_or_other zero (suc p) same other = other (λ is. absurd (omega (arith, is)))
same_or_other (suc m) zero same other = other (λ is. absurd (omega (arith, is)))
same_or_other (suc m) (suc p) same other = same_or_other m p (λ is. same (ap suc is)) (λ apart. other (λ is. apart (omega (arith, is))))

-- so of a process that has ended
abbrev pub IsBegunIfEnded : Option ProcessState → Type 0
IsBegunIfEnded None = Unit {0}
IsBegunIfEnded (Some s) = s.alive ≡ false → IsBegun (Some s)

module _ (w : World) (e : Event) (choice : Choice) (others : (q : ℕ) → q ≢ e.process → IsBegun (slice_get w.processes q)) where
  here_or_other : (o : Option ProcessState) → slice_get w.processes e.process ≡ o → IsBegun o → (q : ℕ) → IsBegun (slice_get w.processes q)
  here_or_other o made is q =
      same_or_other q e.process (λ at. subst (λ k. IsBegun (slice_get w.processes k)) (sym at) (subst IsBegun (sym made) is)) (λ apart. others q apart)

  module _ (s : ProcessState) (made : slice_get w.processes e.process ≡ Some s) where
    begun_apart : (i : Instruction) (q : ℕ) → q ≢ e.process → q ≢ length w.processes → IsBegun (slice_get (executed w e choice s i).world.processes q)
    begun_apart =
        each_executed w e choice s (λ k o. k ≢ e.process → k ≢ length w.processes → IsBegun o) (λ k one two. others k one) (λ t like one two. absurd (one refl))
        (λ t like one two. absurd (two refl))

    begun_left : (deed : Deed) (i : Instruction) (q : ℕ) →
        IsBegun (slice_get (changed_at (changed_at (executed w e choice s i).world.processes e.process (left_by deed)) (length w.processes) (left_by deed)) q)
    begun_left deed i q =
        changed_cases IsBegun (changed_at (executed w e choice s i).world.processes e.process (left_by deed)) (length w.processes) (left_by deed) q tt
        (λ t there at. λ walk. refl)
        (λ apart. changed_cases IsBegun (executed w e choice s i).world.processes e.process (left_by deed) q tt (λ t there at. λ walk. refl)
        (λ other. begun_apart i q other apart))

    begun_deed : (deed : Deed) (i : Instruction) → StaysOrEnds w e choice s (executed w e choice s i) → (q : ℕ) →
        IsBegun (slice_get (after_deed (Some deed) e.process (length w.processes) (executed w e choice s i).outcome (executed w e choice s i).world.processes) q)
    begun_deed deed i (inl (walking, is)) q =
        subst (λ (x : Executed). IsBegun (slice_get (after_deed (Some deed) e.process (length w.processes) x.outcome x.world.processes) q)) (sym is)
        (set_other_cases IsBegun w.processes e.process (record s { walk = Some walking }) q tt (λ at. λ none. absurd cc) (λ apart. others q apart))
    begun_deed deed i (inr ends) q =
        subst (λ (xs : List ProcessState). IsBegun (slice_get xs q))
        (sym (after_end deed e.process (length w.processes) (executed w e choice s i).outcome (executed w e choice s i).world.processes ends)) (begun_left deed i q)

    begun_after : (o : Option Deed) → s.kept ≡ o → (i : Instruction) (q : ℕ) →
        IsBegun (slice_get (after_deed o e.process (length w.processes) (executed w e choice s i).outcome (executed w e choice s i).world.processes) q)
    begun_after None none i q =
        each_executed w e choice s (λ k o. IsBegun o) (here_or_other (Some s) made (λ walk. none)) (λ t like. λ walk. stays_none like none)
        (λ t like. λ walk. stays_none like none) i q
    begun_after (Some deed) is i q = begun_deed deed i (stays_or_ends w e choice s i) q

    begun_nowhere : (o : Option Deed) (here : Option Instruction) → s.kept ≡ o → next_instruction o here ≡ None → IsBegun (Some s)
    begun_nowhere None here kept is = λ walk. kept
    begun_nowhere (Some deed) here kept is = absurd cc

    begun_at : (o : Option Instruction) (here : Option Instruction) → next_instruction s.kept here ≡ o → (q : ℕ) →
        IsBegun (slice_get (stepped_at w e choice s o).world.processes q)
    unfolding stepped_at
    begun_at None here is q = here_or_other (Some s) made (begun_nowhere s.kept here refl is) q
    begun_at (Some i) here is q = begun_after s.kept refl i q

    begun_by : (programs : Programs) (alive : Bool) → s.alive ≡ alive → IsBegunIfEnded (Some s) → (q : ℕ) →
        IsBegun (slice_get (stepped_by programs w e choice s alive).world.processes q)
    unfolding stepped_by
    begun_by programs false is ended q = here_or_other (Some s) made (ended is) q
    begun_by programs true is ended q = begun_at (next_instruction s.kept (slice_get (programs s.program) s.point)) (slice_get (programs s.program) s.point) refl q

  -- After a step it is so of each process, if it was so of the others, and of this one if it had ended.
  pub begun_step : (programs : Programs) → IsBegunIfEnded (slice_get w.processes e.process) → (q : ℕ) → IsBegun (slice_get (step programs w e choice).world.processes q)
  unfolding step stepped
  begun_step programs ended = go (slice_get w.processes e.process) refl ended
    where
      go : (o : Option ProcessState) → slice_get w.processes e.process ≡ o → IsBegunIfEnded o → (q : ℕ) → IsBegun (slice_get (stepped programs w e choice o).world.processes q)
      go None made ended q = here_or_other None made tt q
      go (Some s) made ended q = begun_by s made programs s.alive refl ended q

pub ended_begun : (o : Option ProcessState) → IsBegun o → IsBegunIfEnded o
ended_begun None begun = tt
ended_begun (Some s) begun = λ ended. begun

-- There is a next world, and each is well formed and between two steps.
pub next_world : NextWorldExists
next_world programs w e valid good byte =
    let formed = next_formed programs w e valid good.formed byte in
    record {
      some = formed.some;
      each = λ choice fresh. record {
        formed = formed.each choice fresh;
        begun = begun_step w e choice (λ q apart. good.begun q) programs (ended_begun (slice_get w.processes e.process) (good.begun e.process));
      };
    }
