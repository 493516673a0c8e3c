-- A process is marked as its program is, in every run.
use Rattle.std.proofs.Common.{◌≡◌, ℕ, Bool, true, false, length, ap, ◌∙◌, sym}
use Rattle.std.specs.Prelude.{Option, Some, None}
use Rattle.std.specs.List.{slice_get}
use Rattle.process.specs.State.{Deed, ProcessState, handed_to}
use Rattle.instruction_set.specs.Programs.{Instruction}
use Rattle.kernel.specs.World.{World, Choice}
use Rattle.kernel.specs.Answers.{Event}
use Rattle.kernel.specs.Hostile.{Act, Own, Does, about}
use Rattle.kernel.specs.Steps.{Programs, executed, next_instruction, step, stepped, stepped_at, stepped_by}
use Rattle.kernel.proofs.Deeds.{IsLike, after_keeps, changed_keeps, each_executed}
use Rattle.kernel.proofs.Hostile.{handed_cases}

-- as these programs are
abbrev pub IsMarkedAs : (ℕ → Bool) → Option ProcessState → Type 0
IsMarkedAs marks None = Unit {0}
IsMarkedAs marks (Some s) = s.marked ≡ marks s.program

abbrev pub AreMarkedAs : (ℕ → Bool) → World → Type 0
AreMarkedAs marks w = (p : ℕ) → IsMarkedAs marks (slice_get w.processes p)

module _ (marks : ℕ → Bool) (w : World) (are : AreMarkedAs marks w) (e : Event) (choice : Choice) where
  module _ (s : ProcessState) (own : s.marked ≡ marks s.program) where
    like_marked : (t : ProcessState) → IsLike s t → t.marked ≡ marks t.program
    like_marked t like = like.marked ∙ own ∙ ap marks (sym like.program)

    pub executed_marked : (i : Instruction) → AreMarkedAs marks (executed w e choice s i).world
    executed_marked i = each_executed w e choice s (λ q o. IsMarkedAs marks o) are like_marked like_marked i

    at_marked : (o : Option Instruction) → AreMarkedAs marks (stepped_at w e choice s o).world
    unfolding stepped_at
    at_marked None = are
    at_marked (Some i) = λ q.
        after_keeps (IsMarkedAs marks) e.process (length w.processes) (executed w e choice s i).world.processes q s.kept (executed w e choice s i).outcome
        (λ deed t is. is) (executed_marked i q)

    by_marked : (programs : Programs) (alive : Bool) → AreMarkedAs marks (stepped_by programs w e choice s alive).world
    unfolding stepped_by
    by_marked programs false = are
    by_marked programs true = at_marked (next_instruction s.kept (slice_get (programs s.program) s.point))

  pub step_marked : (programs : Programs) → AreMarkedAs marks (step programs w e choice).world
  unfolding step stepped
  step_marked programs = go (slice_get w.processes e.process) (are e.process)
    where
      go : (o : Option ProcessState) → IsMarkedAs marks o → AreMarkedAs marks (stepped programs w e choice o).world
      go None is = are
      go (Some s) is = by_marked s is programs s.alive

pub about_marked : (marks : ℕ → Bool) (w : World) (p : ℕ) (act : Act) → AreMarkedAs marks w → AreMarkedAs marks (about w p act)
about_marked marks w p Own are = are
about_marked marks w p (Does deed) are = λ q.
    changed_keeps (IsMarkedAs marks) w.processes p (handed_to deed) q (λ s is. handed_cases (λ t. t.marked ≡ marks t.program) deed s (λ hostile. is) is) (are q)
