-- What an attacker's move does may be done in each well-formed world.
use Rattle.std.proofs.Common.{◌≡◌, ℕ, true, false, List, [], ◌∷◌, map, refl, ap, sym, subst, ◌∙◌, zero, suc, Bool}
use Rattle.std.specs.Prelude.{Option, Some, None, is_some, not, ◌||◌}
use Rattle.std.specs.List.{slice_get}
use Rattle.instruction_set.specs.Programs.{Instruction}
use Rattle.process.specs.State.{ProcessState, is_hostile}
use Rattle.kernel.specs.World.{World}
use Rattle.kernel.specs.Answers.{Event}
use Rattle.kernel.specs.Hostile.{IsAct, Own, Does}
use Rattle.kernel.specs.Steps.{Programs}
use Rattle.kernel.specs.WellFormed.{IsPoint, IsProcessIfMade, IsWellFormed}
use Rattle.task.proofs.FirstWorlds.{zeros}
use Rattle.simulator.specs.Deeds.{may_stand_at}
use Rattle.simulator.proofs.DeedsDone.{has_paths, is_deed_of}
use Rattle.explore.specs.declared.attacks.Move.{Move as MoveCode}
use Rattle.explore.specs.Attacks.{act_by, deed_by}
use Rattle.explore.specs.Broken.{Move, are_own, events_in, own_moves}
use Rattle.explore.specs.MoveViews.{event_at, have_paths, move_of}

pub events-of : (moves : List MoveCode) → events_in (map move_of moves) ≡ map event_at moves
events-of [] = refl
events-of (m ∷ moves) = ap (λ events. event_at m ∷ events) (events-of moves)

own-back : (moves : List Move) → are_own moves ≡ true → own_moves (events_in moves) ≡ moves
own-back [] own = refl
own-back ((e, Own) ∷ moves) own = ap (λ rest. (e, Own) ∷ rest) (own-back moves own)
own-back ((e, Does deed) ∷ moves) own = absurd cc

-- moves that are no attacker's are those of their events
pub own-again : (moves : List MoveCode) (events : List Event) → are_own (map move_of moves) ≡ true → events ≡ map event_at moves → map move_of moves ≡ own_moves events
own-again moves events own same =
    sym (own-back (map move_of moves) own) ∙ ap own_moves (events-of moves ∙ sym same)

-- a program with some point has the point 0
first-point : (code : List Instruction) (point : ℕ) → IsPoint (slice_get code point) → is_some (slice_get code 0) ≡ true
first-point [] zero is = absurd is
first-point [] (suc point) is = absurd is
first-point (i ∷ code) point is = refl

or-true : (a : Bool) → (not a || true) ≡ true
or-true true = refl
or-true false = refl

stands : (programs : Programs) (o : Option ProcessState) → IsProcessIfMade programs o → may_stand_at programs o 0 ≡ true
stands programs None is = refl
stands programs (Some s) is = subst (λ b. (not (is_hostile s) || b) ≡ true) (sym (first-point (programs s.program) s.point is.placed)) (or-true (is_hostile s))

-- each process of a well-formed world may stand at its program's start
pub may-stand : (programs : Programs) (w : World) (p : ℕ) → IsWellFormed programs w → may_stand_at programs (slice_get w.processes p) 0 ≡ true
may-stand programs w p good = stands programs (slice_get w.processes p) (good.world.processes p)

pub may-do : (programs : Programs) (w : World) (p : ℕ) (o : Option Instruction) → have_paths o ≡ true → IsWellFormed programs w → IsAct programs w p (act_by o)
may-do programs w p None is good = tt
may-do programs w p (Some i) is good = is_deed_of programs (slice_get w.processes p) (deed_by i) (has_paths i is) refl (zeros 8) (may-stand programs w p good)
