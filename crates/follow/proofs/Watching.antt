-- How far a machine has come in a run, and where the run stands.
use Rattle.std.proofs.Common.{◌≡◌, ℕ, true, Bool, false, List, [], ◌∷◌, refl, ap, sym, subst, ◌∙◌}
use Rattle.std.specs.Prelude.{Option, Some, None, nat_eq, length}
use Rattle.std.specs.List.{slice_get}
use Rattle.process.specs.State.{ProcessState}
use Rattle.kernel.specs.World.{World}
use Rattle.kernel.specs.Answers.{AreEvents}
use Rattle.kernel.specs.Steps.{Programs, Acted, step}
use Rattle.kernel.specs.Renamings.{DiffersInNumbers}
use Rattle.kernel.specs.WellFormed.{ArePrograms, IsWellFormed}
use Rattle.kernel.proofs.Aimed.{steps_alike}
use Rattle.kernel.proofs.Determined.{alike_share, differs_twice, run_exists}
use Rattle.kernel.proofs.Keeping.{next_formed}
use Rattle.task.specs.Begins.{first_world}
use Rattle.task.specs.Limits.{is_plan}
use Rattle.task.specs.Plans.{Plan, programs_of_plan}
use Rattle.task.proofs.FirstWorlds.{first_well_formed}
use Rattle.simulator.specs.Lines.{Line, line_at}
use Rattle.follow.specs.Moves.{Moves}
use Rattle.follow.specs.Outcomes.{seen_at}
use Rattle.follow.specs.Progress.{Setting, MatchProgress, after_skip, after_step}
use Rattle.follow.specs.Shows.{HasRun, Judged, Move, Steps, Skips, events_of}

-- where a run stands, and what is left, come out so from each world that differs from this one in numbers alone
abbrev Ends : Setting → World → Option MatchProgress → List Move → Bool → Type 0
Ends g w s left answer = (v : World) → IsWellFormed (programs_of_plan g.plan) v → DiffersInNumbers v w → Judged g v s left answer

-- then so do all moves from the first world on
abbrev pub Leads : Setting → Option MatchProgress → List Move → World → MatchProgress → List Move → Type 0
Leads g first moves w s left = (answer : Bool) → Ends g w (Some s) left answer → Judged g (first_world g.plan) first moves answer

pub leads-start : (g : Setting) (moves : List Move) (w : World) (s : MatchProgress) → is_plan g.plan ≡ true → DiffersInNumbers (first_world g.plan) w →
    Leads g (Some s) moves w s moves
leads-start g moves w s valid differs answer ends = ends (first_world g.plan) (first_well_formed g.plan valid).1.formed differs

-- what is seen of a step is the same in worlds that differ in numbers alone
same-seen : (p : Programs) (i : ℕ) (was now : List ProcessState) (then_was then_now : List ProcessState) (line other : Line) →
    was ≡ now → then_was ≡ then_now → line ≡ other →
    seen_at p (slice_get was i) line.acted (slice_get then_was i) ≡ seen_at p (slice_get now i) other.acted (slice_get then_now i)
same-seen p i was now then_was then_now line other before after same = cc

moved : (g : Setting) (w next : World) (s : MatchProgress) (m : Move) (left : List Move) (after : Option MatchProgress) (answer : Bool) →
    is_plan g.plan ≡ true → IsWellFormed (programs_of_plan g.plan) w → Moves g w s m next after → Ends g next after left answer →
    Ends g w (Some s) (m ∷ left) answer
moved g w next s (Steps e shows) left after answer valid good moves ends = λ v fine differs choice fresh.
    let programs : Programs = programs_of_plan g.plan in
    let formed : ArePrograms programs = (first_well_formed g.plan valid).0 in
    let both = steps_alike programs v w e choice moves.steps.choice formed fine good differs fresh moves.steps.fresh in
    let there : World = (step programs v e choice).world in
    let seen = same-seen programs e.process w.processes v.processes next.processes there.processes moves.line (line_at e (step programs v e choice).acted)
    differs.processes (moves.steps.world_is.processes ∙ both.next.processes)
    (moves.steps.line_is ∙ ap (λ (a : Option Acted). line_at e a) both.line)
    in
    subst (λ o. Judged g there o left answer) (moves.stands ∙ ap (λ o. after_step g s e.process o shows) seen)
    (ends there ((next_formed programs v e formed fine moves.byte).each choice fresh) (differs_twice _ _ _ both.next (alike_share _ _ moves.steps.world_is)))
moved g w next s (Skips i) left after answer valid good moves ends = λ v fine differs.
    subst (λ o. Judged g v o left answer) (moves.stands ∙ ap (λ processes. after_skip g s processes i) differs.processes)
    (ends v fine (subst (λ u. DiffersInNumbers v u) (sym moves.same) differs))

pub leads-move : (g : Setting) (first : Option MatchProgress) (moves : List Move) (w next : World) (s t : MatchProgress) (m : Move) (left : List Move) →
    is_plan g.plan ≡ true → IsWellFormed (programs_of_plan g.plan) w → Moves g w s m next (Some t) → Leads g first moves w s (m ∷ left) →
    Leads g first moves next t left
leads-move g first moves w next s t m left valid good move leads answer ends =
    leads answer (moved g w next s m left (Some t) answer valid good move ends)

pub leads-stop : (g : Setting) (first : Option MatchProgress) (moves : List Move) (w next : World) (s : MatchProgress) (m : Move) (left : List Move) →
    is_plan g.plan ≡ true → IsWellFormed (programs_of_plan g.plan) w → Moves g w s m next None → Leads g first moves w s (m ∷ left) →
    Judged g (first_world g.plan) first moves false
leads-stop g first moves w next s m left valid good move leads =
    leads false (moved g w next s m left None false valid good move (λ v fine differs. refl))

pub leads-end : (g : Setting) (first : Option MatchProgress) (moves : List Move) (w : World) (s : MatchProgress) → Leads g first moves w s [] →
    Judged g (first_world g.plan) first moves (nat_eq (length s.left) 0)
leads-end g first moves w s leads = leads (nat_eq (length s.left) 0) (λ v fine differs. refl)

-- the events of what is left, and then of all, are bytes
pub byte-more : (g : Setting) (w next : World) (s : MatchProgress) (m : Move) (left : List Move) (after : Option MatchProgress) → Moves g w s m next after →
    AreEvents (events_of left) → AreEvents (events_of (m ∷ left))
byte-more g w next s (Steps e shows) left after moves bytes = (moves.byte, bytes)
byte-more g w next s (Skips i) left after moves bytes = bytes

pub has-run : (plan : Plan) (moves : List Move) → is_plan plan ≡ true → AreEvents (events_of moves) → HasRun plan (events_of moves)
has-run plan moves valid bytes =
    let formed = first_well_formed plan valid in
    run_exists (programs_of_plan plan) (first_world plan) (events_of moves) formed.0 formed.1.formed bytes
