use Rattle.std.proofs.Common.{◌≡◌, ◌+◌, false, List, [], ◌∷◌, drop, ◌∙◌, subst, sym, Some, None}
use Rattle.std.specs.Prelude.{Option, if◌then◌else◌}
use Rattle.std.specs.List.{slice_index_or}
use Rattle.kernel.specs.Answers.{AreEvents}
use Rattle.kernel.specs.WellFormed.{IsWellFormed}
use Rattle.task.specs.Begins.{first_world}
use Rattle.task.specs.Plans.{Plan, programs_of_plan}
use Rattle.simulator.specs.Machines.{machine_world}
use Rattle.simulator.proofs.Splitting.{map-drop, drop-end}
use Rattle.follow.specs.declared.witnesses.Move.{Move as MoveCode}
use Rattle.follow.specs.declared.witnesses.Move.TheVariants.{Step}
use Rattle.follow.specs.Moves.{Moves}
use Rattle.follow.specs.Progress.{Setting, MatchProgress}
use Rattle.follow.specs.Shows.{Judged, Move, events_of}
use Rattle.follow.specs.Views.{move_of, moves_of, setting_of, progress_of}
use Rattle.follow.proofs.Watching.{Leads, byte-more, has-run, leads-start, leads-move, leads-stop, leads-end}
use Rattle.follow.proofs.checking.make_moves.Goals as goal

pub loop-step-init : goal.loop-step-init
loop-step-init c = record {
  runs_on = c.requires.runs_on;
  plan = c.requires.plan;
  valid = c.requires.valid;
  well_formed = c.requires.well_formed;
  bytes = λ bytes. bytes;
  leads =
      leads-start (setting_of c.args.setting.now) (moves_of c.args.moves.now) (machine_world c.args.machine.now) (progress_of c.args.progress.now) c.requires.valid
      c.requires.world;
}

pub loop-step-preserved : goal.loop-step-preserved
loop-step-preserved c =
    let plan : Plan = c.args.setting.now.task.now in
    let g : Setting = setting_of c.args.setting.now in
    let inv = c.loop-step.invariant in
    let none : MoveCode = Step (record { process = 0; input = 0; refuse = false }) None in
    let m : Move = move_of (slice_index_or c.args.moves.now c.loop-step.step-index none) in
    let left : List Move = moves_of (drop (c.loop-step.step-index + 1) c.args.moves.now) in
    let first : Option MatchProgress = Some (progress_of c.args.progress.now) in
    let w = machine_world c.loop-step.machine in
    let next = machine_world c.make_move.new.machine in
    let split : moves_of (drop c.loop-step.step-index c.args.moves.now) ≡ m ∷ left =
    map-drop move_of c.args.moves.now c.loop-step.step-index none c.loop-step-test.true
    in
    let so_far = subst (Leads g first (moves_of c.args.moves.now) w (progress_of c.loop-step.progress)) split inv.leads in
    let same : c.make_move.new.machine.plan ≡ plan = c.make_move.ensures.plan ∙ inv.plan in
    let here : IsWellFormed (programs_of_plan c.loop-step.machine.plan) w = subst (λ (p : Plan). IsWellFormed (programs_of_plan p) w) (sym inv.plan) inv.well_formed in
    let moved : Moves g w (progress_of c.loop-step.progress) m next (Some (progress_of c.make_move.new.progress)) =
    subst (λ b. Moves g w (progress_of c.loop-step.progress) m next (if b then Some (progress_of c.make_move.new.progress) else None)) c.if-not-branch.false
    (c.in_ok-make_move.ensures.moves inv.plan)
    in
    record {
      runs_on = c.in_ok-make_move.ensures.runs_on inv.runs_on;
      plan = same;
      valid = inv.valid;
      well_formed = subst (λ (p : Plan). IsWellFormed (programs_of_plan p) next) same (c.in_ok-make_move.ensures.well_formed here);
      bytes = λ bytes. inv.bytes (subst (λ (ms : List Move). AreEvents (events_of ms)) (sym split)
          (byte-more g w next (progress_of c.loop-step.progress) m left (Some (progress_of c.make_move.new.progress)) moved bytes));
      leads =
          leads-move g first (moves_of c.args.moves.now) w next (progress_of c.loop-step.progress) (progress_of c.make_move.new.progress) m left inv.valid
          inv.well_formed moved so_far;
    }

pub returns-then-not-branch-clause-verdict : goal.returns-then-not-branch-clause-verdict
returns-then-not-branch-clause-verdict c =
    let plan : Plan = c.args.setting.now.task.now in
    let g : Setting = setting_of c.args.setting.now in
    let inv = c.loop-step.invariant in
    let none : MoveCode = Step (record { process = 0; input = 0; refuse = false }) None in
    let m : Move = move_of (slice_index_or c.args.moves.now c.loop-step.step-index none) in
    let left : List Move = moves_of (drop (c.loop-step.step-index + 1) c.args.moves.now) in
    let first : Option MatchProgress = Some (progress_of c.args.progress.now) in
    let w = machine_world c.loop-step.machine in
    let next = machine_world c.make_move.new.machine in
    let so_far = subst (Leads g first (moves_of c.args.moves.now) w (progress_of c.loop-step.progress))
    (map-drop move_of c.args.moves.now c.loop-step.step-index none c.loop-step-test.true) inv.leads
    in
    let moved : Moves g w (progress_of c.loop-step.progress) m next None =
    subst (λ b. Moves g w (progress_of c.loop-step.progress) m next (if b then Some (progress_of c.make_move.new.progress) else None)) c.if-not-branch.true
    (c.in_ok-make_move.ensures.moves inv.plan)
    in
    leads-stop g first (moves_of c.args.moves.now) w next (progress_of c.loop-step.progress) m left inv.valid inv.well_formed moved so_far

pub returns-clause-verdict : goal.returns-clause-verdict
returns-clause-verdict c =
    let plan : Plan = c.args.setting.now.task.now in
    let g : Setting = setting_of c.args.setting.now in
    let first : Option MatchProgress = Some (progress_of c.args.progress.now) in
    let w = machine_world c.loop-step.machine in
    let all : drop c.loop-step.step-index c.args.moves.now ≡ [] = drop-end c.args.moves.now c.loop-step.step-index c.loop-step-test.false in
    subst (λ b. Judged g (first_world plan) first (moves_of c.args.moves.now) b) (sym c.is_at_end.ensures)
    (leads-end g first (moves_of c.args.moves.now) w (progress_of c.loop-step.progress)
    (subst (λ ms. Leads g first (moves_of c.args.moves.now) w (progress_of c.loop-step.progress) (moves_of ms)) all c.loop-step.invariant.leads))

pub returns-clause-run : goal.returns-clause-run
returns-clause-run c = λ is.
    let all : drop c.loop-step.step-index c.args.moves.now ≡ [] = drop-end c.args.moves.now c.loop-step.step-index c.loop-step-test.false in
    has-run c.args.setting.now.task.now (moves_of c.args.moves.now) c.loop-step.invariant.valid
    (c.loop-step.invariant.bytes (subst (λ ms. AreEvents (events_of (moves_of ms))) (sym all) tt))
