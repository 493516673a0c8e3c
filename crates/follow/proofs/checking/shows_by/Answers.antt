use Rattle.std.proofs.Common.{◌∙◌, subst, sym, ap}
use Rattle.std.specs.Prelude.{IfOk, Option, option_map}
use Rattle.task.specs.Begins.{first_world}
use Rattle.task.specs.Plans.{Plan}
use Rattle.follow.specs.Progress.{MatchProgress}
use Rattle.follow.specs.Shows.{Judged}
use Rattle.follow.specs.Views.{moves_of, setting_of, progress_of}
use Rattle.follow.proofs.checking.shows_by.Goals as goal

pub returns-clause-verdict : goal.returns-clause-verdict
returns-clause-verdict c =
    let plan : Plan = c.args.setting.now.task.now in
    subst (λ (o : Option MatchProgress). IfOk c.make_all.result (Judged (setting_of c.args.setting.now) (first_world plan) o (moves_of c.args.moves.now)))
    (ap (option_map progress_of) (sym c.in-Some.is) ∙ c.in_ok-progress.ensures) c.make_all.ensures.verdict
