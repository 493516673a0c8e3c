use Rattle.std.proofs.Common.{◌+◌, Some, [], ◌∷◌, option_map, refl}
use Rattle.certificate.specs.Views.{bound_of}
use Rattle.instruction_set.specs.Views.{instruction_of}
use Rattle.rules.specs.Outcomes.{error_outcomes}
use Rattle.transfer.specs.CallViews.{successes_at}
use Rattle.transfer.specs.OutcomeViews.{outcome_of}
use Rattle.transfer.proofs.Keeping.{kept-joined}
use Rattle.transfer.proofs.carrying.met_next.Goals as goal

pub returns-in-Some : goal.returns-in-Some
returns-in-Some c =
    kept-joined (c.args.site.now.point + 1) (successes_at c.args.site.now (instruction_of c.args.instruction.now))
    (error_outcomes (bound_of c.args.site.now.bound.now) (instruction_of c.args.instruction.now)) (outcome_of c.in-Some.outcome ∷ [])
    (Some c.successes_pass.new.visitor.point) (option_map bound_of c.successes_pass.new.visitor.bound) (option_map bound_of c.visit.new.self.bound)
    c.successes_pass.result c.successes_pass.ensures.0 c.successes_pass.ensures.3 c.in-Some.ensures c.successes_pass.ensures.2
    c.visit.ensures.kept

pub returns-in_default : goal.returns-in_default
returns-in_default c =
    kept-joined (c.args.site.now.point + 1) (successes_at c.args.site.now (instruction_of c.args.instruction.now))
    (error_outcomes (bound_of c.args.site.now.bound.now) (instruction_of c.args.instruction.now)) []
    (Some c.successes_pass.new.visitor.point) (option_map bound_of c.successes_pass.new.visitor.bound)
    (option_map bound_of c.successes_pass.new.visitor.bound) c.successes_pass.result c.successes_pass.ensures.0 c.successes_pass.ensures.3
    c.in_default.ensures c.successes_pass.ensures.2 refl
