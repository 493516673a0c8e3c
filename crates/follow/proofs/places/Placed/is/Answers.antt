use Rattle.std.proofs.Common.{ap, ◌∙◌}
use Rattle.std.specs.Str.{bytes_eq}
use Rattle.follow.proofs.Paths.{begun, not-begun}
use Rattle.follow.proofs.places.Placed.is.Goals as goal

pub returns-in-None : goal.returns-in-None
returns-in-None c = not-begun c.args.self.now.front.now c.args.self.now.back.now c.args.path.now c.in-None.ensures.cases

pub returns-in-Some : goal.returns-in-Some
returns-in-Some c =
    c.eq.ensures ∙ ap (λ rest. bytes_eq rest c.args.self.now.back.now) c.in-Some.ensures.cases.1
    ∙ begun c.args.self.now.front.now c.args.self.now.back.now c.args.path.now c.in-Some.ensures.cases.0
