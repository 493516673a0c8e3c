use Rattle.std.proofs.Common.{sym, ◌∙◌}
use Rattle.checker.specs.FindingViews.{broken_rule_of}
use Rattle.explain.specs.Covering.{covers}
use Rattle.explain.proofs.Covered.{any_at, some_finding}
use Rattle.explain.proofs.covering.any_covers.Goals as goal

pub returns-then-covers : goal.returns-then-covers
returns-then-covers c =
    any_at broken_rule_of (λ g. covers c.args.scene.now.task.now c.args.scene.now.cert.now g (broken_rule_of c.args.found)) c.args.all.now
    c.loop-earlier.earlier-index some_finding c.loop-earlier-test.true (sym c.covers.ensures ∙ c.if-covers.true)
