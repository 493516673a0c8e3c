use Rattle.std.proofs.Common.{◌≡◌, false, map, take}
use Rattle.std.specs.List.{list_any}
use Rattle.checker.specs.FindingViews.{broken_rule_of}
use Rattle.explain.specs.Covering.{covers}
use Rattle.explain.proofs.covering.any_covers.Given as goal

-- none so far covers it
abbrev pub invariant-loop-earlier : goal.invariant-loop-earlier
invariant-loop-earlier l =
    list_any (λ g. covers l.scene.task.now l.scene.cert.now g (broken_rule_of l.found)) (map broken_rule_of (take l.earlier-index l.all)) ≡ false
