use Rattle.std.proofs.Common.{◌≡◌, ◌≤◌, filter, length, map, take}
use Rattle.checker.specs.FindingViews.{broken_rule_of}
use Rattle.explain.specs.Covering.{covers}
use Rattle.explain.proofs.covering.count_under.Given as goal

-- so many of those so far are covered
abbrev pub invariant-loop-later : goal.invariant-loop-later
invariant-loop-later l =
    (l.count ≡ length (filter (covers l.scene.task.now l.scene.cert.now (broken_rule_of l.found)) (map broken_rule_of (take l.later-index l.all))))
    × (l.count ≤ l.later-index)
