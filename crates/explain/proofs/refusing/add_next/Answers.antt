use Rattle.std.proofs.Common.{◌++◌, ◌∙◌, ℕ, map, subst, sym}
use Rattle.std.specs.Prelude.{option_map}
use Rattle.checker.specs.FindingViews.{broken_rule_of}
use Rattle.texts.specs.PageViews.{Adds}
use Rattle.explain.specs.Covering.{count_under}
use Rattle.explain.specs.Telling.{finding_text, others_text}
use Rattle.explain.proofs.Tellings.{adds_then, passed_next, told_next}
use Rattle.explain.proofs.refusing.add_next.Goals as goal

pub returns-then-is_counted : goal.returns-then-is_counted
returns-then-is_counted c =
    passed_next c.args.scene.now.task.now c.args.scene.now.cert.now (map broken_rule_of c.args.all.now) c.args.page.now (option_map broken_rule_of c.args.last)
    (broken_rule_of c.args.found) (sym c.is_counted.ensures ∙ c.if-is_counted.true)

pub returns : goal.returns
returns c =
    let plan = c.args.scene.now.task.now in
    let bounds = c.args.scene.now.cert.now in
    let all = map broken_rule_of c.args.all.now in
    let found = broken_rule_of c.args.found in
    let before = c.args.page.now in
    let after = c.add_others.new.page in
    let head = c.add_head.ensures in
    let rule = c.add_rule.ensures in
    let line = finding_text found rule.0 in
    let others = others_text (count_under plan bounds all found) in
    let last = subst (λ (count : ℕ). Adds c.add_rule.new.page after (others_text count)) c.count_under.ensures c.add_others.ensures in
    let behind = adds_then c.add_head.new.page c.add_rule.new.page after line others rule.1 last in
    told_next plan bounds all before after (option_map broken_rule_of c.args.last) found head.0 rule.0 (sym c.is_counted.ensures ∙ c.if-is_counted.false) head.1
    (adds_then before c.add_head.new.page after head.0 (line ++ others) head.2 behind)
