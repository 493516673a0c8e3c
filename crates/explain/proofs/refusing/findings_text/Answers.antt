use Rattle.std.proofs.Common.{sym, ◌∙◌}
use Rattle.explain.proofs.Tellings.{tells_none, tells_some}
use Rattle.explain.proofs.refusing.findings_text.Goals as goal

pub returns-then-is_empty : goal.returns-then-is_empty
returns-then-is_empty c =
    tells_none c.args.scene.now.task.now c.args.scene.now.cert.now c.args.found.now c.new-page.result c.say.new.page c.into_bytes.result c.new-page.ensures.text
    (sym c.is_empty.ensures ∙ c.if-is_empty.true) c.say.ensures c.into_bytes.ensures.whole c.into_bytes.ensures.ok

pub returns : goal.returns
returns c =
    let added = c.add_findings.ensures in
    tells_some c.args.scene.now.task.now c.args.scene.now.cert.now c.args.found.now c.add_older.new.page c.add_findings.new.page c.into_bytes-2.result added.0 added.1
    (sym c.is_empty.ensures ∙ c.if-is_empty.false) added.2 added.3 c.into_bytes-2.ensures.whole c.into_bytes-2.ensures.ok
