use Rattle.std.proofs.Common.{ap, ◌∙◌}
use Rattle.std.proofs.lemmas.Result.{IfOk-weaker}
use Rattle.serde_json.specs.Written.{compact_text, has_float}
use Rattle.sarif.specs.LogViews.{log_seen}
use Rattle.sarif.proofs.LogLaws.{log-plain}
use Rattle.sarif.proofs.documents.log_text.Goals as goal

pub returns : goal.returns
returns c =
    let is = c.in_ok-log_value.ensures in
    IfOk-weaker c.to_string.result _ _ (λ text told. told (ap has_float is ∙ log-plain (log_seen c.args.log.now)) ∙ ap compact_text is) c.to_string.ensures.text
