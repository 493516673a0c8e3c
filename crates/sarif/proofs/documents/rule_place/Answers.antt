use Rattle.std.proofs.Common.{◌≡◌, rules, tests, ◌∙◌}
use Rattle.std.specs.List.{position}
use Rattle.std.proofs.lemmas.Iterator.{YieldsList-from_slice}
use Rattle.std.proofs.lemmas.Iterator.Search.{position_from_yields_List}
use Rattle.sarif.specs.Logs.{is_same_id}
use Rattle.sarif.specs.LogViews.{id_seen}
use Rattle.sarif.proofs.LogLaws.{rule_place-seen}
use Rattle.sarif.proofs.documents.rule_place.Goals as goal

pub returns : goal.returns
returns c =
    let found : c.position.result ≡ position (λ rule. is_same_id (id_seen rule.id) (id_seen c.args.id.now)) c.args.rules.now =
    position_from_yields_List _ _ _ _ c.position.ensures.ran (YieldsList-from_slice _ c.iter.ensures.rest) (λ x b q k. search (rules, tests)) in
    found ∙ rule_place-seen c.args.rules.now (id_seen c.args.id.now)
