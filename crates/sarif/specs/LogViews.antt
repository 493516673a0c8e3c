-- What the code's logs stand for.
use Rattle.std.specs.Prelude.{map, option_map}
use Rattle.sarif.specs.Logs as log
use Rattle.sarif.specs.declared.logs.Level.{Level}
use Rattle.sarif.specs.declared.logs.Level.TheVariants as code
use Rattle.sarif.specs.declared.logs.RuleId.{RuleId}
use Rattle.sarif.specs.declared.logs.RuleId.TheVariants as ids
use Rattle.sarif.specs.declared.logs.Place.{Place}
use Rattle.sarif.specs.declared.logs.Rule.{Rule}
use Rattle.sarif.specs.declared.logs.Finding.{Finding}
use Rattle.sarif.specs.declared.logs.Log.{Log}
use Rattle.sarif.specs.Uris.{uri_of}

abbrev pub level_seen : Level → log.Level
level_seen code.Error = log.error
level_seen code.Warning = log.warning
level_seen code.Note = log.note

abbrev pub id_seen : RuleId → log.Id
id_seen (ids.Numbered number) = log.numbered number
id_seen (ids.Named name) = log.named name.now

abbrev pub place_seen : Place → log.Place
place_seen place = record { line = place.line; column = place.column }

abbrev pub rule_seen : Rule → log.Rule
rule_seen rule = record { id = id_seen rule.id; level = level_seen rule.level; title = rule.title.now; says = rule.says.now; help = rule.help.now }

abbrev pub finding_seen : Finding → log.Finding
finding_seen finding =
    record {
      rule = id_seen finding.rule;
      level = level_seen finding.level;
      message = finding.message.items;
      place = option_map place_seen finding.place;
      related = map place_seen finding.related.items;
    }

abbrev pub log_seen : Log → log.Log
log_seen it = record { uri = uri_of it.file.now; rules = map rule_seen it.rules.items; findings = map finding_seen it.findings.items }
