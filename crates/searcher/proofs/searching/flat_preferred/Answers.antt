use Rattle.std.proofs.Common.{sym, ◌∙◌}
use Rattle.searcher.proofs.VersionLaws.{flat_is_versioned}
use Rattle.searcher.proofs.searching.flat_preferred.Goals as goal

pub preferred-requires : goal.preferred-requires
preferred-requires c = record { version = flat_is_versioned c.args.task.now c.in-Some.cert (sym c.in_ok-cert.ensures ∙ c.in-Some.is) }
