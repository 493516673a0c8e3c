use Rattle.searcher.proofs.KnownLimits.{known_at}
use Rattle.searcher.proofs.rounds.take_waiting.Goals as goal

pub take_outcomes-requires : goal.take_outcomes-requires
take_outcomes-requires c =
    known_at c.args.code.now c.loop-point.point c.index-code-point.result c.requires c.loop-point-test.true c.index-code-point.is
