use Rattle.checker.proofs.KnownLimits.{all_known}
use Rattle.searcher.proofs.rounds.go_through.Goals as goal

pub take_waiting-requires : goal.take_waiting-requires
take_waiting-requires c = all_known c.code.result.now c.code.ensures.value c.code.ensures.valid
