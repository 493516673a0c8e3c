use Rattle.std.proofs.Common.{◌≡◌, true, sym, subst}
use Rattle.task_reader.specs.PlacedViews.{is_small, placed_start}
use Rattle.task_reader.proofs.Stages.{small-at}
use Rattle.task_reader.proofs.reading.kept_starts.Goals as goal

pub kept_start-requires : goal.kept_start-requires
kept_start-requires c =
    subst (λ s. is_small (placed_start s) ≡ true) (sym c.start-item.is)
    (small-at placed_start is_small c.args.placed.now c.loop-start.start-index c.start-item.result c.requires c.loop-start-test.true)
