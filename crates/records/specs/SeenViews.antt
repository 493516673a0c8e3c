-- What the processes that were seen stand for.
use Rattle.records.specs.declared.joined_runs.Seen.{Seen as SeenCode}
use Rattle.records.specs.Runs.{Seen}

abbrev pub seen_of : SeenCode → Seen
seen_of seen = record { known = seen.known.items; ended = seen.ended.items }
