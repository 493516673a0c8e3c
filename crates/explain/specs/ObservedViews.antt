-- What an observation is headed, and which part of docs/FREEBSD.md a warning is of.
use Rattle.std.specs.Prelude.{◌≡◌, ◌++◌, ℕ, List, codes, map}
use Rattle.explain.specs.Observed.{Headed, beyond_its_calls, difference_part, more_rights}
use Rattle.explain.specs.TopicViews.{topic_name}
use Rattle.explain.specs.declared.observations.Observation.{Observation}
use Rattle.explain.specs.declared.warning.Matter.{Matter}
use Rattle.explain.specs.declared.warning.Matter.TheVariants as matter
use Rattle.remarks.specs.RemarkViews.{difference_of}

abbrev pub headed : Observation → Headed
headed observation = (topic_name observation.topic, observation.points.items)

-- what stands behind a list of observations once some are added
abbrev pub AddsObserved : List Observation → List Observation → List Headed → Type 0
AddsObserved before after more = map headed after ≡ map headed before ++ more

abbrev pub part_of : Matter → List ℕ
part_of (matter.Differs difference) = difference_part (difference_of difference)
part_of matter.FailedClose = codes "a-close-that-fails"
part_of matter.NoSandbox = codes "no-sandbox-at-all"
part_of matter.TakesMore = more_rights
part_of matter.StartsWithMore = more_rights
part_of matter.Directory = beyond_its_calls
part_of matter.WidestCeiling = more_rights
part_of matter.PryingCeiling = beyond_its_calls
