-- The names of topics, and what is said of an observation.
use Rattle.std.specs.Prelude.{ℕ, ◌++◌, List, codes}
use Rattle.explain.specs.Wording.{joined_points}
use Rattle.explain.specs.declared.observations.Observation.{Observation}
use Rattle.explain.specs.declared.topics.Topic.{Topic}
use Rattle.explain.specs.declared.topics.Topic.TheVariants as topic

-- the name by which a matter is known to other programs
abbrev pub topic_name : Topic → List ℕ
topic_name topic.NeverEnters = codes "never-enters"
topic_name topic.Untrusted = codes "untrusted"
topic_name topic.Unreached = codes "unreached"
topic_name topic.ModeSkipped = codes "mode-skipped"
topic_name topic.InNoGrant = codes "in-no-grant"
topic_name topic.BeyondPolicy = codes "beyond-the-policy"
topic_name topic.NeverNamed = codes "never-named"
topic_name topic.RightsUnused = codes "rights-unused"
topic_name topic.CommandsUnused = codes "commands-unused"
topic_name topic.BothEnds = codes "both-ends"
topic_name topic.NeverOpen = codes "never-open"
topic_name topic.LoneEnd = codes "lone-end"
topic_name topic.WholeTree = codes "whole-tree"
topic_name topic.OperationUnused = codes "operation-unused"
topic_name (topic.FreeBsd part) = part.now

-- what joins points to what is said of them
abbrev pub joint : Topic → List ℕ
joint topic.NeverEnters = codes ", at "
joint topic.NeverNamed = codes ", at "
joint topic.BothEnds = codes ", at "
joint topic.NeverOpen = codes ", at "
joint _ = codes " at "

-- what is said of an observation in one line: its words, its points, and what is said behind them
abbrev pub observation_text : Observation → List ℕ
observation_text observation =
    observation.words.bytes.items ++ (joined_points (joint observation.topic) observation.points.items ++ observation.more.bytes.items)
