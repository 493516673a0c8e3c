-- The state of a run. (after capsicum(4) and Watson et al., USENIX Security 2010; own)
use Rattle.std.specs.Prelude.{◌≢◌, List}
use Rattle.rights.specs.Values.{DescriptionNumber, PairNumber}
use Rattle.process.specs.State.{ProcessState}
use Rattle.file_tree.specs.Nodes.{Node}
use Rattle.fd_table.specs.OpenFiles.{OpenFiles, IsUnnamed, IsUnused}

-- The file tree; what is open, by process and number, with what is queued; and the processes in the order of making.
pub record World : Type 0 where
  pub tree : List Node
  pub files : OpenFiles
  pub processes : List ProcessState

-- The numbers that a step may give to what it makes: two descriptions and a pair.
pub record Choice : Type 0 where
  pub first : DescriptionNumber
  pub second : DescriptionNumber
  pub pair : PairNumber

-- Nobody names the two descriptions, and they differ; no end of the pair is open, and both its
-- queues are empty.
pub record IsFresh (f : OpenFiles) (choice : Choice) : Type 0 where
  pub first : IsUnnamed f choice.first
  pub second : IsUnnamed f choice.second
  pub apart : choice.first ≢ choice.second
  pub pair : IsUnused f choice.pair
