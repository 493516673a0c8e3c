-- What the rows of the table of rights stand for.
use Rattle.std.specs.Prelude.{ℕ, List}
use Rattle.bitflags.specs.declared.traits.Flag.{Flag}
use Rattle.rights.specs.declared.sets.Rights.{Rights}

-- a name, and its right
abbrev pub row_seen : Flag Rights → List ℕ × ℕ
row_seen row = (row.name.now, row.value.0)
