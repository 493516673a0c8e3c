-- What the values of the code stand for.
use Rattle.std.specs.Prelude.{ℕ, List, take}
use Rattle.texts.specs.declared.names.Name.{Name as NameCode}

abbrev pub name_of : NameCode → List ℕ
name_of n = take n.length n.bytes
