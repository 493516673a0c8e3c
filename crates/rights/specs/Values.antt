-- Kinds of numbers and texts, by the names under which definitions speak of them. (own)
use Rattle.std.specs.Prelude.{ℕ, List}

-- a name of a node, of a program or of a grant, as its bytes
abbrev pub Name : Type 0
Name = List ℕ

-- where a node stands: the names from the root down
abbrev pub Place : Type 0
Place = List Name

-- a path as it is written, and what a link leads to
abbrev pub PathText : Type 0
PathText = List ℕ

-- what a file or link holds, as its bytes
abbrev pub Content : Type 0
Content = List ℕ

-- a node's place in the list of nodes
abbrev pub NodeNumber : Type 0
NodeNumber = ℕ

-- an open description
abbrev pub DescriptionNumber : Type 0
DescriptionNumber = ℕ

-- a number in a process's table
abbrev pub DescriptorNumber : Type 0
DescriptorNumber = ℕ

-- a process, in the order of making
abbrev pub ProcessNumber : Type 0
ProcessNumber = ℕ

-- a pair of sockets, and one of its sides: 0 (a) or 1 (b)
abbrev pub PairNumber : Type 0
PairNumber = ℕ

abbrev pub SideNumber : Type 0
SideNumber = ℕ

-- rights and fcntl commands, each set by its bits
abbrev pub RightSet : Type 0
RightSet = ℕ

abbrev pub CommandSet : Type 0
CommandSet = ℕ
