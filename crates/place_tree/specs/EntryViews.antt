-- What the entries of a plain list of nodes stand for.
use Rattle.std.specs.Prelude.{List, map}
use Rattle.place_tree.specs.declared.entries.Entry.{Entry}
use Rattle.file_tree.specs.Nodes.{Node}
use Rattle.file_tree.specs.Views.{kind_of}

-- the node that an entry of the plain list keeps, and the tree that the list is
abbrev pub node_of : Entry → Node
node_of entry = record { kind = kind_of entry.kind; place = entry.place; linked = entry.linked; content = entry.content.items }

abbrev pub nodes_of : List Entry → List Node
nodes_of entries = map node_of entries
