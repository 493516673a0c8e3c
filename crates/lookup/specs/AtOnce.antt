-- What one name leads to at once beneath a directory, so that its lookup needs no walk that is kept between events. (own)
use Rattle.std.specs.Prelude.{Bool, ◌&&◌, not, List, [], Option, Some, None, if◌then◌else◌}
use Rattle.rights.specs.Values.{Name, NodeNumber}
use Rattle.file_tree.specs.Places.{is_file_name}
use Rattle.file_tree.specs.Nodes.{Node, node, child_of, is_dir, is_link}
use Rattle.lookup.specs.Answers.{Last, is_kept, Finding, Found_node, Found_free}

-- What has the name there, but a link that is to be followed; or the directory in which the name is free, if it is kept.
abbrev pub named_at_once : List Node → NodeNumber → Last → Option NodeNumber → Option Finding
named_at_once t d last None = if is_kept last [] then Some (Found_free d) else None
named_at_once t d last (Some n) = if is_link (node t n).kind && not (is_kept last []) then None else Some (Found_node n)

-- whether a name may be looked up there: it is one of a node, and the start a directory that wasn't removed
abbrev pub may_name : List Node → NodeNumber → Name → Bool
may_name t d name = is_file_name name && is_dir (node t d).kind && (node t d).linked

unfoldable pub at_once : List Node → NodeNumber → Name → Last → Option Finding
at_once t d name last = if may_name t d name then named_at_once t d last (child_of t d name) else None
