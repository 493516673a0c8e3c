-- What is of a world, as a bound sees it.
use Rattle.std.specs.Prelude.{ℕ, List, Option}
use Rattle.std.specs.Option.{option_map}
use Rattle.rights.specs.Classes as classes
use Rattle.certificate.specs.Describes.{Subject, Node_at, End_of, Own_end, Seen}
use Rattle.file_tree.specs.Nodes.{Node, node}
use Rattle.fd_table.specs.Descriptions.{PairClass, Initial, Made_at, Made_by, Object, At_node, At_end, Descriptor}
use Rattle.kernel.specs.World.{World}
use Rattle.task.specs.Plans.{Plan, program_name}

-- a side of a pair of a class, with the name of its program
abbrev pub end_seen : Plan → PairClass → ℕ → Subject
end_seen plan (Initial pair) side = End_of (classes.Initial pair) side
end_seen plan (Made_at program point) side = End_of (classes.Made_at (program_name plan program) point) side
end_seen plan (Made_by program) side = Own_end (program_name plan program) side

-- what a descriptor is of, the descriptor, and a table
abbrev pub subject_of : Plan → List Node → Object → Subject
subject_of plan tree (At_node n access) = Node_at (node tree n).place
subject_of plan tree (At_end pair side class) = end_seen plan class side

abbrev pub seen_of : Plan → World → Descriptor → Seen
seen_of plan w d = record { subject = subject_of plan w.tree (w.files.objects d.description); rights = d.rights; fcntls = d.fcntls }

abbrev pub table_seen : Plan → World → ℕ → ℕ → Option Seen
table_seen plan w p n = option_map (seen_of plan w) (w.files.table p n)
