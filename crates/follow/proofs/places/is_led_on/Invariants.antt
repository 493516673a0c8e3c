use Rattle.std.proofs.Common.{◌≡◌, drop}
use Rattle.std.specs.List.{list_any}
use Rattle.task.specs.Views.{nodes_of}
use Rattle.follow.specs.Places.{is_link_to}
use Rattle.follow.proofs.places.is_led_on.Given as goal

-- none of those before is
abbrev pub invariant-loop-node : goal.invariant-loop-node
invariant-loop-node l = list_any (is_link_to l.path) (nodes_of (drop l.node-index l.nodes)) ≡ list_any (is_link_to l.path) (nodes_of l.nodes)
