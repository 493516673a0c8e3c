use Rattle.std.proofs.Common.{◌≡◌, arith, None}
use Rattle.file_tree.specs.Places.{at_name}
use Rattle.file_tree.specs.Nodes.{node}
use Rattle.file_tree.specs.Changes.{renamed}
use Rattle.file_tree.specs.Refusals.{rename_fault}
use Rattle.link_tree.specs.Links.{linked_nodes, IsLinkedTree, Relinked}
use Rattle.link_tree.specs.LinkViews.{links_of}
use Rattle.link_tree.proofs.LinkEntryLaws.{count_links}
use Rattle.link_tree.proofs.LinkRenames.{Tested, refused_above, refused_blocked, rename_allowed, way_length, way_holder, renamed_linked}
use Rattle.link_tree.proofs.renames.rename_in.Goals as goal
use Rattle.link_tree.proofs.renames.rename_in.Goals.{After-relink}

pub returns-then-is_above-clause-refused : goal.returns-then-is_above-clause-refused
returns-then-is_above-clause-refused c = λ _.
    let tested : Tested (linked_nodes (links_of c.args.entries.now.items)) c.args.n c.args.dir c.args.name.now = record { linked = grind arith; dir_linked = grind arith; other = grind arith } in
    refused_above (linked_nodes (links_of c.args.entries.now.items)) c.args.n c.args.dir c.args.name.now tested (grind arith)

pub returns-then-is_blocked-clause-refused : goal.returns-then-is_blocked-clause-refused
returns-then-is_blocked-clause-refused c = λ _.
    let tested : Tested (linked_nodes (links_of c.args.entries.now.items)) c.args.n c.args.dir c.args.name.now = record { linked = grind arith; dir_linked = grind arith; other = grind arith } in
    refused_blocked (linked_nodes (links_of c.args.entries.now.items)) c.args.n c.args.dir c.args.name.now tested (grind arith) (grind arith)

pub relink-requires-clause-there : goal.relink-requires-clause-there
relink-requires-clause-there c =
    let ls = links_of c.args.entries.now.items in
    let tested : Tested (linked_nodes (links_of c.args.entries.now.items)) c.args.n c.args.dir c.args.name.now = record { linked = grind arith; dir_linked = grind arith; other = grind arith } in
    let allowed = rename_allowed (linked_nodes (links_of c.args.entries.now.items)) c.args.n c.args.dir c.args.name.now tested (grind arith) (grind arith) in
    let same = way_length ls (links_of c.make_way.new.entries.items) c.args.n c.args.dir c.args.name.now c.requires.linked tested allowed c.in_ok-make_way.ensures.ok in
    omega (arith, same, count_links c.args.entries.now.items, count_links c.make_way.new.entries.items, c.args.entries.now.ok.0, c.make_way.new.entries.ok.0)

pub relink-requires-clause-holder : goal.relink-requires-clause-holder
relink-requires-clause-holder c = λ e old is.
    let ls = links_of c.args.entries.now.items in
    let vs = links_of c.make_way.new.entries.items in
    let tested : Tested (linked_nodes (links_of c.args.entries.now.items)) c.args.n c.args.dir c.args.name.now = record { linked = grind arith; dir_linked = grind arith; other = grind arith } in
    let allowed = rename_allowed (linked_nodes (links_of c.args.entries.now.items)) c.args.n c.args.dir c.args.name.now tested (grind arith) (grind arith) in
    let same = way_length ls vs c.args.n c.args.dir c.args.name.now c.requires.linked tested allowed c.in_ok-make_way.ensures.ok in
    let there = way_holder ls vs c.args.n c.args.dir c.args.name.now c.requires.linked tested allowed c.in_ok-make_way.ensures.ok e old is in
    omega (arith, same, there, count_links c.make_way.new.entries.items, c.make_way.new.entries.ok.0)

-- the tree once the node is linked anew
record After (c : After-relink) : Type 0 where
  allowed : rename_fault (linked_nodes (links_of c.args.entries.now.items)) c.args.n c.args.dir c.args.name.now ≡ None
  tree : IsLinkedTree (links_of c.relink.new.entries.items)
      × (linked_nodes (links_of c.relink.new.entries.items) ≡ renamed (linked_nodes (links_of c.args.entries.now.items)) c.args.n
      (at_name (node (linked_nodes (links_of c.args.entries.now.items)) c.args.dir).place c.args.name.now))

after : (c : After-relink) → After c
after c =
    let tested : Tested (linked_nodes (links_of c.args.entries.now.items)) c.args.n c.args.dir c.args.name.now = record { linked = grind arith; dir_linked = grind arith; other = grind arith } in
    let allowed = rename_allowed (linked_nodes (links_of c.args.entries.now.items)) c.args.n c.args.dir c.args.name.now tested (grind arith) (grind arith) in
    let relinked : Relinked (links_of c.make_way.new.entries.items) (links_of c.relink.new.entries.items) c.args.n c.args.dir c.args.name.now = rw c.in_ok-own.ensures.items at c.relink.ensures in
    record {
      allowed = allowed;
      tree = renamed_linked (links_of c.args.entries.now.items)
          (links_of c.make_way.new.entries.items) c.args.n c.args.dir c.args.name.now c.requires.linked tested allowed c.in_ok-make_way.ensures.ok
          (links_of c.relink.new.entries.items) c.requires.directory c.requires.name relinked;
    }

pub returns-clause-ok : goal.returns-clause-ok
returns-clause-ok c = (after c).tree.1

pub returns-clause-allowed : goal.returns-clause-allowed
returns-clause-allowed c = (after c).allowed

pub returns-clause-linked : goal.returns-clause-linked
returns-clause-linked c = (after c).tree.0
