use Rattle.std.proofs.Common.{arith}
use Rattle.link_tree.specs.LinkViews.{links_of}
use Rattle.link_tree.proofs.LinkedAfter.{removed_tested}
use Rattle.link_tree.proofs.removes.remove_in.Goals as goal

pub returns-clause-allowed : goal.returns-clause-allowed
returns-clause-allowed c =
    (removed_tested (links_of c.args.entries.now.items) (links_of c.take_out.new.entries.items) c.args.n
    c.in_ok-place.place c.requires.linked (grind arith) c.if-n-eq0.false (grind arith)
    (rw c.deref-2.ensures.value at c.in_ok-place.ensures) c.take_out.ensures).allowed

pub returns-clause-ok : goal.returns-clause-ok
returns-clause-ok c =
    (removed_tested (links_of c.args.entries.now.items) (links_of c.take_out.new.entries.items) c.args.n
    c.in_ok-place.place c.requires.linked (grind arith) c.if-n-eq0.false (grind arith)
    (rw c.deref-2.ensures.value at c.in_ok-place.ensures) c.take_out.ensures).tree

pub returns-clause-linked : goal.returns-clause-linked
returns-clause-linked c =
    (removed_tested (links_of c.args.entries.now.items) (links_of c.take_out.new.entries.items) c.args.n
    c.in_ok-place.place c.requires.linked (grind arith) c.if-n-eq0.false (grind arith)
    (rw c.deref-2.ensures.value at c.in_ok-place.ensures) c.take_out.ensures).linked
