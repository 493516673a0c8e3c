use Rattle.syscalls.proofs.AtOnce.{found_at_once, leads_at_once}
use Rattle.syscalls.proofs.lookups.find_both.Goals as goal

pub returns-in_ok-place-in-Node-clause-leads : goal.returns-in_ok-place-in-Node-clause-leads
returns-in_ok-place-in-Node-clause-leads g c = λ s f processes p e rest.
    leads_at_once (g.T.Tree.nodes c.args.tree.now) c.args.start c.args.path.now c.args.target c.args.new_path.now
    (record { node = c.in-Node.node; place = c.in_ok-place-in-Node.place }) c.in_ok-find_name.field-0 c.in-Node.is
    c.in_ok-find_name.ensures.first c.in_ok-place-in-Node.ensures.first c.in_ok-find_name.ensures.alone c.in_ok-place-in-Node.ensures.alone
    s f processes p e rest

pub returns-in_ok-place-in-Node-clause-found : goal.returns-in_ok-place-in-Node-clause-found
returns-in_ok-place-in-Node-clause-found g c =
    found_at_once (g.T.Tree.nodes c.args.tree.now) c.args.start c.args.path.now c.args.target c.args.new_path.now
    (record { node = c.in-Node.node; place = c.in_ok-place-in-Node.place }) c.in_ok-find_name.field-0 c.in-Node.is
    c.in_ok-find_name.ensures.first c.in_ok-place-in-Node.ensures.first c.find_name.ensures.tree c.requires.opened c.requires.target_opened
