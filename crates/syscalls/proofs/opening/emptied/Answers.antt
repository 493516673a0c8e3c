use Rattle.std.proofs.Common.{ap, map, sym, ◌∙◌}
use Rattle.rights.specs.Operations as operations
use Rattle.file_tree.specs.Nodes.{node}
use Rattle.kernel.specs.Calls.{truncates}
use Rattle.syscalls.specs.Shows.{shown}
use Rattle.syscalls.proofs.Keeping.{filled_shows, filled_there}
use Rattle.syscalls.proofs.Tests.{mapped}
use Rattle.syscalls.proofs.opening.emptied.Goals as goal

pub returns-clause-effects : goal.returns-clause-effects
returns-clause-effects g c =
    let t = g.T.Tree.nodes c.args.tree.now in
    let cut = mapped _ _ c.truncate.result c.map_err.result c.map_err.ensures.cases c.map_err.ensures.variant c.in_ok-map_err.was c.truncate.ensures.ok in
    sym (filled_shows t (g.T.Tree.nodes c.truncate.new.self) c.args.n _ operations.Write c.requires.there cut)
    ∙ ap (λ b. map shown (truncates b (node t c.args.n).place)) (sym c.if-not-trunc.false)

pub returns-clause-there : goal.returns-clause-there
returns-clause-there g c =
    filled_there (g.T.Tree.nodes c.args.tree.now) (g.T.Tree.nodes c.truncate.new.self) c.args.n _ c.requires.there
    (mapped _ _ c.truncate.result c.map_err.result c.map_err.ensures.cases c.map_err.ensures.variant c.in_ok-map_err.was c.truncate.ensures.ok)
