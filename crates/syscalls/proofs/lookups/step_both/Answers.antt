use Rattle.std.proofs.Common.{sym, ◌∙◌}
use Rattle.kernel.specs.Calls.{existing, walked_both}
use Rattle.syscalls.specs.Views.{world_with}
use Rattle.syscalls.proofs.Walked.{are_found, last_is, renames_as}
use Rattle.syscalls.proofs.lookups.step_both.Goals as goal

pub returns-clause-leads : goal.returns-clause-leads
returns-clause-leads g c = λ s f processes p e.
    let w = world_with (g.T.Tree.nodes c.args.tree.now) f processes in
    renames_as (λ rest. walked_both w p s e rest c.args.one c.args.other) _ existing c.step_last_names.result
    (λ rest. last_is w p s e c.args.one c.args.other rest (sym c.one_left.ensures ∙ c.if-not-one_left.false) (sym c.one_left-2.ensures ∙ c.if-not-one_left-2.false))
    (c.step_last_names.ensures.leads s f processes p e)

pub returns-clause-found : goal.returns-clause-found
returns-clause-found g c = λ path new_path tree under also.
    are_found (g.T.Tree.nodes c.args.tree.now) path new_path c.args.one c.args.other c.step_last_names.result tree under also
    c.step_last_names.ensures.node c.step_last_names.ensures.place
