use Rattle.std.proofs.Common.{◌≡◌, ◌∙◌, List, ap, rules, tests}
use Rattle.std.proofs.lemmas.Iterator.{YieldsList-from_slice}
use Rattle.std.specs.Prelude.{Bool, ◌&&◌, ◌==◌}
use Rattle.std.specs.List.{list_any}
use Rattle.certificate.specs.Bounds.{End}
use Rattle.certificate.specs.Order.{same_class}
use Rattle.certificate.specs.Views.{held_end_of}
use Rattle.checker.specs.AllowanceViews.{allowance_of}
use Rattle.file_tree.specs.Nodes.{Node, node}
use Rattle.rights.specs.Classes.{Initial}
use Rattle.rights.specs.Views.{side_seen}
use Rattle.rules.specs.Authority.{is_below_ceiling}
use Rattle.task.specs.Views.{grant_of, nodes_of}
use Rattle.checker.proofs.Folds.{any_seen}
use Rattle.checker.proofs.allowances.may_start_with.Goals as goal

pub returns-in-End : goal.returns-in-End
returns-in-End c =
    let is_it : End → Bool = λ held. same_class held.class (Initial c.in-End.pair) && (held.side == side_seen c.in-End.side) in
    let ends = c.args.allowance.now.ends.now in
    let any = any_seen is_it held_end_of ends _ _ _ c.any-in-End.ensures.ran (YieldsList-from_slice ends cc) (λ x b q k. search (rules, tests)) in
    search (rules, tests)

pub returns-in-Node : goal.returns-in-Node
returns-in-Node c =
    let a = allowance_of c.args.allowance.now in
    let rights = c.args.descriptor.rights.0 in
    let grants = c.grants.result.now in
    let placed = ap (λ (nodes : List Node). (node nodes c.in-Node.node).place) c.nodes-nodes.ensures.nodes in
    let any : c.any.result ≡ list_any (is_below_ceiling c.args.allowance.now.wide a rights (node c.args.task.now.nodes c.in-Node.node).place) c.args.task.now.grants =
    any_seen (is_below_ceiling c.args.allowance.now.wide a rights (node (nodes_of c.nodes-nodes.result.now) c.in-Node.node).place)
    grant_of grants _ _ _ c.any.ensures.ran (YieldsList-from_slice grants cc)
    (λ x b q k. search (rules, tests)) ∙ (λ k. list_any (is_below_ceiling c.args.allowance.now.wide a rights (placed k)) (c.grants.ensures k)) in
    search (rules, tests)
