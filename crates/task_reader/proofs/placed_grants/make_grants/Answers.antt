use Rattle.std.proofs.Common.{map, option_map, refl, ap, sym, ◌∙◌}
use Rattle.task.specs.Views.{grant_of, nodes_of}
use Rattle.task_reader.specs.Reading.{Wrong_grant, grant_placed, grants_placed, or_mistake}
use Rattle.task_reader.specs.WrittenViews.{grant_seen}
use Rattle.task_reader.specs.declared.written.WrittenGrant.{WrittenGrant as GrantCode}
use Rattle.task_reader.proofs.OneByOne.{goes-on, stops, ends}
use Rattle.task_reader.proofs.placed_grants.make_grants.Goals as goal

pub loop-grant-preserved : goal.loop-grant-preserved
loop-grant-preserved c =
    let tree = nodes_of c.args.tree.now.nodes.items in
    goes-on {S = GrantCode} (λ ws. grants_placed tree (map grant_seen ws)) (λ w. grant_placed tree (grant_seen w)) grant_of (λ x xs. refl)
    _ c.args.written.now c.loop-grant.grant-index c.grant-item.result c.loop-grant.grants.items _ c.in-Some.placed
    c.loop-grant.invariant c.loop-grant-test.true
    (ap (λ w. grant_placed tree (grant_seen w)) (sym c.grant-item.is) ∙ (sym c.in_ok-placed.ensures ∙ ap (option_map grant_of) c.in-Some.is)) c.in_ok-push-in-Some.ensures.items

pub returns-in-None : goal.returns-in-None
returns-in-None c =
    let tree = nodes_of c.args.tree.now.nodes.items in
    ap (or_mistake Wrong_grant) (stops {S = GrantCode} (λ ws. grants_placed tree (map grant_seen ws)) (λ w. grant_placed tree (grant_seen w)) grant_of (λ x xs. refl)
    _ c.args.written.now c.loop-grant.grant-index c.grant-item.result c.loop-grant.grants.items
    c.loop-grant.invariant c.loop-grant-test.true (ap (λ w. grant_placed tree (grant_seen w)) (sym c.grant-item.is) ∙ (sym c.in_ok-placed.ensures ∙ ap (option_map grant_of) c.in-None.is)))

pub returns : goal.returns
returns c =
    let tree = nodes_of c.args.tree.now.nodes.items in
    ap (or_mistake Wrong_grant) (ends {S = GrantCode} (λ ws. grants_placed tree (map grant_seen ws)) (λ w. grant_placed tree (grant_seen w)) grant_of (λ x xs. refl)
    _ c.args.written.now c.loop-grant.grant-index c.loop-grant.grants.items c.loop-grant.invariant c.loop-grant-test.false refl)
