use Rattle.std.proofs.Common.{map, refl, ap, sym, ◌∙◌}
use Rattle.task.specs.Views.{nodes_of}
use Rattle.task_reader.specs.ApartViews.{granted_places}
use Rattle.task_reader.specs.Reading.{granted_place}
use Rattle.task_reader.specs.WrittenViews.{grant_seen}
use Rattle.task_reader.specs.declared.written.WrittenGrant.{WrittenGrant as GrantCode}
use Rattle.task_reader.proofs.OneByOne.{goes-on, stops, ends}
use Rattle.task_reader.proofs.placed_grants.grant_places.Goals as goal

pub loop-grant-preserved : goal.loop-grant-preserved
loop-grant-preserved c =
    let tree = nodes_of c.args.tree.now.nodes.items in
    goes-on {S = GrantCode} (λ ws. granted_places tree (map grant_seen ws)) (λ w. granted_place tree (grant_seen w).path) (λ p. p.now) (λ x xs. refl)
    _ c.args.written.now c.loop-grant.grant-index c.grant-item.result c.loop-grant.places.items _ c.in-Some.place
    c.loop-grant.invariant c.loop-grant-test.true (ap (λ w. granted_place tree (grant_seen w).path) (sym c.grant-item.is) ∙ sym c.in-Some.ensures) c.in_ok-push-in-Some.ensures.items

pub returns-in-None : goal.returns-in-None
returns-in-None c =
    let tree = nodes_of c.args.tree.now.nodes.items in
    sym (stops {S = GrantCode} (λ ws. granted_places tree (map grant_seen ws)) (λ w. granted_place tree (grant_seen w).path) (λ p. p.now) (λ x xs. refl)
    _ c.args.written.now c.loop-grant.grant-index c.grant-item.result c.loop-grant.places.items
    c.loop-grant.invariant c.loop-grant-test.true (ap (λ w. granted_place tree (grant_seen w).path) (sym c.grant-item.is) ∙ sym c.in-None.ensures))

pub returns : goal.returns
returns c =
    let tree = nodes_of c.args.tree.now.nodes.items in
    sym (ends {S = GrantCode} (λ ws. granted_places tree (map grant_seen ws)) (λ w. granted_place tree (grant_seen w).path) (λ p. p.now) (λ x xs. refl)
    _ c.args.written.now c.loop-grant.grant-index c.loop-grant.places.items c.loop-grant.invariant c.loop-grant-test.false refl)
