use Rattle.std.proofs.Common.{map, option_map, refl, ap, sym, ◌∙◌}
use Rattle.task.specs.Views.{nodes_of}
use Rattle.task_reader.specs.PlacedViews.{placed_start}
use Rattle.task_reader.specs.Reading.{Wrong_descriptor, or_mistake, start_placed, starts_placed}
use Rattle.task_reader.specs.WrittenViews.{start_seen}
use Rattle.task_reader.specs.declared.written.WrittenStart.{WrittenStart as StartCode}
use Rattle.task_reader.proofs.OneByOne.{goes-on, stops, ends}
use Rattle.task_reader.proofs.placed_starts.place_starts.Goals as goal

pub loop-start-preserved : goal.loop-start-preserved
loop-start-preserved c =
    let tree = nodes_of c.args.tree.now.nodes.items in
    goes-on {S = StartCode} (λ ws. starts_placed tree (map start_seen ws)) (λ w. start_placed tree (start_seen w)) placed_start (λ x xs. refl)
    _ c.args.written.now c.loop-start.start-index c.start-item.result c.loop-start.starts.items _ c.in-Some.placed
    c.loop-start.invariant c.loop-start-test.true
    (ap (λ w. start_placed tree (start_seen w)) (sym c.start-item.is) ∙ (sym c.in_ok-placed.ensures ∙ ap (option_map placed_start) c.in-Some.is)) c.in_ok-push-in-Some.ensures.items

pub returns-in-None : goal.returns-in-None
returns-in-None c =
    let tree = nodes_of c.args.tree.now.nodes.items in
    ap (or_mistake Wrong_descriptor) (stops {S = StartCode} (λ ws. starts_placed tree (map start_seen ws)) (λ w. start_placed tree (start_seen w)) placed_start (λ x xs. refl)
    _ c.args.written.now c.loop-start.start-index c.start-item.result c.loop-start.starts.items
    c.loop-start.invariant c.loop-start-test.true (ap (λ w. start_placed tree (start_seen w)) (sym c.start-item.is) ∙ (sym c.in_ok-placed.ensures ∙ ap (option_map placed_start) c.in-None.is)))

pub returns : goal.returns
returns c =
    let tree = nodes_of c.args.tree.now.nodes.items in
    ap (or_mistake Wrong_descriptor) (ends {S = StartCode} (λ ws. starts_placed tree (map start_seen ws)) (λ w. start_placed tree (start_seen w)) placed_start (λ x xs. refl)
    _ c.args.written.now c.loop-start.start-index c.loop-start.starts.items c.loop-start.invariant c.loop-start-test.false refl)
