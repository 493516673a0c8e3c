use Rattle.std.proofs.Common.{map, refl, sym}
use Rattle.task.specs.Views.{nodes_of}
use Rattle.task_reader.specs.PlacedViews.{placed_descriptor}
use Rattle.task_reader.specs.Reading.{descriptor_placed, descriptors_placed}
use Rattle.task_reader.specs.WrittenViews.{descriptor_seen}
use Rattle.task_reader.specs.declared.written.WrittenDescriptor.{WrittenDescriptor as DescriptorCode}
use Rattle.task_reader.proofs.OneByOne.{goes-on, stops, ends}
use Rattle.task_reader.proofs.placed_starts.place_descriptors.Goals as goal

pub loop-descriptor-preserved : goal.loop-descriptor-preserved
loop-descriptor-preserved c =
    let tree = nodes_of c.args.tree.now.nodes.items in
    goes-on {S = DescriptorCode} (λ ws. descriptors_placed tree (map descriptor_seen ws)) (λ w. descriptor_placed tree (descriptor_seen w)) placed_descriptor (λ x xs. refl)
    _ c.args.written.now c.loop-descriptor.descriptor-index _ c.loop-descriptor.descriptors.items _ c.in-Some.placed
    c.loop-descriptor.invariant c.loop-descriptor-test.true (sym c.in-Some.ensures) c.in_ok-push-in-Some.ensures.items

pub returns-in-None : goal.returns-in-None
returns-in-None c =
    let tree = nodes_of c.args.tree.now.nodes.items in
    sym (stops {S = DescriptorCode} (λ ws. descriptors_placed tree (map descriptor_seen ws)) (λ w. descriptor_placed tree (descriptor_seen w)) placed_descriptor (λ x xs. refl)
    _ c.args.written.now c.loop-descriptor.descriptor-index _ c.loop-descriptor.descriptors.items
    c.loop-descriptor.invariant c.loop-descriptor-test.true (sym c.in-None.ensures))

pub returns : goal.returns
returns c =
    let tree = nodes_of c.args.tree.now.nodes.items in
    sym (ends {S = DescriptorCode} (λ ws. descriptors_placed tree (map descriptor_seen ws)) (λ w. descriptor_placed tree (descriptor_seen w)) placed_descriptor (λ x xs. refl)
    _ c.args.written.now c.loop-descriptor.descriptor-index c.loop-descriptor.descriptors.items c.loop-descriptor.invariant c.loop-descriptor-test.false refl)
