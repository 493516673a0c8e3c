use Rattle.std.proofs.Common.{false}
use Rattle.task_reader.specs.declared.placed_starts.PlacedDescriptor.{PlacedDescriptor}
use Rattle.task_reader.specs.declared.placed_starts.PlacedObject.TheVariants as object
use Rattle.task_reader.specs.PlacedViews.{has_near, placed_descriptor}
use Rattle.task_reader.proofs.Stages.{small-at}
use Rattle.task_reader.proofs.reading.kept_descriptors.Goals as goal

abbrev none : PlacedDescriptor
none = record {
  number = 0;
  object = object.Node 0 (record { readable = false; writable = false });
  rights = record { 0 = 0 };
  fcntls = record { 0 = 0 };
}

pub kept_object-requires : goal.kept_object-requires
kept_object-requires c =
    let at = c.loop-descriptor.descriptor-index in
    small-at placed_descriptor has_near c.args.placed.now at none c.requires c.loop-descriptor-test.true
