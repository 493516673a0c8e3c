use Rattle.std.proofs.Common.{◌≡◌, ◌<◌, Some, length, map, sym, ap, ◌∙◌, arith}
use Rattle.std.specs.Option.{option_map}
use Rattle.std.proofs.lemmas.List.{length-map}
use Rattle.rights.specs.Limits.{most_descriptors}
use Rattle.task.specs.Views.{nodes_of}
use Rattle.task_reader.specs.PlacedViews.{placed_descriptor}
use Rattle.task_reader.specs.Reading.{descriptors_placed}
use Rattle.task_reader.specs.WrittenViews.{descriptor_seen}
use Rattle.task_reader.proofs.NumberLaws.{too-many}
use Rattle.task_reader.proofs.placed_starts.make_table.Goals as goal

pub returns-then-len-gt-MAX_DESCRIPTORS : goal.returns-then-len-gt-MAX_DESCRIPTORS
returns-then-len-gt-MAX_DESCRIPTORS c =
    let tree = nodes_of c.args.tree.now.nodes.items in
    let written = map descriptor_seen c.args.written.now in
    let placed = map placed_descriptor c.in-Some.descriptors.items in
    let is : descriptors_placed tree written ≡ Some placed = sym c.in_ok-descriptors.ensures ∙ ap (option_map (λ ds. map placed_descriptor ds.items)) c.in-Some.is in
    let long : length placed ≡ length c.in-Some.descriptors.items = length-map c.in-Some.descriptors.items placed_descriptor in
    let count = c.len.ensures ∙ c.in-Some.descriptors.ok.0 in
    let past = c.if-len-gt-MAX_DESCRIPTORS.true in
    let many : most_descriptors < length placed = omega arith in
    sym (too-many tree written placed is many)
