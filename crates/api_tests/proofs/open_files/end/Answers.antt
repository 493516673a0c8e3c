use Rattle.std.proofs.Common.{◌∙◌, ap, sym}
use Rattle.fd_table.specs.Views.{class_seen, object_seen}
use Rattle.api_tests.proofs.open_files.end.Goals as goal

pub returns : goal.returns
returns g c = record {
  description = c.entry-descriptor.result.description;
  class = class_seen c.in-End.class;
  named = c.entry-descriptor.ensures;
  is = sym c.what-object.ensures.object ∙ ap object_seen c.in-End.is;
}
