use Rattle.std.proofs.Common.{◌∙◌, ap, refl, sym}
use Rattle.std.specs.Option.{option_map}
use Rattle.fd_table.specs.Filled.{by_entry}
use Rattle.fd_table.specs.Views.{descriptor_seen}
use Rattle.api_tests.proofs.open_files.entry.Goals as goal

pub returns : goal.returns
returns g c = by_entry c.args.p c.args.n (descriptor_seen c.expect.result) (sym c.get.ensures ∙ ap (option_map descriptor_seen) c.expect.ensures) refl
