-- What the entries of the code hold.
use Rattle.std.specs.Prelude.{◌++◌, ◌-◌, List, length, map, replicate, Option, None}
use Rattle.std.specs.Option.{option_map}
use Rattle.fd_table.specs.declared.descriptors.Descriptor.{Descriptor as DescriptorCode}
use Rattle.fd_table.specs.Descriptions.{Descriptor}
use Rattle.fd_table.specs.Views.{descriptor_seen}

abbrev pub entry_kept : Option DescriptorCode → Option Descriptor
entry_kept o = option_map descriptor_seen o

-- The entries of all tables, of those that are kept: behind them none is there.
abbrev pub entries_kept : List (Option DescriptorCode) → List (Option Descriptor)
entries_kept entries = map entry_kept entries ++ replicate (256 - length entries) None
