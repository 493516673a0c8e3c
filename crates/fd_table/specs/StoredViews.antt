-- What the lists of the code hold.
use Rattle.std.specs.Prelude.{◌<◌, Bool, List, map, Option, Some, None}
use Rattle.rights.specs.Limits.{most_processes, most_descriptors}
use Rattle.std.specs.Option.{option_map}
use Rattle.fd_table.specs.declared.descriptors.Description.{Description as DescriptionCode}
use Rattle.fd_table.specs.declared.descriptions.Held.{Held as HeldCode}
use Rattle.fd_table.specs.declared.ends.Message.{Message as MessageCode}
use Rattle.fd_table.specs.declared.pairs.Half.{Half as HalfCode}
use Rattle.fd_table.specs.declared.pairs.Pair.{Pair as PairCode}
use Rattle.fd_table.specs.declared.file_tables.FileTables.{FileTables}
use Rattle.fd_table.specs.Descriptions.{Object, Message, new_state}
use Rattle.fd_table.specs.Views.{descriptor_seen, object_seen, state_seen}
use Rattle.fd_table.specs.Filled.{Entry}
use Rattle.fd_table.specs.Kept.{Description, Counted, Half, Pair, Kept}

abbrev pub description_kept : DescriptionCode → Description
description_kept d = record { object = object_seen d.object; state = state_seen d }

-- one at its beginning
abbrev pub new_description : Object → Bool → Description
new_description object append = record { object = object; state = new_state append }

abbrev pub held_kept : HeldCode → Counted
held_kept h = record { description = description_kept h.description; count = h.count }

abbrev pub descriptions_kept : List (Option HeldCode) → List (Option Counted)
descriptions_kept slots = map (option_map held_kept) slots

abbrev pub message_kept : MessageCode → Message
message_kept m = record { byte = m.byte; passed = option_map descriptor_seen m.passed }

abbrev pub half_kept : HalfCode → Half
half_kept h = record { description = h.description; sent = map message_kept h.sent.items }

abbrev pub pair_kept : PairCode → Pair
pair_kept p = record { a = half_kept p.a; b = half_kept p.b }

abbrev pub pairs_kept : List (Option PairCode) → List (Option Pair)
pairs_kept slots = map (option_map pair_kept) slots

abbrev pub tables_kept : FileTables → Kept
tables_kept b = record { entries = b.entries; descriptions = descriptions_kept b.descriptions.slots; pairs = pairs_kept b.pairs.slots }

-- the entry, if there is one, is of a table
abbrev pub IsWithinTables : Option Entry → Type 0
IsWithinTables None = Unit {0}
IsWithinTables (Some e) = (e.process < most_processes) × (e.number < most_descriptors)
