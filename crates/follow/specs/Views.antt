-- What the code's values stand for.
use Rattle.std.specs.Borrow.{Bor}
use Rattle.std.specs.Prelude.{Bool, List, [], ◌∷◌, map, Option, Some, None, option_map, if◌then◌else◌}
use Rattle.instruction_set.specs.Views.{syscall_of}
use Rattle.records.specs.declared.entries.Entry.{Entry as EntryCode}
use Rattle.records.specs.Calls.{RecordedCalls}
use Rattle.records.specs.EntryViews.{record_entry_seen}
use Rattle.simulator.specs.Views.{result_of}
use Rattle.syscalls.specs.Views.{event_of}
use Rattle.follow.specs.declared.places.Placing.{Placing as PlacingCode}
use Rattle.follow.specs.declared.numbers.ProcessPair.{ProcessPair as ProcessPairCode}
use Rattle.follow.specs.declared.numbers.FdMapping.{FdMapping as FdMappingCode}
use Rattle.follow.specs.declared.checking.Before.{Before as BeforeCode}
use Rattle.follow.specs.declared.outcomes.Seen.{Seen as SeenCode}
use Rattle.follow.specs.declared.transfers.Transfer.{Transfer as TransferCode}
use Rattle.follow.specs.declared.transfers.Transfer.TheVariants as transfer
use Rattle.follow.specs.declared.transfers.Past.{Past as PastCode}
use Rattle.follow.specs.declared.witnesses.Move.{Move as MoveCode}
use Rattle.follow.specs.declared.witnesses.Move.TheVariants as move
use Rattle.follow.specs.declared.witnesses.Witness.{Witness as WitnessCode}
use Rattle.follow.specs.declared.progress.Setting.{Setting as SettingCode}
use Rattle.follow.specs.declared.progress.MatchProgress.{MatchProgress as MatchProgressCode}
use Rattle.follow.specs.Places.{Placing}
use Rattle.follow.specs.Numbers.{FdMapping, ProcessPair}
use Rattle.follow.specs.Outcomes.{Before, Past, Seen, Transfer, Reads, Writes}
use Rattle.follow.specs.Progress.{Setting, MatchProgress}
use Rattle.follow.specs.Shows.{Move, Steps, Skips, Witness}

abbrev pub placing_of : PlacingCode → Placing
placing_of p = record { real = p.real.items; model = p.model.items }

abbrev pub placings_of : List PlacingCode → List Placing
placings_of placings = map placing_of placings

abbrev pub pair_of : ProcessPairCode → ProcessPair
pair_of pair = record { real = pair.real; model = pair.model }

abbrev pub pairs_of : List ProcessPairCode → List ProcessPair
pairs_of pairs = map pair_of pairs

abbrev pub mapping_of : FdMappingCode → FdMapping
mapping_of n = record { process = n.process; real = n.real; model = n.model }

abbrev pub mappings_seen : List FdMappingCode → List FdMapping
mappings_seen mappings = map mapping_of mappings

abbrev pub before_of : BeforeCode → Before
before_of b = record { registers = b.registers; call = option_map (λ call. syscall_of call.now) b.call }

abbrev pub seen_of : SeenCode → Seen
seen_of s = record {
  registers = s.registers;
  call = option_map (λ call. syscall_of call.now) s.call;
  outcome = result_of s.outcome;
  second = s.second;
}

abbrev pub transfer_of : TransferCode → Transfer
transfer_of (transfer.Read descriptor) = Reads descriptor
transfer_of (transfer.Write descriptor) = Writes descriptor

abbrev pub past_of : PastCode → Past
past_of past = record { process = past.process; transfer = option_map transfer_of past.transfer }

abbrev pub history_of : List PastCode → List Past
history_of history = map past_of history

abbrev pub move_of : MoveCode → Move
move_of (move.Step event shows) = Steps (event_of event) shows
move_of (move.Skip entry) = Skips entry

abbrev pub moves_of : List MoveCode → List Move
moves_of moves = map move_of moves

abbrev pub witness_of : WitnessCode → Witness
witness_of witness = record { pairs = pairs_of witness.pairs.items; moves = moves_of witness.moves.items }

-- entries behind references
abbrev pub entries_after : List (Bor EntryCode) → RecordedCalls
entries_after entries = map (λ entry. record_entry_seen entry.now) entries

abbrev pub setting_of : SettingCode → Setting
setting_of g = record { plan = g.task.now; placings = placings_of g.placings.now; pairs = pairs_of g.pairs.now; limited = g.limited }

abbrev pub progress_of : MatchProgressCode → MatchProgress
progress_of s = record { left = entries_after s.left.items; mappings = mappings_seen s.mappings.items; history = history_of s.history.items }

-- where it stands, if all was shown so far
abbrev pub if_stands : Bool → MatchProgressCode → Option MatchProgress
if_stands is s = if is then Some (progress_of s) else None
