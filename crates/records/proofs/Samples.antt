-- Recorded calls and their lines, for rows.
use Rattle.std.specs.Prelude.{ℕ, true, false, List, [], ◌∷◌, codes, Some, None}
use Rattle.std.specs.List.{flat_map}
use Rattle.rights.specs.Calls as calls
use Rattle.rights.specs.Errors as errors
use Rattle.rights.specs.Opens.{open_request}
use Rattle.records.specs.Calls.{RealOperand, Number, Path, Flags, Rights, Commands, Succeeds, Fails, Is_place, Is_end}
use Rattle.records.specs.Calls.{Quiet, Right, RecordedEvent, Called, Ended, Omitted, RecordEntry}
use Rattle.records.specs.Texts.{line_with_feed}

abbrev pub text : List (List ℕ) → List ℕ
text lines = flat_map line_with_feed lines

-- an event of process 540, in these lines of the record
abbrev pub entry : ℕ → ℕ → RecordedEvent → RecordEntry
entry first last event = record { span = record { first = first; last = last }; process = 540; event = event }

-- a file is opened beneath a directory
abbrev pub opens_file : RecordEntry
opens_file = entry 35 35 (Called (record {
  call = calls.Openat;
  operands = Number 3 ∷ Path (codes "msgd") ∷ Flags (open_request false true true false false) ∷ [];
  outcome = Succeeds 4;
  bindings = Is_place 3 (codes "/var/log") ∷ Is_place 4 (codes "/var/log/msgd") ∷ [];
  bytes = None;
}))

abbrev pub opens_file_line : List ℕ
opens_file_line = codes "35 35 540 openat 3 \"msgd\" write,append = 4 @3 \"/var/log\" @4 \"/var/log/msgd\""

-- a pair of sockets
abbrev pub makes_pair : RecordEntry
makes_pair = entry 38 38 (Called (record {
  call = calls.Socketpair;
  operands = [];
  outcome = Succeeds 5;
  bindings = Is_end 5 0 0 ∷ Is_end 6 0 1 ∷ [];
  bytes = None;
}))

abbrev pub makes_pair_line : List ℕ
makes_pair_line = codes "38 38 540 socketpair = 5 @5 sock 0 a @6 sock 0 b"

-- a read that another process's calls come between
abbrev pub reads_bytes : RecordEntry
reads_bytes = entry 51 60 (Called (record {
  call = calls.Read;
  operands = Number 5 ∷ [];
  outcome = Succeeds 1;
  bindings = Is_end 5 0 0 ∷ [];
  bytes = Some 1;
}))

abbrev pub reads_bytes_line : List ℕ
reads_bytes_line = codes "51 60 540 read 5 = 1 @5 sock 0 a bytes 1"

-- an error, and a path of bytes that assembly's paths can't have
abbrev pub finds_none : RecordEntry
finds_none = entry 4 4 (Called (record {
  call = calls.Stat;
  operands = Path (47 ∷ 32 ∷ 92 ∷ 255 ∷ []) ∷ [];
  outcome = Fails errors.ENOENT;
  bindings = [];
  bytes = None;
}))

abbrev pub finds_none_line : List ℕ
finds_none_line = codes "4 4 540 stat \"/\\x20\\x5c\\xff\" ! ENOENT"

-- a directory is removed, and a file
abbrev pub removes : List ℕ → RealOperand → RecordEntry
removes name directory = entry 70 70 (Called (record {
  call = calls.Unlinkat;
  operands = Number 3 ∷ Path name ∷ directory ∷ [];
  outcome = Succeeds 0;
  bindings = [];
  bytes = None;
}))

-- limits
abbrev pub limits : RecordEntry
limits = entry 71 71 (Called (record {
  call = calls.Cap_rights_limit;
  operands = Number 3 ∷ Rights 0x81 ∷ [];
  outcome = Succeeds 0;
  bindings = [];
  bytes = None;
}))

abbrev pub limits_commands : RecordEntry
limits_commands = entry 72 72 (Called (record {
  call = calls.Cap_fcntls_limit;
  operands = Number 3 ∷ Commands 0 ∷ [];
  outcome = Succeeds 0;
  bindings = [];
  bytes = None;
}))

-- what is left out, with a right and without one
abbrev pub maps_file : RecordEntry
maps_file = entry 12 12 (Omitted (record { reason = Right; name = codes "mmap"; wanted = Some (record { right = codes "MMAP_R"; descriptor = 3 }) }))

abbrev pub takes_memory : RecordEntry
takes_memory = entry 2 2 (Omitted (record { reason = Quiet; name = codes "brk"; wanted = None }))

abbrev pub ends : RecordEntry
ends = entry 99 99 Ended

-- an entry of another process, and a fork that makes one
abbrev pub by : ℕ → RecordEntry → RecordEntry
by process e = record e { process = process }

abbrev pub forks : ℕ → RecordEntry
forks child = entry 12 12 (Called (record { call = calls.Fork; operands = []; outcome = Succeeds child; bindings = []; bytes = None }))
