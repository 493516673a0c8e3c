-- Lines and texts of recorded calls, what they are read as, and what isn't read, by computation.
use Rattle.std.proofs.Common.{◌≡◌, refl}
use Rattle.std.specs.Fmt.{digits}
use Rattle.std.specs.Prelude.{ℕ, true, false, List, [], ◌∷◌, ◌++◌, codes, Some, None, Ok}
use Rattle.records.specs.Beginnings.{first_processes}
use Rattle.records.specs.Calls.{Binding, Directory, Is_end, Is_place, RecordedCalls, are_calls, end_bound}
use Rattle.records.specs.Named.{call_of_word, error_of_word, reason_of_word}
use Rattle.records.specs.Quoted.{effect, quoted, unquoted}
use Rattle.records.specs.Readings.{Form, Counts, NoEnd, Behind, bindings_of, calls_of_text, choice_at, entry_of_text, entry_of_words, recorded_event_of, faulty, left_out_of, made_of, real_number_at}
use Rattle.records.specs.Readings.{real_operand_at, operands_at, outcome_at, calls_after, read_last, record_span_at, binding_step, wanted_of}
use Rattle.call_facts.specs.Sets.{flag_set, request_of_set, request_of_word, set_of_list, set_word}
use Rattle.records.specs.Texts.{calls_text, counts_line, entry_text}
use Rattle.records.proofs.Samples.{by, ends, finds_none, finds_none_line, limits, limits_commands, makes_pair, makes_pair_line}
use Rattle.records.proofs.Samples.{forks, maps_file, opens_file, opens_file_line, reads_bytes, reads_bytes_line, removes, takes_memory, text}

-- LINES: the text of an entry

opens-text : entry_text opens_file ≡ opens_file_line
unfolding entry_text quoted set_word flag_set digits
opens-text = refl

pair-text : entry_text makes_pair ≡ makes_pair_line
unfolding entry_text digits
pair-text = refl

reads-text : entry_text reads_bytes ≡ reads_bytes_line
unfolding entry_text digits
reads-text = refl

none-text : entry_text finds_none ≡ finds_none_line
unfolding entry_text quoted digits
none-text = refl

-- and what a line is read as

opens-read : entry_of_text opens_file_line ≡ Some opens_file
unfolding entry_of_text entry_of_words recorded_event_of left_out_of made_of real_number_at real_operand_at operands_at choice_at outcome_at bindings_of binding_step record_span_at
    wanted_of call_of_word error_of_word reason_of_word entry_text quoted unquoted effect set_word set_of_list flag_set request_of_set request_of_word digits
opens-read = refl

pair-read : entry_of_text makes_pair_line ≡ Some makes_pair
unfolding entry_of_text entry_of_words recorded_event_of left_out_of made_of real_number_at real_operand_at operands_at choice_at outcome_at bindings_of binding_step record_span_at
    wanted_of call_of_word error_of_word reason_of_word entry_text quoted unquoted effect set_word set_of_list flag_set request_of_set request_of_word digits
pair-read = refl

reads-read : entry_of_text reads_bytes_line ≡ Some reads_bytes
unfolding entry_of_text entry_of_words recorded_event_of left_out_of made_of real_number_at real_operand_at operands_at choice_at outcome_at bindings_of binding_step record_span_at
    wanted_of call_of_word error_of_word reason_of_word entry_text quoted unquoted effect set_word set_of_list flag_set request_of_set request_of_word digits
reads-read = refl

none-read : entry_of_text finds_none_line ≡ Some finds_none
unfolding entry_of_text entry_of_words recorded_event_of left_out_of made_of real_number_at real_operand_at operands_at choice_at outcome_at bindings_of binding_step record_span_at
    wanted_of call_of_word error_of_word reason_of_word entry_text quoted unquoted effect set_word set_of_list flag_set request_of_set request_of_word digits
none-read = refl

directory-read : entry_of_text (codes "70 70 540 unlinkat 3 \"old\" dir = 0") ≡ Some (removes (codes "old") (Directory true))
unfolding entry_of_text entry_of_words recorded_event_of left_out_of made_of real_number_at real_operand_at operands_at choice_at outcome_at bindings_of binding_step record_span_at
    wanted_of call_of_word error_of_word reason_of_word entry_text quoted unquoted effect set_word set_of_list flag_set request_of_set request_of_word digits
directory-read = refl

file-read : entry_of_text (codes "70 70 540 unlinkat 3 \"old\" = 0") ≡ Some (removes (codes "old") (Directory false))
unfolding entry_of_text entry_of_words recorded_event_of left_out_of made_of real_number_at real_operand_at operands_at choice_at outcome_at bindings_of binding_step record_span_at
    wanted_of call_of_word error_of_word reason_of_word entry_text quoted unquoted effect set_word set_of_list flag_set request_of_set request_of_word digits
file-read = refl

limits-read : entry_of_text (codes "71 71 540 cap_rights_limit 3 READ,LOOKUP = 0") ≡ Some limits
unfolding entry_of_text entry_of_words recorded_event_of left_out_of made_of real_number_at real_operand_at operands_at choice_at outcome_at bindings_of binding_step record_span_at
    wanted_of call_of_word error_of_word reason_of_word entry_text quoted unquoted effect set_word set_of_list flag_set request_of_set request_of_word digits
limits-read = refl

commands-read : entry_of_text (codes "72 72 540 cap_fcntls_limit 3 none = 0") ≡ Some limits_commands
unfolding entry_of_text entry_of_words recorded_event_of left_out_of made_of real_number_at real_operand_at operands_at choice_at outcome_at bindings_of binding_step record_span_at
    wanted_of call_of_word error_of_word reason_of_word entry_text quoted unquoted effect set_word set_of_list flag_set request_of_set request_of_word digits
commands-read = refl

maps-read : entry_of_text (codes "12 12 540 - right mmap MMAP_R 3") ≡ Some maps_file
unfolding entry_of_text entry_of_words recorded_event_of left_out_of made_of real_number_at real_operand_at operands_at choice_at outcome_at bindings_of binding_step record_span_at
    wanted_of call_of_word error_of_word reason_of_word entry_text quoted unquoted effect set_word set_of_list flag_set request_of_set request_of_word digits
maps-read = refl

memory-read : entry_of_text (codes "2 2 540 - quiet brk") ≡ Some takes_memory
unfolding entry_of_text entry_of_words recorded_event_of left_out_of made_of real_number_at real_operand_at operands_at choice_at outcome_at bindings_of binding_step record_span_at
    wanted_of call_of_word error_of_word reason_of_word entry_text quoted unquoted effect set_word set_of_list flag_set request_of_set request_of_word digits
memory-read = refl

ends-read : entry_of_text (codes "99 99 540 exit") ≡ Some ends
unfolding entry_of_text entry_of_words recorded_event_of left_out_of made_of real_number_at real_operand_at operands_at choice_at outcome_at bindings_of binding_step record_span_at
    wanted_of call_of_word error_of_word reason_of_word entry_text quoted unquoted effect set_word set_of_list flag_set request_of_set request_of_word digits
ends-read = refl

-- LINES THAT ARE NONE

abbrev is_none : List ℕ → Type 0
is_none line = entry_of_text line ≡ None

-- a number with a zero before it, one past 32 bits, an interval that ends before it begins, a register
no-numbers :
    is_none (codes "035 35 540 exit")
    × is_none (codes "35 35 4294967296 exit")
    × is_none (codes "36 35 540 exit")
    × is_none (codes "35 35 540 read r0 = 1")
    × is_none (codes "35 35 540 read 5 = 4294967296")
unfolding entry_of_text entry_of_words recorded_event_of left_out_of made_of real_number_at real_operand_at operands_at choice_at outcome_at bindings_of binding_step record_span_at
    wanted_of call_of_word error_of_word reason_of_word entry_text quoted unquoted effect set_word set_of_list flag_set request_of_set request_of_word digits
no-numbers = (refl, refl, refl, refl, refl)

-- two spaces, a space at the end, a word too few and one too many
no-words :
    is_none (codes "35  35 540 exit")
    × is_none (codes "35 35 540 exit ")
    × is_none (codes "35 35 540 exit 0")
    × is_none (codes "35 35 540")
    × is_none (codes "35 35 540 read = 1")
    × is_none (codes "35 35 540 read 5 6 = 1")
    × is_none (codes "35 35 540 socketpair 3 = 5")
    × is_none []
unfolding entry_of_text entry_of_words recorded_event_of left_out_of made_of real_number_at real_operand_at operands_at choice_at outcome_at bindings_of binding_step record_span_at
    wanted_of call_of_word error_of_word reason_of_word entry_text quoted unquoted effect set_word set_of_list flag_set request_of_set request_of_word digits
no-words = (refl, refl, refl, refl, refl, refl, refl, refl)

-- a call, an error and a reason that aren't there, and a name in capitals
no-names :
    is_none (codes "35 35 540 mmap 3 = 0")
    × is_none (codes "35 35 540 read 5 ! EACCES")
    × is_none (codes "35 35 540 - other brk")
    × is_none (codes "35 35 540 READ 5 = 1")
unfolding entry_of_text entry_of_words recorded_event_of left_out_of made_of real_number_at real_operand_at operands_at choice_at outcome_at bindings_of binding_step record_span_at
    wanted_of call_of_word error_of_word reason_of_word entry_text quoted unquoted effect set_word set_of_list flag_set request_of_set request_of_word digits
no-names = (refl, refl, refl, refl)

-- a path without quotes, with one alone, with an escape that isn't needed, and in capitals
no-paths :
    is_none (codes "4 4 540 stat /a = 1")
    × is_none (codes "4 4 540 stat \"/a = 1")
    × is_none (codes "4 4 540 stat \"/\\x61\" = 1")
    × is_none (codes "4 4 540 stat \"/\\xFF\" = 1")
    × is_none (codes "4 4 540 stat \"/a\"\" = 1")
    × is_none (codes "4 4 540 stat \"/\\n\" = 1")
unfolding entry_of_text entry_of_words recorded_event_of left_out_of made_of real_number_at real_operand_at operands_at choice_at outcome_at bindings_of binding_step record_span_at
    wanted_of call_of_word error_of_word reason_of_word entry_text quoted unquoted effect set_word set_of_list flag_set request_of_set request_of_word digits
no-paths = (refl, refl, refl, refl, refl, refl)

-- flags out of order, twice, and without the one that they need; a right by its other name
no-sets :
    is_none (codes "35 35 540 open \"/a\" append,write = 4")
    × is_none (codes "35 35 540 open \"/a\" write,write = 4")
    × is_none (codes "35 35 540 open \"/a\" append = 4")
    × is_none (codes "35 35 540 open \"/a\" none = 4")
    × is_none (codes "71 71 540 cap_rights_limit 3 LOOKUP,READ = 0")
    × is_none (codes "71 71 540 cap_rights_limit 3 RECV = 0")
    × is_none (codes "71 71 540 cap_rights_limit 3 other = 0")
unfolding entry_of_text entry_of_words recorded_event_of left_out_of made_of real_number_at real_operand_at operands_at choice_at outcome_at bindings_of binding_step record_span_at
    wanted_of call_of_word error_of_word reason_of_word entry_text quoted unquoted effect set_word set_of_list flag_set request_of_set request_of_word digits
no-sets = (refl, refl, refl, refl, refl, refl, refl)

-- half a binding, a side that isn't there, and bytes before a binding or twice
no-bindings :
    is_none (codes "51 60 540 read 5 = 1 @5")
    × is_none (codes "51 60 540 read 5 = 1 @5 sock 0")
    × is_none (codes "51 60 540 read 5 = 1 @5 sock 0 c")
    × is_none (codes "51 60 540 read 5 = 1 bytes 1 @5 sock 0 a")
    × is_none (codes "51 60 540 read 5 = 1 bytes 1 bytes 1")
    × is_none (codes "51 60 540 read 5 = 1 bytes")
unfolding entry_of_text entry_of_words recorded_event_of left_out_of made_of real_number_at real_operand_at operands_at choice_at outcome_at bindings_of binding_step record_span_at
    wanted_of call_of_word error_of_word reason_of_word entry_text quoted unquoted effect set_word set_of_list flag_set request_of_set request_of_word digits
no-bindings = (refl, refl, refl, refl, refl, refl)

-- no name, a right without a descriptor, and one with a word behind it
no-left-out :
    is_none (codes "2 2 540 - quiet")
    × is_none (codes "12 12 540 - right mmap MMAP_R")
    × is_none (codes "12 12 540 - right mmap MMAP_R 3 4")
    × is_none (codes "2 2 540 - quiet b-k")
unfolding entry_of_text entry_of_words recorded_event_of left_out_of made_of real_number_at real_operand_at operands_at choice_at outcome_at bindings_of binding_step record_span_at
    wanted_of call_of_word error_of_word reason_of_word entry_text quoted unquoted effect set_word set_of_list flag_set request_of_set request_of_word digits
no-left-out = (refl, refl, refl, refl)

-- TEXTS

abbrev five : RecordedCalls
five = takes_memory ∷ maps_file ∷ opens_file ∷ reads_bytes ∷ ends ∷ []

abbrev five_lines : List (List ℕ)
five_lines =
    codes "2 2 540 - quiet brk" ∷ codes "12 12 540 - right mmap MMAP_R 3" ∷ opens_file_line ∷ reads_bytes_line ∷ codes "99 99 540 exit" ∷ []

abbrev five_end : List ℕ
five_end = codes "end calls 2 loader 0 quiet 1 global 0 right 1 unknown 0 name 0 rights 1"

five-text : calls_text five ≡ text (codes "capcalls 1" ∷ (five_lines ++ five_end ∷ []))
unfolding calls_of_text calls_after read_last counts_line entry_of_text entry_of_words recorded_event_of left_out_of made_of real_number_at real_operand_at operands_at choice_at
    outcome_at bindings_of binding_step record_span_at wanted_of call_of_word error_of_word reason_of_word entry_text quoted unquoted effect set_word set_of_list flag_set
    request_of_set request_of_word digits
five-text = refl

five-read : calls_of_text (text (codes "capcalls 1" ∷ (five_lines ++ five_end ∷ []))) ≡ Ok five
unfolding calls_of_text calls_after read_last counts_line entry_of_text entry_of_words recorded_event_of left_out_of made_of real_number_at real_operand_at operands_at choice_at
    outcome_at bindings_of binding_step record_span_at wanted_of call_of_word error_of_word reason_of_word entry_text quoted unquoted effect set_word set_of_list flag_set
    request_of_set request_of_word digits
five-read = refl

five-kept : are_calls five ≡ true
five-kept = refl

none-read-of : calls_of_text (text (codes "capcalls 1" ∷ codes "end calls 0 loader 0 quiet 0 global 0 right 0 unknown 0 name 0 rights 0" ∷ [])) ≡ Ok []
unfolding calls_of_text calls_after read_last counts_line entry_of_text entry_of_words recorded_event_of left_out_of made_of real_number_at real_operand_at operands_at choice_at
    outcome_at bindings_of binding_step record_span_at wanted_of call_of_word error_of_word reason_of_word entry_text quoted unquoted effect set_word set_of_list flag_set
    request_of_set request_of_word digits
none-read-of = refl

-- a count that isn't that of the lines, a line that is none, and one that is missing
other-count : calls_of_text (text (codes "capcalls 1" ∷ (five_lines ++ codes "end calls 3 loader 0 quiet 1 global 0 right 1 unknown 0 name 0 rights 1" ∷ []))) ≡ faulty Counts 7
unfolding calls_of_text calls_after read_last counts_line entry_of_text entry_of_words recorded_event_of left_out_of made_of real_number_at real_operand_at operands_at choice_at
    outcome_at bindings_of binding_step record_span_at wanted_of call_of_word error_of_word reason_of_word entry_text quoted unquoted effect set_word set_of_list flag_set
    request_of_set request_of_word digits
other-count = refl

other-line : calls_of_text (text (codes "capcalls 1" ∷ codes "2 2 540 - quiet brk" ∷ codes "x" ∷ [])) ≡ faulty Form 3
unfolding calls_of_text calls_after read_last counts_line entry_of_text entry_of_words recorded_event_of left_out_of made_of real_number_at real_operand_at operands_at choice_at
    outcome_at bindings_of binding_step record_span_at wanted_of call_of_word error_of_word reason_of_word entry_text quoted unquoted effect set_word set_of_list flag_set
    request_of_set request_of_word digits
other-line = refl

no-last : calls_of_text (text (codes "capcalls 1" ∷ five_lines)) ≡ faulty NoEnd 7
unfolding calls_of_text calls_after read_last counts_line entry_of_text entry_of_words recorded_event_of left_out_of made_of real_number_at real_operand_at operands_at choice_at
    outcome_at bindings_of binding_step record_span_at wanted_of call_of_word error_of_word reason_of_word entry_text quoted unquoted effect set_word set_of_list flag_set
    request_of_set request_of_word digits
no-last = refl

-- no line feed at the end, more behind it, and an empty line behind it
abbrev nothing : List (List ℕ)
nothing = codes "capcalls 1" ∷ codes "end calls 0 loader 0 quiet 0 global 0 right 0 unknown 0 name 0 rights 0" ∷ []

not-ended : calls_of_text (text (codes "capcalls 1" ∷ []) ++ codes "end calls 0 loader 0 quiet 0 global 0 right 0 unknown 0 name 0 rights 0") ≡ faulty Form 2
unfolding calls_of_text calls_after read_last counts_line entry_of_text entry_of_words recorded_event_of left_out_of made_of real_number_at real_operand_at operands_at choice_at
    outcome_at bindings_of binding_step record_span_at wanted_of call_of_word error_of_word reason_of_word entry_text quoted unquoted effect set_word set_of_list flag_set
    request_of_set request_of_word digits
not-ended = refl

more-behind : (calls_of_text (text nothing ++ codes "x") ≡ faulty Behind 3) × (calls_of_text (text nothing ++ 10 ∷ []) ≡ faulty Behind 3)
unfolding calls_of_text calls_after read_last counts_line entry_of_text entry_of_words recorded_event_of left_out_of made_of real_number_at real_operand_at operands_at choice_at
    outcome_at bindings_of binding_step record_span_at wanted_of call_of_word error_of_word reason_of_word entry_text quoted unquoted effect set_word set_of_list flag_set
    request_of_set request_of_word digits
more-behind = (refl, refl)

-- no first line, and another one
no-first : (calls_of_text [] ≡ faulty Form 1) × (calls_of_text (codes "capcalls 1") ≡ faulty Form 1) × (calls_of_text (text (codes "capcalls 2" ∷ [])) ≡ faulty Form 1)
unfolding calls_of_text calls_after read_last counts_line entry_of_text entry_of_words recorded_event_of left_out_of made_of real_number_at real_operand_at operands_at choice_at
    outcome_at bindings_of binding_step record_span_at wanted_of call_of_word error_of_word reason_of_word entry_text quoted unquoted effect set_word set_of_list flag_set
    request_of_set request_of_word digits
no-first = (refl, refl, refl)

-- BEGINNINGS: a process that a call makes is none of the first ones, even where it is told before that; one of which all is left out isn't either

first-ones : first_processes (by 542 ends ∷ opens_file ∷ by 541 reads_bytes ∷ forks 542 ∷ by 543 maps_file ∷ opens_file ∷ []) ≡ 540 ∷ 541 ∷ []
first-ones = refl

first-none : first_processes (by 543 maps_file ∷ []) ≡ []
first-none = refl

-- THE ENDS THAT A CALL'S DESCRIPTORS ARE OF: each is that of its own number, of its own pair and side; of a place's number, and of one that isn't told, there is none
abbrev bound : List Binding
bound = Is_place 3 (codes "/") ∷ Is_end 5 2 0 ∷ Is_end 6 4 1 ∷ []

ends-bound : (end_bound 5 bound ≡ Some (record { pair = 2; side = 0 })) × (end_bound 6 bound ≡ Some (record { pair = 4; side = 1 }))
ends-bound = (refl, refl)

no-end-bound : (end_bound 3 bound ≡ None) × (end_bound 7 bound ≡ None)
no-end-bound = (refl, refl)
