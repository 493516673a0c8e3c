-- Counts of holders, and what is true of the lists, row by row.
use Rattle.std.proofs.Common.{◌≡◌, ◌+◌, ℕ, zero, suc, true, false, List, [], ◌∷◌, refl, arith, replicate}
use Rattle.std.specs.Prelude.{Option, Some, None}
use Rattle.std.specs.List.{sum_by}
use Rattle.std.proofs.lemmas.List.Folds.{sum_by-replicate}
use Rattle.std.proofs.lemmas.List.Sums.{sum_by-cons}
use Rattle.fd_table.proofs.Releasing.{named_other}
use Rattle.fd_table.specs.Descriptions.{At_node, At_end, Initial, Descriptor, Message, descriptor_of, message_of, new_state}
use Rattle.fd_table.specs.Kept.{Counted, Half, Kept, end_of, object_in, item_at}
use Rattle.fd_table.specs.OpenFiles.{is_end}
use Rattle.fd_table.specs.Holders.{IsCounted, IsKept, empty_hand, holders, names_count, with_hand}
use Rattle.fd_table.specs.Changes.{lowered, ended_in, after_close, with_less, with_more, pair_new}

-- a file's description with so many holders, and one of side b of a pair
abbrev file : ℕ → Counted
file count = record { description = record { object = At_node 4 (record { readable = true; writable = false }); state = new_state false }; count = count }

abbrev side_b : ℕ → ℕ → Counted
side_b pair count = record { description = record { object = At_end pair 1 (Initial 0); state = new_state false }; count = count }

abbrev naming : ℕ → Option Descriptor
naming n = Some (descriptor_of n 3 0)

abbrev carrying : ℕ → Message
carrying n = message_of 65 (naming n)

-- a side that is closed, and one that is open, with what it has sent
abbrev closed : List Message → Half
closed sent = record { description = None; sent = sent }

abbrev opened : ℕ → List Message → Half
opened n sent = record { description = Some n; sent = sent }

-- two entries name description 0, and so does a message on its way to side b, which has description 1
abbrev shared : Kept
shared = record {
  entries = naming 0 ∷ naming 1 ∷ None ∷ naming 0 ∷ [];
  descriptions = Some (file 3) ∷ Some (side_b 0 1) ∷ [];
  pairs = Some (record { a = closed (message_of 66 None ∷ carrying 0 ∷ []); b = opened 1 [] }) ∷ [];
}

counted_everywhere : holders shared 0 ≡ 3
counted_everywhere = refl

counted_once : holders shared 1 ≡ 1
counted_once = refl

named_nowhere : holders shared 2 ≡ 0
named_nowhere = refl

-- a descriptor in hand counts for what it names alone
in_hand : with_hand (naming 1) empty_hand 1 ≡ 1
in_hand = refl

not_in_hand : with_hand (naming 1) empty_hand 0 ≡ 0
not_in_hand = refl

-- one holder less, and the last one
one_less : lowered (Some (file 3)) ≡ Some (file 2)
one_less = refl

last_one : lowered (Some (file 1)) ≡ None
last_one = refl

ends_with_the_last : ended_in (Some (file 1)) ≡ Some ((file 1).description)
ends_with_the_last = refl

-- A pair stays while an end is open, or a message is on its way.
one_end_left : after_close 0 (Some (pair_new 5 6)) ≡ Some (record { a = closed []; b = opened 6 [] })
one_end_left = refl

no_end_left : after_close 1 (Some (record { a = closed []; b = opened 6 [] })) ≡ None
no_end_left = refl

message_left : after_close 1 (Some (record { a = closed (carrying 6 ∷ []); b = opened 6 [] })) ≡ Some (record { a = closed (carrying 6 ∷ []); b = closed [] })
message_left = refl

-- the last message is put behind the others, and the first is taken
sent_behind : with_more 0 (message_of 67 None) (Some (record { a = opened 5 (carrying 0 ∷ []); b = closed [] })) ≡ Some (record { a = opened 5 (carrying 0 ∷ message_of 67 None ∷ []); b = closed [] })
sent_behind = refl

taken_in_front : with_less 0 (Some (record { a = opened 5 (carrying 0 ∷ message_of 67 None ∷ []); b = closed [] })) ≡ Some (record { a = opened 5 (message_of 67 None ∷ []); b = closed [] })
taken_in_front = refl

-- sixteen tables with one entry, and so many holders of its description
abbrev one_entry : ℕ → Kept
one_entry count = record { entries = naming 0 ∷ replicate 255 None; descriptions = Some (file count) ∷ []; pairs = [] }

others : (n : ℕ) (entries : List (Option Descriptor)) → sum_by (names_count (suc n)) entries ≡ 0 → sum_by (names_count (suc n)) (naming 0 ∷ entries) ≡ 0
others n entries none =
    let first = named_other (descriptor_of 0 3 0) (suc n) (λ same. omega (arith, same)) in
    omega (arith, first, sum_by-cons (names_count (suc n)) (naming 0) entries, none)

one_is_kept : IsKept (one_entry 1) empty_hand
one_is_kept = record {
  room = refl;
  counts = counts;
  ends = λ pair side n opened. absurd cc;
  known = known;
  needed = λ pair. tt;
  few = λ pair side. omega arith;
}
  where
    counts : (n : ℕ) → IsCounted (item_at (one_entry 1).descriptions n) (holders (one_entry 1) n + 0)
    counts zero = (refl, omega arith)
    counts (suc n) = omega (arith, others n (replicate 255 None) (sum_by-replicate (names_count (suc n)) 255 None))

    known : (pair side n : ℕ) → is_end pair side (object_in (item_at (one_entry 1).descriptions n)) ≡ true → end_of [] pair side ≡ Some n
    known pair side zero end = absurd cc
    known pair side (suc n) end = absurd cc

-- a count of one too many, and a description that nobody names
two_is_not_kept : IsKept (one_entry 2) empty_hand → ⊥
two_is_not_kept kept = let one = (kept.counts 0).0 in absurd (omega (arith, one))

unnamed_is_not_kept : IsKept (record (one_entry 1) { entries = replicate 256 None }) empty_hand → ⊥
unnamed_is_not_kept kept = let some = (kept.counts 0).1 in absurd (omega (arith, some))

-- a pair without an end and without a message is left behind
idle_is_not_kept : IsKept (record (one_entry 1) { pairs = Some (record { a = closed []; b = closed [] }) ∷ [] }) empty_hand → ⊥
idle_is_not_kept kept = let idle = kept.needed 0 in absurd cc

-- a pair has an end that is no description's
lost_end_is_not_kept : IsKept (record (one_entry 1) { pairs = Some (record { a = opened 0 []; b = closed [] }) ∷ [] }) empty_hand → ⊥
lost_end_is_not_kept kept = let end = kept.ends 0 0 0 refl in absurd cc
