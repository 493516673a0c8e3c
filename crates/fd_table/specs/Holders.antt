-- How many entries and queued messages name each description, and what is true of the lists at any time. (own)
use Rattle.std.specs.Prelude.{◌≡◌, ◌+◌, ◌<◌, ◌≤◌, ◌^◌, ℕ, Bool, true, false, ◌&&◌, length, List, [], ◌∷◌, Option, Some, None, is_none, if◌then◌else◌}
use Rattle.std.specs.Option.{IsSome}
use Rattle.std.specs.List.{sum_by}
use Rattle.rights.specs.Limits.{most_messages}
use Rattle.fd_table.specs.Descriptions.{Descriptor, Message}
use Rattle.fd_table.specs.OpenFiles.{is_end, names}
use Rattle.fd_table.specs.Kept.{Counted, Pair, Kept, item_at, queue, object_in, end_of}

-- one where the descriptor names the description
abbrev pub names_count : ℕ → Option Descriptor → ℕ
names_count n o = if names n o then 1 else 0

-- how many messages of a queue carry a descriptor that names it, and of both queues of a pair
abbrev pub in_queue : ℕ → List Message → ℕ
in_queue n messages = sum_by (λ (m : Message). names_count n m.passed) messages

abbrev pub in_pair : ℕ → Option Pair → ℕ
in_pair n None = 0
in_pair n (Some p) = in_queue n p.a.sent + in_queue n p.b.sent

abbrev pub holders : Kept → ℕ → ℕ
holders k n = sum_by (names_count n) k.entries + sum_by (in_pair n) k.pairs

-- A description is there exactly if it has a holder, and its count is the number of holders.
abbrev pub IsCounted : Option Counted → ℕ → Type 0
IsCounted None many = many ≡ 0
IsCounted (Some h) many = (h.count ≡ many) × (0 < many)

-- No end is open, and nothing is on its way.
abbrev pub is_empty : List Message → Bool
is_empty [] = true
is_empty (m ∷ messages) = false

abbrev pub is_idle : Pair → Bool
is_idle p = is_none p.a.description && is_none p.b.description && is_empty p.a.sent && is_empty p.b.sent

abbrev pub IsNeeded : Option Pair → Type 0
IsNeeded None = Unit {0}
IsNeeded (Some p) = is_idle p ≡ false

-- What is true of the lists, where the code has so many descriptors of each description in hand, which it has taken from an
-- entry or a message, or is about to put there. Between two calls the hand is empty. An end is known to its pair by its
-- description, a pair that is idle is gone, and no queue is longer than it may be.
pub record IsKept (k : Kept) (hand : ℕ → ℕ) : Type 0 where
  pub room : length k.entries ≡ 256
  pub counts : (n : ℕ) → IsCounted (item_at k.descriptions n) (holders k n + hand n)
  pub ends : (pair side n : ℕ) → end_of k.pairs pair side ≡ Some n → is_end pair side (object_in (item_at k.descriptions n)) ≡ true
  pub known : (pair side n : ℕ) → is_end pair side (object_in (item_at k.descriptions n)) ≡ true → end_of k.pairs pair side ≡ Some n
  pub needed : (pair : ℕ) → IsNeeded (item_at k.pairs pair)
  pub few : (pair side : ℕ) → length (queue k.pairs pair side) ≤ most_messages

abbrev pub empty_hand : ℕ → ℕ
empty_hand n = 0

-- one descriptor more, if there is one, in hand
abbrev pub with_hand : Option Descriptor → (ℕ → ℕ) → ℕ → ℕ
with_hand o hand n = names_count n o + hand n

-- a descriptor, if there is one, that some count covers beside what else is in hand
pub record IsInHand (k : Kept) (o : Option Descriptor) : Type 0 where
  pub hand : ℕ → ℕ
  pub kept : IsKept k (with_hand o hand)

-- the number of holders, and that it is small
abbrev pub count_in : Option Counted → ℕ
count_in None = 0
count_in (Some h) = h.count

abbrev pub IsFew : (ℕ → Option Counted) → Option Descriptor → Type 0
IsFew slots None = Unit {0}
IsFew slots (Some d) = count_in (slots d.description) < 2 ^ 127

-- The descriptor, if there is one, names a description that is there.
abbrev pub IsDescriptionThere : (ℕ → Option Counted) → Option Descriptor → Type 0
IsDescriptionThere slots None = Unit {0}
IsDescriptionThere slots (Some d) = IsSome (slots d.description)
