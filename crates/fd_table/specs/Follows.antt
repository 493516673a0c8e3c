-- What is open, as maps, and the lists that stand for it between two steps.
use Rattle.std.specs.Prelude.{◌≡◌, ◌≢◌, ℕ, false, drop, Option, Some, None}
use Rattle.fd_table.specs.Descriptions.{At_end, PairClass, Descriptor}
use Rattle.fd_table.specs.OpenFiles.{OpenFiles, IsUnnamed, IsUnused}
use Rattle.fd_table.specs.Openings.{described}
use Rattle.fd_table.specs.Filled.{with_queue}
use Rattle.fd_table.specs.Kept.{Counted, Kept, entry_at, item_at, queue, open_files}
use Rattle.fd_table.specs.Holders.{IsKept, empty_hand, with_hand}

-- The lists stand for what is open: the tables, the queues, and each description that is there.
abbrev pub ShowsAt : OpenFiles → ℕ → Option Counted → Type 0
ShowsAt f n None = Unit {0}
ShowsAt f n (Some h) = (h.description.object ≡ f.objects n) × (h.description.state ≡ f.states n)

pub record Shows (f : OpenFiles) (k : Kept) : Type 0 where
  pub table : (p n : ℕ) → entry_at k.entries p n ≡ f.table p n
  pub queue : (pair side : ℕ) → queue k.pairs pair side ≡ f.queue pair side
  pub described : (n : ℕ) → ShowsAt f n (item_at k.descriptions n)

-- The lists stand for this, with so many descriptors in hand.
pub record Follows (f : OpenFiles) (k : Kept) (hand : ℕ → ℕ) : Type 0 where
  pub kept : IsKept k hand
  pub shows : Shows f k

-- Whatever the lists stood for, they stand for what the step makes of it, with another hand.
abbrev pub Moves : Kept → Kept → (OpenFiles → OpenFiles) → ((ℕ → ℕ) → ℕ → ℕ) → ((ℕ → ℕ) → ℕ → ℕ) → Type 0
Moves old new step before after = (f : OpenFiles) (hand : ℕ → ℕ) → Follows f old (before hand) → Follows (step f) new (after hand)

abbrev pub same_hand : (ℕ → ℕ) → ℕ → ℕ
same_hand hand = hand

-- the messages without the one in front
abbrev pub with_taken : OpenFiles → ℕ → ℕ → OpenFiles
with_taken f pair side = with_queue f pair side (drop 1 (f.queue pair side))

-- the descriptions of both ends of a pair, and a descriptor of each in hand
abbrev pub with_ends : OpenFiles → ℕ → ℕ → ℕ → PairClass → OpenFiles
with_ends f first second pair class = described (described f first (At_end pair 0 class) false) second (At_end pair 1 class) false

abbrev pub hand_of_two : Descriptor → Descriptor → ℕ → ℕ
hand_of_two d e = with_hand (Some d) (with_hand (Some e) empty_hand)

-- A pair is made, and the descriptions of its ends, with one holder each that is in hand.
pub record Makes (j k : Kept) (class : PairClass) (first second : ℕ) : Type 0 where
  pub pair : ℕ
  pub first_fresh : IsUnnamed (open_files j) first
  pub second_fresh : IsUnnamed (open_files j) second
  pub apart : first ≢ second
  pub unused : IsUnused (open_files j) pair
  pub follows : (d e : Descriptor) → d.description ≡ first → e.description ≡ second → Follows (with_ends (open_files j) first second pair class) k (hand_of_two d e)
