-- Descriptors, what they are open on, and what is on its way through socket pairs. (after capsicum(4), fork(2), dup(2),
-- socketpair(2) and Watson et al., USENIX Security 2010; the numbers and the profile are own)
use Rattle.std.specs.Prelude.{◌≡◌, ◌≢◌, ◌≤◌, ◌==◌, ◌+◌, ℕ, zero, suc, Bool, false, ◌&&◌, ◌||◌, List, [], ◌∷◌, Option, Some, None, is_some, if◌then◌else◌}
use Rattle.std.specs.List.{list_any}
use Rattle.rights.specs.Values.{DescriptionNumber, DescriptorNumber, PairNumber, SideNumber}
use Rattle.rights.specs.Limits.{most_processes, most_descriptors}
use Rattle.fd_table.specs.Descriptions.{Object, At_node, At_end, State, Descriptor, Message}

-- Maps are functions. What `objects` and `states` say at a number that no descriptor names means
-- nothing. The queue of a pair and a side has what that side sent.
pub record OpenFiles : Type 0 where
  pub objects : ℕ → Object
  pub states : ℕ → State
  pub queue : ℕ → ℕ → List Message
  pub pairs : ℕ  -- pairs with queued messages are numbered below it
  pub table : ℕ → ℕ → Option Descriptor  -- by process and number

-- The end of a pair and a side is open if some entry of the table, or some queued message, names its
-- description.
abbrev pub is_end : PairNumber → SideNumber → Object → Bool
is_end pair side (At_node node access) = false
is_end pair side (At_end p s class) = (p == pair) && (s == side)

abbrev pub names_end : (DescriptionNumber → Object) → PairNumber → SideNumber → Option Descriptor → Bool
names_end objects pair side None = false
names_end objects pair side (Some d) = is_end pair side (objects d.description)

-- whether a descriptor names the description
abbrev pub names : DescriptionNumber → Option Descriptor → Bool
names n None = false
names n (Some d) = d.description == n

-- some number below n passes the test
unfoldable pub any_below : ℕ → (ℕ → Bool) → Bool
any_below zero test = false
any_below (suc n) test = test n || any_below n test

-- some entry of a process below 16, or some message of a pair below `pairs`, passes the test
abbrev pub any_named : OpenFiles → (Option Descriptor → Bool) → Bool
any_named f test =
    any_below most_processes (λ p. any_below most_descriptors (λ n. test (f.table p n)))
    || any_below f.pairs (λ q. any_below 2 (λ s. list_any (λ (m : Message). test m.passed) (f.queue q s)))

abbrev pub is_open : OpenFiles → PairNumber → SideNumber → Bool
is_open f pair side = any_named f (names_end f.objects pair side)

-- The lowest of so many numbers from one on that no descriptor has.
unfoldable pub lowest_from : ℕ → DescriptorNumber → (DescriptorNumber → Option Descriptor) → Option DescriptorNumber
lowest_from zero n row = None
lowest_from (suc count) n row = if is_some (row n) then lowest_from count (n + 1) row else Some n

abbrev pub lowest_free : (DescriptorNumber → Option Descriptor) → Option DescriptorNumber
lowest_free row = lowest_from most_descriptors 0 row

-- nobody names the description
abbrev pub IsOther : DescriptionNumber → Option Descriptor → Type 0
IsOther n None = Unit {0}
IsOther n (Some d) = d.description ≢ n

abbrev pub AreOther : DescriptionNumber → List Message → Type 0
AreOther n [] = Unit {0}
AreOther n (m ∷ messages) = IsOther n m.passed × AreOther n messages

pub record IsUnnamed (f : OpenFiles) (n : DescriptionNumber) : Type 0 where
  pub entries : (p m : ℕ) → IsOther n (f.table p m)
  pub messages : (pair side : ℕ) → AreOther n (f.queue pair side)

-- no end of the pair is open, and both its queues are empty
pub record IsUnused (f : OpenFiles) (pair : PairNumber) : Type 0 where
  pub closed : (side : ℕ) → is_open f pair side ≡ false
  pub empty : (side : ℕ) → f.queue pair side ≡ []

-- What is at numbers that nobody names is left open: the second says of all that is named what the first says. Its pairs
-- with queued messages are below its own bound.
abbrev pub SameDescription : OpenFiles → OpenFiles → Option Descriptor → Type 0
SameDescription f g None = Unit {0}
SameDescription f g (Some d) = (g.objects d.description ≡ f.objects d.description) × (g.states d.description ≡ f.states d.description)

abbrev pub SameDescriptions : OpenFiles → OpenFiles → List Message → Type 0
SameDescriptions f g [] = Unit {0}
SameDescriptions f g (m ∷ messages) = SameDescription f g m.passed × SameDescriptions f g messages

pub record Alike (f g : OpenFiles) : Type 0 where
  pub table : (p n : ℕ) → g.table p n ≡ f.table p n
  pub queue : (pair side : ℕ) → g.queue pair side ≡ f.queue pair side
  pub entries : (p n : ℕ) → SameDescription f g (f.table p n)
  pub messages : (pair side : ℕ) → SameDescriptions f g (f.queue pair side)
  pub idle : (pair side : ℕ) → g.pairs ≤ pair → g.queue pair side ≡ []
