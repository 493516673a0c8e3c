-- What becomes of descriptions and pairs, step by step.
use Rattle.std.specs.Prelude.{◌≡◌, ◌≢◌, ◌+◌, ◌-◌, ℕ, zero, suc, nat_lt, ◌++◌, drop, List, [], ◌∷◌, Option, Some, None, if◌then◌else◌}
use Rattle.std.specs.Option.{IsSome, option_map}
use Rattle.fd_table.specs.Descriptions.{Object, At_node, At_end, Descriptor, Message}
use Rattle.fd_table.specs.Kept.{Description, Counted, Pair, item_at, half_in}
use Rattle.fd_table.specs.Holders.{is_idle}

-- one number has this, and the others what they had
pub record Changed {A : Type 0} (old new : List (Option A)) (key : ℕ) (v : Option A) : Type 0 where
  pub changed : item_at new key ≡ v
  pub others : (n : ℕ) → n ≢ key → item_at new n ≡ item_at old n

-- a description with one holder more, and with another state
abbrev pub raised : Option Counted → Option Counted
raised o = option_map (λ (h : Counted). record h { count = h.count + 1 }) o

-- A description with one holder less: nothing is left, where that was the last.
abbrev pub lowered : Option Counted → Option Counted
lowered None = None
lowered (Some h) = if nat_lt 1 h.count then Some (record h { count = h.count - 1 }) else None

-- the description whose last holder goes
abbrev pub ended_in : Option Counted → Option Description
ended_in None = None
ended_in (Some h) = if nat_lt 1 h.count then None else Some h.description

abbrev pub described_as : Description → Option Counted → Option Counted
described_as description o = option_map (λ (h : Counted). record h { description = description }) o

-- the descriptions after one holder more of what a descriptor names, if there is one
abbrev pub IsHeld : List (Option Counted) → List (Option Counted) → Option Descriptor → Type 0
IsHeld old new None = new ≡ old
IsHeld old new (Some d) = Changed old new d.description (raised (item_at old d.description))

-- a pair after one of its ends is closed, and nothing, where nobody needs it then
abbrev pub with_closed : Pair → ℕ → Pair
with_closed p zero = record p { a = record p.a { description = None } }
with_closed p (suc zero) = record p { b = record p.b { description = None } }
with_closed p (suc (suc side)) = p

abbrev pub unless_idle : Pair → Option Pair
unless_idle p = if is_idle p then None else Some p

abbrev pub after_close : ℕ → Option Pair → Option Pair
after_close side None = None
after_close side (Some p) = unless_idle (with_closed p side)

-- a pair with another queue of one side
abbrev pub with_sent : Pair → ℕ → List Message → Pair
with_sent p zero messages = record p { a = record p.a { sent = messages } }
with_sent p (suc zero) messages = record p { b = record p.b { sent = messages } }
with_sent p (suc (suc side)) messages = p

-- a pair with one message more of a side, and with the message in front of a side taken
abbrev pub with_more : ℕ → Message → Option Pair → Option Pair
with_more side m o = option_map (λ (p : Pair). with_sent p side ((half_in (Some p) side).sent ++ m ∷ [])) o

abbrev pub with_less : ℕ → Option Pair → Option Pair
with_less side o = option_map (λ (p : Pair). with_sent p side (drop 1 ((half_in (Some p) side).sent))) o

-- a pair with both ends open, and nothing on its way
abbrev pub pair_new : ℕ → ℕ → Pair
pair_new first second = record { a = record { description = Some first; sent = [] }; b = record { description = Some second; sent = [] } }

-- The pairs after a description has lost its last holder: its end is closed, if it was of one.
abbrev pub Closes : List (Option Pair) → List (Option Pair) → Object → Type 0
Closes old new (At_node node access) = new ≡ old
Closes old new (At_end pair side class) = Changed old new pair (after_close side (item_at old pair))

abbrev pub Ends : List (Option Pair) → List (Option Pair) → Option Description → Type 0
Ends old new None = new ≡ old
Ends old new (Some d) = Closes old new d.object

-- the pair of a description that has ended is there, if it was of an end
abbrev pub IsClosable : List (Option Pair) → Object → Type 0
IsClosable pairs (At_node node access) = Unit {0}
IsClosable pairs (At_end pair side class) = IsSome (item_at pairs pair)

abbrev pub IsEndable : List (Option Pair) → Option Description → Type 0
IsEndable pairs None = Unit {0}
IsEndable pairs (Some d) = IsClosable pairs d.object

abbrev pub front_message : List Message → Option Message
front_message [] = None
front_message (m ∷ messages) = Some m

-- the descriptor that a message carries, if there is one
abbrev pub passed_in : Option Message → Option Descriptor
passed_in None = None
passed_in (Some m) = m.passed
