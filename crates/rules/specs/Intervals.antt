-- What instructions make of the intervals of registers. (own)
use Rattle.std.specs.Prelude.{◌+◌, ◌-◌, ◌^◌, ◌==◌, ◌&&◌, ◌||◌, ℕ, nat_le, nat_lt, min, max, Option, Some, None, if◌then◌else◌}
use Rattle.certificate.specs.Bounds.{Interval, full_interval}

-- one value alone
abbrev pub only : ℕ → Interval
only value = record { low = value; high = value }

-- The sums of two values, where a register can hold both ends; else a sum may begin again at 0, and is any value.
abbrev pub sums : Interval → Interval → Interval
sums i j =
    if nat_lt (i.low + j.low) (2 ^ 32) && nat_lt (i.high + j.high) (2 ^ 32)
    then record { low = i.low + j.low; high = i.high + j.high } else full_interval

-- The parts of an interval, where it has them: the one value; all but it, which goes from an end of the interval;
-- what is less than it; and what isn't.
abbrev pub equal_part : Interval → ℕ → Option Interval
equal_part i value = if nat_le i.low value && nat_le value i.high then Some (only value) else None

abbrev pub trimmed : Interval → ℕ → Interval
trimmed i value =
    if i.low == value then record { low = i.low + 1; high = i.high }
    else (if i.high == value then record { low = i.low; high = i.high - 1 } else i)

abbrev pub other_part : Interval → ℕ → Option Interval
other_part i value = if nat_lt i.low value || nat_lt value i.high then Some (trimmed i value) else None

abbrev pub lower_part : Interval → ℕ → Option Interval
lower_part i value = if nat_lt i.low value then Some (record { low = i.low; high = min i.high (value - 1) }) else None

abbrev pub upper_part : Interval → ℕ → Option Interval
upper_part i value = if nat_le value i.high then Some (record { low = max i.low value; high = i.high }) else None
