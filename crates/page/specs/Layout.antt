-- When a picture can be read: its areas lie apart, and its letters inside them. All in whole units. (own)
use Rattle.std.specs.Prelude.{◌≡◌, ◌+◌, ◌*◌, ◌<◌, ◌≤◌, ◌⊎◌, ℕ, max, min}

-- a part of the picture
pub record Area : Type 0 where
  pub left : ℕ
  pub top : ℕ
  pub width : ℕ
  pub height : ℕ

-- one lies beside the other, or above it
abbrev pub Apart : Area → Area → Type 0
Apart a b =
    ((a.left + a.width ≤ b.left) ⊎ (b.left + b.width ≤ a.left)) ⊎ ((a.top + a.height ≤ b.top) ⊎ (b.top + b.height ≤ a.top))

-- A line of letters: where it begins, and where its letters stand, within its area. A letter is 12 high: it takes at most 7.5 beside the others, 13 above its
-- baseline and 5 below. What larger letters take more is told apart.
pub record Letters : Type 0 where
  pub count : ℕ
  pub indent : ℕ
  pub more : ℕ
  pub baseline : ℕ

-- they end before the area does
abbrev pub FitsIn : Area → Letters → Type 0
FitsIn area l = (2 * (l.indent + l.more) + 15 * l.count ≤ 2 * area.width) × ((13 ≤ l.baseline) × (l.baseline + 5 ≤ area.height))

-- A wire: from a point along to a lane, along the lane to another height, and along to its end.
pub record Route : Type 0 where
  pub x0 : ℕ
  pub y0 : ℕ
  pub lane : ℕ
  pub x1 : ℕ
  pub y1 : ℕ

-- two stretches of one line, each from one number to another, have more than a point in common
abbrev pub Meet : ℕ → ℕ → ℕ → ℕ → Type 0
Meet a b c d = max (min a b) (min c d) < min (max a b) (max c d)

-- two wires have no stretch of a line in common: none along, none up and down
pub record KeepApart (v w : Route) : Type 0 where
  pub starts : v.y0 ≡ w.y0 → Meet v.x0 v.lane w.x0 w.lane → ⊥
  pub start_end : v.y0 ≡ w.y1 → Meet v.x0 v.lane w.lane w.x1 → ⊥
  pub end_start : v.y1 ≡ w.y0 → Meet v.lane v.x1 w.x0 w.lane → ⊥
  pub ends : v.y1 ≡ w.y1 → Meet v.lane v.x1 w.lane w.x1 → ⊥
  pub lanes : v.lane ≡ w.lane → Meet v.y0 v.y1 w.y0 w.y1 → ⊥
