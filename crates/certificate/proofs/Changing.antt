-- A row changed place by place.
use Rattle.std.proofs.Common.{◌≡◌, ℕ, ◌≤◌, List, ◌++◌, map, length, take, drop}

-- The places before this one are changed, and the others are as at first.
pub record ChangedTo {A B : Type 0} (view : A → B) (change : B → B) (k : ℕ) (now first : List A) : Type 0 where
  pub within : k ≤ length now
  pub changed : map view (take k now) ++ map change (map view (drop k now)) ≡ map change (map view first)
