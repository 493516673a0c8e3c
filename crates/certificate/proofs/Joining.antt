-- Rows joined place by place.
use Rattle.std.proofs.Common.{◌≡◌, ℕ, ◌≤◌, List, ◌++◌, map, length, take, drop}
use Rattle.certificate.specs.Joins.{each_join}

-- The places before this one are joined, and the others are as at first.
pub record JoinedTo {A B : Type 0} (view : A → B) (join : B → B → B) (k : ℕ) (now others first : List A) : Type 0 where
  pub within : k ≤ length others
  pub long : length now ≡ length others
  pub joined : map view (take k now) ++ each_join join (map view (drop k now)) (map view (drop k others)) ≡ each_join join (map view first) (map view others)
