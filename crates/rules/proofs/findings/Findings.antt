-- What is known of what a lookup finds.
use Rattle.std.proofs.Common.{◌≡◌, ℕ, true, List}
use Rattle.file_tree.specs.Places.{at_name}
use Rattle.file_tree.specs.Nodes.{Node, node}
use Rattle.lookup.specs.Answers.{Last, Follow, Keep, Finding, Found_node, Found_free, Not_found}
use Rattle.lookup.specs.Paths.{last_component}
use Rattle.lookup.specs.Promises.{IsFindingThere, IsFollowed}
use Rattle.certificate.specs.Bounds.{Target}
use Rattle.certificate.specs.Describes.{Node_at, target_describes}
use Rattle.task.specs.Plans.{Grant}
use Rattle.task.specs.Policies.{grant_holds}
use Rattle.rules.specs.Outcomes.{target_of_path}
use Rattle.rules.proofs.frames.GrantPlaces.{IsDeepIn}

-- The node that is found, or the directory of a free name, lies in the grant.
abbrev pub IsFoundIn : List Grant → List ℕ → List Node → Finding → Type 0
IsFoundIn grants name t (Found_node n) = grant_holds grants name (node t n).place ≡ true
IsFoundIn grants name t (Found_free d) = grant_holds grants name (node t d).place ≡ true
IsFoundIn grants name t (Not_found fault) = Unit {0}

-- The node that is found under the last name, or would be made there, lies beneath the grant's own directory.
abbrev pub IsFoundDeep : List Grant → List ℕ → List Node → List ℕ → Finding → Type 0
IsFoundDeep grants name t path (Found_node n) = IsDeepIn grants name (node t n).place
IsFoundDeep grants name t path (Found_free d) = IsDeepIn grants name (at_name (node t d).place (last_component path))
IsFoundDeep grants name t path (Not_found fault) = Unit {0}

-- The target describes the node that is found.
abbrev pub IsTargeted : List Grant → List Node → Target → Finding → Type 0
IsTargeted grants t target (Found_node n) = target_describes (grant_holds grants) target (Node_at (node t n).place) ≡ true
IsTargeted grants t target (Found_free d) = Unit {0}
IsTargeted grants t target (Not_found fault) = Unit {0}

-- What any lookup finds wasn't removed. Where the last name is followed, it is no link, and no name is free.
pub record Found (t : List Node) (last : Last) (a : Finding) : Type 0 where
  pub there : IsFindingThere t a
  pub followed : last ≡ Follow → IsFollowed t a

-- What is found beneath a directory lies in each grant that holds the directory. With the last name kept, it lies beneath
-- the grant's own directory.
pub record FoundBeneath (grants : List Grant) (t : List Node) (start : ℕ) (path : List ℕ) (last : Last) (a : Finding) : Type 0 where
  pub found : Found t last a
  pub within : (name : List ℕ) → grant_holds grants name (node t start).place ≡ true → IsFoundIn grants name t a
  pub deep : last ≡ Keep → (name : List ℕ) → grant_holds grants name (node t start).place ≡ true → IsFoundDeep grants name t path a

-- What `open` finds lies in the grant whose path it is given.
pub record FoundOpened (grants : List Grant) (t : List Node) (path : List ℕ) (last : Last) (a : Finding) : Type 0 where
  pub found : Found t last a
  pub targeted : IsTargeted grants t (target_of_path grants path) a
