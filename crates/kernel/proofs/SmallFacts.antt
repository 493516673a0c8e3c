-- Small facts of kinds, numbers and lists that each call's effect stands on.
use Rattle.std.proofs.Common.{◌≡◌, ℕ, ◌+◌, ◌-◌, ◌<◌, ◌^◌, Bool, true, false, List, [], ◌∷◌, ◌++◌, refl, length, arith}
use Rattle.std.specs.Prelude.{None, nat_lt, nat_le}
use Rattle.std.proofs.lemmas.Bool.{ltb-true}
use Rattle.std.proofs.lemmas.Bool.Decides.{nat_tests}
use Rattle.file_tree.specs.Nodes.{Kind, File, Dir, Link, Node, node, is_dir, is_link}
use Rattle.rights.specs.Limits.{most_bytes}
use Rattle.file_tree.specs.Refusals.{put_byte_fault, truncate_fault}
use Rattle.fd_table.specs.Descriptions.{bit_of}
use Rattle.kernel.specs.Calls.{kind_number}

pub dir_opened : (kind : Kind) → is_dir kind ≡ true → is_link kind ≡ false
dir_opened File is = refl
dir_opened Dir is = refl
dir_opened Link is = absurd cc

-- the node that stands behind a list
pub new_node : (t : List Node) (m : Node) → node (t ++ m ∷ []) (length t) ≡ m
new_node [] m = refl
new_node (k ∷ t) m = new_node t m

pub longer : (place : List (List ℕ)) (name : List ℕ) → 0 < length (place ++ name ∷ [])
longer [] name = omega arith
longer (first ∷ place) name = omega arith

pub small_kind : (kind : Kind) → kind_number kind < 2 ^ 32
small_kind File = omega arith
small_kind Dir = omega arith
small_kind Link = omega arith

pub small_bits : (a b : Bool) → bit_of a 1 + bit_of b 2 < 2 ^ 32
small_bits true true = omega arith
small_bits true false = omega arith
small_bits false true = omega arith
small_bits false false = omega arith

pub small_bit : (a : Bool) → bit_of a 1 < 2 ^ 32
small_bit true = omega arith
small_bit false = omega arith

-- a number below another by a test
pub below : (a b : ℕ) → nat_lt a b ≡ true → a < b
below a b is = ltb-true a b is

pub no_truncate_fault : (len : ℕ) → nat_le len most_bytes ≡ true → truncate_fault len ≡ None
no_truncate_fault len is = grind (arith, nat_tests)

pub no_put_byte_fault : (at : ℕ) → nat_lt at most_bytes ≡ true → put_byte_fault at ≡ None
no_put_byte_fault at is = rw is refl
