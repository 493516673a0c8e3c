-- A new tree, of the root alone, is a tree.
use Rattle.std.proofs.Common.{◌≡◌, ℕ, zero, suc, ◌<◌, true, refl, arith}
use Rattle.file_tree.specs.Nodes.{node}
use Rattle.file_tree.specs.Refusals.{new_tree}
use Rattle.file_tree.specs.WellFormed.{IsTree, has_parent, is_within_limits}
use Rattle.file_tree.proofs.NodeLaws.{linked_there}

only_root : (n : ℕ) → n < 1 → n ≡ 0
only_root n h = omega arith

linked_root : (n : ℕ) → (node new_tree n).linked ≡ true → n ≡ 0
linked_root n linked = only_root n (linked_there new_tree n linked)

root_limits : (n : ℕ) → n < 1 → is_within_limits (node new_tree n) ≡ true
unfolding is_within_limits
root_limits zero h = refl
root_limits (suc n) h = absurd (omega arith)

root_held : (n : ℕ) → (node new_tree n).linked ≡ true → has_parent new_tree (node new_tree n).place ≡ true
root_held zero h = refl
root_held (suc n) h = cc

pub new_is_tree : IsTree new_tree
new_is_tree = record {
  root_linked = refl;
  root_kind = refl;
  root_place = refl;
  apart = λ n m linked_n linked_m same. let first = linked_root n linked_n in let second = linked_root m linked_m in cc;
  held = root_held;
  few = omega arith;
  limits = root_limits;
}
