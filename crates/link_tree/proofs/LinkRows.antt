-- Rows of links: the tree that some are, links that fit a tree, and a stand that does not.
use Rattle.std.proofs.Common.{◌≡◌, ℕ, zero, suc, ◌<◌, List, [], ◌∷◌, true, false, Option, Some, None, codes, cond, refl, arith}
use Rattle.std.specs.Str.{bytes_eq}
use Rattle.file_tree.specs.Nodes.{Dir, File, Node, node}
use Rattle.link_tree.specs.Links.{Standing, Root, In, Out, TreeEntry, tree_entry, linked_nodes, StandFits, EntryFits, Fits, Filed, stood, filed, way_made}

-- The root, `/work`, `/work/in`, and what was `/work/out`.
links : List TreeEntry
links =
    record { kind = Dir; stand = Root; child = λ name. cond (bytes_eq name (codes "work")) (Some 1) None; content = [] }
    ∷ record { kind = Dir; stand = In 0 (codes "work"); child = λ name. cond (bytes_eq name (codes "in")) (Some 2) None; content = [] }
    ∷ record { kind = File; stand = In 1 (codes "in"); child = λ name. None; content = codes "AB" }
    ∷ record { kind = Dir; stand = Out (codes "work" ∷ codes "out" ∷ []); child = λ name. None; content = [] }
    ∷ []

tree : List Node
tree =
    record { kind = Dir; place = []; linked = true; content = [] }
    ∷ record { kind = Dir; place = codes "work" ∷ []; linked = true; content = [] }
    ∷ record { kind = File; place = codes "work" ∷ codes "in" ∷ []; linked = true; content = codes "AB" }
    ∷ record { kind = Dir; place = codes "work" ∷ codes "out" ∷ []; linked = false; content = [] }
    ∷ []

links_are_tree : linked_nodes links ≡ tree
unfolding linked_nodes links tree
links_are_tree = refl

links_fit : Fits links tree
unfolding links tree
links_fit = record { count = refl; each = each }
  where
    each : (n : ℕ) → n < 4 → EntryFits tree (tree_entry links n) (node tree n)
    each zero h = record { kind = refl; content = refl; stand = (refl, refl) }
    each (suc zero) h = record { kind = refl; content = refl; stand = (refl, refl, refl) }
    each (suc (suc zero)) h = record { kind = refl; content = refl; stand = (refl, refl, refl) }
    each (suc (suc (suc zero))) h = record { kind = refl; content = refl; stand = (refl, refl) }
    each (suc (suc (suc (suc n)))) h = absurd (omega arith)

-- `/work/out` is there too; it is removed, and then `/work` is renamed to `/w2`: `in` has the place `/w2/in`, and the
-- removed node keeps `/work/out`.
with_out : List TreeEntry
with_out =
    record { kind = Dir; stand = Root; child = λ name. cond (bytes_eq name (codes "work")) (Some 1) None; content = [] }
    ∷ record { kind = Dir; stand = In 0 (codes "work"); child = λ name. cond (bytes_eq name (codes "in")) (Some 2) (cond (bytes_eq name (codes "out")) (Some 3) None); content = [] }
    ∷ record { kind = File; stand = In 1 (codes "in"); child = λ name. None; content = codes "AB" }
    ∷ record { kind = Dir; stand = In 1 (codes "out"); child = λ name. None; content = [] }
    ∷ []

without_out : List TreeEntry
without_out = filed (stood with_out 3 (Out (codes "work" ∷ codes "out" ∷ []))) 1 (codes "out") None

removed_is : linked_nodes without_out ≡ tree
unfolding linked_nodes without_out with_out filed stood tree
removed_is = refl

moved : List TreeEntry
moved = filed (stood (way_made without_out None (codes "w2" ∷ []) 0 (codes "w2") 1) 1 (In 0 (codes "w2"))) 0 (codes "work") None

moved_in : (node (linked_nodes moved) 2).place ≡ codes "w2" ∷ codes "in" ∷ []
unfolding linked_nodes moved without_out with_out filed stood
moved_in = refl

removed_out : (node (linked_nodes moved) 3).place ≡ codes "work" ∷ codes "out" ∷ []
unfolding linked_nodes moved without_out with_out filed stood
removed_out = refl

removed_gone : (node (linked_nodes moved) 3).linked ≡ false
unfolding linked_nodes moved without_out with_out filed stood
removed_gone = refl

no_old_name : (tree_entry moved 0).child (codes "work") ≡ None
unfolding moved without_out with_out filed stood
no_old_name = refl

new_name : (tree_entry moved 0).child (codes "w2") ≡ Some 1
unfolding moved without_out with_out filed stood
new_name = refl

-- a name in another directory than the place says does not fit, and neither does a removed node that is linked
other_directory : StandFits tree (In 0 (codes "in")) (node tree 2) → ⊥
unfolding tree
other_directory h = let wrong = h.2 in cc

still_linked : StandFits tree (Out (codes "work" ∷ codes "in" ∷ [])) (node tree 2) → ⊥
unfolding tree
still_linked h = let wrong = h.0 in cc

-- a child that a directory names, and that does not say so itself, is not filed
not_filed : (S : ℕ → Standing) (C : ℕ → List ℕ → Option ℕ) → S 2 ≡ In 1 (codes "in") → C 0 (codes "old") ≡ Some 2 → Filed S C → ⊥
not_filed S C stands child filed = let wrong = filed.holds 0 (codes "old") 2 child in let numbers : In 0 (codes "old") ≡ In 1 (codes "in") = cc in cc
