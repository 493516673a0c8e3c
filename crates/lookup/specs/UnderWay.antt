-- What holds of a lookup of a path between its events, whatever others have made of the tree. (own)
use Rattle.std.specs.Prelude.{◌≡◌, ◌≤◌, false, List, [], ◌∷◌, None}
use Rattle.rights.specs.Limits.{most_links}
use Rattle.rights.specs.Values.{Name, NodeNumber, PathText}
use Rattle.file_tree.specs.Nodes.{Node, node, is_link}
use Rattle.lookup.specs.Answers.{Way, Last, Keep}
use Rattle.lookup.specs.Paths.{last_component, last_or, path_fault}
use Rattle.lookup.specs.Walks.{WalkState}

-- files and directories of the tree
abbrev pub AreOpened : List Node → List NodeNumber → Type 0
AreOpened t [] = Unit {0}
AreOpened t (n ∷ nodes) = (is_link (node t n).kind ≡ false) × AreOpened t nodes

-- Names are left, and the last of them is the path's, if that is to be kept.
abbrev pub HasNamesLeft : PathText → Last → List Name → Type 0
HasNamesLeft path last [] = ⊥
HasNamesLeft path last (name ∷ left) = last ≡ Keep → last_or name left ≡ last_component path

pub record IsUnderWay (t : List Node) (path : PathText) (way : Way) (last : Last) (walk : WalkState) : Type 0 where
  pub same_way : walk.way ≡ way
  pub same_last : walk.last ≡ last
  pub text : path_fault path way last ≡ None
  pub opened : AreOpened t (walk.stand.cursor.current ∷ walk.stand.cursor.before)
  pub left : HasNamesLeft path last walk.stand.left
  pub few : walk.stand.followed ≤ most_links
