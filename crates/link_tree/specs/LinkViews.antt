-- What the entries of a tree by links stand for.
use Rattle.std.specs.Prelude.{ℕ, List, map, Option, Vec}
use Rattle.std.specs.BTreeMap.{BTreeMap, get_by}
use Rattle.std.specs.Ordering.{nat_cmp}
use Rattle.std.specs.Cmp.Lexicographic.{slice_cmp}
use Rattle.link_tree.specs.declared.links.Entry.{Entry as EntryCode}
use Rattle.link_tree.specs.declared.links.Stand.{Stand as StandCode}
use Rattle.link_tree.specs.declared.links.Stand.TheVariants as stand
use Rattle.link_tree.specs.Links.{Standing, Root, In, Out, TreeEntry}
use Rattle.file_tree.specs.Views.{kind_of}

abbrev pub stand_of : StandCode → Standing
stand_of stand.Root = Root
stand_of (stand.In parent name) = In parent name.items
stand_of (stand.Out place) = Out place

-- the child that a map has under a name
abbrev pub named_in : {A : Type 0} → BTreeMap (Vec ℕ A) ℕ → List ℕ → Option ℕ
named_in children name = get_by (λ key. slice_cmp nat_cmp name key.items) children

abbrev pub link_of : EntryCode → TreeEntry
link_of entry = record { kind = kind_of entry.kind; stand = stand_of entry.stand; child = named_in entry.children; content = entry.content.items }

abbrev pub links_of : List EntryCode → List TreeEntry
links_of entries = map link_of entries
