-- What an entry of a tree by links says of its node.
use Rattle.std.proofs.Common.{◌≡◌, ℕ, ◌<◌, List, Option, Some, None, length, get_or, ap, sym, ◌∙◌, arith}
use Rattle.std.proofs.lemmas.List.{get_or-map, length-map}
use Rattle.std.specs.Prelude.{IfSome}
use Rattle.file_tree.specs.Nodes.{node, child_of, parent_of}
use Rattle.link_tree.specs.Links.{Standing, In, TreeEntry, tree_entry, no_tree_entry, linked_nodes, holder, EntryFits, IsLinkedTree}
use Rattle.link_tree.specs.LinkViews.{link_of, links_of, named_in, stand_of}
use Rattle.link_tree.specs.declared.links.Entry.{Entry as EntryCode}
use Rattle.link_tree.proofs.LinkReads.{child_linked, parent_linked, held, Held}
use Rattle.file_tree.proofs.TreeLaws.{child_there, parent_is}

pub entry_link : (es : List EntryCode) (n : ℕ) (e : EntryCode) → n < length es → e ≡ get_or es n e → tree_entry (links_of es) n ≡ link_of e
entry_link es n e there is = get_or-map link_of es n e no_tree_entry there ∙ ap link_of (sym is)

pub count_links : (es : List EntryCode) → length (links_of es) ≡ length es
count_links es = length-map es link_of

module _ (es : List EntryCode) (linked : IsLinkedTree (links_of es)) where
  pub count_nodes : length (linked_nodes (links_of es)) ≡ length es
  count_nodes = sym linked.fits.count ∙ count_links es

  module _ (n : ℕ) (e : EntryCode) (there : n < length es) (is : e ≡ get_or es n e) where
    pub entry_fits : EntryFits (linked_nodes (links_of es)) (link_of e) (node (linked_nodes (links_of es)) n)
    entry_fits =
        let known : n < length (linked_nodes (links_of es)) = omega (arith, count_nodes) in
        rw (← entry_link es n e there is) (linked.fits.each n known)

    pub entry_child : (name : List ℕ) → child_of (linked_nodes (links_of es)) n name ≡ named_in e.children name
    entry_child name =
        child_linked (linked_nodes (links_of es)) (links_of es) linked.tree linked.fits linked.filed n name
        ∙ ap (λ (l : TreeEntry). l.child name) (entry_link es n e there is)

    pub entry_parent : parent_of (linked_nodes (links_of es)) n ≡ holder (stand_of e.stand)
    entry_parent =
        let known : n < length (linked_nodes (links_of es)) = omega (arith, count_nodes) in
        parent_linked (linked_nodes (links_of es)) (links_of es) linked.tree linked.fits linked.filed n known
        ∙ ap (λ (l : TreeEntry). holder l.stand) (entry_link es n e there is)

  -- what is found is one of the entries
  pub child_in_entries : (o : Option ℕ) (d : ℕ) (name : List ℕ) → o ≡ child_of (linked_nodes (links_of es)) d name → IfSome o (λ n. n < length es)
  child_in_entries None d name h = tt
  child_in_entries (Some n) d name h = omega (arith, child_there (linked_nodes (links_of es)) d name n (sym h), count_nodes)

  pub parent_in_entries : (n d : ℕ) → parent_of (linked_nodes (links_of es)) n ≡ Some d → d < length es
  parent_in_entries n d h = omega (arith, (parent_is (linked_nodes (links_of es)) n d h).holder.there, count_nodes)

  pub entry_stand : (n : ℕ) (e : EntryCode) (s : Standing) → n < length es → e ≡ get_or es n e → stand_of e.stand ≡ s → (tree_entry (links_of es) n).stand ≡ s
  entry_stand n e s there is stands = ap (λ (l : TreeEntry). l.stand) (entry_link es n e there is) ∙ stands

  -- what an entry says of a node that has a name in a directory
  pub entry_held : (n : ℕ) (e : EntryCode) (d : ℕ) (name : List ℕ) → n < length es → e ≡ get_or es n e → stand_of e.stand ≡ In d name → Held (linked_nodes (links_of es)) n d name
  entry_held n e d name there is stands = held (linked_nodes (links_of es)) (links_of es) n d name linked.fits (entry_stand n e (In d name) there is stands)
