-- What a change of one entry of a tree by links makes of the links.
use Rattle.std.proofs.Common.{◌≡◌, ℕ, ◌<◌, inl, inr, List, Bool, true, false, Option, Vec, Global, length, get_or, slice_set, ap, sym, ◌∙◌, refl, cond}
use Rattle.std.proofs.Math.Path.{fun_ext}
use Rattle.std.proofs.Math.Seq.{map-set_same}
use Rattle.std.proofs.lemmas.List.{map-set}
use Rattle.std.proofs.lemmas.Bool.{cases_Bool}
use Rattle.std.proofs.lemmas.Slice.Eq.{bytes_eq-Decides}
use Rattle.std.proofs.lemmas.Map.Text.{is_eq-slice_cmp}
use Rattle.std.specs.BTreeMap.{BTreeMap, is_at, UpdatesBy}
use Rattle.std.specs.Map.{lookup, KeepsOthers, IsKeyTest, AreApart}
use Rattle.std.proofs.lemmas.Cmp.{eq_by_cmp_equiv, nat_list_cmp_total, nat_list_eq_equiv}
use Rattle.std.specs.Cmp.Lexicographic.{slice_cmp}
use Rattle.std.specs.Ordering.{nat_cmp, is_eq}
use Rattle.std.specs.Str.{bytes_eq}
use Rattle.link_tree.specs.Links.{TreeEntry, tree_entry, stood, filed, refilled}
use Rattle.link_tree.specs.LinkViews.{link_of, links_of, named_in, stand_of}
use Rattle.link_tree.specs.declared.links.Entry.{Entry as EntryCode}
use Rattle.link_tree.specs.declared.links.Stand.{Stand as StandCode}
use Rattle.link_tree.proofs.LinkEntryLaws.{entry_link}

other_entries : {K X : Type 0} (eq : K → K → Bool) (test : K → Bool) (old new : List (K × X)) → KeepsOthers eq test old new → (other : K → Bool) → IsKeyTest eq other → AreApart test other
    → lookup other new ≡ lookup other old
unfolding KeepsOthers
other_entries eq test old new h = h

apart : (bs cs ks : List ℕ) → bytes_eq bs cs ≡ false → bytes_eq bs ks ≡ true → bytes_eq cs ks ≡ false
apart bs cs ks n y = nat_list_eq_equiv.symm cs ks ∙ sym (nat_list_eq_equiv.congr bs ks cs y) ∙ n

apart_in_order : (bs cs ks : List ℕ) → bytes_eq bs cs ≡ false → is_eq (slice_cmp nat_cmp bs ks) ≡ true → is_eq (slice_cmp nat_cmp cs ks) ≡ false
apart_in_order bs cs ks n y = is_eq-slice_cmp cs ks ∙ apart bs cs ks n (sym (is_eq-slice_cmp bs ks) ∙ y)

-- a map that is changed under a name
pub named_after : {A : Type 0} (name : List ℕ) (m n : BTreeMap (Vec ℕ A) ℕ) (o : Option ℕ) → UpdatesBy (λ x y. slice_cmp nat_cmp x.items y.items) (λ key. slice_cmp nat_cmp name key.items) m n o
    → (q : List ℕ) → named_in n q ≡ cond (bytes_eq name q) o (named_in m q)
named_after name m n o h q = elim (cases_Bool (bytes_eq name q)) [
  | inl same ↦ let it : name ≡ q = (bytes_eq-Decides name q).0 same in rw (same, ← it) h.1
  | inr other ↦ rw other (other_entries _ _ m.entries n.entries h.3 _ (λ x y. (eq_by_cmp_equiv nat_list_cmp_total).congr q x.items y.items) (λ k. apart_in_order name q k.items other))
]

module _ (es : List EntryCode) (n : ℕ) (e : EntryCode) (there : n < length es) (is : e ≡ get_or es n e) where
  entry_changed : (f : EntryCode) (l : TreeEntry → TreeEntry) → link_of f ≡ l (link_of e) → links_of (slice_set es n f) ≡ slice_set (links_of es) n (l (tree_entry (links_of es) n))
  entry_changed f l same = map-set link_of es n f ∙ ap (slice_set (links_of es) n) (same ∙ ap l (sym (entry_link es n e there is)))

  pub entry_same : (f : EntryCode) → link_of f ≡ link_of e → links_of (slice_set es n f) ≡ links_of es
  entry_same f same = map-set_same link_of es n f e (same ∙ ap link_of is)

  pub entry_stood : (s : StandCode) → links_of (slice_set es n (record { kind = e.kind; stand = s; children = e.children; content = e.content })) ≡ stood (links_of es) n (stand_of s)
  unfolding stood
  entry_stood s = entry_changed (record { kind = e.kind; stand = s; children = e.children; content = e.content })
      (λ l. record { kind = l.kind; stand = stand_of s; child = l.child; content = l.content }) refl

  pub entry_filed : (m : BTreeMap (Vec ℕ Global) ℕ) (name : List ℕ) (o : Option ℕ) → ((q : List ℕ) → named_in m q ≡ cond (bytes_eq name q) o (named_in e.children q))
      → links_of (slice_set es n (record { kind = e.kind; stand = e.stand; children = m; content = e.content })) ≡ filed (links_of es) n name o
  unfolding filed
  entry_filed m name o same = entry_changed (record { kind = e.kind; stand = e.stand; children = m; content = e.content })
      (λ l. record { kind = l.kind; stand = l.stand; child = λ q. cond (bytes_eq name q) o (l.child q); content = l.content })
      (λ i. record { kind = (link_of e).kind; stand = (link_of e).stand; child = fun_ext same i; content = (link_of e).content })

  pub entry_refilled : (v : Vec ℕ Global) (content : List ℕ) → v.items ≡ content
      → links_of (slice_set es n (record { kind = e.kind; stand = e.stand; children = e.children; content = v })) ≡ refilled (links_of es) n content
  unfolding refilled
  entry_refilled v content same = entry_changed (record { kind = e.kind; stand = e.stand; children = e.children; content = v })
      (λ l. record { kind = l.kind; stand = l.stand; child = l.child; content = content })
      (λ i. record { kind = (link_of e).kind; stand = (link_of e).stand; child = (link_of e).child; content = same i })

  -- a map or a content of the same entries makes the same entry
  pub same_children : (m : BTreeMap (Vec ℕ Global) ℕ) → m.entries ≡ e.children.entries →
      links_of (slice_set es n (record { kind = e.kind; stand = e.stand; children = m; content = e.content })) ≡ links_of es
  same_children m same = entry_same (record { kind = e.kind; stand = e.stand; children = m; content = e.content })
      (λ i. record { kind = (link_of e).kind; stand = (link_of e).stand; child = λ q. lookup (is_at (λ key. slice_cmp nat_cmp q key.items)) (same i); content = (link_of e).content })

  pub same_content : (v : Vec ℕ Global) → v.items ≡ e.content.items → links_of (slice_set es n (record { kind = e.kind; stand = e.stand; children = e.children; content = v })) ≡ links_of es
  same_content v same = entry_same (record { kind = e.kind; stand = e.stand; children = e.children; content = v })
      (λ i. record { kind = (link_of e).kind; stand = (link_of e).stand; child = (link_of e).child; content = same i })
