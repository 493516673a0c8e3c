-- What a change of the links makes of the stands and of the children.
use Rattle.std.proofs.Common.{◌≡◌, ℕ, ◌<◌, ◌≤◌, ◌+◌, ◌⊎◌, inl, inr, List, [], ◌∷◌, ◌++◌, true, false, Option, None, length, slice_set, ap, sym, ◌∙◌, refl, cond, eqb, ltb, arith}
use Rattle.std.proofs.Common.{length-append, length-set}
use Rattle.std.specs.Prelude.{◌≢◌}
use Rattle.std.specs.Str.{bytes_eq}
use Rattle.std.proofs.lemmas.Bool.{cases_Bool, ltb-true, ltb-false}
use Rattle.std.proofs.lemmas.Bool.Decides.{eqb_tells}
use Rattle.std.proofs.lemmas.List.{get_or-set_same, get_or-set_other, get_or_append_left, get_or_past}
use Rattle.std.proofs.Math.Seq.{get_or-append_seam}
use Rattle.file_tree.specs.Nodes.{Kind}
use Rattle.link_tree.specs.Links.{Standing, TreeEntry, tree_entry, no_tree_entry, stood, filed}
use Rattle.link_tree.proofs.FiledLaws.{put, put2}

-- the kinds, contents, stands and children of some links
pub record Shows (us : List TreeEntry) (count : ℕ) (kinds : ℕ → Kind) (contents : ℕ → List ℕ) (S : ℕ → Standing) (C : ℕ → List ℕ → Option ℕ) : Type 0 where
  pub count_is : length us ≡ count
  pub kind : (k : ℕ) → (tree_entry us k).kind ≡ kinds k
  pub content : (k : ℕ) → (tree_entry us k).content ≡ contents k
  pub stand : (k : ℕ) → (tree_entry us k).stand ≡ S k
  pub child : (k : ℕ) (name : List ℕ) → (tree_entry us k).child name ≡ C k name

pub shows_itself : (ls : List TreeEntry) → Shows ls (length ls) (λ k. (tree_entry ls k).kind) (λ k. (tree_entry ls k).content) (λ k. (tree_entry ls k).stand) (λ k. (tree_entry ls k).child)
shows_itself ls = record { count_is = refl; kind = λ k. refl; content = λ k. refl; stand = λ k. refl; child = λ k name. refl }

-- one entry is replaced by another
pub record Replaced (us vs : List TreeEntry) (n : ℕ) (l : TreeEntry) : Type 0 where
  pub count : length vs ≡ length us
  pub here : tree_entry vs n ≡ l
  pub other : (k : ℕ) → n ≢ k → tree_entry vs k ≡ tree_entry us k

pub replaced_link : (us : List TreeEntry) (n : ℕ) (l : TreeEntry) → n < length us → Replaced us (slice_set us n l) n l
replaced_link us n l there = record {
  count = length-set us n l;
  here = get_or-set_same us n l no_tree_entry there;
  other = λ k apart. get_or-set_other us n k l no_tree_entry (λ same. apart (sym same));
}

-- what a field of the links is after one of them was replaced
field_after : {A : Type 0} (f : TreeEntry → A) (us vs : List TreeEntry) (n : ℕ) (l : TreeEntry) → Replaced us vs n l → (F : ℕ → A) → f l ≡ F n →
    ((k : ℕ) → n ≢ k → f (tree_entry us k) ≡ F k) → (k : ℕ) → f (tree_entry vs k) ≡ F k
field_after f us vs n l r F here other k = elim (eqb_tells n k) [
  | inl same ↦ ap (λ i. f (tree_entry vs i)) (sym same.1) ∙ ap f r.here ∙ here ∙ ap F same.1
  | inr apart ↦ ap f (r.other k apart.1) ∙ other k apart.1
]

pub put_here : (S : ℕ → Standing) (n : ℕ) (s : Standing) → put S n s n ≡ s
put_here S n s = elim (eqb_tells n n) [ inl same ↦ rw same.0 refl | inr other ↦ absurd (other.1 refl) ]

pub put_other : (S : ℕ → Standing) (n k : ℕ) (s : Standing) → n ≢ k → put S n s k ≡ S k
put_other S n k s apart = elim (eqb_tells n k) [ inl same ↦ absurd (apart same.1) | inr other ↦ rw other.0 refl ]

pub put2_here : (C : ℕ → List ℕ → Option ℕ) (d : ℕ) (name q : List ℕ) (o : Option ℕ) → put2 C d name o d q ≡ cond (bytes_eq name q) o (C d q)
put2_here C d name q o = elim (eqb_tells d d) [ inl same ↦ rw same.0 refl | inr other ↦ absurd (other.1 refl) ]

pub put2_other : (C : ℕ → List ℕ → Option ℕ) (d k : ℕ) (name q : List ℕ) (o : Option ℕ) → d ≢ k → put2 C d name o k q ≡ C k q
put2_other C d k name q o apart = elim (eqb_tells d k) [ inl same ↦ absurd (apart same.1) | inr other ↦ rw other.0 refl ]

module _ (us : List TreeEntry) (count : ℕ) (kinds : ℕ → Kind) (contents : ℕ → List ℕ) (S : ℕ → Standing) (C : ℕ → List ℕ → Option ℕ)
    (shows : Shows us count kinds contents S C) (n : ℕ) (there : n < length us) where
  pub shows_stood : (s : Standing) → Shows (stood us n s) count kinds contents (put S n s) C
  unfolding stood
  shows_stood s =
      let l : TreeEntry = record { kind = (tree_entry us n).kind; stand = s; child = (tree_entry us n).child; content = (tree_entry us n).content } in
      let r : Replaced us (slice_set us n l) n l = replaced_link us n l there in
      record {
        count_is = r.count ∙ shows.count_is;
        kind = field_after (λ m. m.kind) us (slice_set us n l) n l r kinds (shows.kind n) (λ k apart. shows.kind k);
        content = field_after (λ m. m.content) us (slice_set us n l) n l r contents (shows.content n) (λ k apart. shows.content k);
        stand = field_after (λ m. m.stand) us (slice_set us n l) n l r (put S n s) (sym (put_here S n s)) (λ k apart. shows.stand k ∙ sym (put_other S n k s apart));
        child = λ k name. field_after (λ m. m.child name) us (slice_set us n l) n l r (λ i. C i name) (shows.child n name) (λ i apart. shows.child i name) k;
      }

  pub shows_filed : (name : List ℕ) (o : Option ℕ) → Shows (filed us n name o) count kinds contents S (put2 C n name o)
  unfolding filed
  shows_filed name o =
      let l : TreeEntry = record {
        kind = (tree_entry us n).kind;
        stand = (tree_entry us n).stand;
        child = λ q. cond (bytes_eq name q) o
            ((tree_entry us n).child q);
        content = (tree_entry us n).content;
      } in
      let r : Replaced us (slice_set us n l) n l = replaced_link us n l there in
      record {
        count_is = r.count ∙ shows.count_is;
        kind = field_after (λ m. m.kind) us (slice_set us n l) n l r kinds (shows.kind n) (λ k apart. shows.kind k);
        content = field_after (λ m. m.content) us (slice_set us n l) n l r contents (shows.content n) (λ k apart. shows.content k);
        stand = field_after (λ m. m.stand) us (slice_set us n l) n l r S (shows.stand n) (λ k apart. shows.stand k);
        child = λ k q. field_after (λ m. m.child q) us (slice_set us n l) n l r (λ i. put2 C n name o i q)
            (ap (cond (bytes_eq name q) o) (shows.child n q) ∙ sym (put2_here C n name q o))
            (λ i apart. shows.child i q ∙ sym (put2_other C n i name q o apart)) k;
      }

before_or_past : (k n : ℕ) → (k < n) ⊎ (n ≤ k)
before_or_past k n = elim (cases_Bool (ltb k n)) [ inl less ↦ inl (ltb-true k n less) | inr more ↦ inr (ltb-false k n more) ]

-- the links with one more behind them
pub more_link : (ls : List TreeEntry) (l : TreeEntry) (k : ℕ) → ((length ls ≡ k) × (tree_entry (ls ++ l ∷ []) k ≡ l)) ⊎ ((length ls ≢ k) × (tree_entry (ls ++ l ∷ []) k ≡ tree_entry ls k))
more_link ls l k = by_order (before_or_past k (length ls)) (eqb_tells (length ls) k)
  where
    by_order : (k < length ls) ⊎ (length ls ≤ k) → ((eqb (length ls) k ≡ true) × (length ls ≡ k)) ⊎ ((eqb (length ls) k ≡ false) × (length ls ≢ k))
        → ((length ls ≡ k) × (tree_entry (ls ++ l ∷ []) k ≡ l)) ⊎ ((length ls ≢ k) × (tree_entry (ls ++ l ∷ []) k ≡ tree_entry ls k))
    by_order order (inl same) = inl (same.1, ap (tree_entry (ls ++ l ∷ [])) (sym same.1) ∙ get_or-append_seam ls l [] no_tree_entry)
    by_order (inl less) (inr other) = inr (other.1, get_or_append_left ls (l ∷ []) no_tree_entry k less)
    by_order (inr past) (inr other) =
        let apart : length ls ≢ k = other.1 in
        let longer : length (ls ++ l ∷ []) ≤ k = omega (arith, length-append ls (l ∷ [])) in
        inr (other.1, get_or_past (ls ++ l ∷ []) k no_tree_entry longer ∙ sym (get_or_past ls k no_tree_entry past))

pub shows_more : (ls : List TreeEntry) (l : TreeEntry) → ((name : List ℕ) → l.child name ≡ None) →
    Shows (ls ++ l ∷ []) (length ls + 1) (λ k. (tree_entry (ls ++ l ∷ []) k).kind) (λ k. (tree_entry (ls ++ l ∷ []) k).content)
    (put (λ k. (tree_entry ls k).stand) (length ls) l.stand) (λ k. (tree_entry ls k).child)
shows_more ls l bare = record {
  count_is = length-append ls (l ∷ []);
  kind = λ k. refl;
  content = λ k. refl;
  stand = λ k. elim (more_link ls l k) [
    | inl new ↦ ap (λ (m : TreeEntry). m.stand) new.1 ∙ sym (put_here (λ i. (tree_entry ls i).stand) (length ls) l.stand) ∙ ap (put (λ i. (tree_entry ls i).stand) (length ls) l.stand) new.0
    | inr old ↦ ap (λ (m : TreeEntry). m.stand) old.1 ∙ sym (put_other (λ i. (tree_entry ls i).stand) (length ls) k l.stand old.0)
  ];
  child = λ k name. elim (more_link ls l k) [
    | inl new ↦ ap (λ (m : TreeEntry). m.child name) new.1 ∙ bare name
        ∙ sym (ap (λ (m : TreeEntry). m.child name) (ap (tree_entry ls) (sym new.0) ∙ get_or_past ls (length ls) no_tree_entry (omega arith)))
    | inr old ↦ ap (λ (m : TreeEntry). m.child name) old.1
  ];
}

pub stood_length : (ls : List TreeEntry) (n : ℕ) (s : Standing) → length (stood ls n s) ≡ length ls
unfolding stood
stood_length ls n s = length-set ls n _

pub filed_length : (ls : List TreeEntry) (n : ℕ) (name : List ℕ) (o : Option ℕ) → length (filed ls n name o) ≡ length ls
unfolding filed
filed_length ls n name o = length-set ls n _
