-- A descriptor in hand is let go, and one more is taken.
use Rattle.std.proofs.Common.{◌≡◌, ◌≢◌, ℕ, ◌+◌, ◌-◌, ◌<◌, ◌≤◌, Bool, true, false, List, refl, ap, ◌∙◌, sym, subst, arith, inl, inr}
use Rattle.std.specs.Prelude.{Option, Some, None, nat_lt, cond}
use Rattle.std.proofs.lemmas.Bool.{ltb-true, ltb-false, eq-eqb}
use Rattle.std.proofs.lemmas.Bool.Decides.{eqb_tells}
use Rattle.fd_table.specs.Descriptions.{Object, At_node, At_end, PairClass, Descriptor}
use Rattle.fd_table.specs.OpenFiles.{OpenFiles, is_end}
use Rattle.fd_table.specs.Kept.{Description, Counted, Pair, Kept, item_at, queue, object_in}
use Rattle.fd_table.specs.Holders.{names_count, holders, IsCounted, IsKept, with_hand}
use Rattle.fd_table.specs.Changes.{after_close, Changed, lowered, ended_in, Closes, Ends}
use Rattle.fd_table.specs.Follows.{ShowsAt, Follows}
use Rattle.fd_table.proofs.Sums.{changed-cases}
use Rattle.fd_table.proofs.Steps.{kept_count}
use Rattle.fd_table.proofs.Ending.{kept_gone_node, kept_gone_end, end_itself, half_there, left_sent}

-- what names a description counts one for it, and none for the others
pub named_own : (d : Descriptor) → names_count d.description (Some d) ≡ 1
named_own d = ap (λ b. cond b 1 0) (eq-eqb d.description d.description refl)

pub named_other : (d : Descriptor) (n : ℕ) → n ≢ d.description → names_count n (Some d) ≡ 0
named_other d n other = elim (eqb_tells d.description n) [ inl same ↦ absurd (other (sym same.1)) | inr apart ↦ ap (λ b. cond b 1 0) apart.0 ]

-- the same description, whatever its count
shows_at : (f : OpenFiles) (n : ℕ) (h g : Counted) → g.description ≡ h.description → ShowsAt f n (Some h) → ShowsAt f n (Some g)
shows_at f n h g same shown = (ap (λ (d : Description). d.object) same ∙ shown.0, ap (λ (d : Description). d.state) same ∙ shown.1)

pub shows_lowered : (f : OpenFiles) (n : ℕ) (o : Option Counted) → ShowsAt f n o → ShowsAt f n (lowered o)
shows_lowered f n None shown = tt
shows_lowered f n (Some h) shown = go (nat_lt 1 h.count)
  where
    go : (b : Bool) → ShowsAt f n (cond b (Some (record h { count = h.count - 1 })) None)
    go true = shown
    go false = tt

module _ (f : OpenFiles) (k : Kept) (ds : List (Option Counted)) (ps : List (Option Pair)) (d : Descriptor) (hand : ℕ → ℕ)
    (follows : Follows f k (with_hand (Some d) hand))
    (change : Changed k.descriptions ds d.description (lowered (item_at k.descriptions d.description))) where
  abbrev left : Kept
  left = record k { descriptions = ds; pairs = ps }

  own : ℕ
  own = d.description

  one_more : with_hand (Some d) hand d.description ≡ 1 + hand d.description
  one_more = ap (λ x. x + hand d.description) (named_own d)

  no_more : (m : ℕ) → m ≢ d.description → hand m ≡ with_hand (Some d) hand m
  no_more m other = omega (arith, named_other d m other)

  described : (n : ℕ) → ShowsAt f n (item_at ds n)
  described n =
      changed-cases (ShowsAt f n) k.descriptions ds d.description _ change n
      (λ same. shows_lowered f n (item_at k.descriptions d.description) (subst (λ (i : ℕ). ShowsAt f n (item_at k.descriptions i)) same (follows.shows.described n)))
      (λ other. follows.shows.described n)

  -- where the pairs stay
  stays : ps ≡ k.pairs → IsKept (record k { descriptions = ds }) hand → Follows f (record k { descriptions = ds; pairs = ps }) hand
  stays same kept = record {
    kept = subst (λ (qs : List (Option Pair)). IsKept (record k { descriptions = ds; pairs = qs }) hand) (sym same) kept;
    shows = record { table = follows.shows.table; queue = λ r s. ap (λ qs. queue qs r s) same ∙ follows.shows.queue r s; described = described };
  }

  at_node : (h : Counted) → item_at k.descriptions d.description ≡ Some h → h.count ≤ 1 → Changed k.descriptions ds d.description None →
      ((r s : ℕ) → is_end r s h.description.object ≡ false) → ps ≡ k.pairs → Follows f (record k { descriptions = ds; pairs = ps }) hand
  at_node h there few gone no_end same = stays same (kept_gone_node k ds d.description h (with_hand (Some d) hand) hand follows.kept gone there few no_end one_more no_more)

  at_end : (h : Counted) (pair side : ℕ) (class : PairClass) → item_at k.descriptions d.description ≡ Some h → h.count ≤ 1 →
      Changed k.descriptions ds d.description None → h.description.object ≡ At_end pair side class → Closes k.pairs ps (At_end pair side class) →
      Follows f (record k { descriptions = ds; pairs = ps }) hand
  at_end h pair side class there few gone object closes =
      let open_is = follows.kept.known pair side d.description (subst (λ (o : Object). is_end pair side o ≡ true) (sym (ap object_in there ∙ object)) (end_itself pair side class)) in
      let found = half_there (item_at k.pairs pair) side d.description open_is in
      let closed = subst (Changed k.pairs ps pair) (ap (after_close side) found.1) closes in
      record {
        kept = kept_gone_end k ds ps d.description h pair side class found.0 (with_hand (Some d) hand) hand follows.kept gone there few object found.1 closed one_more no_more;
        shows = record { table = follows.shows.table; queue = λ r s. left_sent k.pairs ps pair side found.0 closed found.1 r s ∙ follows.shows.queue r s; described = described };
      }

  last : (h : Counted) → item_at k.descriptions d.description ≡ Some h → h.count ≤ 1 → Changed k.descriptions ds d.description None → (o : Object) →
      h.description.object ≡ o → Closes k.pairs ps o → Follows f (record k { descriptions = ds; pairs = ps }) hand
  last h there few gone (At_node node access) object closes = at_node h there few gone (λ r s. ap (is_end r s) object) closes
  last h there few gone (At_end pair side class) object closes = at_end h pair side class there few gone object closes

  one_less : (h : Counted) → item_at k.descriptions d.description ≡ Some h → (b : Bool) → nat_lt 1 h.count ≡ b →
      Changed k.descriptions ds d.description (cond b (Some (record h { count = h.count - 1 })) None) →
      Ends k.pairs ps (cond b None (Some h.description)) → Follows f (record k { descriptions = ds; pairs = ps }) hand
  one_less h there true is fewer same =
      let many : 1 < h.count = ltb-true 1 h.count is in
      stays same
      (kept_count k ds d.description h (record h { count = h.count - 1 }) (with_hand (Some d) hand) hand follows.kept fewer there refl (omega arith) (omega (arith, one_more)) no_more)
  one_less h there false is gone closes = last h there (ltb-false 1 h.count is) gone h.description.object refl closes

  release : (o : Option Counted) → item_at k.descriptions d.description ≡ o → Changed k.descriptions ds d.description (lowered o) →
      Ends k.pairs ps (ended_in o) → Follows f (record k { descriptions = ds; pairs = ps }) hand
  release None there fewer ends =
      let none : holders k d.description + with_hand (Some d) hand d.description ≡ 0 = subst
      (λ (o : Option Counted). IsCounted o (holders k d.description + with_hand (Some d) hand d.description)) there
      (follows.kept.counts d.description) in
      absurd (omega (arith, none, one_more))
  release (Some h) there fewer ends = one_less h there (nat_lt 1 h.count) refl fewer ends

-- a descriptor in hand is let go
pub follows_release : (f : OpenFiles) (k : Kept) (ds : List (Option Counted)) (ps : List (Option Pair)) (d : Descriptor) (hand : ℕ → ℕ) →
    Follows f k (with_hand (Some d) hand) → Changed k.descriptions ds d.description (lowered (item_at k.descriptions d.description)) →
    Ends k.pairs ps (ended_in (item_at k.descriptions d.description)) → Follows f (record k { descriptions = ds; pairs = ps }) hand
follows_release f k ds ps d hand follows fewer ends = release f k ds ps d hand follows fewer (item_at k.descriptions d.description) refl fewer ends

-- one more is taken into the hand
pub follows_hold : (f : OpenFiles) (k : Kept) (ds : List (Option Counted)) (d : Descriptor) (h : Counted) (hand : ℕ → ℕ) → Follows f k hand →
    item_at k.descriptions d.description ≡ Some h → Changed k.descriptions ds d.description (Some (record h { count = h.count + 1 })) →
    Follows f (record k { descriptions = ds }) (with_hand (Some d) hand)
follows_hold f k ds d h hand follows there change = record {
  kept = kept_count k ds d.description h (record h { count = h.count + 1 }) hand (with_hand (Some d) hand) follows.kept change there refl
      (omega arith) (omega (arith, named_own d)) (λ m other. omega (arith, named_other d m other));
  shows = record {
    table = follows.shows.table;
    queue = follows.shows.queue;
    described = λ n.
        changed-cases (ShowsAt f n) k.descriptions ds d.description _ change n
        (λ same. subst (ShowsAt f n) there (subst (λ (i : ℕ). ShowsAt f n (item_at k.descriptions i)) same (follows.shows.described n)))
        (λ other. follows.shows.described n);
  };
}
