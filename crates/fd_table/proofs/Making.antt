-- A new description, and a new pair.
use Rattle.std.proofs.Common.{◌≡◌, ◌≢◌, ℕ, zero, suc, ◌+◌, ◌≤◌, Bool, true, false, List, [], length, refl, ap, ◌∙◌, sym, subst, arith}
use Rattle.std.specs.Prelude.{Option, Some, None}
use Rattle.std.specs.List.{sum_by}
use Rattle.rights.specs.Maps.{put}
use Rattle.rights.proofs.Changes.{put-same, put-other}
use Rattle.fd_table.specs.Descriptions.{Object, At_node, At_end, PairClass, Access, Descriptor, Message, new_state}
use Rattle.fd_table.specs.OpenFiles.{OpenFiles, is_end}
use Rattle.fd_table.specs.Openings.{described}
use Rattle.fd_table.proofs.Naming.{unnamed_vacant}
use Rattle.fd_table.proofs.Answering.{follows_itself, unused_vacant}
use Rattle.fd_table.specs.Kept.{open_files, Counted, Pair, Kept, item_at, queue, object_in, half_in, end_of}
use Rattle.fd_table.specs.Holders.{IsKept, in_pair, holders, IsCounted, IsNeeded, with_hand, empty_hand}
use Rattle.fd_table.specs.Changes.{Changed, pair_new}
use Rattle.fd_table.specs.Follows.{ShowsAt, Follows, Makes}
use Rattle.fd_table.proofs.Sums.{changed-cases, sum_changed}
use Rattle.fd_table.proofs.Ending.{same_end, end_itself, half_there}
use Rattle.fd_table.proofs.Releasing.{named_own, named_other}

-- a description that begins with one holder
abbrev held_new : Object → Bool → Counted
held_new object append = record { description = record { object = object; state = new_state append }; count = 1 }

-- the maps with a new description
shows_described : (f : OpenFiles) (ds es : List (Option Counted)) (n : ℕ) (object : Object) (append : Bool) → ((m : ℕ) → ShowsAt f m (item_at ds m)) →
    Changed ds es n (Some (held_new object append)) → (m : ℕ) → ShowsAt (described f n object append) m (item_at es m)
shows_described f ds es n object append shown change m =
    changed-cases (ShowsAt (described f n object append) m) ds es n (Some (held_new object append)) change m
    (λ same. (sym (ap (put f.objects n object) same ∙ put-same f.objects n object), sym (ap (put f.states n (new_state append)) same ∙ put-same f.states n (new_state append))))
    (λ other. go (item_at ds m) other (shown m))
  where
    go : (o : Option Counted) → m ≢ n → ShowsAt f m o → ShowsAt (described f n object append) m o
    go None other was = tt
    go (Some h) other was = (was.0 ∙ sym (put-other f.objects n object m other), was.1 ∙ sym (put-other f.states n (new_state append) m other))

-- a node's description is made
pub follows_node : (f : OpenFiles) (k : Kept) (ds : List (Option Counted)) (d : Descriptor) (node : ℕ) (access : Access) (append : Bool) (hand : ℕ →
    ℕ) → Follows f k hand → item_at k.descriptions d.description ≡ None →
    Changed k.descriptions ds d.description (Some (held_new (At_node node access) append)) →
    Follows (described f d.description (At_node node access) append) (record k { descriptions = ds }) (with_hand (Some d) hand)
follows_node f k ds d node access append hand follows vacant change = record {
  kept = record {
    room = follows.kept.room;
    counts = λ m.
        changed-cases (λ o. IsCounted o (holders k m + with_hand (Some d) hand m)) k.descriptions ds d.description new change m
        (λ is. subst (λ (i : ℕ). IsCounted new (holders k i + with_hand (Some d) hand i)) (sym is) here)
        (λ other. let none : hand m ≡ with_hand (Some d) hand m = omega (arith, named_other d m other) in
        subst (IsCounted (item_at k.descriptions m)) (ap (λ x. holders k m + x) none) (follows.kept.counts m));
    ends = λ r s m is. subst (λ (b : Bool). b ≡ true) (sym (same_ends r s m)) (follows.kept.ends r s m is);
    known = λ r s m is. follows.kept.known r s m (subst (λ (b : Bool). b ≡ true) (same_ends r s m) is);
    needed = follows.kept.needed;
    few = follows.kept.few;
  };
  shows = record {
    table = follows.shows.table;
    queue = follows.shows.queue;
    described = shows_described f k.descriptions ds d.description (At_node node access) append follows.shows.described change;
  };
}
  where
    new : Option Counted
    new = Some (held_new (At_node node access) append)

    here : IsCounted (Some (held_new (At_node node access) append)) (holders k d.description + with_hand (Some d) hand d.description)
    here =
        let none = subst (λ (o : Option Counted). IsCounted o (holders k d.description + hand d.description)) vacant (follows.kept.counts d.description) in
        (omega (arith, none, named_own d), omega (arith, named_own d))

    same_ends : (r s m : ℕ) → is_end r s (object_in (item_at ds m)) ≡ is_end r s (object_in (item_at k.descriptions m))
    same_ends r s m =
        changed-cases (λ o. is_end r s (object_in o) ≡ is_end r s (object_in (item_at k.descriptions m))) k.descriptions ds d.description (Some (held_new (At_node node access) append)) change m
        (λ is. ap (λ o. is_end r s (object_in o)) (sym (ap (item_at k.descriptions) is ∙ vacant)))
        (λ other. refl)

abbrev pub pair_described : OpenFiles → ℕ → ℕ → ℕ → PairClass → OpenFiles
pair_described f first second pair class = described (described f first (At_end pair 0 class) false) second (At_end pair 1 class) false

module _ (f : OpenFiles) (k : Kept) (ds es : List (Option Counted)) (ps : List (Option Pair)) (d e : Descriptor) (pair : ℕ) (class : PairClass) (hand : ℕ → ℕ) (follows : Follows f k hand)
    (vacant1 : item_at k.descriptions d.description ≡ None) (change1 : Changed k.descriptions ds d.description (Some (held_new (At_end pair 0 class) false)))
    (vacant2 : item_at ds e.description ≡ None) (change2 : Changed ds es e.description (Some (held_new (At_end pair 1 class) false)))
    (vacant : item_at k.pairs pair ≡ None) (change : Changed k.pairs ps pair (Some (pair_new d.description e.description))) where
  pair_apart : d.description ≢ e.description
  pair_apart same =
      let some : item_at ds e.description ≡ Some (held_new (At_end pair 0 class) false) = ap (item_at ds) (sym same) ∙ change1.changed in
      absurd cc

  vacant3 : item_at k.descriptions e.description ≡ None
  vacant3 = sym (change1.others e.description (λ same. pair_apart (sym same))) ∙ vacant2

  both_in : ℕ → ℕ
  both_in m = with_hand (Some d) (with_hand (Some e) hand) m

  sums : (m : ℕ) → sum_by (in_pair m) ps ≡ sum_by (in_pair m) k.pairs
  sums m =
      let was : in_pair m (item_at k.pairs pair) ≡ 0 = ap (in_pair m) vacant in
      omega (arith, was, sum_changed (in_pair m) k.pairs ps pair (Some (pair_new d.description e.description)) refl change)

  counts_at : (m : ℕ) → IsCounted (item_at es m) (holders (record k { descriptions = es; pairs = ps }) m + with_hand (Some d) (with_hand (Some e) hand) m)
  counts_at m =
      changed-cases (λ o. IsCounted o (holders (record k { descriptions = es; pairs = ps }) m + with_hand (Some d) (with_hand (Some e) hand) m)) ds es e.description _ change2 m
      (λ same. second same)
      (λ other. changed-cases (λ o. IsCounted o (holders (record k { descriptions = es; pairs = ps }) m + with_hand (Some d) (with_hand (Some e) hand) m)) k.descriptions ds d.description _ change1 m
      (λ same. first same)
      (λ apart. rest apart other))
    where
      none_at : (n : ℕ) → item_at k.descriptions n ≡ None → holders k n + hand n ≡ 0
      none_at n none = subst (λ (o : Option Counted). IsCounted o (holders k n + hand n)) none (follows.kept.counts n)

      first : m ≡ d.description → IsCounted (Some (held_new (At_end pair 0 class) false)) (holders (record k { descriptions = es; pairs = ps }) m + with_hand (Some d) (with_hand (Some e) hand) m)
      first same =
          let none = none_at d.description vacant1 in
          let own = named_own d in
          let other = named_other e d.description pair_apart in
          let many : holders (record k { descriptions = es; pairs = ps }) d.description + with_hand (Some d)
          (with_hand (Some e) hand) d.description ≡ 1 = omega (arith, none, own, other, sums d.description) in
          subst (λ (i : ℕ). IsCounted (Some (held_new (At_end pair 0 class) false))
          (holders (record k { descriptions = es; pairs = ps }) i + with_hand (Some d) (with_hand (Some e) hand) i)) (sym same)
          (sym many, omega (arith, many))

      second : m ≡ e.description → IsCounted (Some (held_new (At_end pair 1 class) false)) (holders (record k { descriptions = es; pairs = ps }) m + with_hand (Some d) (with_hand (Some e) hand) m)
      second same =
          let none = none_at e.description vacant3 in
          let own = named_own e in
          let other = named_other d e.description (λ same. pair_apart (sym same)) in
          let many : holders (record k { descriptions = es; pairs = ps }) e.description + with_hand (Some d)
          (with_hand (Some e) hand) e.description ≡ 1 = omega (arith, none, own, other, sums e.description) in
          subst (λ (i : ℕ). IsCounted (Some (held_new (At_end pair 1 class) false))
          (holders (record k { descriptions = es; pairs = ps }) i + with_hand (Some d) (with_hand (Some e) hand) i)) (sym same)
          (sym many, omega (arith, many))

      rest : m ≢ d.description → m ≢ e.description → IsCounted (item_at k.descriptions m) (holders (record k { descriptions = es; pairs = ps }) m + with_hand (Some d) (with_hand (Some e) hand) m)
      rest apart other =
          let total : holders k m + hand m ≡ holders (record k { descriptions = es; pairs = ps }) m + with_hand (Some d) (with_hand (Some e) hand) m =
          omega (arith, named_other d m apart, named_other e m other, sums m) in
          subst (IsCounted (item_at k.descriptions m)) total (follows.kept.counts m)

  -- no end was of this pair
  no_end_was : (s m : ℕ) → is_end pair s (object_in (item_at k.descriptions m)) ≡ true → ⊥
  no_end_was s m is =
      let some = half_there (item_at k.pairs pair) s m (follows.kept.known pair s m is) in
      let clash : None ≡ Some some.0 = sym vacant ∙ some.1 in
      absurd cc

  not_new : (r s m : ℕ) → item_at k.descriptions m ≡ None → is_end r s (object_in (item_at k.descriptions m)) ≡ true → ⊥
  not_new r s m none is = let end = subst (λ (o : Option Counted). is_end r s (object_in o) ≡ true) none is in absurd cc

  first_at : item_at es d.description ≡ Some (held_new (At_end pair 0 class) false)
  first_at = change2.others d.description pair_apart ∙ change1.changed

  ends_at : (r s m : ℕ) → end_of ps r s ≡ Some m → is_end r s (object_in (item_at es m)) ≡ true
  ends_at r s m =
      changed-cases (λ o. (half_in o s).description ≡ Some m → is_end r s (object_in (item_at es m)) ≡ true) k.pairs ps pair _ change r
      (λ same. here same s)
      (λ other is. there (follows.kept.ends r s m is))
    where
      here : r ≡ pair → (s : ℕ) → (half_in (Some (pair_new d.description e.description)) s).description ≡ Some m → is_end r s (object_in (item_at es m)) ≡ true
      here same zero is =
          let number : d.description ≡ m = cc in
          subst (λ (i : ℕ). is_end i 0 (object_in (item_at es m)) ≡ true) (sym same)
          (subst (λ (i : ℕ). is_end pair 0 (object_in (item_at es i)) ≡ true) number (ap (λ o. is_end pair 0 (object_in o)) first_at ∙ end_itself pair 0 class))
      here same (suc zero) is =
          let number : e.description ≡ m = cc in
          subst (λ (i : ℕ). is_end i 1 (object_in (item_at es m)) ≡ true) (sym same)
          (subst (λ (i : ℕ). is_end pair 1 (object_in (item_at es i)) ≡ true) number (ap (λ o. is_end pair 1 (object_in o)) change2.changed ∙ end_itself pair 1 class))
      here same (suc (suc s)) is = absurd cc

      there : is_end r s (object_in (item_at k.descriptions m)) ≡ true → is_end r s (object_in (item_at es m)) ≡ true
      there is =
          subst (λ (o : Option Counted). is_end r s (object_in o) ≡ true)
          (sym (change2.others m (λ same. not_new r s m (ap (item_at k.descriptions) same ∙ vacant3) is) ∙ change1.others m (λ same. not_new r s m (ap (item_at k.descriptions) same ∙ vacant1) is))) is

  known_at : (r s m : ℕ) → is_end r s (object_in (item_at es m)) ≡ true → end_of ps r s ≡ Some m
  known_at r s m =
      changed-cases (λ o. is_end r s (object_in o) ≡ true → end_of ps r s ≡ Some m) ds es e.description _ change2 m
      (λ same is. let end = same_end pair 1 r s class is in
      ap (λ i. end_of ps i s) end.pair_is ∙ ap (λ i. end_of ps pair i) end.side_is ∙ ap (λ o. (half_in o 1).description) change.changed ∙ ap Some (sym same))
      (λ _. changed-cases (λ o. is_end r s (object_in o) ≡ true → end_of ps r s ≡ Some m) k.descriptions ds d.description _ change1 m
      (λ same is. let end = same_end pair 0 r s class is in
      ap (λ i. end_of ps i s) end.pair_is ∙ ap (λ i. end_of ps pair i) end.side_is ∙ ap (λ o. (half_in o 0).description) change.changed ∙ ap Some (sym same))
      (λ _ is. ap (λ o. (half_in o s).description)
      (change.others r (λ same. no_end_was s m (subst (λ (i : ℕ). is_end i s (object_in (item_at k.descriptions m)) ≡ true) same is)))
      ∙ follows.kept.known r s m is))

  queues_at : (r s : ℕ) → queue ps r s ≡ queue k.pairs r s
  queues_at r s =
      changed-cases (λ o. (half_in o s).sent ≡ queue k.pairs r s) k.pairs ps pair _ change r
      (λ same. nothing s ∙ ap (λ o. (half_in o s).sent) (sym (ap (item_at k.pairs) same ∙ vacant)))
      (λ other. refl)
    where
      nothing : (s : ℕ) → (half_in (Some (pair_new d.description e.description)) s).sent ≡ []
      nothing zero = refl
      nothing (suc zero) = refl
      nothing (suc (suc s)) = refl

  pub follows_pair : Follows (pair_described f d.description e.description pair class) (record k { descriptions = es; pairs = ps }) (with_hand (Some d) (with_hand (Some e) hand))
  follows_pair = record {
    kept = record {
      room = follows.kept.room;
      counts = counts_at;
      ends = ends_at;
      known = known_at;
      needed = λ r. changed-cases IsNeeded k.pairs ps pair _ change r (λ _. refl) (λ _. follows.kept.needed r);
      few = λ r s. subst (λ (ms : List Message). length ms ≤ 16) (sym (queues_at r s)) (follows.kept.few r s);
    };
    shows = record {
      table = follows.shows.table;
      queue = λ r s. queues_at r s ∙ follows.shows.queue r s;
      described =
          shows_described (described f d.description (At_end pair 0 class) false) ds es e.description (At_end pair 1 class) false
          (shows_described f k.descriptions ds d.description (At_end pair 0 class) false follows.shows.described change1) change2;
    };
  }

pub makes_pair : (k : Kept) (ds es : List (Option Counted)) (ps : List (Option Pair)) (first second pair : ℕ) (class : PairClass) →
    IsKept k empty_hand → item_at k.descriptions first ≡ None → Changed k.descriptions ds first (Some (held_new (At_end pair 0 class) false)) →
    item_at ds second ≡ None → Changed ds es second (Some (held_new (At_end pair 1 class) false)) → item_at k.pairs pair ≡ None →
    Changed k.pairs ps pair (Some (pair_new first second)) → Makes k (record k { descriptions = es; pairs = ps }) class first second
makes_pair k ds es ps first second pair class kept vacant1 change1 vacant2 change2 vacant change = record {
  pair = pair;
  first_fresh = unnamed_vacant k first empty_hand kept vacant1;
  second_fresh = unnamed_vacant k second empty_hand kept (sym (change1.others second (λ same. apart (sym same))) ∙ vacant2);
  apart = apart;
  unused = unused_vacant k pair kept vacant;
  follows = λ d e is1 is2.
      subst (λ (n : ℕ). Follows (described (described (open_files k) n (At_end pair 0 class) false) second (At_end pair 1 class) false)
      (record k { descriptions = es; pairs = ps }) (with_hand (Some d) (with_hand (Some e) empty_hand))) is1
      (subst (λ (n : ℕ). Follows (described (described (open_files k) d.description (At_end pair 0 class) false) n (At_end pair 1 class) false)
      (record k { descriptions = es; pairs = ps }) (with_hand (Some d) (with_hand (Some e) empty_hand))) is2
      (follows_pair (open_files k) k ds es ps d e pair class empty_hand (follows_itself k empty_hand kept)
      (ap (item_at k.descriptions) is1 ∙ vacant1) (subst (λ (n : ℕ). Changed k.descriptions ds n (Some (held_new (At_end pair 0 class) false))) (sym is1) change1)
      (ap (item_at ds) is2 ∙ vacant2) (subst (λ (n : ℕ). Changed ds es n (Some (held_new (At_end pair 1 class) false))) (sym is2) change2)
      vacant
      (subst (λ (n : ℕ). Changed k.pairs ps pair (Some (pair_new n e.description))) (sym is1) (subst (λ (n : ℕ). Changed k.pairs ps pair (Some (pair_new first n))) (sym is2) change))));
}
  where
    apart : first ≢ second
    apart same =
        let some : item_at ds second ≡ Some (held_new (At_end pair 0 class) false) = ap (item_at ds) (sym same) ∙ change1.changed in
        absurd cc

pub makes_node : (k : Kept) (ds : List (Option Counted)) (d : Descriptor) (n node : ℕ) (access : Access) (append : Bool) → IsKept k empty_hand →
    d.description ≡ n → item_at k.descriptions n ≡ None → Changed k.descriptions ds n (Some (held_new (At_node node access) append)) →
    Follows (described (open_files k) n (At_node node access) append) (record k { descriptions = ds }) (with_hand (Some d) empty_hand)
makes_node k ds d n node access append kept is vacant change =
    subst (λ (n : ℕ). Follows (described (open_files k) n (At_node node access) append) (record k { descriptions = ds }) (with_hand (Some d) empty_hand)) is
    (follows_node (open_files k) k ds d node access append empty_hand (follows_itself k empty_hand kept) (ap (item_at k.descriptions) is ∙ vacant)
    (subst (λ (n : ℕ). Changed k.descriptions ds n (Some (held_new (At_node node access) append))) (sym is) change))
