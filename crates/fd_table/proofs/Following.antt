-- The steps together: what each call makes of what is open.
use Rattle.std.proofs.Common.{◌≡◌, ◌≢◌, ℕ, zero, suc, ◌+◌, ◌^◌, ◌<◌, ◌≤◌, true, List, [], ◌∷◌, ◌++◌, length, drop, refl, ap, ◌∙◌, sym, subst, arith}
use Rattle.std.specs.Prelude.{Option, Some, None, Bool, false, nat_lt, cond}
use Rattle.std.specs.Option.{IsSome}
use Rattle.rights.specs.Maps.{put, put2}
use Rattle.rights.proofs.Changes.{put-same, put-other}
use Rattle.rights.specs.Sides.{other_side}
use Rattle.fd_table.specs.Descriptions.{Object, At_node, At_end, State, Descriptor, Message}
use Rattle.fd_table.specs.OpenFiles.{OpenFiles, is_end, names}
use Rattle.fd_table.specs.Openings.{with_table, with_entry}
use Rattle.fd_table.specs.Filled.{with_queue, with_row, with_state, sent}
use Rattle.fd_table.specs.Kept.{Description, Counted, Pair, Kept, entry_at, item_at, queue, object_in, half_in, end_of, open_files}
use Rattle.fd_table.proofs.Ending.{end_itself}
use Rattle.fd_table.specs.Holders.{in_queue, holders, IsKept, IsCounted, IsDescriptionThere, IsFew, with_hand, empty_hand, count_in}
use Rattle.fd_table.specs.Changes.{IsHeld, IsClosable, IsEndable, Changed, with_more, with_less, with_sent, passed_in, front_message, raised, ended_in, described_as}
use Rattle.fd_table.specs.Follows.{ShowsAt, Follows, with_taken}
use Rattle.fd_table.proofs.Sums.{changed-cases}
use Rattle.fd_table.proofs.Steps.{kept_count}
use Rattle.fd_table.proofs.Releasing.{follows_hold}
use Rattle.fd_table.proofs.Moving.{with_none, follows_sent, follows_queue, follows_taken}
use Rattle.fd_table.proofs.Naming.{holders_vacant, entry_silent}
use Rattle.fd_table.proofs.Answering.{count_most}
use Rattle.fd_table.proofs.Tables.{IsFilling, filled, filling_first, filling_next}
use Rattle.std.proofs.lemmas.Bool.{eq-eqb}

-- no descriptor in hand is none at all
pub follows_empty : (f : OpenFiles) (k : Kept) (hand : ℕ → ℕ) → Follows f k (with_hand None hand) → Follows f k hand
follows_empty f k hand follows = subst (Follows f k) (with_none hand) follows

pub follows_full : (f : OpenFiles) (k : Kept) (hand : ℕ → ℕ) → Follows f k hand → Follows f k (with_hand None hand)
follows_full f k hand follows = subst (Follows f k) (sym (with_none hand)) follows

-- what an entry names is there
pub there_entry : (k : Kept) (p n : ℕ) (hand : ℕ → ℕ) → IsKept k hand → IsDescriptionThere (item_at k.descriptions) (entry_at k.entries p n)
there_entry k p n hand kept = go (entry_at k.entries p n) refl
  where
    go : (o : Option Descriptor) → entry_at k.entries p n ≡ o → IsDescriptionThere (item_at k.descriptions) o
    go None is = tt
    go (Some d) is = at (item_at k.descriptions d.description) refl
      where
        at : (h : Option Counted) → item_at k.descriptions d.description ≡ h → IsSome h
        at None vacant =
            let silent = entry_silent k d.description (holders_vacant k d.description hand kept vacant) p n in
            let own : names d.description (entry_at k.entries p n) ≡ true = ap (names d.description) is ∙ eq-eqb d.description d.description refl in
            absurd cc
        at (Some h) there = refl

some_of : (o : Option Counted) → IsSome o → (h : Counted) × (o ≡ Some h)
some_of None there = absurd cc
some_of (Some h) there = (h, refl)

-- one holder more
pub follows_held : (f : OpenFiles) (k : Kept) (ds : List (Option Counted)) (o : Option Descriptor) (hand : ℕ → ℕ) → Follows f k hand →
    IsDescriptionThere (item_at k.descriptions) o → IsHeld k.descriptions ds o → Follows f (record k { descriptions = ds }) (with_hand o hand)
follows_held f k ds None hand follows there held = subst (λ (ds : List (Option Counted)). Follows f (record k { descriptions = ds }) (with_hand None hand)) (sym held) (follows_full f k hand follows)
follows_held f k ds (Some d) hand follows there held =
    let found = some_of (item_at k.descriptions d.description) there in
    follows_hold f k ds d found.0 hand follows found.1 (subst (Changed k.descriptions ds d.description) (ap raised found.1) held)

-- counts are small
pub few_counts : (k : Kept) (o : Option Descriptor) → IsKept k empty_hand → IsDescriptionThere (item_at k.descriptions) o → length k.pairs < 2 ^ 64 → IsFew (item_at k.descriptions) o
few_counts k None kept there few = tt
few_counts k (Some d) kept there few =
    let found = some_of (item_at k.descriptions d.description) there in
    let most = count_most k d.description found.0 kept found.1 in
    let same : count_in (item_at k.descriptions d.description) ≡ (found.0).count = ap count_in found.1 in
    omega (arith, most, same, few)

-- a description has another state
pub follows_state : (f : OpenFiles) (k : Kept) (ds : List (Option Counted)) (n : ℕ) (h : Counted) (d : Description) (state : State) (hand : ℕ → ℕ) →
    Follows f k hand → item_at k.descriptions n ≡ Some h → Changed k.descriptions ds n (Some (record h { description = d })) →
    d.object ≡ h.description.object → d.state ≡ state → Follows (with_state f n state) (record k { descriptions = ds }) hand
follows_state f k ds n h d state hand follows there change object set = record {
  kept =
      let counted = subst (λ (o : Option Counted). IsCounted o (holders k n + hand n)) there (follows.kept.counts n) in
      kept_count k ds n h (record h { description = d }) hand hand follows.kept change there object (omega (arith, counted.0, counted.1)) refl (λ m other. refl);
  shows = record { table = follows.shows.table; queue = follows.shows.queue; described = at };
}
  where
    at : (m : ℕ) → ShowsAt (with_state f n state) m (item_at ds m)
    at m =
        changed-cases (ShowsAt (with_state f n state) m) k.descriptions ds n _ change m
        (λ same. let shown = subst (ShowsAt f n) there (follows.shows.described n) in
        (object ∙ shown.0 ∙ ap f.objects (sym same), set ∙ sym (ap (put f.states n state) same ∙ put-same f.states n state)))
        (λ other. go (item_at k.descriptions m) other (follows.shows.described m))
      where
        go : (o : Option Counted) → m ≢ n → ShowsAt f m o → ShowsAt (with_state f n state) m o
        go None other shown = tt
        go (Some g) other shown = (shown.0, shown.1 ∙ sym (put-other f.states n state m other))

-- a message is sent, and then what it carries is counted
pub follows_send : (f : OpenFiles) (k : Kept) (ds : List (Option Counted)) (ps : List (Option Pair)) (pair side s : ℕ) (m : Message) →
    Follows f k empty_hand → IsDescriptionThere (item_at k.descriptions) m.passed → IsHeld k.descriptions ds m.passed →
    IsSome (end_of k.pairs pair s) → Changed k.pairs ps pair (with_more side m (item_at k.pairs pair)) → side < 2 →
    length (queue k.pairs pair side) < 16 → Follows (sent f pair side m) (record k { descriptions = ds; pairs = ps }) empty_hand
follows_send f k ds ps pair side s m follows there held opened change small few =
    let found = pair_at (item_at k.pairs pair) s opened in
    let own : queue k.pairs pair side ≡ (half_in (Some found.0) side).sent = ap (λ o. (half_in o side).sent) found.1 in
    follows_sent f (record k { descriptions = ds }) ps pair side s found.0 m empty_hand (follows_held f k ds m.passed empty_hand follows there held) found.1
    (subst (Changed k.pairs ps pair) (ap (with_more side m) found.1 ∙ ap (λ ms. Some (with_sent found.0 side (ms ++ m ∷ []))) (sym own)) change) small few
    (subst (λ (o : Option Pair). IsSome ((half_in o s).description)) found.1 opened)
  where
    pair_at : (o : Option Pair) (s : ℕ) → IsSome ((half_in o s).description) → (p : Pair) × (o ≡ Some p)
    pair_at None s opened = absurd cc
    pair_at (Some p) s opened = (p, refl)

pub pair_there : (k : Kept) (pair s : ℕ) → IsSome (end_of k.pairs pair s) → IsSome (item_at k.pairs pair)
pair_there k pair s opened = go (item_at k.pairs pair) opened
  where
    go : (o : Option Pair) → IsSome ((half_in o s).description) → IsSome o
    go None opened = absurd cc
    go (Some p) opened = refl

-- the message in front, if there is one, is taken
pub follows_take : (f : OpenFiles) (k : Kept) (ps : List (Option Pair)) (pair side s : ℕ) (o : Option Message) (hand : ℕ → ℕ) → Follows f k hand →
    IsSome (end_of k.pairs pair s) → o ≡ front_message (queue k.pairs pair side) → Changed k.pairs ps pair (with_less side (item_at k.pairs pair)) →
    side < 2 → Follows (with_taken f pair side) (record k { pairs = ps }) (with_hand (passed_in o) hand)
follows_take f k ps pair side s o hand follows opened front change small = go (item_at k.pairs pair) refl
  where
    go : (x : Option Pair) → item_at k.pairs pair ≡ x → Follows (with_taken f pair side) (record k { pairs = ps }) (with_hand (passed_in o) hand)
    go None is = let none = subst (λ (x : Option Pair). IsSome ((half_in x s).description)) is opened in absurd cc
    go (Some p) is = at ((half_in (Some p) side).sent) refl
      where
        busy : IsSome ((half_in (Some p) s).description)
        busy = subst (λ (x : Option Pair). IsSome ((half_in x s).description)) is opened

        own : queue k.pairs pair side ≡ (half_in (Some p) side).sent
        own = ap (λ x. (half_in x side).sent) is

        at : (ms : List Message) → (half_in (Some p) side).sent ≡ ms → Follows (with_taken f pair side) (record k { pairs = ps }) (with_hand (passed_in o) hand)
        at [] none =
            let carried : o ≡ None = front ∙ ap front_message (own ∙ none) in
            let shown : f.queue pair side ≡ [] = sym (follows.shows.queue pair side) ∙ own ∙ none in
            subst (λ (o : Option Message). Follows (with_taken f pair side) (record k { pairs = ps }) (with_hand (passed_in o) hand)) (sym carried)
            (subst (λ (l : List Message). Follows (with_queue f pair side (drop 1 l)) (record k { pairs = ps }) (with_hand None hand)) (sym shown)
            (follows_queue f k ps pair side s p [] hand (with_hand None hand) follows is
            (subst (Changed k.pairs ps pair) (ap (with_less side) is ∙ ap (λ l. Some (with_sent p side (drop 1 l))) none) change) small (omega arith) busy
            (λ n. omega (arith, ap (in_queue n) none))))
        at (m ∷ ms) whole =
            let carried : o ≡ Some m = front ∙ ap front_message (own ∙ whole) in
            subst (λ (o : Option Message). Follows (with_taken f pair side) (record k { pairs = ps }) (with_hand (passed_in o) hand)) (sym carried)
            (follows_taken f k ps pair side s p m ms hand follows is whole
            (subst (Changed k.pairs ps pair) (ap (with_less side) is ∙ ap (λ l. Some (with_sent p side (drop 1 l))) whole) change) small busy)

-- an end is put into an entry
pub table_own : (f : OpenFiles) (k : Kept) (table : ℕ → ℕ → Option Descriptor) (hand : ℕ → ℕ) → Follows (with_table f table) k hand → Follows (with_table f (entry_at k.entries)) k hand
table_own f k table hand follows = record {
  kept = follows.kept;
  shows = record { table = λ p n. refl; queue = follows.shows.queue; described = go };
}
  where
    go : (n : ℕ) → ShowsAt (with_table f (entry_at k.entries)) n (item_at k.descriptions n)
    go n = at (item_at k.descriptions n) (follows.shows.described n)
      where
        at : (o : Option Counted) → ShowsAt (with_table f table) n o → ShowsAt (with_table f (entry_at k.entries)) n o
        at None shown = tt
        at (Some h) shown = shown

pub table_is : (f : OpenFiles) (k : Kept) (table : ℕ → ℕ → Option Descriptor) (hand : ℕ → ℕ) → Follows (with_table f table) k hand → entry_at k.entries ≡ table
table_is f k table hand follows = λ i p n. follows.shows.table p n i

-- a row of the table, from number 0 on, is made another one
pub record IsFollowing (start k : Kept) (q n : ℕ) (row : ℕ → Option Descriptor) : Type 0 where
  pub follows : Follows (with_table (open_files start) (entry_at k.entries)) k empty_hand
  pub filling : IsFilling (entry_at start.entries) (entry_at k.entries) q n row

pub following_first : (k : Kept) (q : ℕ) (row : ℕ → Option Descriptor) → Follows (open_files k) k empty_hand → IsFollowing k k q 0 row
unfolding open_files
following_first k q row follows = record {
  follows = table_own (open_files k) k (entry_at k.entries) empty_hand follows;
  filling = filling_first (entry_at k.entries) q row;
}

pub following_next : (start k l : Kept) (q n : ℕ) (row : ℕ → Option Descriptor) (v : Option Descriptor) → IsFollowing start k q n row →
    Follows (with_entry (with_table (open_files start) (entry_at k.entries)) q n v) l empty_hand → v ≡ row n → IsFollowing start l q (n + 1) row
unfolding open_files
following_next start k l q n row v following follows is = record {
  follows = table_own (open_files start) l (put2 (entry_at k.entries) q n v) empty_hand follows;
  filling = filling_next (entry_at start.entries) (entry_at k.entries) (entry_at l.entries) q n row v following.filling
      (table_is (open_files start) l (put2 (entry_at k.entries) q n v) empty_hand follows) is;
}

pub following_last : (start k : Kept) (q n : ℕ) (row : ℕ → Option Descriptor) → n ≡ 16 → IsFollowing start k q n row →
    ((m : ℕ) → 16 ≤ m → entry_at start.entries q m ≡ row m) → Follows (with_row (open_files start) q row) k empty_hand
unfolding open_files
following_last start k q n row all following far =
    subst (λ (t : ℕ → ℕ → Option Descriptor). Follows (with_table (open_files start) t) k empty_hand)
    (filled (entry_at start.entries) (entry_at k.entries) q n row all following.filling far) following.follows

-- the last holder of an end's description has its pair
pub endable : (k : Kept) (d : Descriptor) (hand : ℕ → ℕ) → IsKept k hand → IsEndable k.pairs (ended_in (item_at k.descriptions d.description))
endable k d hand kept = go (item_at k.descriptions d.description) refl
  where
    closable : (h : Counted) → item_at k.descriptions d.description ≡ Some h → (x : Object) → h.description.object ≡ x → IsClosable k.pairs x
    closable h there (At_node node access) is = tt
    closable h there (At_end pair side class) is =
        let own = kept.known pair side d.description (subst (λ (x : Object). is_end pair side x ≡ true) (sym (ap object_in there ∙ is)) (end_itself pair side class)) in
        pair_there k pair side (subst (λ (o : Option ℕ). IsSome o) (sym own) refl)

    go : (o : Option Counted) → item_at k.descriptions d.description ≡ o → IsEndable k.pairs (ended_in o)
    go None vacant = tt
    go (Some h) there = at (nat_lt 1 h.count)
      where
        at : (b : Bool) → IsEndable k.pairs (cond b None (Some h.description))
        at true = tt
        at false = closable h there h.description.object refl

pub other_small : (side : ℕ) → other_side side < 2
other_small zero = omega arith
other_small (suc side) = omega arith

pub follows_described : (f : OpenFiles) (k : Kept) (ds : List (Option Counted)) (n : ℕ) (d : Description) (state : State) (hand : ℕ → ℕ) →
    Follows f k hand → IsSome (item_at k.descriptions n) → Changed k.descriptions ds n (described_as d (item_at k.descriptions n)) →
    d.object ≡ object_in (item_at k.descriptions n) → d.state ≡ state → Follows (with_state f n state) (record k { descriptions = ds }) hand
follows_described f k ds n d state hand follows there change object set =
    let found = some_of (item_at k.descriptions n) there in
    follows_state f k ds n found.0 d state hand follows found.1 (subst (Changed k.descriptions ds n) (ap (described_as d) found.1) change) (object ∙ ap object_in found.1) set
