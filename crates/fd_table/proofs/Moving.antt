-- A descriptor moves between the hand, an entry and a message.
use Rattle.std.proofs.Common.{◌≡◌, ◌≢◌, ℕ, zero, suc, ◌+◌, ◌*◌, ◌<◌, ◌≤◌, Bool, true, false, List, [], ◌∷◌, ◌++◌, length, drop, refl, ap, ◌∙◌, sym, subst, arith}
use Rattle.std.specs.Prelude.{Option, Some, None, ◌&&◌, is_none, cond, slice_set}
use Rattle.std.specs.List.{sum_by}
use Rattle.std.specs.Option.{IsSome, option_map}
use Rattle.std.proofs.lemmas.Bool.{lt-ltb}
use Rattle.std.proofs.lemmas.List.{length-append}
use Rattle.std.proofs.lemmas.List.Sums.{sum_by-cons, sum_by-set, sum_by_push}
use Rattle.std.proofs.Math.ListN.{length-set}
use Rattle.rights.specs.Maps.{put, put2}
use Rattle.rights.proofs.Changes.{put-cases, put-same, put-other}
use Rattle.fd_table.specs.Descriptions.{Descriptor, Message}
use Rattle.fd_table.specs.OpenFiles.{OpenFiles}
use Rattle.fd_table.specs.Openings.{with_entry}
use Rattle.fd_table.specs.Filled.{with_queue, with_limit, sent}
use Rattle.fd_table.specs.Kept.{Pair, Kept, entry_at, item_at, queue, half_in}
use Rattle.fd_table.specs.Holders.{names_count, in_queue, in_pair, is_idle, is_empty, IsKept, with_hand}
use Rattle.fd_table.specs.Changes.{Changed, with_sent}
use Rattle.fd_table.specs.Follows.{Follows, with_taken}
use Rattle.fd_table.proofs.Sums.{changed-cases}
use Rattle.fd_table.proofs.Steps.{kept_entries, kept_exchange, kept_pair}

put2_of : {A : Type 0} (f g : ℕ → ℕ → A) (p n : ℕ) (v : A) → ((q m : ℕ) → f q m ≡ g q m) → (q m : ℕ) → put2 f p n v q m ≡ put2 g p n v q m
put2_of f g p n v same q m = ap (λ t. put2 t p n v q m) (λ i q m. same q m i)

put2_own : {A : Type 0} (f : ℕ → ℕ → A) (p n q m : ℕ) → put2 f p n (f p n) q m ≡ f q m
put2_own f p n q m =
    put-cases (λ (row : ℕ → _). row m ≡ f q m) f p (put (f p) n (f p n)) q
    (λ same. put-cases (λ x. x ≡ f q m) (f p) n (f p n) m
    (λ number. ap (λ k. f p k) (sym number) ∙ ap (λ k. f k m) (sym same))
    (λ _. ap (λ k. f k m) (sym same)))
    (λ _. refl)

-- what an entry is in the list
entry_slot : (es : List (Option Descriptor)) (p n : ℕ) → n < 16 → entry_at es p n ≡ item_at es (p * 16 + n)
entry_slot es p n small = ap (λ b. cond b (item_at es (p * 16 + n)) None) (lt-ltb n 16 small)

-- an entry is exchanged with the hand
pub follows_exchange : (f : OpenFiles) (k : Kept) (es : List (Option Descriptor)) (p n : ℕ) (v : Option Descriptor) (hand : ℕ → ℕ) →
    Follows f k (with_hand v hand) → p < 16 → n < 16 → es ≡ slice_set k.entries (p * 16 + n) v → entry_at es ≡ put2 (entry_at k.entries) p n v →
    Follows (with_entry f p n v) (record k { entries = es }) (with_hand (entry_at k.entries p n) hand)
follows_exchange f k es p n v hand follows process number set is = record {
  kept =
      subst (λ (es : List (Option Descriptor)). IsKept (record k { entries = es }) (with_hand (entry_at k.entries p n) hand)) (sym set)
      (subst (λ (o : Option Descriptor). IsKept (record k { entries = slice_set k.entries (p * 16 + n) v }) (with_hand o hand)) (sym (entry_slot k.entries p n number))
      (kept_exchange k (p * 16 + n) v hand follows.kept (omega (arith, process, number, follows.kept.room))));
  shows = record {
    table = λ q m. (λ i. is i q m) ∙ put2_of (entry_at k.entries) f.table p n v follows.shows.table q m;
    queue = follows.shows.queue;
    described = follows.shows.described;
  };
}

-- an entry names the same description with other rights
pub follows_limit : (f : OpenFiles) (k : Kept) (es : List (Option Descriptor)) (p n : ℕ) (d : Descriptor) (rights fcntls : ℕ) (hand : ℕ → ℕ) →
    Follows f k hand → p < 16 → n < 16 → Some d ≡ entry_at k.entries p n →
    es ≡ slice_set k.entries (p * 16 + n) (Some (record d { rights = rights; fcntls = fcntls })) →
    entry_at es ≡ put2 (entry_at k.entries) p n (Some (record d { rights = rights; fcntls = fcntls })) →
    Follows (with_limit f p n rights fcntls) (record k { entries = es }) hand
follows_limit f k es p n d rights fcntls hand follows process number there set is = record {
  kept =
      subst (λ (es : List (Option Descriptor)). IsKept (record k { entries = es }) hand) (sym set)
      (kept_entries k (slice_set k.entries (p * 16 + n) v) hand hand follows.kept (length-set k.entries (p * 16 + n) v ∙ follows.kept.room) same);
  shows = record {
    table = λ q m. (λ i. is i q m) ∙ put2_of (entry_at k.entries) f.table p n v follows.shows.table q m ∙ ap (λ o. put2 f.table p n o q m) given;
    queue = follows.shows.queue;
    described = follows.shows.described;
  };
}
  where
    v : Option Descriptor
    v = Some (record d { rights = rights; fcntls = fcntls })

    given : Some (record d { rights = rights; fcntls = fcntls }) ≡ option_map (λ (d : Descriptor). record d { rights = rights; fcntls = fcntls }) (f.table p n)
    given = ap (option_map (λ (d : Descriptor). record d { rights = rights; fcntls = fcntls })) (there ∙ follows.shows.table p n)

    same : (m : ℕ) → sum_by (names_count m) (slice_set k.entries (p * 16 + n) (Some (record d { rights = rights; fcntls = fcntls }))) + hand m ≡ sum_by (names_count m) k.entries + hand m
    same m =
        let within : p * 16 + n < length k.entries = omega (arith, process, number, follows.kept.room) in
        let was : names_count m (item_at k.entries (p * 16 + n)) ≡ names_count m (Some d) = ap (names_count m) (sym (there ∙ entry_slot k.entries p n number)) in
        omega (arith, sum_by-set (names_count m) k.entries (p * 16 + n) (Some (record d { rights = rights; fcntls = fcntls })) None within, was)

-- the queues of a pair, of which one is another one
in_sent : (n : ℕ) (p : Pair) (side : ℕ) (ms : List Message) → side < 2 → in_pair n (Some (with_sent p side ms)) + in_queue n ((half_in (Some p) side).sent) ≡ in_pair n (Some p) + in_queue n ms
in_sent n p zero ms small = omega arith
in_sent n p (suc zero) ms small = omega arith
in_sent n p (suc (suc side)) ms small = absurd (omega (arith, small))

sent_here : (p : Pair) (side : ℕ) (ms : List Message) → side < 2 → (half_in (Some (with_sent p side ms)) side).sent ≡ ms
sent_here p zero ms small = refl
sent_here p (suc zero) ms small = refl
sent_here p (suc (suc side)) ms small = absurd (omega (arith, small))

sent_there : (p : Pair) (side s : ℕ) (ms : List Message) → s ≢ side → (half_in (Some (with_sent p side ms)) s).sent ≡ (half_in (Some p) s).sent
sent_there p zero zero ms other = absurd (other refl)
sent_there p zero (suc zero) ms other = refl
sent_there p zero (suc (suc s)) ms other = refl
sent_there p (suc zero) zero ms other = refl
sent_there p (suc zero) (suc zero) ms other = absurd (other refl)
sent_there p (suc zero) (suc (suc s)) ms other = refl
sent_there p (suc (suc side)) s ms other = refl

sent_ends_a : (p : Pair) (side : ℕ) (ms : List Message) → (with_sent p side ms).a.description ≡ p.a.description
sent_ends_a p zero ms = refl
sent_ends_a p (suc zero) ms = refl
sent_ends_a p (suc (suc side)) ms = refl

sent_ends_b : (p : Pair) (side : ℕ) (ms : List Message) → (with_sent p side ms).b.description ≡ p.b.description
sent_ends_b p zero ms = refl
sent_ends_b p (suc zero) ms = refl
sent_ends_b p (suc (suc side)) ms = refl

some_open : {A : Type 0} (o : Option A) → IsSome o → is_none o ≡ false
some_open None there = absurd cc
some_open (Some x) there = refl

first_no : (a b c d : Bool) → a ≡ false → (a && b && c && d) ≡ false
first_no true b c d is = absurd cc
first_no false b c d is = refl

second_no : (a b c d : Bool) → b ≡ false → (a && b && c && d) ≡ false
second_no true true c d is = absurd cc
second_no true false c d is = refl
second_no false b c d is = refl

-- a pair with an open end is not idle
open_busy : (p : Pair) (s : ℕ) → IsSome ((half_in (Some p) s).description) → is_idle p ≡ false
open_busy p zero there = first_no (is_none p.a.description) (is_none p.b.description) (is_empty p.a.sent) (is_empty p.b.sent) (some_open p.a.description there)
open_busy p (suc zero) there = second_no (is_none p.a.description) (is_none p.b.description) (is_empty p.a.sent) (is_empty p.b.sent) (some_open p.b.description there)
open_busy p (suc (suc s)) there = absurd cc

sent_open : (p : Pair) (side s : ℕ) (ms : List Message) → IsSome ((half_in (Some p) s).description) → IsSome ((half_in (Some (with_sent p side ms)) s).description)
sent_open p side zero ms there = subst (λ (o : Option ℕ). IsSome o) (sym (sent_ends_a p side ms)) there
sent_open p side (suc zero) ms there = subst (λ (o : Option ℕ). IsSome o) (sym (sent_ends_b p side ms)) there
sent_open p side (suc (suc s)) ms there = absurd cc

-- a pair with an open end has another queue
pub follows_queue : (f : OpenFiles) (k : Kept) (ps : List (Option Pair)) (pair side s : ℕ) (p : Pair) (ms : List Message) (hand left : ℕ → ℕ) →
    Follows f k hand → item_at k.pairs pair ≡ Some p → Changed k.pairs ps pair (Some (with_sent p side ms)) → side < 2 → length ms ≤ 16 →
    IsSome ((half_in (Some p) s).description) → ((n : ℕ) → in_queue n ms + left n ≡ in_queue n ((half_in (Some p) side).sent) + hand n) →
    Follows (with_queue f pair side ms) (record k { pairs = ps }) left
follows_queue f k ps pair side s p ms hand left follows there change small few busy same = record {
  kept =
      kept_pair k ps pair p (with_sent p side ms) hand left follows.kept change there (sent_ends_a p side ms) (sent_ends_b p side ms)
      (open_busy (with_sent p side ms) s (sent_open p side s ms busy)) all_few
      (λ n. omega (arith, in_sent n p side ms small, same n));
  shows = record {
    table = follows.shows.table;
    queue = queues;
    described = follows.shows.described;
  };
}
  where
    at : (t : ℕ) → (half_in (Some (with_sent p side ms)) t).sent ≡ put (queue k.pairs pair) side ms t
    at t =
        put-cases (λ x. (half_in (Some (with_sent p side ms)) t).sent ≡ x) (queue k.pairs pair) side ms t
        (λ same. ap (λ i. (half_in (Some (with_sent p side ms)) i).sent) same ∙ sent_here p side ms small)
        (λ other. sent_there p side t ms other ∙ ap (λ o. (half_in o t).sent) (sym there))

    all_few : (t : ℕ) → length ((half_in (Some (with_sent p side ms)) t).sent) ≤ 16
    all_few t =
        subst (λ (l : List Message). length l ≤ 16) (sym (at t))
        (put-cases (λ l. length l ≤ 16) (queue k.pairs pair) side ms t (λ _. few) (λ _. follows.kept.few pair t))

    queues : (r t : ℕ) → queue ps r t ≡ put2 f.queue pair side ms r t
    queues r t =
        changed-cases (λ o. (half_in o t).sent ≡ put2 (queue k.pairs) pair side ms r t) k.pairs ps pair (Some (with_sent p side ms)) change r
        (λ same. at t ∙ sym (λ i. put-same (queue k.pairs) pair (put (queue k.pairs pair) side ms) i t) ∙ ap (λ i. put2 (queue k.pairs) pair side ms i t) (sym same))
        (λ other. sym (λ i. put-other (queue k.pairs) pair (put (queue k.pairs pair) side ms) r other i t))
        ∙ put2_of (queue k.pairs) f.queue pair side ms follows.shows.queue r t

-- a message is sent with what is in hand
pub follows_sent : (f : OpenFiles) (k : Kept) (ps : List (Option Pair)) (pair side s : ℕ) (p : Pair) (m : Message) (hand : ℕ → ℕ) →
    Follows f k (with_hand m.passed hand) → item_at k.pairs pair ≡ Some p →
    Changed k.pairs ps pair (Some (with_sent p side (queue k.pairs pair side ++ m ∷ []))) → side < 2 → length (queue k.pairs pair side) < 16 →
    IsSome ((half_in (Some p) s).description) → Follows (sent f pair side m) (record k { pairs = ps }) hand
follows_sent f k ps pair side s p m hand follows there change small few busy =
    subst (λ (ms : List Message). Follows (with_queue f pair side (ms ++ m ∷ [])) (record k { pairs = ps }) hand) (follows.shows.queue pair side)
    (follows_queue f k ps pair side s p (queue k.pairs pair side ++ m ∷ []) (with_hand m.passed hand) hand follows there change small
    (omega (arith, length-append (queue k.pairs pair side) (m ∷ []), few)) busy
    (λ n. let was : in_queue n (queue k.pairs pair side) ≡ in_queue n ((half_in (Some p) side).sent) = ap (λ o. in_queue n ((half_in o side).sent)) there in
    omega (arith, sum_by_push (λ (m : Message). names_count n m.passed) (queue k.pairs pair side) m, was)))

-- the message in front is taken, and what it carries is in hand
pub follows_taken : (f : OpenFiles) (k : Kept) (ps : List (Option Pair)) (pair side s : ℕ) (p : Pair) (m : Message) (ms : List Message) (hand : ℕ →
    ℕ) → Follows f k hand → item_at k.pairs pair ≡ Some p → (half_in (Some p) side).sent ≡ m ∷ ms →
    Changed k.pairs ps pair (Some (with_sent p side ms)) → side < 2 → IsSome ((half_in (Some p) s).description) →
    Follows (with_taken f pair side) (record k { pairs = ps }) (with_hand m.passed hand)
follows_taken f k ps pair side s p m ms hand follows there front change small busy =
    let whole : queue k.pairs pair side ≡ m ∷ ms = ap (λ o. (half_in o side).sent) there ∙ front in
    let shown : f.queue pair side ≡ m ∷ ms = sym (follows.shows.queue pair side) ∙ whole in
    subst (λ (l : List Message). Follows (with_queue f pair side (drop 1 l)) (record k { pairs = ps }) (with_hand m.passed hand)) (sym shown)
    (follows_queue f k ps pair side s p ms hand (with_hand m.passed hand) follows there change small
    (omega (arith, follows.kept.few pair side, ap length whole)) busy
    (λ n. let was : in_queue n ((half_in (Some p) side).sent) ≡ in_queue n (m ∷ ms) = ap (in_queue n) front in
    omega (arith, sum_by-cons (λ (m : Message). names_count n m.passed) m ms, was)))

-- no descriptor in hand is nothing in hand
pub with_none : (hand : ℕ → ℕ) → with_hand None hand ≡ hand
with_none hand = λ i n. none n i
  where
    none : (n : ℕ) → with_hand None hand n ≡ hand n
    none n = omega arith
