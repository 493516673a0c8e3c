-- A description loses a holder, and its last one.
use Rattle.std.proofs.Common.{◌≡◌, ◌≢◌, ℕ, zero, suc, ◌+◌, ◌≤◌, Bool, true, false, List, [], ◌∷◌, length, refl, ap, ◌∙◌, sym, subst, arith}
use Rattle.std.specs.Prelude.{Option, Some, None, nat_eq, ◌&&◌, is_none, cond}
use Rattle.std.specs.List.{sum_by}
use Rattle.std.proofs.lemmas.Bool.{eqb-true, eq-eqb}
use Rattle.fd_table.specs.Descriptions.{Object, At_end, PairClass, Message}
use Rattle.fd_table.specs.OpenFiles.{is_end}
use Rattle.fd_table.specs.Kept.{Counted, Pair, Kept, item_at, queue, object_in, half_in, end_of}
use Rattle.fd_table.specs.Holders.{in_queue, in_pair, holders, IsCounted, is_idle, is_empty, IsNeeded, IsKept}
use Rattle.fd_table.specs.Changes.{Changed, unless_idle, with_closed}
use Rattle.fd_table.proofs.Sums.{changed-cases, sum_changed}

pub both_true : (a b : Bool) → (a && b) ≡ true → (a ≡ true) × (b ≡ true)
both_true true b is = (refl, is)
both_true false b is = absurd cc

none_is : {A : Type 0} (o : Option A) → is_none o ≡ true → o ≡ None
none_is None is = refl
none_is (Some x) is = absurd cc

empty_is : (ms : List Message) → is_empty ms ≡ true → ms ≡ []
empty_is [] is = refl
empty_is (m ∷ ms) is = absurd cc

-- a pair that is idle has nothing
record IsBare (q : Pair) : Type 0 where
  a_closed : q.a.description ≡ None
  b_closed : q.b.description ≡ None
  a_empty : q.a.sent ≡ []
  b_empty : q.b.sent ≡ []

bare : (q : Pair) → is_idle q ≡ true → IsBare q
bare q is = go (is_none q.a.description) (is_none q.b.description) (is_empty q.a.sent) (is_empty q.b.sent) refl refl refl refl is
  where
    go : (a b c d : Bool) → is_none q.a.description ≡ a → is_none q.b.description ≡ b → is_empty q.a.sent ≡ c → is_empty q.b.sent ≡ d → (a && b && c && d) ≡ true → IsBare q
    go true true true true a b c d is = record {
      a_closed = none_is q.a.description a;
      b_closed = none_is q.b.description b;
      a_empty = empty_is q.a.sent c;
      b_empty = empty_is q.b.sent d;
    }
    go true true true false a b c d is = absurd cc
    go true true false x a b c d is = absurd cc
    go true false x y a b c d is = absurd cc
    go false x y z a b c d is = absurd cc

unless-cases : (Q : Option Pair → Type 0) (q : Pair) → (is_idle q ≡ true → Q None) → (is_idle q ≡ false → Q (Some q)) → Q (unless_idle q)
unless-cases Q q idle needed = go (is_idle q) refl
  where
    go : (b : Bool) → is_idle q ≡ b → Q (cond b None (Some q))
    go true is = idle is
    go false is = needed is

sent_left : (q : Pair) (s : ℕ) → (half_in (unless_idle q) s).sent ≡ (half_in (Some q) s).sent
sent_left q s = unless-cases (λ o. (half_in o s).sent ≡ (half_in (Some q) s).sent) q (λ idle. go s (bare q idle)) (λ needed. refl)
  where
    go : (s : ℕ) → IsBare q → (half_in None s).sent ≡ (half_in (Some q) s).sent
    go zero is = sym is.a_empty
    go (suc zero) is = sym is.b_empty
    go (suc (suc s)) is = refl

end_left : (q : Pair) (s : ℕ) → (half_in (unless_idle q) s).description ≡ (half_in (Some q) s).description
end_left q s = unless-cases (λ o. (half_in o s).description ≡ (half_in (Some q) s).description) q (λ idle. go s (bare q idle)) (λ needed. refl)
  where
    go : (s : ℕ) → IsBare q → (half_in None s).description ≡ (half_in (Some q) s).description
    go zero is = sym is.a_closed
    go (suc zero) is = sym is.b_closed
    go (suc (suc s)) is = refl

in_left : (m : ℕ) (q : Pair) → in_pair m (unless_idle q) ≡ in_pair m (Some q)
in_left m q = unless-cases (λ o. in_pair m o ≡ in_pair m (Some q)) q (λ idle. nothing (bare q idle)) (λ needed. refl)
  where
    nothing : IsBare q → in_pair m None ≡ in_pair m (Some q)
    nothing is = omega (arith, ap (in_queue m) is.a_empty, ap (in_queue m) is.b_empty)

needed_left : (q : Pair) → IsNeeded (unless_idle q)
needed_left q = unless-cases IsNeeded q (λ idle. tt) (λ needed. needed)

closed_sent : (p : Pair) (side s : ℕ) → (half_in (Some (with_closed p side)) s).sent ≡ (half_in (Some p) s).sent
closed_sent p zero zero = refl
closed_sent p zero (suc zero) = refl
closed_sent p zero (suc (suc s)) = refl
closed_sent p (suc zero) zero = refl
closed_sent p (suc zero) (suc zero) = refl
closed_sent p (suc zero) (suc (suc s)) = refl
closed_sent p (suc (suc side)) s = refl

closed_in : (m : ℕ) (p : Pair) (side : ℕ) → in_pair m (Some (with_closed p side)) ≡ in_pair m (Some p)
closed_in m p zero = refl
closed_in m p (suc zero) = refl
closed_in m p (suc (suc side)) = refl

closed_here : (p : Pair) (side : ℕ) → (half_in (Some (with_closed p side)) side).description ≡ None
closed_here p zero = refl
closed_here p (suc zero) = refl
closed_here p (suc (suc side)) = refl

closed_there : (p : Pair) (side s : ℕ) → s ≢ side → (half_in (Some (with_closed p side)) s).description ≡ (half_in (Some p) s).description
closed_there p zero zero other = absurd (other refl)
closed_there p zero (suc zero) other = refl
closed_there p zero (suc (suc s)) other = refl
closed_there p (suc zero) zero other = refl
closed_there p (suc zero) (suc zero) other = absurd (other refl)
closed_there p (suc zero) (suc (suc s)) other = refl
closed_there p (suc (suc side)) s other = refl

-- which end an object is
pub end_itself : (pair side : ℕ) (class : PairClass) → is_end pair side (At_end pair side class) ≡ true
end_itself pair side class = ap (λ b. b && nat_eq side side) (eq-eqb pair pair refl) ∙ eq-eqb side side refl

pub record IsSameEnd (pair side r s : ℕ) : Type 0 where
  pub pair_is : r ≡ pair
  pub side_is : s ≡ side

pub same_end : (pair side r s : ℕ) (class : PairClass) → is_end r s (At_end pair side class) ≡ true → IsSameEnd pair side r s
same_end pair side r s class is =
    let both = both_true (nat_eq pair r) (nat_eq side s) is in
    record { pair_is = sym (eqb-true pair r both.0); side_is = sym (eqb-true side s both.1) }

-- the last holder of a node's description is gone
pub kept_gone_node : (k : Kept) (ds : List (Option Counted)) (n : ℕ) (h : Counted) (hand left : ℕ → ℕ) → IsKept k hand →
    Changed k.descriptions ds n None → item_at k.descriptions n ≡ Some h → h.count ≤ 1 → ((r s : ℕ) → is_end r s h.description.object ≡ false) →
    hand n ≡ 1 + left n → ((m : ℕ) → m ≢ n → left m ≡ hand m) → IsKept (record k { descriptions = ds }) left
kept_gone_node k ds n h hand left kept change there few no_end here same = record {
  room = kept.room;
  counts = λ m.
      changed-cases (λ o. IsCounted o (holders k m + left m)) k.descriptions ds n None change m
      (λ is. subst (λ (i : ℕ). IsCounted None (holders k i + left i)) (sym is) gone)
      (λ other. subst (IsCounted (item_at k.descriptions m)) (ap (λ x. holders k m + x) (sym (same m other))) (kept.counts m));
  ends = λ r s m is.
      changed-cases (λ o. is_end r s (object_in o) ≡ true) k.descriptions ds n None change m
      (λ at. let was = subst (λ (i : ℕ). is_end r s (object_in (item_at k.descriptions i)) ≡ true) at (kept.ends r s m is) in
      absurd (clash r s (subst (λ (o : Option Counted). is_end r s (object_in o) ≡ true) there was)))
      (λ other. kept.ends r s m is);
  known = λ r s m. changed-cases (λ o. is_end r s (object_in o) ≡ true → end_of k.pairs r s ≡ Some m) k.descriptions ds n None change m
      (λ at is. absurd cc)
      (λ other. kept.known r s m);
  needed = kept.needed;
  few = kept.few;
}
  where
    was : IsCounted (Some h) (holders k n + hand n)
    was = subst (λ (o : Option Counted). IsCounted o (holders k n + hand n)) there (kept.counts n)

    gone : holders k n + left n ≡ 0
    gone = omega (arith, was.0, here, few)

    clash : (r s : ℕ) → is_end r s h.description.object ≡ true → ⊥
    clash r s is = let no = no_end r s in absurd cc

-- the pair of an end that is closed
module _ (ks ps : List (Option Pair)) (pair side : ℕ) (p : Pair) (change : Changed ks ps pair (unless_idle (with_closed p side))) (there : item_at ks pair ≡ Some p) where
  pub left_sent : (r s : ℕ) → queue ps r s ≡ queue ks r s
  left_sent r s =
      changed-cases (λ o. (half_in o s).sent ≡ queue ks r s) ks ps pair (unless_idle (with_closed p side)) change r
      (λ same. sent_left (with_closed p side) s ∙ closed_sent p side s ∙ ap (λ o. (half_in o s).sent) (sym (ap (item_at ks) same ∙ there)))
      (λ other. refl)

  left_here : end_of ps pair side ≡ None
  left_here = ap (λ o. (half_in o side).description) change.changed ∙ end_left (with_closed p side) side ∙ closed_here p side

  left_there : (r s : ℕ) → (r ≡ pair → s ≢ side) → end_of ps r s ≡ end_of ks r s
  left_there r s apart =
      changed-cases (λ o. (half_in o s).description ≡ end_of ks r s) ks ps pair (unless_idle (with_closed p side)) change r
      (λ same. end_left (with_closed p side) s ∙ closed_there p side s (apart same) ∙ ap (λ o. (half_in o s).description) (sym (ap (item_at ks) same ∙ there)))
      (λ other. refl)

  left_in : (m : ℕ) → sum_by (in_pair m) ps ≡ sum_by (in_pair m) ks
  left_in m =
      let sums = sum_changed (in_pair m) ks ps pair (unless_idle (with_closed p side)) refl change in
      let was : in_pair m (item_at ks pair) ≡ in_pair m (Some p) = ap (in_pair m) there in
      omega (arith, sums, was, in_left m (with_closed p side), closed_in m p side)

-- an end of a pair that is there
pub half_there : (o : Option Pair) (s n : ℕ) → (half_in o s).description ≡ Some n → (p : Pair) × (o ≡ Some p)
half_there None s n is = absurd cc
half_there (Some p) s n is = (p, refl)

-- the last holder of an end's description is gone
pub kept_gone_end : (k : Kept) (ds : List (Option Counted)) (ps : List (Option Pair)) (n : ℕ) (h : Counted) (pair side : ℕ) (class : PairClass)
    (p : Pair) (hand left : ℕ → ℕ) → IsKept k hand → Changed k.descriptions ds n None → item_at k.descriptions n ≡ Some h → h.count ≤ 1 →
    h.description.object ≡ At_end pair side class → item_at k.pairs pair ≡ Some p → Changed k.pairs ps pair (unless_idle (with_closed p side)) →
    hand n ≡ 1 + left n → ((m : ℕ) → m ≢ n → left m ≡ hand m) → IsKept (record k { descriptions = ds; pairs = ps }) left
kept_gone_end k ds ps n h pair side class p hand left kept change there few object pair_there closes here same = record {
  room = kept.room;
  counts = λ m.
      changed-cases (λ o. IsCounted o (holders (record k { descriptions = ds; pairs = ps }) m + left m)) k.descriptions ds n None change m
      (λ is. subst (λ (i : ℕ). IsCounted None (holders (record k { descriptions = ds; pairs = ps }) i + left i)) (sym is) gone)
      (λ other.
      let total : holders k m + hand m ≡ holders (record k { descriptions = ds; pairs = ps }) m + left m = omega (arith, same m other, left_in k.pairs ps pair side p closes pair_there m) in
      subst (IsCounted (item_at k.descriptions m)) total (kept.counts m));
  ends = λ r s m is.
      let old = was_open r s m is in
      changed-cases (λ o. is_end r s (object_in o) ≡ true) k.descriptions ds n None change m
      (λ at. absurd (not_here r s (subst (λ (i : ℕ). is_end r s (object_in (item_at k.descriptions i)) ≡ true) at (kept.ends r s m old)) (open_apart r s m is)))
      (λ other. kept.ends r s m old);
  known = λ r s m. changed-cases (λ o. is_end r s (object_in o) ≡ true → end_of ps r s ≡ Some m) k.descriptions ds n None change m
      (λ at is. absurd cc)
      (λ other is. left_there k.pairs ps pair side p closes pair_there r s (λ same_pair same_side. other (only r s m is same_pair same_side)) ∙ kept.known r s m is);
  needed = λ r. changed-cases IsNeeded k.pairs ps pair (unless_idle (with_closed p side)) closes r (λ _. needed_left (with_closed p side)) (λ _. kept.needed r);
  few = λ r s. subst (λ (ms : List Message). length ms ≤ 16) (sym (left_sent k.pairs ps pair side p closes pair_there r s)) (kept.few r s);
}
  where
    was : IsCounted (Some h) (holders k n + hand n)
    was = subst (λ (o : Option Counted). IsCounted o (holders k n + hand n)) there (kept.counts n)

    gone : holders (record k { descriptions = ds; pairs = ps }) n + left n ≡ 0
    gone = omega (arith, was.0, here, few, left_in k.pairs ps pair side p closes pair_there n)

    object_is : object_in (item_at k.descriptions n) ≡ At_end pair side class
    object_is = ap object_in there ∙ object

    own : end_of k.pairs pair side ≡ Some n
    own = kept.known pair side n (subst (λ (o : Object). is_end pair side o ≡ true) (sym object_is) (end_itself pair side class))

    open_apart : (r s m : ℕ) → end_of ps r s ≡ Some m → r ≡ pair → s ≢ side
    open_apart r s m is same_pair same_side =
        let none = left_here k.pairs ps pair side p closes pair_there in
        let some : end_of ps pair side ≡ Some m = ap (λ i. end_of ps i side) (sym same_pair) ∙ ap (λ i. end_of ps r i) (sym same_side) ∙ is in
        absurd cc

    was_open : (r s m : ℕ) → end_of ps r s ≡ Some m → end_of k.pairs r s ≡ Some m
    was_open r s m is = sym (left_there k.pairs ps pair side p closes pair_there r s (open_apart r s m is)) ∙ is

    not_here : (r s : ℕ) → is_end r s (object_in (item_at k.descriptions n)) ≡ true → (r ≡ pair → s ≢ side) → ⊥
    not_here r s is apart =
        let end = same_end pair side r s class (subst (λ (o : Object). is_end r s o ≡ true) object_is is) in
        apart end.pair_is end.side_is

    only : (r s m : ℕ) → is_end r s (object_in (item_at k.descriptions m)) ≡ true → r ≡ pair → s ≡ side → m ≡ n
    only r s m is same_pair same_side =
        let mine : end_of k.pairs pair side ≡ Some m = ap (λ i. end_of k.pairs i side) (sym same_pair) ∙ ap (λ i. end_of k.pairs r i) (sym same_side) ∙ kept.known r s m is in
        let both : Some m ≡ Some n = sym mine ∙ own in
        (cc)
