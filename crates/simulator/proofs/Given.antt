-- The first descriptors of a task in one list.
use Rattle.std.proofs.Common.{◌≡◌, ◌⊎◌, inl, inr, ℕ, zero, suc, ◌+◌, ◌<◌, ◌≤◌, Bool, true, false, List, [], ◌∷◌, ◌++◌, length, refl, ap, sym, ◌∙◌, arith}
use Rattle.std.specs.Prelude.{◌≢◌, ◌==◌, ◌&&◌, not, nat_lt, Some, None}
use Rattle.std.specs.List.{slice_get, list_all}
use Rattle.std.specs.Cmp.Derive.{both_true}
use Rattle.std.proofs.lemmas.Bool.{lt-ltb, ne_eqb}
use Rattle.std.proofs.lemmas.Bool.Decides.{eqb_tells}
use Rattle.rights.proofs.Tests.{both_left, both_right, not_true}
use Rattle.file_tree.specs.Nodes.{Node, is_dir, is_link, node}
use Rattle.task.specs.Plans.{FirstObject, On_node, On_end, FirstDescriptor, Start, Plan}
use Rattle.task.specs.Limits.{all_apart, are_numbered_apart, is_descriptor, is_object, is_plan, is_start}
use Rattle.task.specs.Begins.{given_by, given_to, with_number}
use Rattle.task.proofs.FirstWorlds.{checked}
use Rattle.task.proofs.Openings.{not_a_link, tested}
use Rattle.simulator.specs.Starts.{OwnedDescriptor, owned_by, owned_from, given_in, is_opened, is_owned, owned_differ, are_owned, is_below, are_among}
use Rattle.simulator.proofs.Waiting.{put2-here, put2-away}

-- ## Over two lists
all_both : {A : Type 0} (test : A → Bool) (xs ys : List A) → list_all test xs ≡ true → list_all test ys ≡ true → list_all test (xs ++ ys) ≡ true
all_both test [] ys one other = other
all_both test (x ∷ xs) ys one other = both_true (both_left _ (list_all test xs) one) (all_both test xs ys (both_right (test x) _ one) other)

all_apart_both : {A : Type 0} (apart : A → A → Bool) (xs ys : List A) → all_apart apart xs ≡ true → all_apart apart ys ≡ true →
    list_all (λ x. list_all (apart x) ys) xs ≡ true → all_apart apart (xs ++ ys) ≡ true
all_apart_both apart [] ys one other across = other
all_apart_both apart (x ∷ xs) ys one other across =
    both_true
    (all_both (apart x) xs ys (both_left _ (all_apart apart xs) one) (both_left _ (list_all (λ x. list_all (apart x) ys) xs) across))
    (all_apart_both apart xs ys (both_right (list_all (apart x) xs) _ one) other (both_right (list_all (apart x) ys) _ across))

-- ## A plan's
object_opened : (tree : List Node) (x : FirstObject) → is_object tree x ≡ true → is_opened x ≡ true
object_opened tree (On_node n access) test =
    both_right (not (is_link (node tree n).kind)) _ (both_left _ (not (is_dir (node tree n).kind && access.writable)) test)
object_opened tree (On_end pair side) test = test

there : (tree : List Node) (n : ℕ) → is_link (node tree n).kind ≡ false → n < length tree
there [] n is = absurd cc
there (m ∷ tree) zero is = omega arith
there (m ∷ tree) (suc n) is = let low : n < length tree = there tree n is in omega arith

object_among : (tree : List Node) (x : FirstObject) → is_object tree x ≡ true → is_below (length tree) x ≡ true
object_among tree (On_node n access) test = lt-ltb n (length tree) (there tree n (not_a_link tree n access test))
object_among tree (On_end pair side) test = refl

each_owned : (tree : List Node) (p : ℕ) (descriptors : List FirstDescriptor) → p < 16 → list_all (is_descriptor tree) descriptors ≡ true → list_all is_owned (owned_by p descriptors) ≡ true
each_owned tree p [] few all = refl
each_owned tree p (d ∷ descriptors) few all =
    let own = tested tree d (both_left _ (list_all (is_descriptor tree) descriptors) all) in
    both_true
    (both_true (both_true (both_true (both_true (lt-ltb p 16 few) (lt-ltb d.number 16 own.number)) (object_opened tree d.object own.object)) own.rights) own.fcntls)
    (each_owned tree p descriptors few (both_right (is_descriptor tree d) _ all))

own_among : (tree : List Node) (p : ℕ) (descriptors : List FirstDescriptor) → list_all (is_descriptor tree) descriptors ≡ true → are_among (length tree) (owned_by p descriptors) ≡ true
own_among tree p [] all = refl
own_among tree p (d ∷ descriptors) all =
    both_true (object_among tree d.object (tested tree d (both_left _ (list_all (is_descriptor tree) descriptors) all)).object)
    (own_among tree p descriptors (both_right (is_descriptor tree d) _ all))

-- those of one process are at numbers of their own
apart_from : (p : ℕ) (d : FirstDescriptor) (descriptors : List FirstDescriptor) → list_all (are_numbered_apart d) descriptors ≡ true →
    list_all (owned_differ (record { process = p; given = d })) (owned_by p descriptors) ≡ true
apart_from p d [] all = refl
apart_from p d (e ∷ descriptors) all =
    both_true (go (p == p) (d.number == e.number) (not_true _ (both_left _ (list_all (are_numbered_apart d) descriptors) all)))
    (apart_from p d descriptors (both_right (are_numbered_apart d e) _ all))
  where
    go : (a b : Bool) → b ≡ false → not (a && b) ≡ true
    go true true is = absurd cc
    go true false is = refl
    go false b is = refl

own_apart : (p : ℕ) (descriptors : List FirstDescriptor) → all_apart are_numbered_apart descriptors ≡ true → all_apart owned_differ (owned_by p descriptors) ≡ true
own_apart p [] all = refl
own_apart p (d ∷ descriptors) all =
    both_true (apart_from p d descriptors (both_left _ (all_apart are_numbered_apart descriptors) all))
    (own_apart p descriptors (both_right (list_all (are_numbered_apart d) descriptors) _ all))

-- and those of two processes are of two processes
other_process : (g h : OwnedDescriptor) → g.process ≢ h.process → owned_differ g h ≡ true
other_process g h other = ap (λ b. not (b && (g.given.number == h.given.number))) (ne_eqb g.process h.process other)

later_own : (g : OwnedDescriptor) (q : ℕ) (descriptors : List FirstDescriptor) → g.process < q → list_all (owned_differ g) (owned_by q descriptors) ≡ true
later_own g q [] low = refl
later_own g q (d ∷ descriptors) low = both_true (other_process g (record { process = q; given = d }) (λ same. absurd (omega (arith, same)))) (later_own g q descriptors low)

later_all : (g : OwnedDescriptor) (q : ℕ) (starts : List Start) → g.process < q → list_all (owned_differ g) (owned_from q starts) ≡ true
later_all g q [] low = refl
later_all g q (s ∷ starts) low =
    all_both (owned_differ g) (owned_by q s.descriptors) (owned_from (q + 1) starts) (later_own g q s.descriptors low) (later_all g (q + 1) starts (omega arith))

across : (p : ℕ) (descriptors : List FirstDescriptor) (starts : List Start) → list_all (λ g. list_all (owned_differ g) (owned_from (p + 1) starts)) (owned_by p descriptors) ≡ true
across p [] starts = refl
across p (d ∷ descriptors) starts = both_true (later_all (record { process = p; given = d }) (p + 1) starts (omega arith)) (across p descriptors starts)

-- ## All of them
all_are : (tree : List Node) (programs p : ℕ) (starts : List Start) → p + length starts ≤ 16 → list_all (is_start tree programs) starts ≡ true →
    (list_all is_owned (owned_from p starts) ≡ true) × (all_apart owned_differ (owned_from p starts) ≡ true)
    × (are_among (length tree) (owned_from p starts) ≡ true)
all_are tree programs p [] few all = (refl, refl, refl)
all_are tree programs p (s ∷ starts) few all =
    let own = both_right (nat_lt s.program programs) _ (both_left _ (list_all (is_start tree programs) starts) all) in
    let good = both_left _ (all_apart are_numbered_apart s.descriptors) own in
    let rest = all_are tree programs (p + 1) starts (omega arith) (both_right (is_start tree programs s) _ all) in (
      all_both is_owned (owned_by p s.descriptors) (owned_from (p + 1) starts) (each_owned tree p s.descriptors (omega arith) good) rest.0,
      all_apart_both owned_differ (owned_by p s.descriptors) (owned_from (p + 1) starts)
          (own_apart p s.descriptors (both_right (list_all (is_descriptor tree) s.descriptors) _ own)) rest.1 (across p s.descriptors starts),
      all_both (λ (g : OwnedDescriptor). is_below (length tree) g.given.object) (owned_by p s.descriptors) (owned_from (p + 1) starts) (own_among tree p s.descriptors good) rest.2,
    )

few_starts : (plan : Plan) → is_plan plan ≡ true → 0 + length plan.starts ≤ 16
few_starts plan test = let few : length plan.starts ≤ 16 = (checked plan test).few in omega arith

pub plan_owned : (plan : Plan) → is_plan plan ≡ true → are_owned (owned_from 0 plan.starts) ≡ true
plan_owned plan test =
    let all = all_are plan.nodes (length plan.programs) 0 plan.starts (few_starts plan test) (checked plan test).starts in both_true all.0 all.1

pub plan_among : (plan : Plan) → is_plan plan ≡ true → are_among (length plan.nodes) (owned_from 0 plan.starts) ≡ true
plan_among plan test = (all_are plan.nodes (length plan.programs) 0 plan.starts (few_starts plan test) (checked plan test).starts).2

-- ## Each process has there what it is given
own_given : (p : ℕ) (descriptors : List FirstDescriptor) (rest : List OwnedDescriptor) (n : ℕ) → given_in rest p n ≡ None → given_in (owned_by p descriptors ++ rest) p n ≡ with_number n descriptors
own_given p [] rest n none = none
own_given p (d ∷ descriptors) rest n none = by_number (eqb_tells d.number n) (own_given p descriptors rest n none)
  where
    by_number : (((d.number == n) ≡ true) × (d.number ≡ n)) ⊎ (((d.number == n) ≡ false) × (d.number ≢ n)) →
        given_in (owned_by p descriptors ++ rest) p n ≡ with_number n descriptors →
        given_in (owned_by p (d ∷ descriptors) ++ rest) p n ≡ with_number n (d ∷ descriptors)
    by_number (inl own) more =
        let found : with_number n (d ∷ descriptors) ≡ Some d = rw own.0 refl in
        ap (given_in (owned_by p (d ∷ descriptors) ++ rest) p) (sym own.1) ∙ put2-here (given_in (owned_by p descriptors ++ rest)) p d.number (Some d) ∙ sym found
    by_number (inr other) more =
        let next : with_number n (d ∷ descriptors) ≡ with_number n descriptors = rw other.0 refl in
        put2-away (given_in (owned_by p descriptors ++ rest)) p d.number (Some d) p n (λ _ same. other.1 same) ∙ more ∙ sym next

other_given : (p : ℕ) (descriptors : List FirstDescriptor) (rest : List OwnedDescriptor) (q n : ℕ) → p ≢ q → given_in (owned_by p descriptors ++ rest) q n ≡ given_in rest q n
other_given p [] rest q n other = refl
other_given p (d ∷ descriptors) rest q n other =
    put2-away (given_in (owned_by p descriptors ++ rest)) p d.number (Some d) q n (λ same _. other same) ∙ other_given p descriptors rest q n other

earlier_none : (p : ℕ) (starts : List Start) (q n : ℕ) → q < p → given_in (owned_from p starts) q n ≡ None
earlier_none p [] q n low = refl
earlier_none p (s ∷ starts) q n low =
    other_given p s.descriptors (owned_from (p + 1) starts) q n (λ same. absurd (omega (arith, same))) ∙ earlier_none (p + 1) starts q n (omega arith)

given_same : (p : ℕ) (starts : List Start) (k n : ℕ) → given_in (owned_from p starts) (p + k) n ≡ given_to (slice_get starts k) n
given_same p [] k n = refl
given_same p (s ∷ starts) zero n =
    let zero_more : p + 0 ≡ p = omega arith in
    ap (λ q. given_in (owned_from p (s ∷ starts)) q n) zero_more
    ∙ own_given p s.descriptors (owned_from (p + 1) starts) n (earlier_none (p + 1) starts p n (omega arith))
given_same p (s ∷ starts) (suc k) n =
    let step : p + suc k ≡ p + 1 + k = omega arith in
    ap (λ q. given_in (owned_from p (s ∷ starts)) q n) step
    ∙ other_given p s.descriptors (owned_from (p + 1) starts) (p + 1 + k) n (λ same. absurd (omega (arith, same)))
    ∙ given_same (p + 1) starts k n

pub all_given : (starts : List Start) → given_in (owned_from 0 starts) ≡ given_by starts
all_given starts = λ i p n.
    (let sum : p ≡ 0 + p = omega arith in ap (λ q. given_in (owned_from 0 starts) q n) sum ∙ given_same 0 starts p n) i
