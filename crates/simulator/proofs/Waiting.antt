-- First descriptors in one list: where they are, and the tables in which some of them wait.
use Rattle.std.proofs.Common.{◌≡◌, ◌⊎◌, inl, inr, ℕ, zero, suc, ◌<◌, Bool, true, false, List, [], ◌∷◌, drop, refl, ap, sym, subst, ◌∙◌, arith}
use Rattle.std.specs.Prelude.{◌==◌, ◌&&◌, nat_lt, Option, Some, None, option_map}
use Rattle.std.specs.List.{slice_get, list_all}
use Rattle.std.specs.Cmp.Derive.{both_true}
use Rattle.std.proofs.lemmas.Bool.{both_ways, eq-eqb, eqb-true, ltb-true}
use Rattle.rights.specs.Maps.{put, put2}
use Rattle.rights.specs.Sets.{is_within, all_rights, all_commands}
use Rattle.rights.proofs.Changes.{put-cases}
use Rattle.rights.proofs.Lists.{list_all-slice_get}
use Rattle.rights.proofs.Tests.{both_left, both_right, not_true}
use Rattle.fd_table.specs.Descriptions.{Descriptor, IfHeld}
use Rattle.fd_table.specs.Filled.{Entry}
use Rattle.task.specs.Plans.{FirstObject, On_node, On_end}
use Rattle.task.specs.Limits.{all_apart}
use Rattle.task.specs.Begins.{description_of, node_description, first_entry, first_entries}
use Rattle.simulator.specs.Starts.{OwnedDescriptor, given_in, is_opened, is_owned, owned_differ, are_owned, entry_of, is_on, later_or, last_owned}
use Rattle.simulator.specs.Starts.{whole_end, whole_or_none, waiting, awaiting, nothing_given}

-- ## Places
pub at_place : {A : Type 0} (Q : A → Type 0) (t : ℕ → ℕ → A) (p n : ℕ) (v : A) (q m : ℕ) → (q ≡ p → m ≡ n → Q v) → ((p ≡ q → n ≡ m → ⊥) → Q (t q m)) → Q (put2 t p n v q m)
at_place Q t p n v q m here there =
    put-cases (λ (row : ℕ → _). Q (row m)) t p (put (t p) n v) q
    (λ same.
    put-cases Q (t p) n v m (here same)
    (λ other. let P : ℕ → Type 0 = λ r. Q (t r m) in subst P same (there (λ _ number. other (sym number)))))
    (λ other. there (λ process _. other (sym process)))

pub put2-here : {A : Type 0} (t : ℕ → ℕ → A) (p n : ℕ) (v : A) → put2 t p n v p n ≡ v
put2-here t p n v = at_place (λ x. x ≡ v) t p n v p n (λ _ _. refl) (λ away. absurd (away refl refl))

pub put2-away : {A : Type 0} (t : ℕ → ℕ → A) (p n : ℕ) (v : A) (q m : ℕ) → (p ≡ q → n ≡ m → ⊥) → put2 t p n v q m ≡ t q m
put2-away t p n v q m away = at_place (λ x. x ≡ t q m) t p n v q m (λ process number. absurd (away (sym process) (sym number))) (λ _. refl)

pub apart_place : (g h : OwnedDescriptor) → owned_differ g h ≡ true → g.process ≡ h.process → g.given.number ≡ h.given.number → ⊥
apart_place g h apart process number =
    both_ways _ (not_true _ apart) (both_true (eq-eqb g.process h.process process) (eq-eqb g.given.number h.given.number number))

-- ## What is known of owned
pub record IsOwned (g : OwnedDescriptor) : Type 0 where
  pub process : g.process < 16
  pub number : g.given.number < 16
  pub object : is_opened g.given.object ≡ true
  pub rights : is_within g.given.rights all_rights ≡ true
  pub fcntls : is_within g.given.fcntls all_commands ≡ true

pub owned_is : (g : OwnedDescriptor) → is_owned g ≡ true → IsOwned g
owned_is g test =
    let four = both_left _ (is_within g.given.fcntls all_commands) test in
    let three = both_left _ (is_within g.given.rights all_rights) four in
    let two = both_left _ (is_opened g.given.object) three in
    record {
      process = ltb-true g.process 16 (both_left _ (nat_lt g.given.number 16) two);
      number = ltb-true g.given.number 16 (both_right (nat_lt g.process 16) _ two);
      object = both_right (nat_lt g.process 16 && nat_lt g.given.number 16) _ three;
      rights = both_right (nat_lt g.process 16 && nat_lt g.given.number 16 && is_opened g.given.object) _ four;
      fcntls = both_right (nat_lt g.process 16 && nat_lt g.given.number 16 && is_opened g.given.object && is_within g.given.rights all_rights) _ test;
    }

pub side_is : (pair side : ℕ) → is_opened (On_end pair side) ≡ true → (pair < 32) × (side < 2)
side_is pair side test = (ltb-true pair 32 (both_left _ (nat_lt side 2) test), ltb-true side 2 (both_right (nat_lt pair 32) _ test))

pub all_owned : (owned : List OwnedDescriptor) → are_owned owned ≡ true → (list_all is_owned owned ≡ true) × (all_apart owned_differ owned ≡ true)
all_owned owned test = (both_left _ (all_apart owned_differ owned) test, both_right (list_all is_owned owned) _ test)

-- what is left of a list
pub all_dropped : {A : Type 0} (test : A → Bool) (xs : List A) (k : ℕ) → list_all test xs ≡ true → list_all test (drop k xs) ≡ true
all_dropped test xs zero all = all
all_dropped test [] (suc k) all = refl
all_dropped test (x ∷ xs) (suc k) all = all_dropped test xs k (both_right (test x) _ all)

pub apart_dropped : (xs : List OwnedDescriptor) (k : ℕ) → all_apart owned_differ xs ≡ true → all_apart owned_differ (drop k xs) ≡ true
apart_dropped xs zero all = all
apart_dropped [] (suc k) all = refl
apart_dropped (x ∷ xs) (suc k) all = apart_dropped xs k (both_right (list_all (owned_differ x) xs) _ all)

pub given_here : (all : List OwnedDescriptor) (k : ℕ) (g : OwnedDescriptor) → all_apart owned_differ all ≡ true → slice_get all k ≡ Some g → given_in all g.process g.given.number ≡ Some g.given
given_here [] k g apart is = absurd cc
given_here (h ∷ owned) zero g apart is =
    let same : h ≡ g = cc in
    ap (λ (x : OwnedDescriptor). given_in (x ∷ owned) g.process g.given.number) same ∙ put2-here (given_in owned) g.process g.given.number (Some g.given)
given_here (h ∷ owned) (suc k) g apart is =
    let other = list_all-slice_get (owned_differ h) owned k g (both_left _ (all_apart owned_differ owned) apart) is in
    put2-away (given_in owned) h.process h.given.number (Some h.given) g.process g.given.number (apart_place h g other)
    ∙ given_here owned k g (both_right (list_all (owned_differ h) owned) _ apart) is

-- ## Tables in which some wait
abbrev pub Table : Type 0
Table = ℕ → ℕ → Option Descriptor

pub awaiting_away : (t : Table) (later : List OwnedDescriptor) (g : OwnedDescriptor) → list_all (owned_differ g) later ≡ true → awaiting t later g.process g.given.number ≡ t g.process g.given.number
unfolding awaiting
awaiting_away t [] g apart = refl
awaiting_away t (h ∷ later) g apart =
    put2-away (awaiting t later) h.process h.given.number (waiting later h.given.object) g.process g.given.number
    (λ process number. apart_place g h (both_left _ (list_all (owned_differ g) later) apart) (sym process) (sym number))
    ∙ awaiting_away t later g (both_right (owned_differ g h) _ apart)

-- the last of a side is among them
pub last_away : (pair side : ℕ) (later : List OwnedDescriptor) (g : OwnedDescriptor) (e : Entry) → list_all (owned_differ g) later ≡ true →
    last_owned pair side later ≡ Some e → g.process ≡ e.process → g.given.number ≡ e.number → ⊥
unfolding last_owned
last_away pair side [] g e apart is process number = absurd cc
last_away pair side (h ∷ later) g e apart is process number =
    go (last_owned pair side later) (is_on pair side h.given.object) is
    (last_away pair side later g e (both_right (owned_differ g h) _ apart)) process number
  where
    go : (o : Option Entry) (on : Bool) → later_or o on h ≡ Some e → (o ≡ Some e → g.process ≡ e.process → g.given.number ≡ e.number → ⊥) → g.process ≡ e.process → g.given.number ≡ e.number → ⊥
    go (Some x) on is more process number = more is process number
    go None true is more process number =
        let same : entry_of h ≡ e = cc in
        apart_place g h (both_left _ (list_all (owned_differ g) later) apart) (process ∙ sym (ap (λ (x : Entry). x.process) same)) (number ∙ sym (ap (λ (x : Entry). x.number) same))
    go None false is more process number = absurd cc

same_side : (pair side : ℕ) (x : FirstObject) → is_on pair side x ≡ true → x ≡ On_end pair side
same_side pair side (On_node node access) is = absurd cc
same_side pair side (On_end own its) is = λ i. On_end (eqb-true own pair (both_left _ (its == side) is) i) (eqb-true its side (both_right (own == pair) _ is) i)

-- and has the end with all rights
pub last_whole : (t : Table) (pair side : ℕ) (later : List OwnedDescriptor) (e : Entry) → all_apart owned_differ later ≡ true →
    last_owned pair side later ≡ Some e → awaiting t later e.process e.number ≡ Some (whole_end pair side)
unfolding last_owned awaiting
last_whole t pair side [] e apart is = absurd cc
last_whole t pair side (h ∷ later) e apart is =
    go (last_owned pair side later) refl (is_on pair side h.given.object) refl is
    (last_whole t pair side later e (both_right (list_all (owned_differ h) later) _ apart))
  where
    go : (o : Option Entry) → last_owned pair side later ≡ o → (on : Bool) → is_on pair side h.given.object ≡ on → later_or o on h ≡ Some e →
        (last_owned pair side later ≡ Some e → awaiting t later e.process e.number ≡ Some (whole_end pair side)) →
        put2 (awaiting t later) h.process h.given.number (waiting later h.given.object) e.process e.number ≡ Some (whole_end pair side)
    go (Some x) found on at is more =
        put2-away (awaiting t later) h.process h.given.number (waiting later h.given.object) e.process e.number
        (last_away pair side later h e (both_left _ (all_apart owned_differ later) apart) (found ∙ is))
        ∙ more (found ∙ is)
    go None none true at is more =
        let same : entry_of h ≡ e = cc in
        ap (λ (x : Entry). put2 (awaiting t later) h.process h.given.number (waiting later h.given.object) x.process x.number) (sym same)
        ∙ put2-here (awaiting t later) h.process h.given.number (waiting later h.given.object)
        ∙ ap (waiting later) (same_side pair side h.given.object at)
        ∙ ap (λ o. whole_or_none o pair side) none
    go None none false at is more = absurd cc

-- ## Which description stands where
-- that of a node by its place, or that of an end
abbrev pub Fits : ℕ → ℕ → ℕ → Type 0
Fits q m k = ((k ≡ node_description q m) × (m < 16)) ⊎ (k < 64)

entry_fits : (q m : ℕ) (x : FirstObject) → m < 16 → is_opened x ≡ true → Fits q m (description_of q m x)
entry_fits q m (On_node node access) few test = inl (refl, few)
entry_fits q m (On_end pair side) few test =
    let below = side_is pair side test in
    let a : pair < 32 = below.0 in
    let b : side < 2 = below.1 in
    inr (omega arith)

pub given_fits : (owned : List OwnedDescriptor) → list_all is_owned owned ≡ true → (q m : ℕ) → IfHeld (λ d. Fits q m d.description) (first_entries (given_in owned) q m)
given_fits [] all q m = tt
given_fits (g ∷ owned) all q m =
    let own = owned_is g (both_left _ (list_all is_owned owned) all) in
    at_place (λ x. IfHeld (λ d. Fits q m d.description) (option_map (first_entry q) x)) (given_in owned) g.process g.given.number (Some g.given) q m
    (λ process number. subst (λ k. Fits q k (description_of q g.given.number g.given.object)) (sym number) (entry_fits q g.given.number g.given.object own.number own.object))
    (λ _. given_fits owned (both_right (is_owned g) _ all) q m)

waiting_fits : (q m : ℕ) (later : List OwnedDescriptor) (x : FirstObject) → is_opened x ≡ true → IfHeld (λ d. Fits q m d.description) (waiting later x)
waiting_fits q m later (On_node node access) test = tt
waiting_fits q m later (On_end pair side) test = go (last_owned pair side later)
  where
    go : (o : Option Entry) → IfHeld (λ d. Fits q m d.description) (whole_or_none o pair side)
    go (Some e) = tt
    go None =
        let below = side_is pair side test in
        let a : pair < 32 = below.0 in
        let b : side < 2 = below.1 in
        inr (omega arith)

pub awaiting_fits : (t : Table) (later : List OwnedDescriptor) → list_all is_owned later ≡ true → (q m : ℕ) → IfHeld (λ d. Fits q m d.description) (t q m) →
    IfHeld (λ d. Fits q m d.description) (awaiting t later q m)
unfolding awaiting
awaiting_fits t [] all q m fits = fits
awaiting_fits t (g ∷ later) all q m fits =
    let own = owned_is g (both_left _ (list_all is_owned later) all) in
    at_place (IfHeld (λ d. Fits q m d.description)) (awaiting t later) g.process g.given.number (waiting later g.given.object) q m
    (λ _ _. waiting_fits q m later g.given.object own.object)
    (λ _. awaiting_fits t later (both_right (is_owned g) _ all) q m fits)

-- ## Where all wait
pub record IsWhole (owned : List OwnedDescriptor) (q m : ℕ) (d : Descriptor) : Type 0 where
  pub pair : ℕ
  pub side : ℕ
  pub few : pair < 32
  pub two : side < 2
  pub whole : d ≡ whole_end pair side
  pub last : last_owned pair side owned ≡ Some (record { process = q; number = m })

pub waits_whole : (owned : List OwnedDescriptor) (q m : ℕ) (d : Descriptor) → list_all is_owned owned ≡ true → awaiting nothing_given owned q m ≡ Some d → IsWhole owned q m d
unfolding awaiting last_owned
waits_whole [] q m d all is = absurd cc
waits_whole (g ∷ later) q m d all is =
    at_place (λ x. x ≡ Some d → IsWhole (g ∷ later) q m d) (awaiting nothing_given later) g.process g.given.number (waiting later g.given.object) q m
    (λ process number own. here process number g.given.object refl (owned_is g (both_left _ (list_all is_owned later) all)).object own)
    (λ _ own. there (waits_whole later q m d (both_right (is_owned g) _ all) own)) is
  where
    last_own : (pair side : ℕ) → g.given.object ≡ On_end pair side → last_owned pair side later ≡ None → later_or (last_owned pair side later) (is_on pair side g.given.object) g ≡ Some (entry_of g)
    last_own pair side of none = (λ i. later_or (none i) (is_on pair side (of i)) g) ∙ rw (eq-eqb pair pair refl, eq-eqb side side refl) refl

    here : q ≡ g.process → m ≡ g.given.number → (x : FirstObject) → g.given.object ≡ x → is_opened g.given.object ≡ true → waiting later g.given.object ≡ Some d → IsWhole (g ∷ later) q m d
    here process number (On_node node access) of test own =
        let none : None ≡ Some d = ap (waiting later) (sym of) ∙ own in absurd cc
    here process number (On_end pair side) of test own = go (last_owned pair side later) refl (ap (waiting later) (sym of) ∙ own)
      where
        go : (o : Option Entry) → last_owned pair side later ≡ o → whole_or_none (last_owned pair side later) pair side ≡ Some d → IsWhole (g ∷ later) q m d
        go (Some e) found is = let none : None ≡ Some d = ap (λ o. whole_or_none o pair side) (sym found) ∙ is in absurd cc
        go None none is =
            let some : Some (whole_end pair side) ≡ Some d = ap (λ o. whole_or_none o pair side) (sym none) ∙ is in
            let same : whole_end pair side ≡ d = cc in
            let below = side_is pair side (subst (λ x. is_opened x ≡ true) of test) in
            record {
              pair = pair;
              side = side;
              few = below.0;
              two = below.1;
              whole = sym same;
              last = last_own pair side of none ∙ (λ i. Some (record { process = sym process i; number = sym number i }));
            }

    there : IsWhole later q m d → IsWhole (g ∷ later) q m d
    there w = record {
      pair = w.pair;
      side = w.side;
      few = w.few;
      two = w.two;
      whole = w.whole;
      last = ap (λ o. later_or o (is_on w.pair w.side g.given.object) g) w.last;
    }

-- at a place that is given, whoever waits there waits whatever the others have
pub all_wait : (t : Table) (owned : List OwnedDescriptor) (q m : ℕ) → (given_in owned q m ≡ None → t q m ≡ None) → awaiting t owned q m ≡ awaiting nothing_given owned q m
unfolding awaiting
all_wait t [] q m none = none refl
all_wait t (g ∷ owned) q m none =
    at_place (λ x. x ≡ put2 (awaiting nothing_given owned) g.process g.given.number (waiting owned g.given.object) q m) (awaiting t owned) g.process g.given.number (waiting owned g.given.object) q m
    (λ process number. sym (ap (λ p. put2 (awaiting nothing_given owned) g.process g.given.number (waiting owned g.given.object) p m) process
    ∙ ap (put2 (awaiting nothing_given owned) g.process g.given.number (waiting owned g.given.object) g.process) number
    ∙ put2-here (awaiting nothing_given owned) g.process g.given.number (waiting owned g.given.object)))
    (λ away.
    all_wait t owned q m (λ is. none (put2-away (given_in owned) g.process g.given.number (Some g.given) q m away ∙ is))
    ∙ sym (put2-away (awaiting nothing_given owned) g.process g.given.number (waiting owned g.given.object) q m away))
