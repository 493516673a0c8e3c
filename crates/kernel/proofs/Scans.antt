-- What is found by going through names, tables and queues is there, and what is there is found.
use Rattle.std.proofs.Common.{◌≡◌, ℕ, zero, suc, ◌⊎◌, inl, inr, Bool, true, false, List, [], ◌∷◌, refl, sym, ◌∙◌, ap}
use Rattle.std.specs.Prelude.{◌||◌, Some}
use Rattle.std.specs.List.{slice_get, list_any}
use Rattle.std.proofs.lemmas.Bool.{cases_Bool}
use Rattle.lookup.proofs.LookLaws.{find_led, find_only}
use Rattle.lookup.proofs.Walking.{arrives_at_find, find_arrives}
use Rattle.fd_table.specs.Descriptions.{Message}
use Rattle.fd_table.specs.OpenFiles.{any_below, names_end, is_open}
use Rattle.kernel.specs.World.{World}
use Rattle.kernel.specs.Steps.{Programs}
use Rattle.kernel.specs.WellFormed.{IsWellFormed}
use Rattle.kernel.specs.Scans.{LookupsCompute, WalksArrive, IsNamedEnd, in_table, in_queue, OpenEndsAreNamed}
use Rattle.kernel.proofs.Fresh.{entry_unnamed, message_unnamed}

pub lookups_compute : LookupsCompute
lookups_compute t start path way last answer = (find_led t start path way last answer, λ led. sym (find_only t start path way last answer led))

pub walks_arrive : WalksArrive
walks_arrive t start path way last finding tree none =
    (λ arrives. arrives_at_find t start path way last finding tree none arrives, λ found. find_arrives t start path way last finding tree none found)

either : (a b : Bool) → (a || b) ≡ true → (a ≡ true) ⊎ (b ≡ true)
either true b is = inl refl
either false b is = inr is

not_true : true ≡ false → ⊥
not_true is = absurd cc

impossible : {A : Type 0} (b : Bool) → b ≡ true → b ≡ false → A
impossible b is other = absurd (not_true (sym is ∙ other))

-- something that passes the test
some_below : (n : ℕ) (test : ℕ → Bool) → any_below n test ≡ true → (i : ℕ) × (test i ≡ true)
unfolding any_below
some_below zero test is = absurd cc
some_below (suc n) test is = elim (either (test n) (any_below n test) is) [
  | inl here ↦ (n, here)
  | inr rest ↦ some_below n test rest
]

some_in : (test : Message → Bool) (ms : List Message) → list_any test ms ≡ true → (i : ℕ) × (m : Message) × (slice_get ms i ≡ Some m) × (test m ≡ true)
some_in test [] is = absurd cc
some_in test (m ∷ ms) is = elim (either (test m) (list_any test ms) is) [
  | inl here ↦ (0, m, refl, here)
  | inr rest ↦ (let found = some_in test ms rest in (suc found.0, found.1, found.2, found.3))
]

found_in : (test : Message → Bool) (ms : List Message) (i : ℕ) (m : Message) → slice_get ms i ≡ Some m → test m ≡ true → list_any test ms ≡ true
found_in test [] i m here is = absurd cc
found_in test (x ∷ ms) zero m here is = let same : x ≡ m = cc in ap (λ y. test y || list_any test ms) same ∙ ap (λ b. b || list_any test ms) is
found_in test (x ∷ ms) (suc i) m here is = or_true (test x) (list_any test ms) (found_in test ms i m here is)
  where
    or_true : (a b : Bool) → b ≡ true → (a || b) ≡ true
    or_true true b is = refl
    or_true false b is = is

module _ (programs : Programs) (w : World) (good : IsWellFormed programs w) (pair side : ℕ) where
  named : is_open w.files pair side ≡ true → IsNamedEnd w.files pair side
  named is =
      let test = names_end w.files.objects pair side in
      elim (either (any_below 16 (λ p. any_below 16 (λ n. test (w.files.table p n)))) _ is) [
        | inl entry ↦ (let p = some_below 16 (λ p. any_below 16 (λ n. names_end w.files.objects pair side (w.files.table p n))) entry in
            let n = some_below 16 (λ n. names_end w.files.objects pair side (w.files.table p.0 n)) p.1 in
            in_table p.0 n.0 n.1)
        | inr message ↦ (let q = some_below w.files.pairs (λ q. any_below 2 (λ s. list_any (λ (m : Message). names_end w.files.objects pair side m.passed) (w.files.queue q s))) message in
            let s = some_below 2 (λ s. list_any (λ (m : Message). names_end w.files.objects pair side m.passed) (w.files.queue q.0 s)) q.1 in
            let m = some_in (λ (m : Message). names_end w.files.objects pair side m.passed) (w.files.queue q.0 s.0) s.1 in
            in_queue q.0 s.0 m.0 m.1 m.2 m.3)
      ]

  opens : IsNamedEnd w.files pair side → is_open w.files pair side ≡ true
  opens (in_table p n is) = elim (cases_Bool (is_open w.files pair side)) [
    | inl there ↦ there
    | inr closed ↦ impossible _ is (entry_unnamed programs good.numbering w good.world pair side closed p n)
  ]
  opens (in_queue q s i m here is) = elim (cases_Bool (is_open w.files pair side)) [
    | inl there ↦ there
    | inr closed ↦ impossible _ (found_in (λ (m : Message). names_end w.files.objects pair side m.passed) (w.files.queue q s) i m here is)
        (message_unnamed programs good.numbering w good.world pair side closed q s)
  ]

pub open_ends_are_named : OpenEndsAreNamed
open_ends_are_named programs w good pair side = (named programs w good pair side, opens programs w good pair side)
