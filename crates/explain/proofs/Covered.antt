-- Where there is a finding, one is told: the first isn't counted under another.
use Rattle.std.proofs.Common.{◌≡◌, ◌⊎◌, ◌<◌, ℕ, zero, suc, inl, inr, Bool, true, false, List, [], ◌∷◌, ◌++◌, Option, length, map, refl, ap, sym, arith, ◌∙◌}
use Rattle.std.specs.Prelude.{◌&&◌, ◌||◌, ◌==◌, is_some, nat_lt}
use Rattle.std.specs.List.{list_any, slice_index_or}
use Rattle.std.proofs.lemmas.Bool.{ltb-true}
use Rattle.certificate.specs.Bounds.{Certificate, bound_at}
use Rattle.checker.specs.Findings.{BrokenRule}
use Rattle.checker.specs.declared.findings.BrokenRule.{BrokenRule as BrokenRuleCode}
use Rattle.checker.specs.declared.rule.Rule.TheVariants as rules
use Rattle.rights.proofs.Tests.{both_left, both_right}
use Rattle.task.specs.Plans.{Plan, program_name}
use Rattle.explain.specs.Covering.{count_under, covers, is_counted, is_of_reach, leads_alike}
use Rattle.explain.specs.Telling.{TellsEach, none_yet, one_more, one_counted, finding_text, others_text}

-- an element of a list that passes a test
pub any_at : {X Y : Type 0} (f : X → Y) (test : Y → Bool) (xs : List X) (k : ℕ) (d : X) → k < length xs → test (f (slice_index_or xs k d)) ≡ true
    → true ≡ list_any test (map f xs)
any_at f test [] k d low passes = absurd (omega (arith, low))
any_at f test (x ∷ xs) zero d low passes = sym (ap (λ b. b || list_any test (map f xs)) passes)
any_at f test (x ∷ xs) (suc k) d low passes = go (test (f x)) (any_at f test xs k d (omega (arith, low)) passes)
  where
    go : (b : Bool) → true ≡ list_any test (map f xs) → true ≡ (b || list_any test (map f xs))
    go true later = refl
    go false later = later

abbrev pub some_finding : BrokenRuleCode
some_finding = record { program = 0; point = 0; rule = rules.StartsWithin }

abbrev pub In : BrokenRule → List BrokenRule → Type 0
In f [] = ⊥
In f (g ∷ fs) = (f ≡ g) ⊎ In f fs

pub record Found (test : BrokenRule → Bool) (fs : List BrokenRule) : Type 0 where
  pub found : BrokenRule
  pub is_in : In found fs
  pub passes : test found ≡ true

pub any_found : (test : BrokenRule → Bool) (fs : List BrokenRule) → list_any test fs ≡ true → Found test fs
any_found test [] any = absurd cc
any_found test (f ∷ fs) any = go (test f) refl any (any_found test fs)
  where
    go : (b : Bool) → test f ≡ b → (b || list_any test fs) ≡ true → (list_any test fs ≡ true → Found test fs) → Found test (f ∷ fs)
    go true is any later = record { found = f; is_in = inl refl; passes = is }
    go false is any later = let among : Found test fs = later any in record { found = among.found; is_in = inr among.is_in; passes = among.passes }

in_longer : (f g : BrokenRule) (fs : List BrokenRule) → In f (fs ++ (g ∷ [])) → In f fs ⊎ (f ≡ g)
in_longer f g [] (inl same) = inr same
in_longer f g [] (inr none) = absurd none
in_longer f g (h ∷ fs) (inl same) = inl (inl same)
in_longer f g (h ∷ fs) (inr more) = elim (in_longer f g fs more) [
  | inl before ↦ inl (inr before)
  | inr last ↦ inr last
]

second_empty : (first second : List ℕ) → first ++ second ≡ [] → second ≡ []
second_empty [] second is = is
second_empty (byte ∷ first) second is = absurd cc

module _ (plan : Plan) (c : Certificate) (all : List BrokenRule) where
  -- the point of a finding that covers another comes before
  pub earlier : (g f : BrokenRule) → covers plan c g f ≡ true → g.point < f.point
  earlier g f is =
      let alike = leads_alike plan c g.program g.point f.point in
      let bounded = is_some (bound_at c (program_name plan g.program) g.point) in
      let before = nat_lt g.point f.point in
      let same = is_of_reach g && is_of_reach f && (g.program == f.program) in
      let without = both_left (same && before && bounded) alike is in
      ltb-true g.point f.point (both_right same before (both_left (same && before) bounded without))

  -- Not all are counted: one that is has one before it.
  module _ (counted : (f : BrokenRule) → In f all → is_counted plan c all f ≡ true) where
    none_before : (n : ℕ) (f : BrokenRule) → In f all → f.point < n → ⊥
    none_before zero f is_in low = absurd (omega (arith, low))
    none_before (suc n) f is_in low =
        let any = both_right (is_of_reach f) (list_any (λ g. covers plan c g f) all) (counted f is_in) in
        let before : Found (λ g. covers plan c g f) all = any_found (λ g. covers plan c g f) all any in
        let less = earlier before.found f before.passes in
        none_before n before.found before.is_in (omega (arith, less, low))

  untold_counted : (last : Option BrokenRule) (fs : List BrokenRule) (told : List ℕ) → TellsEach plan c all last fs told → told ≡ []
      → (f : BrokenRule) → In f fs → is_counted plan c all f ≡ true
  untold_counted end findings text none_yet is f is_in = absurd is_in
  untold_counted end findings text (one_more {last} {fs} {told} g head sentence each own has) is f is_in =
      let others = others_text (count_under plan c all g) in
      let line = second_empty told (head ++ (finding_text g sentence ++ others)) is in
      let behind = second_empty head (finding_text g sentence ++ others) line in
      absurd cc
  untold_counted end findings text (one_counted {last} {fs} {told} g each is_so) is f is_in = elim (in_longer f g fs is_in) [
    | inl among ↦ untold_counted last fs told each is f among
    | inr same ↦ ap (is_counted plan c all) same ∙ is_so
  ]

pub some_told : (plan : Plan) (c : Certificate) (f : BrokenRule) (fs : List BrokenRule) (last : Option BrokenRule) (told : List ℕ)
    → TellsEach plan c (f ∷ fs) last (f ∷ fs) told → told ≡ [] → ⊥
some_told plan c f fs last told each is =
    none_before plan c (f ∷ fs) (untold_counted plan c (f ∷ fs) last (f ∷ fs) told each is) (suc f.point) f (inl refl) (omega arith)
