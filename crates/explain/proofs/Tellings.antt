-- Findings that are told one after another.
use Rattle.std.proofs.Common.{◌≡◌, ℕ, Bool, true, false, List, [], ◌∷◌, ◌++◌, Option, Some, None, length, map, ap, sym, subst, ◌∙◌}
use Rattle.std.specs.Prelude.{◌==◌, Result, Ok, Err, IfOk, OnOk, codes, if◌then◌else◌, min, ◌^◌, ◌-◌}
use Rattle.std.specs.Fmt.{decimal}
use Rattle.std.specs.declared.vec.Vec.{Vec}
use Rattle.std.specs.declared.alloc.Global.{Global}
use Rattle.std.proofs.lemmas.Bool.{eqb-true, ne_eqb}
use Rattle.std.proofs.lemmas.List.{append_assoc, append-nil, nil_from_length}
use Rattle.certificate.specs.Bounds.{Certificate}
use Rattle.checker.specs.Findings.{BrokenRule}
use Rattle.checker.specs.FindingViews.{broken_rule_of}
use Rattle.checker.specs.declared.findings.BrokenRule.{BrokenRule as BrokenRuleCode}
use Rattle.task.specs.Plans.{Plan}
use Rattle.texts.specs.PageViews.{Adds}
use Rattle.texts.specs.declared.pages.Page.{Page}
use Rattle.explain.specs.Covering.{count_under, is_counted}
use Rattle.explain.specs.Telling.{HasHead, Tells, TellsAll, TellsEach, none_yet, one_more, one_counted, finding_text, is_same_point, no_rule_broken, others_text}

pub adds_none : (p : Page) → Adds p p []
adds_none p = record { keeps = λ whole. whole; adds = λ whole. sym (append-nil p.bytes.items) }

pub adds_then : (p q r : Page) (a b : List ℕ) → Adds p q a → Adds q r b → Adds p r (a ++ b)
adds_then p q r a b first second = record {
  keeps = λ whole. first.keeps (second.keeps whole);
  adds = λ whole. second.adds whole ∙ (ap (λ text. text ++ b) (first.adds (second.keeps whole)) ∙ append_assoc p.bytes.items a b);
}

-- these are told on a page, behind what it had
pub record ToldSoFar (plan : Plan) (c : Certificate) (all : List BrokenRule) (before after : Page) (last : Option BrokenRule) (fs : List BrokenRule) : Type 0 where
  pub told : List ℕ
  pub each : TellsEach plan c all last fs told
  pub adds : Adds before after told

module _ (plan : Plan) (c : Certificate) (all : List BrokenRule) where
  -- what is told next
  abbrev pub Next : Page → Page → Option BrokenRule → BrokenRule → List BrokenRule → List ℕ → Type 0
  Next p q next f fs before = (told : List ℕ) × Adds p q told × TellsEach plan c all next (fs ++ (f ∷ [])) (before ++ told)

  pub passed_next : (p : Page) (last : Option BrokenRule) (f : BrokenRule) → is_counted plan c all f ≡ true → (fs : List BrokenRule) (before : List ℕ)
      → TellsEach plan c all last fs before → Next p p last f fs before
  passed_next p last f counted fs before each =
      ([], adds_none p, subst (λ (text : List ℕ). TellsEach plan c all last (fs ++ (f ∷ [])) text) (sym (append-nil before)) (one_counted f each counted))

  pub told_next : (p q : Page) (last : Option BrokenRule) (f : BrokenRule) (head sentence : List ℕ) → is_counted plan c all f ≡ false
      → HasHead plan f (is_same_point last f) head → Adds p q (head ++ (finding_text f sentence ++ others_text (count_under plan c all f)))
      → (fs : List BrokenRule) (before : List ℕ) → TellsEach plan c all last fs before → Next p q (Some f) f fs before
  told_next p q last f head sentence own has adds fs before each =
      (head ++ (finding_text f sentence ++ others_text (count_under plan c all f)), adds, one_more f head sentence each own has)

  pub none_told : (p : Page) → ToldSoFar plan c all p p None []
  none_told p = record { told = []; each = none_yet; adds = adds_none p }

  pub one_told : (p q r : Page) (last next : Option BrokenRule) (fs : List BrokenRule) (f : BrokenRule) (so_far : ToldSoFar plan c all p q last fs)
      → Next q r next f fs so_far.told → ToldSoFar plan c all p r next (fs ++ (f ∷ []))
  one_told p q r last next fs f so_far step =
      record { told = so_far.told ++ step.0; each = step.2; adds = adds_then p q r so_far.told step.0 so_far.adds step.1 }

pub some_others : (p q : Page) (n : ℕ) → (n ≡ 0 → ⊥)
    → Adds p q (codes "    later points that lead to no other without a bound, not told: " ++ (decimal (min n (2 ^ 32 - 1)) ++ codes "\n")) → Adds p q (others_text n)
some_others p q n some adds =
    subst (λ (none : Bool). Adds p q (if none then [] else codes "    later points that lead to no other without a bound, not told: " ++ decimal (min n (2 ^ 32 - 1)) ++ codes "\n"))
    (sym (ne_eqb n 0 some)) adds

-- where there is memory for all of a text
both_ok : {X E : Type 0} (r : Result X E) (P Q : X → Type 0) (W : Type 0) → ((x : X) → P x → W → Q x) → IfOk r P → OnOk r W → IfOk r Q
both_ok (Ok x) P Q W step is whole = step x is whole
both_ok (Err e) P Q W step is whole = is

none_found : (plan : Plan) (c : Certificate) (found : List BrokenRuleCode) (text : List ℕ) → (length found == 0) ≡ true → text ≡ no_rule_broken
    → Tells plan c (map broken_rule_of found) text
unfolding Tells
none_found plan c found text empty is =
    subst (λ (fs : List BrokenRuleCode). Tells plan c (map broken_rule_of fs) text) (sym (nil_from_length found (eqb-true (length found) 0 empty))) is

some_found : (plan : Plan) (c : Certificate) (found : List BrokenRuleCode) (text : List ℕ) → (length found == 0) ≡ false
    → TellsAll plan c (map broken_rule_of found) text → Tells plan c (map broken_rule_of found) text
unfolding Tells
some_found plan c [] text some tells = absurd cc
some_found plan c (f ∷ found) text some tells = tells

pub tells_none : {E : Type 0} (plan : Plan) (c : Certificate) (found : List BrokenRuleCode) (p q : Page) (r : Result (Vec ℕ Global) E) → p.bytes.items ≡ []
    → (length found == 0) ≡ true → Adds p q no_rule_broken → IfOk r (λ text. text.items ≡ q.bytes.items) → OnOk r (q.is_short ≡ false)
    → IfOk r (λ text. Tells plan c (map broken_rule_of found) text.items)
tells_none plan c found p q r begun empty adds is whole =
    both_ok r _ _ _
    (λ text same long. none_found plan c found text.items empty (same ∙ (adds.adds long ∙ ap (λ before. before ++ no_rule_broken) begun))) is whole

pub tells_some : {E : Type 0} (plan : Plan) (c : Certificate) (found : List BrokenRuleCode) (p q : Page) (r : Result (Vec ℕ Global) E)
    (last : Option BrokenRule) (told : List ℕ) → (length found == 0) ≡ false
    → TellsEach plan c (map broken_rule_of found) last (map broken_rule_of found) told → Adds p q told
    → IfOk r (λ text. text.items ≡ q.bytes.items) → OnOk r (q.is_short ≡ false) → IfOk r (λ text. Tells plan c (map broken_rule_of found) text.items)
tells_some plan c found p q r last told some each adds is whole =
    both_ok r _ _ _
    (λ text same long. some_found plan c found text.items some
    (record { last = last; before = p.bytes.items; told = told; each = each; whole = same ∙ adds.adds long })) is whole
