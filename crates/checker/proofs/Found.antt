-- What is looked up by a name, a number or a test is the first of a list that passes.
use Rattle.std.proofs.Common.{◌≡◌, ℕ, List, [], ◌∷◌, ap, refl, sym, true, false, ◌∙◌}
use Rattle.std.specs.Prelude.{◌==◌, Bool, None, Option, Some, cond, if◌then◌else◌, not, option_map}
use Rattle.std.specs.List.{find}
use Rattle.std.specs.Option.{MatchOption}
use Rattle.std.specs.Str.{bytes_eq}
use Rattle.certificate.specs.Bounds.{Authority, Ceiling}
use Rattle.checker.specs.Asked.{first_unkept, is_rule_kept}
use Rattle.rules.specs.Authority.{authority_in, ceiling_in}
use Rattle.rules.specs.Expansions.{code_named}
use Rattle.rules.specs.Rules.{Test}
use Rattle.task.specs.Begins.{with_number}
use Rattle.task.specs.Plans.{FirstDescriptor, NamedProgram, code_in}

pub number_found : (n : ℕ) (descriptors : List FirstDescriptor) → find (λ (d : FirstDescriptor). d.number == n) descriptors ≡ with_number n descriptors
number_found n [] = refl
number_found n (d ∷ descriptors) = ap (λ o. if d.number == n then Some d else o) (number_found n descriptors)

pub unkept_found : (ts : List Test) (rules : List ℕ) → find (λ rule. not (is_rule_kept ts rule)) rules ≡ first_unkept ts rules
unkept_found ts [] = refl
unkept_found ts (rule ∷ rules) = go (is_rule_kept ts rule) (unkept_found ts rules)
  where
    go : (kept : Bool) → find (λ rule. not (is_rule_kept ts rule)) rules ≡ first_unkept ts rules
        → cond (not kept) (Some rule) (find (λ rule. not (is_rule_kept ts rule)) rules) ≡ cond kept (first_unkept ts rules) (Some rule)
    go true rest = rest
    go false rest = refl

abbrev pub rights_of : Option Ceiling → ℕ
rights_of None = 0
rights_of (Some c) = c.rights

module _ (name : List ℕ) where
  pub code_found : (programs : List NamedProgram) → code_in (find (λ (p : NamedProgram). bytes_eq p.name name) programs) ≡ code_named programs name
  unfolding code_named
  code_found [] = refl
  code_found (p ∷ programs) = go (bytes_eq p.name name) (code_found programs)
    where
      go : (here : Bool) → code_in (find (λ (p : NamedProgram). bytes_eq p.name name) programs) ≡ code_named programs name
          → code_in (cond here (Some p) (find (λ (p : NamedProgram). bytes_eq p.name name) programs)) ≡ cond here p.code (code_named programs name)
      go true rest = refl
      go false rest = rest

  pub rights_found : (ceilings : List Ceiling) → rights_of (find (λ (c : Ceiling). bytes_eq c.grant name) ceilings) ≡ ceiling_in ceilings name
  unfolding ceiling_in
  rights_found [] = refl
  rights_found (c ∷ ceilings) = go (bytes_eq c.grant name) (rights_found ceilings)
    where
      go : (here : Bool) → rights_of (find (λ (c : Ceiling). bytes_eq c.grant name) ceilings) ≡ ceiling_in ceilings name
          → rights_of (cond here (Some c) (find (λ (c : Ceiling). bytes_eq c.grant name) ceilings)) ≡ cond here c.rights (ceiling_in ceilings name)
      go true rest = refl
      go false rest = rest

  abbrev nothing : Authority
  nothing = record { program = name; ceilings = []; holds = [] }

  abbrev or_nothing : Option Authority → Authority
  or_nothing None = nothing
  or_nothing (Some a) = a

  first_named : (authorities : List Authority) → or_nothing (find (λ (a : Authority). bytes_eq a.program name) authorities) ≡ authority_in authorities name
  unfolding authority_in
  first_named [] = refl
  first_named (a ∷ authorities) = go (bytes_eq a.program name) (first_named authorities)
    where
      go : (here : Bool) → or_nothing (find (λ (a : Authority). bytes_eq a.program name) authorities) ≡ authority_in authorities name
          → or_nothing (cond here (Some a) (find (λ (a : Authority). bytes_eq a.program name) authorities)) ≡ cond here a (authority_in authorities name)
      go true rest = refl
      go false rest = rest

  pub authority_found : {A : Type 0} (seen : A → Authority) (found : Option A) (authorities : List Authority)
      → option_map seen found ≡ find (λ (a : Authority). bytes_eq a.program name) authorities
      → MatchOption found (authority_in authorities name ≡ record { program = name; ceilings = []; holds = [] }) (λ a. seen a ≡ authority_in authorities name)
  authority_found seen None authorities is = sym (first_named authorities) ∙ ap or_nothing (sym is)
  authority_found seen (Some a) authorities is = ap or_nothing is ∙ first_named authorities
