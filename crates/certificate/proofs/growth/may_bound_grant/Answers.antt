use Rattle.std.proofs.Common.{◌≡◌, ◌&&◌, ◌++◌, ◌∷◌, [], List, ℕ, Bool, ap, sym, ◌∙◌, true, false, length, map, refl, rules}
use Rattle.std.specs.Prelude.{◌==◌, vec_len}
use Rattle.std.proofs.lemmas.Bool.{eqb-true}
use Rattle.std.proofs.lemmas.List.{nil_from_length}
use Rattle.certificate.specs.declared.authorities.Authority.{Authority as AuthorityCode}
use Rattle.certificate.specs.Bounds.{Authority}
use Rattle.certificate.specs.Growth.{above_ceilings, asked_of_last, has_none, may_bound_grant}
use Rattle.certificate.specs.Views.{authorities_of, authority_of, ceiling_of, held_end_of}
use Rattle.texts.specs.Views.{name_of}
use Rattle.certificate.proofs.Last.{at_last, at_none}
use Rattle.certificate.proofs.LastOnes.{asked-last, asked-none}
use Rattle.certificate.proofs.growth.may_bound_grant.Goals as goal

pub returns-in-None : goal.returns-in-None
returns-in-None c =
    let grant = name_of c.args.grant.now in
    let test = λ (a : Authority). has_none a.holds && above_ceilings a.ceilings grant in
    sym (at_none authority_of (asked_of_last false test) c.args.authorities.now c.in-None.ensures.cases ∙ asked-none false test)

-- whether there are none, by how many there are
none_by_length : {A B : Type 0} (f : A → B) (xs : List A) (is : Bool) → is ≡ (length xs == 0) → has_none (map f xs) ≡ is
none_by_length f xs true same = ap (λ list. has_none (map f list)) (nil_from_length xs (eqb-true (length xs) 0 (sym same)))
none_by_length f [] false same = sym same
none_by_length f (x ∷ xs) false same = refl

asked_at_last : (authorities rest : List AuthorityCode) (last : AuthorityCode) (grant : List ℕ) → authorities ≡ rest ++ last ∷ []
    → may_bound_grant (authorities_of authorities) grant ≡ (has_none (map held_end_of last.holds.items) && above_ceilings (map ceiling_of last.ceilings.items) grant)
asked_at_last authorities rest last grant is =
    let test = λ (a : Authority). has_none a.holds && above_ceilings a.ceilings grant in
    at_last authority_of (asked_of_last false test) test (asked-last false test) authorities rest last is

pub returns-then-is_empty : goal.returns-then-is_empty
returns-then-is_empty c =
    let last = c.in-Some.last.now in
    let grant = name_of c.args.grant.now in
    let counted : vec_len last.holds ≡ length last.holds.items = search rules in
    let no_ends = none_by_length held_end_of last.holds.items true (sym c.if-is_empty.true ∙ c.is_empty.ensures ∙ ap (λ n. n == 0) counted) in
    c.is_above_ceilings.ensures ∙ ap (λ ceilings. above_ceilings (map ceiling_of ceilings) grant) c.deref.ensures.value
    ∙ sym (asked_at_last c.args.authorities.now _ last grant c.in-Some.ensures.cases.0
    ∙ ap (λ b. b && above_ceilings (map ceiling_of last.ceilings.items) grant) no_ends)

pub returns-else-is_empty : goal.returns-else-is_empty
returns-else-is_empty c =
    let last = c.in-Some.last.now in
    let grant = name_of c.args.grant.now in
    let counted : vec_len last.holds ≡ length last.holds.items = search rules in
    let some_ends = none_by_length held_end_of last.holds.items false (sym c.if-is_empty.false ∙ c.is_empty.ensures ∙ ap (λ n. n == 0) counted) in
    c.if-is_empty.false
    ∙ sym (asked_at_last c.args.authorities.now _ last grant c.in-Some.ensures.cases.0
    ∙ ap (λ b. b && above_ceilings (map ceiling_of last.ceilings.items) grant) some_ends)
