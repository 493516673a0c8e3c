use Rattle.std.proofs.Common.{◌≡◌, ◌≢◌, ◌+◌, ◌<◌, length, ap, sym, ◌∙◌, arith, rules}
use Rattle.std.specs.Prelude.{Some}
use Rattle.std.specs.List.{list_any}
use Rattle.std.specs.Str.{bytes_eq}
use Rattle.std.proofs.lemmas.List.{length_push}
use Rattle.rights.specs.Limits.{most_programs}
use Rattle.certificate.specs.CountViews.{programs_listed}
use Rattle.texts.specs.Views.{name_of}
use Rattle.certificate.proofs.Distinct.{listed_full, listed_known, listed_new}
use Rattle.certificate.proofs.Listed.{programs_few, programs_pushed}
use Rattle.certificate.proofs.program_names.ProgramNames.with.Goals as goal

pub returns-then-is_among : goal.returns-then-is_among
returns-then-is_among c =
    let p = c.args.self.now in
    let name = name_of c.args.name.now in
    sym (listed_known bytes_eq most_programs (programs_listed p) name (programs_few p)
    (ap (λ text. list_any (λ y. bytes_eq y text) (programs_listed p)) (sym c.as_bytes.ensures.bytes) ∙ sym c.is_among.ensures ∙ c.if-is_among.true))

pub returns-then-self-eq-MAX_PROGRAMS : goal.returns-then-self-eq-MAX_PROGRAMS
returns-then-self-eq-MAX_PROGRAMS c =
    let p = c.args.self.now in
    let name = name_of c.args.name.now in
    let full : length (programs_listed p) ≡ most_programs = p.filled ∙ c.if-self-eq-MAX_PROGRAMS.true in
    sym (listed_full bytes_eq most_programs (programs_listed p) name full
    (ap (λ text. list_any (λ y. bytes_eq y text) (programs_listed p)) (sym c.as_bytes.ensures.bytes) ∙ sym c.is_among.ensures ∙ c.if-is_among.false))

pub invariant_of-result : goal.invariant_of-result
invariant_of-result c =
    let p = c.args.self.now in
    let not_full : p.count ≢ most_programs = c.if-self-eq-MAX_PROGRAMS.false in
    let few : p.count < most_programs = omega (arith, p.few, not_full) in
    let room : p.count < length p.names = search (rules, few) in
    record {
      few = omega (arith, few);
      filled = ap length (programs_pushed p.count p.names c.args.name.now room) ∙ length_push (programs_listed p) (name_of c.args.name.now) ∙ ap (λ n. n + 1) p.filled;
    }

pub returns : goal.returns
returns c =
    let p = c.args.self.now in
    let name = name_of c.args.name.now in
    let not_full : p.count ≢ most_programs = c.if-self-eq-MAX_PROGRAMS.false in
    let few : length (programs_listed p) < most_programs = omega (arith, p.few, p.filled, not_full) in
    let room : p.count < length p.names = search (rules, few) in
    ap Some (programs_pushed p.count p.names c.args.name.now room)
    ∙ sym (listed_new bytes_eq most_programs (programs_listed p) name few
    (ap (λ text. list_any (λ y. bytes_eq y text) (programs_listed p)) (sym c.as_bytes.ensures.bytes) ∙ sym c.is_among.ensures ∙ c.if-is_among.false))
