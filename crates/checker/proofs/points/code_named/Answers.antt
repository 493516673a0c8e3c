use Rattle.std.proofs.Common.{◌∙◌, ap, sym, rules, tests}
use Rattle.std.proofs.lemmas.Iterator.{YieldsList-from_slice}
use Rattle.std.specs.Prelude.{option_map}
use Rattle.std.specs.Str.{bytes_eq}
use Rattle.rules.specs.Expansions.{code_named}
use Rattle.task.specs.Plans.{NamedProgram, code_in}
use Rattle.task.specs.Views.{program_of, programs_of}
use Rattle.checker.proofs.Folds.{find_seen}
use Rattle.checker.proofs.Found.{code_found}
use Rattle.checker.proofs.KnownLimits.{all_known}
use Rattle.checker.proofs.points.code_named.Goals as goal

pub returns-in-None-clause-code : goal.returns-in-None-clause-code
returns-in-None-clause-code c =
    let programs = c.programs.result.now in
    let found = find_seen (λ (p : NamedProgram). bytes_eq p.name c.args.name.now) program_of programs _ _ _ c.find.ensures.ran (YieldsList-from_slice programs cc)
    (λ x b q k. search (rules, tests)) in
    ap code_in (ap (option_map (λ x. program_of x.now)) (sym c.in-None.is) ∙ found) ∙ code_found c.args.name.now (programs_of programs)
    ∙ ap (λ programs. code_named programs c.args.name.now) c.programs.ensures.programs

pub returns-in-Some-clause-code : goal.returns-in-Some-clause-code
returns-in-Some-clause-code c =
    let programs = c.programs.result.now in
    let found = find_seen (λ (p : NamedProgram). bytes_eq p.name c.args.name.now) program_of programs _ _ _ c.find.ensures.ran (YieldsList-from_slice programs cc)
    (λ x b q k. search (rules, tests)) in
    c.code.ensures.value ∙ ap code_in (ap (option_map (λ x. program_of x.now)) (sym c.in-Some.is) ∙ found) ∙ code_found c.args.name.now (programs_of programs)
    ∙ ap (λ programs. code_named programs c.args.name.now) c.programs.ensures.programs

pub returns-in-Some-clause-known : goal.returns-in-Some-clause-known
returns-in-Some-clause-known c = all_known c.code.result.now c.code.ensures.value c.code.ensures.valid
