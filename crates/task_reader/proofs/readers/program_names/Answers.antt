use Rattle.std.proofs.Common.{◌+◌, ◌++◌, ◌∷◌, [], List, map, drop, ap, sym, ◌∙◌, append_assoc, append-nil}
use Rattle.std.proofs.lemmas.List.{at_drop_all, at_drop_more, map-append}
use Rattle.task_reader.specs.declared.written.WrittenProgram.{WrittenProgram as ProgramCode}
use Rattle.task_reader.specs.Written.{names_of_programs}
use Rattle.task_reader.specs.WrittenViews.{programs_seen}
use Rattle.task_reader.proofs.readers.program_names.Goals as goal

pub loop-program-preserved : goal.loop-program-preserved
loop-program-preserved c =
    let programs = c.args.programs.now in
    let i = c.loop-program.program-index in
    let item = c.program-item.result in
    let names = c.loop-program.names.items in
    let left = names_of_programs (programs_seen (drop (i + 1) programs)) in
    c.loop-program.invariant
    ∙ ap (λ rest. map (λ n. n.now) names ++ rest)
    (at_drop_more (λ (ps : List ProgramCode). names_of_programs (programs_seen ps)) programs i item c.loop-program-test.true ∙ ap (λ (p : ProgramCode). p.name.now ∷ left) (sym c.program-item.is))
    ∙ sym (append_assoc (map (λ n. n.now) names) (item.name.now ∷ []) left)
    ∙ ap (λ more. more ++ left) (sym (ap (map (λ n. n.now)) c.in_ok-push.ensures.items ∙ map-append (λ n. n.now) names (item.name ∷ [])))

pub returns : goal.returns
returns c =
    sym (c.loop-program.invariant
    ∙ ap (λ rest. map (λ n. n.now) c.loop-program.names.items ++ rest)
    (at_drop_all (λ (ps : List ProgramCode). names_of_programs (programs_seen ps)) c.args.programs.now c.loop-program.program-index c.loop-program-test.false)
    ∙ append-nil (map (λ n. n.now) c.loop-program.names.items))
