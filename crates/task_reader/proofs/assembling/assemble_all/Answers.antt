use Rattle.std.proofs.Common.{◌≡◌, ◌+◌, ◌++◌, ◌∷◌, [], ◌≤◌, length, drop, sym, ap, subst, ◌∙◌, arith}
use Rattle.std.proofs.lemmas.List.{drop_all, length-append, length-map, map-append}
use Rattle.std.proofs.lemmas.Result.{err_from_is_err_and}
use Rattle.rights.specs.Limits.{most_programs}
use Rattle.task.specs.Views.{program_of, programs_of}
use Rattle.task_reader.specs.FaultViews.{FaultIs}
use Rattle.task_reader.specs.Reading.{all_assembled, assembled}
use Rattle.task_reader.specs.WrittenViews.{program_seen, programs_seen}
use Rattle.task_reader.specs.declared.written.WrittenProgram.{WrittenProgram as ProgramCode}
use Rattle.std.specs.Prelude.{Ok}
use Rattle.task_reader.proofs.Passing.{after, few, few-fails, few-more, few-past, few-whole}
use Rattle.task_reader.proofs.assembling.assemble_all.Goals.{then-len-lt-MAX_PROGRAMS+in_ok-push, else-len-lt-MAX_PROGRAMS}
use Rattle.task_reader.proofs.assembling.assemble_all.Goals as goal

pub loop-program-preserved : goal.loop-program-preserved
loop-program-preserved c =
    let before = c.loop-program.programs.items in
    let at = c.loop-program.program-index in
    let program = c.in_ok-assembled.assembled in
    let item = c.program-item.result in
    let here = subst (λ (p : ProgramCode). assembled c.args.wide (program_seen p) ≡ Ok (program_of program)) c.program-item.is c.in_ok-assembled.ensures in
    let rest = all_assembled c.args.wide (programs_seen (drop (at + 1) c.args.written.now)) in
    let count = c.len.ensures ∙ c.loop-program.programs.ok.0 in
    elim c.if-len-lt-MAX_PROGRAMS.branch [
      | then-len-lt-MAX_PROGRAMS+in_ok-push w ↦
          let items : c.if-len-lt-MAX_PROGRAMS.programs.items ≡ before ++ program ∷ [] = ap (λ v. v.items) w.programs-is ∙ w.in_ok-push.ensures.items in
          let below = w.if-len-lt-MAX_PROGRAMS.true in
          let long = ap length items ∙ length-append before (program ∷ []) in (
            c.loop-program.invariant.0
                ∙ few-more c.args.wide c.args.written.now at item (programs_of before) (program_of program) c.loop-program-test.true here
                ∙ ap (λ ps. few (after ps rest)) (sym (ap programs_of items ∙ map-append program_of before (program ∷ []))),
            omega arith,
          )
      | else-len-lt-MAX_PROGRAMS w ↦
          let full = w.if-len-lt-MAX_PROGRAMS.false in
          let same : length (programs_of before) ≡ length before = length-map before program_of in
          let enough : most_programs ≤ length (programs_of before) = omega arith in
          let kept = ap (λ v. v.items) w.programs-is in
          let long = ap length kept in (
            c.loop-program.invariant.0
                ∙ few-past c.args.wide c.args.written.now at item (programs_of before) (program_of program) c.loop-program-test.true enough here
                ∙ ap (λ ps. few (after (programs_of ps) rest)) (sym kept),
            (let few_still = c.loop-program.invariant.1 in omega arith),
          )
    ]

pub returns-in_err-assembled : goal.returns-in_err-assembled
returns-in_err-assembled c =
    let p = err_from_is_err_and c.from_residual.result c.from_residual.ensures.1 in
    let error = c.in_err-assembled.field-0.0 in
    let so_far = programs_of c.loop-program.programs.items in
    let here = subst (λ (p : ProgramCode). FaultIs error (assembled c.args.wide (program_seen p))) c.program-item.is c.in_err-assembled.ensures in
    rw (p.1, p.2) (subst (FaultIs error) (sym c.loop-program.invariant.0)
    (few-fails c.args.wide error c.args.written.now c.loop-program.program-index c.program-item.result so_far c.loop-program-test.true here))

pub returns : goal.returns
returns c =
    let written = c.args.written.now in
    let programs = c.loop-program.programs.items in
    let all : drop c.loop-program.program-index written ≡ [] = drop_all _ written c.loop-program-test.false in
    let short : length (programs_of programs) ≤ most_programs = omega (arith, length-map programs program_of, c.loop-program.invariant.1) in
    c.loop-program.invariant.0
    ∙ ap (λ rest. few (after (programs_of programs) (all_assembled c.args.wide (programs_seen rest)))) all
    ∙ few-whole (programs_of programs) short
