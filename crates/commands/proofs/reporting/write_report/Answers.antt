use Rattle.std.proofs.Common.{ℕ, map}
use Rattle.std.specs.Prelude.{Ok}
use Rattle.certificate_text.specs.Pieces.{in_order}
use Rattle.certificate_text.proofs.Loops.{loop-end, loop-failed, loop-next}
use Rattle.certificate_text.proofs.Written.{passed_on, written-as}
use Rattle.commands.specs.Reports.{program_lines}
use Rattle.task.specs.Views.{grants_of, program_of, programs_of}
use Rattle.commands.proofs.Listings.{report-as}
use Rattle.commands.proofs.reporting.write_report.Goals as goal

pub returns-in_err-write_program : goal.returns-in_err-write_program
returns-in_err-write_program g c =
    let programs = c.programs-program-items.result.now in
    let lines = λ (n : ℕ). program_lines c.further_rights-wide.result (grants_of c.grants-grants.result.now) c.args.cert.now in
    written-as _ _ _ _ _ _ _
    (report-as c.args.task.now c.args.cert.now c.further_rights-wide.result (grants_of c.grants-grants.result.now) (programs_of programs)
    c.further_rights-wide.ensures c.grants-grants.ensures c.programs-program-items.ensures.programs)
    (loop-failed program_of lines programs _ _ _ _ _ _ c.loop-program.program-index (in_order lines 0 (map program_of programs))
    c.program-item.result c.loop-program-test.true c.program-item.is c.loop-program.invariant
    c.in_err-write_program.field-0.0 _ (passed_on _ _ c.from_residual.ensures) c.in_err-write_program.ensures)

pub loop-program-preserved : goal.loop-program-preserved
loop-program-preserved g c =
    let programs = c.programs-program-items.result.now in
    let lines = λ (n : ℕ). program_lines c.further_rights-wide.result (grants_of c.grants-grants.result.now) c.args.cert.now in
    loop-next program_of lines programs _ _ _ _ _ _ c.loop-program.program-index (in_order lines 0 (map program_of programs))
    c.program-item.result c.loop-program-test.true c.program-item.is c.loop-program.invariant
    c.in_ok-write_program.field-0 c.in_ok-write_program.ensures

pub returns : goal.returns
returns g c =
    let programs = c.programs-program-items.result.now in
    let lines = λ (n : ℕ). program_lines c.further_rights-wide.result (grants_of c.grants-grants.result.now) c.args.cert.now in
    written-as (Ok tt) _ _ _ _ _ _
    (report-as c.args.task.now c.args.cert.now c.further_rights-wide.result (grants_of c.grants-grants.result.now) (programs_of programs)
    c.further_rights-wide.ensures c.grants-grants.ensures c.programs-program-items.ensures.programs)
    (loop-end program_of lines programs _ _ _ _ c.loop-program.program-index _ tt c.loop-program-test.false c.loop-program.invariant)
