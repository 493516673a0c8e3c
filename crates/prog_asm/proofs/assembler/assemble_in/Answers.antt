use Rattle.std.proofs.Common.{ap, sym, ◌∙◌, subst}
use Rattle.std.specs.List.{slice_get}
use Rattle.std.specs.Prelude.{Ok}
use Rattle.instruction_set.specs.Assembly.{assembly_in}
use Rattle.instruction_set.specs.Views.{code_of}
use Rattle.prog_asm.specs.FaultViews.{FaultIs}
use Rattle.prog_asm.specs.LineFaults.{fault_in, first_fault}
use Rattle.prog_asm.proofs.Assembled.{fault-is, first-seen, none-seen, program-is}
use Rattle.prog_asm.proofs.GoodPrograms.{assembly-good, draft-few}
use Rattle.prog_asm.proofs.JudgedLaws.{faults-first}
use Rattle.prog_asm.proofs.assembler.assemble_in.Goals as goal

pub returns-in-Some : goal.returns-in-Some
returns-in-Some c =
    let first = c.in-Some.fault.now in
    let told = first-seen c.in_ok-draft.draft.faults.items first (c.in-Some.ensures.value ∙ ap (λ faults. slice_get faults 0) c.deref.ensures.value) in
    subst (λ given. FaultIs given (assembly_in c.args.wide c.args.text.now)) (sym c.first-in-Some.ensures) (fault-is first.mistake first.line (assembly_in c.args.wide c.args.text.now)
    (sym told ∙ ap first_fault c.in_ok-draft.ensures.faults ∙ faults-first c.args.wide c.as_bytes.result.now ∙ ap (λ text. fault_in (assembly_in c.args.wide text)) c.as_bytes.ensures.value))

pub place_all-requires : goal.place_all-requires
place_all-requires c =
    let draft = c.in_ok-draft.draft in
    let read = c.in_ok-draft.ensures.read (none-seen draft.faults.items (c.in_default.ensures.value ∙ ap (λ faults. slice_get faults 0) c.deref.ensures.value)) in
    draft-few c.args.wide c.as_bytes.result.now read.0 draft read.1 read.2

pub new-requires : goal.new-requires
new-requires c =
    let draft = c.in_ok-draft.draft in
    let none = none-seen draft.faults.items (c.in_default.ensures.value ∙ ap (λ faults. slice_get faults 0) c.deref.ensures.value) in
    let read = c.in_ok-draft.ensures.read none in
    assembly-good c.args.wide c.as_bytes.result.now (code_of c.in_ok-code.code.items)
    (program-is c.args.wide c.as_bytes.result.now read.0 draft (sym c.in_ok-draft.ensures.faults ∙ none) read.1 read.2 ∙ ap Ok (sym c.in_ok-code.ensures))

pub returns : goal.returns
returns c =
    let draft = c.in_ok-draft.draft in
    let none = none-seen draft.faults.items (c.in_default.ensures.value ∙ ap (λ faults. slice_get faults 0) c.deref.ensures.value) in
    let read = c.in_ok-draft.ensures.read none in
    ap (assembly_in c.args.wide) (sym c.as_bytes.ensures.value) ∙ program-is c.args.wide c.as_bytes.result.now read.0 draft (sym c.in_ok-draft.ensures.faults ∙ none) read.1 read.2
    ∙ ap Ok (sym c.in_ok-code.ensures ∙ sym c.new.ensures)
