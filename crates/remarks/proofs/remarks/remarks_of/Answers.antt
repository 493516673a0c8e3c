use Rattle.std.proofs.Common.{◌∙◌, ◌++◌, ap, map}
use Rattle.instruction_set.specs.Views.{code_of}
use Rattle.remarks.specs.Listed.{on_code}
use Rattle.remarks.specs.RemarkViews.{bounds_of, remarked_of}
use Rattle.remarks.specs.Warnings.{bounds_in}
use Rattle.task.specs.Views.{program_of, starts_of}
use Rattle.remarks.proofs.remarks.remarks_of.Goals as goal

pub returns : goal.returns
returns c =
    let starts = starts_of c.args.starts.now in
    let bounded = c.in_ok-bounded.bounded in
    let named = program_of c.args.named.now in
    c.in_ok-add_all.ensures
    ∙ ap (λ list. map remarked_of list
    ++ on_code starts c.args.program (code_of bounded.code.now) (bounds_of bounded.bounds.items) c.args.has_cert bounded.untrusted) c.new-list.ensures.items
    ∙ ap (λ code. on_code starts c.args.program code (bounds_of bounded.bounds.items) c.args.has_cert bounded.untrusted) c.in_ok-bounded.ensures.code
    ∙ ap (λ bounds. on_code starts c.args.program named.code bounds c.args.has_cert bounded.untrusted) c.in_ok-bounded.ensures.bounds
    ∙ ap (λ marked. on_code starts c.args.program named.code (bounds_in c.args.cert.now named) c.args.has_cert marked) c.in_ok-bounded.ensures.marked
