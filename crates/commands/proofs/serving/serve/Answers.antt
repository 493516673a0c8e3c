use Rattle.std.proofs.Common.{map, subst, ℕ}
use Rattle.std.specs.Prelude.{string_bytes}
use Rattle.console.specs.FaultViews.{fault_of}
use Rattle.commands.specs.Served.{Serves}
use Rattle.commands.proofs.Begun.{words-begun}
use Rattle.commands.proofs.Verdicts.{served-inside}
use Rattle.commands.proofs.serving.serve.Goals as goal

pub returns-in-Err-clause-stopped : goal.returns-in-Err-clause-stopped
returns-in-Err-clause-stopped g c stopped =
    words-begun (g.S.Source.files c.args.files.now) (map string_bytes c.args.words.now) (g.W.Out.taken c.args.out.now) (g.W.Out.taken c.serve_words.new.out)
    (g.W.Out.faults c.args.out.now) (g.W.Out.faults c.serve_words.new.out) (fault_of c.in-Err.fault) c.in-Err.ensures.fails

pub returns-in-Ok-clause-inside : goal.returns-in-Ok-clause-inside
returns-in-Ok-clause-inside g c = λ zero task certificate asks.
    let files = g.S.Source.files c.args.files.now in
    let words = map string_bytes c.args.words.now in
    let before = g.W.Out.taken c.args.out.now in
    let after = g.W.Out.taken c.serve_words.new.out in
    served-inside files words before after task certificate (subst (λ (status : ℕ). Serves files words status before after) zero c.in-Ok.ensures.done) asks
