use Rattle.std.proofs.Common.{sym, ◌∙◌, ap}
use Rattle.certificate.specs.Bounds.{Certificate}
use Rattle.searcher.specs.Shortening.{short_form}
use Rattle.searcher.proofs.Shortened.{short_is_versioned, short_twice}
use Rattle.searcher.proofs.searching.preferred.Goals as goal

pub returns-then-is_accepted-clause-version : goal.returns-then-is_accepted-clause-version
returns-then-is_accepted-clause-version c =
    ap (λ (d : Certificate). d.version) c.in_ok-short.ensures ∙ short_is_versioned c.args.task.now c.args.cert

pub returns-then-is_accepted-clause-short : goal.returns-then-is_accepted-clause-short
returns-then-is_accepted-clause-short c =
    λ accepted. c.in_ok-short.ensures ∙ sym (short_twice c.args.task.now c.args.cert) ∙ ap (short_form c.args.task.now) (sym c.in_ok-short.ensures)
