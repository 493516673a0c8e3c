use Rattle.std.proofs.Common.{subst}
use Rattle.std.specs.Prelude.{Option, IfSome}
use Rattle.certificate.specs.Bounds.{Certificate}
use Rattle.searcher.specs.Shortening.{IsShort}
use Rattle.searcher.proofs.Short.{short_itself}
use Rattle.searcher.proofs.searching.searched.Goals as goal

pub returns-in-Some-clause-short : goal.returns-in-Some-clause-short
returns-in-Some-clause-short c = λ accepted.
    short_itself c.args.task.now c.in-Some.cert
    (subst (λ (o : Option Certificate). IfSome o (λ cert. IsShort c.args.task.now cert)) c.in-Some.is c.in_ok-cert.ensures.short)
