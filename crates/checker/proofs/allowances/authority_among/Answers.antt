use Rattle.std.proofs.Common.{rules, tests}
use Rattle.std.proofs.lemmas.Iterator.{YieldsList-from_slice}
use Rattle.std.specs.Str.{bytes_eq}
use Rattle.certificate.specs.Bounds.{Authority}
use Rattle.certificate.specs.Views.{authorities_of, authority_of}
use Rattle.checker.proofs.Folds.{find_seen}
use Rattle.checker.proofs.Found.{authority_found}
use Rattle.checker.proofs.allowances.authority_among.Goals as goal

pub returns : goal.returns
returns c =
    let authorities = c.args.authorities.now in
    authority_found c.args.program.now (λ a. authority_of a.now) c.find.result (authorities_of authorities)
    (find_seen (λ (a : Authority). bytes_eq a.program c.args.program.now) authority_of authorities _ _ _ c.find.ensures.ran (YieldsList-from_slice authorities cc)
    (λ x b q k. search (rules, tests)))
