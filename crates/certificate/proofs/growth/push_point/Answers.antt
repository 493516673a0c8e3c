use Rattle.std.proofs.Common.{◌∷◌, ◌++◌, [], ap, ◌∙◌}
use Rattle.std.proofs.lemmas.List.{map-append}
use Rattle.certificate.specs.Views.{point_of, points_of}
use Rattle.certificate.proofs.Outcomes.{on_err, on_ok}
use Rattle.certificate.proofs.growth.push_point.Goals as goal

pub returns-clause-ok : goal.returns-clause-ok
returns-clause-ok c =
    let old = c.args.points.now.items in
    on_ok c.add.result _ _
    (λ is. ap points_of is ∙ map-append point_of old (c.begins.result ∷ []) ∙ ap (λ one. points_of old ++ one ∷ []) c.begins.ensures)
    c.add.ensures.ok

pub returns-clause-err : goal.returns-clause-err
returns-clause-err c = on_err c.add.result _ _ (λ is. ap points_of is) c.add.ensures.err
