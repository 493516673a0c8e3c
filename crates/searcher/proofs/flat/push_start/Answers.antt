use Rattle.std.proofs.Common.{◌≡◌, refl, ◌∙◌, ap, sym, subst}
use Rattle.std.specs.Prelude.{Some}
use Rattle.std.specs.List.{slice_get}
use Rattle.std.specs.Option.{option_map}
use Rattle.std.proofs.lemmas.Option.{slice_get-map, slice_get_read}
use Rattle.certificate.specs.Growths.{grown_by}
use Rattle.certificate.specs.GrowthViews.{Grows}
use Rattle.certificate.specs.Told.{told_bound}
use Rattle.certificate.specs.Views.{bound_of}
use Rattle.searcher.specs.Flat.{flat_bound, points_from}
use Rattle.task.specs.Plans.{code_in, name_in}
use Rattle.task.specs.Views.{program_of, start_of}
use Rattle.searcher.proofs.ToldFlat.{flat_stays}
use Rattle.searcher.proofs.flat.push_start.Goals as goal

pub returns-in-Some : goal.returns-in-Some
returns-in-Some c =
    let plan = c.args.task.now in
    let s = start_of c.args.start.now in
    let v = c.args.cert.now.version in
    let program = c.in-Some.program.now in
    let read = c.in-Some.ensures.lookup in
    let own : slice_get c.programs.result.now s.program ≡ Some program = slice_get_read c.programs.result.now _ s.program program refl read.3.0 read.1 in
    let there : slice_get plan.programs s.program ≡ Some (program_of program) =
    ap (λ programs. slice_get programs s.program) (sym c.programs.ensures.programs) ∙ slice_get-map program_of c.programs.result.now s.program ∙ ap (option_map program_of) own in
    let code = c.code.ensures.value ∙ ap code_in (sym there) in
    let same : told_bound v (bound_of c.flat_bound-bound.result) ≡ flat_bound plan s = ap (told_bound v) c.flat_bound-bound.ensures ∙ flat_stays v plan s c.requires.version in
    subst (Grows c.push_points.result c.push_points.new.cert) (λ k. grown_by (points_from (name_in (sym there k)) (same k) 0 (code k)) c.args.cert.now) c.push_points.ensures
