use Rattle.std.proofs.Common.{◌≡◌, ◌∙◌, ap, sym}
use Rattle.std.specs.Prelude.{map}
use Rattle.std.specs.List.{list_all}
use Rattle.std.proofs.lemmas.List.Folds.{list_all-map}
use Rattle.std.proofs.lemmas.List.Sums.{AllPass-from_list_all}
use Rattle.std.proofs.lemmas.Simd.{map-map}
use Rattle.certificate.specs.Lines.{is_ceiling}
use Rattle.rights.specs.Operations.{Operation}
use Rattle.rights.specs.RightViews.{right_operation_seen}
use Rattle.rights.specs.Values.{RightSet}
use Rattle.rights.specs.declared.operations.RightOperation.{RightOperation}
use Rattle.task.specs.Views.{grants_of}
use Rattle.texts.specs.Views.{name_of}
use Rattle.remarks.specs.Beyond.{rights_of_operations, unlisted_among}
use Rattle.remarks.proofs.beyond.unlisted_rights.Goals as goal

pub unlisted_among-requires : goal.unlisted_among-requires
unlisted_among-requires c =
    let rows = c.operations_of_rights.result.now in
    let is_one = λ (o : RightSet × Operation). is_ceiling o.0 in
    AllPass-from_list_all (λ (o : RightOperation). is_ceiling o.right.0) rows
    (sym (list_all-map is_one right_operation_seen rows) ∙ ap (list_all is_one) c.operations_of_rights.ensures)

pub returns : goal.returns
returns c =
    let rows = c.operations_of_rights.result.now in
    let same : map (λ (o : RightOperation). o.right.0) rows ≡ rights_of_operations =
    sym (map-map (λ (o : RightSet × Operation). o.0) right_operation_seen rows) ∙ ap (map (λ (o : RightSet × Operation). o.0)) c.operations_of_rights.ensures in
    c.unlisted_among.ensures ∙ ap (unlisted_among c.args.wide (grants_of c.args.grants.now) (name_of c.args.grant.now) c.args.held.0) same
