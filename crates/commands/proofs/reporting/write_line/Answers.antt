use Rattle.std.proofs.Common.{◌++◌, codes}
use Rattle.certificate_text.proofs.Written.{passed_on, written-as, written-both, written-front}
use Rattle.commands.proofs.Listings.{place-joined}
use Rattle.commands.specs.Reports.{rights_text}
use Rattle.commands.proofs.reporting.write_line.Goals as goal

pub returns-in_err-write_pieces : goal.returns-in_err-write_pieces
returns-in_err-write_pieces g c =
    let rest = rights_text c.args.set.0 ++ codes "\n" in
    written-as _ _ _ _ _ _ _ (place-joined c.args.program.now c.args.point.now c.args.grant.now (rights_text c.args.set.0))
    (written-front _ _ _ _ _ rest c.in_err-write_pieces.field-0.0 _ (passed_on _ _ c.from_residual.ensures) c.in_err-write_pieces.ensures)

pub returns-in_err-write_rights : goal.returns-in_err-write_rights
returns-in_err-write_rights g c =
    let rest = rights_text c.args.set.0 ++ codes "\n" in
    written-as _ _ _ _ _ _ _ (place-joined c.args.program.now c.args.point.now c.args.grant.now (rights_text c.args.set.0))
    (written-both _ _ _ _ _ _ _ rest _ _ c.in_ok-write_pieces.ensures
    (written-front _ _ _ _ (rights_text c.args.set.0) (codes "\n") c.in_err-write_rights.field-0.0 _
    (passed_on _ _ c.from_residual-in_err-write_rights.ensures) c.in_err-write_rights.ensures))

pub returns : goal.returns
returns g c =
    let rest = rights_text c.args.set.0 ++ codes "\n" in
    written-as _ _ _ _ _ _ _ (place-joined c.args.program.now c.args.point.now c.args.grant.now (rights_text c.args.set.0))
    (written-both _ _ _ _ _ _ _ rest _ _ c.in_ok-write_pieces.ensures
    (written-both _ _ _ _ _ _ (rights_text c.args.set.0) (codes "\n") _ _ c.in_ok-write_rights.ensures c.write_bytes.ensures))
