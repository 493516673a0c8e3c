use Rattle.std.proofs.Common.{map}
use Rattle.std.specs.Prelude.{Ok}
use Rattle.certificate_text.specs.Pieces.{in_order}
use Rattle.certificate_text.proofs.Loops.{loop-end, loop-failed, loop-next}
use Rattle.certificate_text.proofs.Written.{passed_on, written-as}
use Rattle.console.proofs.Pieces.{piece_at, pieces-in_order, same-at}
use Rattle.console.proofs.streams.write_pieces.Goals as goal

pub returns-in_err-write_bytes : goal.returns-in_err-write_bytes
returns-in_err-write_bytes g c =
    let pieces = c.args.pieces.now in
    written-as _ _ _ _ _ _ _ (pieces-in_order (λ piece. piece.now) 0 pieces)
    (loop-failed (λ piece. piece.now) piece_at pieces _ _ _ _ _ _ c.loop-piece.piece-index
    (in_order piece_at 0 (map (λ piece. piece.now) pieces)) _ c.loop-piece-test.true (same-at pieces c.loop-piece.piece-index _ _ c.loop-piece-test.true) c.loop-piece.invariant
    c.in_err-write_bytes.field-0.0 _ (passed_on _ _ c.from_residual.ensures) c.in_err-write_bytes.ensures)

pub loop-piece-preserved : goal.loop-piece-preserved
loop-piece-preserved g c =
    let pieces = c.args.pieces.now in
    loop-next (λ piece. piece.now) piece_at pieces _ _ _ _ _ _ c.loop-piece.piece-index
    (in_order piece_at 0 (map (λ piece. piece.now) pieces)) _ c.loop-piece-test.true (same-at pieces c.loop-piece.piece-index _ _ c.loop-piece-test.true) c.loop-piece.invariant
    c.in_ok-write_bytes.field-0 c.in_ok-write_bytes.ensures

pub returns : goal.returns
returns g c =
    let pieces = c.args.pieces.now in
    written-as (Ok tt) _ _ _ _ _ _ (pieces-in_order (λ piece. piece.now) 0 pieces)
    (loop-end (λ piece. piece.now) piece_at pieces _ _ _ _ c.loop-piece.piece-index _ tt c.loop-piece-test.false c.loop-piece.invariant)
