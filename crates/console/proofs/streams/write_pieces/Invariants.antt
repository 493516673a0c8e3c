use Rattle.std.proofs.Common.{drop, map}
use Rattle.certificate_text.specs.Pieces.{in_order}
use Rattle.certificate_text.proofs.Written.{Written}
use Rattle.console.proofs.Pieces.{piece_at}
use Rattle.console.proofs.streams.write_pieces.Given as goal

-- those before this one are written
abbrev pub invariant-loop-piece : goal.invariant-loop-piece
invariant-loop-piece g l =
    Written (g.W.Out.taken l.fn.out) (g.W.Out.taken l.out) (g.W.Out.faults l.fn.out) (g.W.Out.faults l.out)
    (in_order piece_at 0 (map (λ piece. piece.now) l.pieces)) (in_order piece_at l.piece-index (map (λ piece. piece.now) (drop l.piece-index l.pieces)))
