-- One more piece.
use Rattle.std.proofs.Common.{ap, arith, length}
use Rattle.ng_words.specs.LineStorage.{pieces_by}
use Rattle.ng_words.specs.Line.{piece_of}
use Rattle.ng_expr.specs.Settle.{settled_pieces, settled_of}
use Rattle.ng_expr.proofs.SettleLemmas.{settled_step}
use Rattle.ng_expr.proofs.values.Values.evaluate_into.Goals as goal

pub loop-piece-preserved : goal.loop-piece-preserved
loop-piece-preserved g c =
    let more = ap length c.in-Some.ensures in
    record {
      found = settled_step c.args.params.now (settled_of c.loop-piece.self) (settled_of c.add.new.self)
          (piece_of c.in-Some.piece) (pieces_by c.loop-piece.pieces)
          (pieces_by c.next.new.self) (settled_pieces (pieces_by c.args.line.now.places) c.args.params.now)
          c.in-Some.ensures c.in-Ok.ensures.found c.loop-piece.invariant.found;
      few = omega (arith, more, c.in-Ok.ensures.few, c.loop-piece.invariant.few);
    }
