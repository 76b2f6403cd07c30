-- There are as many pieces as items, and that many items fit.
use Rattle.std.proofs.Common.{arith}
use Rattle.ng_words.proofs.LineStorageLemmas.{length-pieces_from}
use Rattle.ng_words.proofs.line.Line.pieces.Goals as goal

pub returns-clause-few : goal.returns-clause-few
returns-clause-few c =
    let count = length-pieces_from c.as_slice.result.now c.as_slice-2.result.now c.as_slice-3.result.now in
    omega (arith, count, c.as_slice.ensures.fits)
