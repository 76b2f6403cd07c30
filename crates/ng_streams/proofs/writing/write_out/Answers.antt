use Rattle.std.proofs.Common.{arith, length-drop}
use Rattle.std.proofs.Math.Seq.{take-add}
use Rattle.std.proofs.lemmas.List.{take_rest}
use Rattle.ng_streams.proofs.KnownBytesLemmas.{Appends-trans}
use Rattle.ng_streams.proofs.writing.write_out.Goals as goal

pub loop-written-preserved : goal.loop-written-preserved
loop-written-preserved g c =
    let bytes = rw take_rest at c.in-Ok.ensures.bytes in
    let bound = rw take_rest at c.in-Ok.ensures.bound in
    (rw take-add (Appends-trans _ _ _ _ _ c.loop-written.invariant.0 bytes), omega (arith, length-drop c.loop-written.written c.args.bytes.now, bound))
