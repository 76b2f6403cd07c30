use Rattle.std.proofs.Common.{List, ℕ, subst}
use Rattle.std.specs.Io.KnownBytes.{Appends}
use Rattle.ng_streams.proofs.KnownBytesLemmas.{Appends-trans}
use Rattle.ng_file.proofs.ZeroAppendLemmas.{zeros_more}
use Rattle.ng_file.proofs.device.write_zeros.Goals as goal

pub loop-preserved : goal.loop-preserved
loop-preserved g c =
    subst (λ (l : List ℕ). Appends (g.W.Write.contents c.args.file.now) (g.W.Write.contents c.write_all.new.self) l) (zeros_more c.loop.counter)
    (Appends-trans _ _ _ _ _ c.loop.invariant c.in_ok-write_all.ensures.bytes)
