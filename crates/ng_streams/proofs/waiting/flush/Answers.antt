use Rattle.std.proofs.Common.{ℕ, List, take, subst}
use Rattle.std.specs.Io.KnownBytes.{Appends}
use Rattle.ng_streams.proofs.WaitingLemmas.{FlushSpec-broken}
use Rattle.ng_streams.proofs.waiting.flush.Goals as goal

pub returns-in-Err-clause-moves : goal.returns-in-Err-clause-moves
returns-in-Err-clause-moves g c =
    FlushSpec-broken (Unit {0}) _ _ c.args.text.now.items c.args.text.now.items c.in-Err.ensures.0 c.in-Err.error
    (subst (λ (l : List ℕ). Appends (g.W.Write.contents c.args.writer.now)
    (g.W.Write.contents c.write_out.new.writer) (take c.in-Err.ensures.0 l)) c.as_slice.ensures.value
    c.in-Err.ensures.1)
