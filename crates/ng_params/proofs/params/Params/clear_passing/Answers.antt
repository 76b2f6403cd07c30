use Rattle.std.proofs.Common.{sym}
use Rattle.ng_params.proofs.ClearLemmas.{cleared_lasting, cleared_zeroed, cleared_whole}
use Rattle.ng_params.proofs.params.Params.clear_passing.Goals.{then-not-lasts, else-not-lasts}
use Rattle.ng_params.proofs.params.Params.clear_passing.Goals as goal

pub loop-k-preserved : goal.loop-k-preserved
loop-k-preserved g c =
    elim c.if-not-lasts.branch [
      | then-not-lasts w ↦ rw (w.self-inside-is, w.zero.ensures) (cleared_zeroed _ _ _ (sym w.if-not-lasts.ensures) c.loop-k-test.true c.loop-k.invariant)
      | else-not-lasts w ↦ rw w.self-inside-is (cleared_lasting _ _ _ (sym w.if-not-lasts.ensures) c.loop-k.invariant)
    ]

pub returns : goal.returns
returns g c = cleared_whole _ _ _ c.loop-k-test.false (rw (← c.self.view_is) c.self.invariant) c.loop-k.invariant
