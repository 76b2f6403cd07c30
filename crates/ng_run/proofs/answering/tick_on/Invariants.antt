use Rattle.ng_run.proofs.TickCommandLemmas.{Ticked}
use Rattle.ng_run.proofs.answering.tick_on.Given as goal

-- the ticks that were made, all of which continue
abbrev pub invariant-loop-made : goal.invariant-loop-made
invariant-loop-made g l =
    Ticked g.row.A.Denot g.R.Rig.seen l.made (g.W.Write.contents l.fn.writer) (g.W.Write.contents l.writer) l.fn.controller l.controller
