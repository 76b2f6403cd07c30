use Rattle.std.proofs.Common.{◌≡◌, true}
use Rattle.ng_dialogue.specs.Waiting.{EndHolds, text_left}
use Rattle.ng_run.proofs.ConversationLemmas.{Talked}
use Rattle.ng_run.proofs.talking.talk_on.Given as goal

-- what was read is answered in full; if the text had ended, nothing was read
abbrev pub invariant-loop-pass : goal.invariant-loop-pass
invariant-loop-pass g l =
    Talked g.row.A.Denot g.R.Rig.seen (text_left l.fn.input (g.I.Read.remaining l.fn.reader)) (text_left l.input (g.I.Read.remaining l.reader))
    (g.W.Write.contents l.fn.writer) (g.W.Write.contents l.writer) l.fn.controller l.controller
    × (EndHolds l.fn.input (g.I.Read.remaining l.fn.reader) → EndHolds l.input (g.I.Read.remaining l.reader))
    × (l.fn.input.ended ≡ true → (l.input ≡ l.fn.input) × (l.reader ≡ l.fn.reader) × (l.writer ≡ l.fn.writer)
    × (l.controller ≡ l.fn.controller) × (l._pass ≡ 0))
