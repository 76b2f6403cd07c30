use Rattle.std.proofs.Common.{ℕ, List, Option, subst}
use Rattle.ng_run.specs.Consoles.{Conversation}
use Rattle.ng_run.proofs.AskedOrderLemmas.{text_unread}
use Rattle.ng_run.proofs.talking.talk.Goals as goal

pub returns : goal.returns
returns g c =
    let unread = text_unread c.new-input.result (g.I.Read.remaining c.args.reader.now) c.new-input.ensures in
    let P : Option (List ℕ) → Type 0 =
    λ t. Conversation g.row.A.Denot g.R.Rig.seen c.talk_on.result t (g.W.Write.contents c.args.writer.now)
    (g.W.Write.contents c.talk_on.new.writer) c.args.controller.now c.talk_on.new.controller in
    subst P unread c.talk_on.ensures.talk
