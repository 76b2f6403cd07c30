use Rattle.std.proofs.Common.{◌++◌, ◌∙◌, ap}
use Rattle.ng_commands.specs.Replies.{reply_line}
use Rattle.ng_dialogue.proofs.LineWriteLemmas.{sends_as}
use Rattle.ng_dialogue.proofs.telling.tell_reply.Goals as goal

pub returns-in-Ok : goal.returns-in-Ok
returns-in-Ok g c =
    sends_as _ _ c.as_slice.result.now (reply_line c.args.reply.now) _ (c.as_slice.ensures.value ∙ c.in-Ok.ensures
    ∙ ap (λ l. l ++ reply_line c.args.reply.now) c.new-line.ensures.items) c.send.ensures
