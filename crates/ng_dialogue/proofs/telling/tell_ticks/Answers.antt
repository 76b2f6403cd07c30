use Rattle.std.proofs.Common.{◌++◌, ◌∙◌, ap}
use Rattle.ng_commands.specs.Replies.{ticks_line}
use Rattle.ng_dialogue.proofs.LineWriteLemmas.{sends_as}
use Rattle.ng_dialogue.proofs.telling.tell_ticks.Goals as goal

pub returns-in-Ok : goal.returns-in-Ok
returns-in-Ok g c =
    sends_as _ _ c.as_slice.result.now (ticks_line c.args.count) _ (c.as_slice.ensures.value ∙ c.in-Ok.ensures
    ∙ ap (λ l. l ++ ticks_line c.args.count) c.new-line.ensures.items) c.send.ensures
