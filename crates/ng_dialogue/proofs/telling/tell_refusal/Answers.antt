use Rattle.std.proofs.Common.{◌++◌, ◌∙◌, ap}
use Rattle.ng_commands.specs.Replies.{refused_line}
use Rattle.ng_dialogue.proofs.LineWriteLemmas.{sends_as}
use Rattle.ng_dialogue.proofs.telling.tell_refusal.Goals as goal

pub returns-in-Ok : goal.returns-in-Ok
returns-in-Ok g c =
    sends_as _ _ c.as_slice.result.now (refused_line c.args.fault) _ (c.as_slice.ensures.value ∙ c.in-Ok.ensures
    ∙ ap (λ l. l ++ refused_line c.args.fault) c.new-line.ensures.items) c.send.ensures
