use Rattle.ng_dialogue.proofs.LineWriteLemmas.{appends_still, sends_unflushed}
use Rattle.ng_dialogue.proofs.telling.send.Goals as goal

pub returns-in-Ok-flush : goal.returns-in-Ok-flush
returns-in-Ok-flush g c = appends_still _ _ _ c.args.line.now c.in-Ok.ensures c.flush.ensures.bytes

pub returns-in-Err-flush : goal.returns-in-Err-flush
returns-in-Err-flush g c = sends_unflushed _ _ _ c.args.line.now c.in-Ok.ensures c.flush.ensures.bytes
