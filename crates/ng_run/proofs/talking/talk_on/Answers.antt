use Rattle.std.proofs.Common.{◌∙◌, Some, IfSome, ap}
use Rattle.ng_dialogue.specs.Hearing.{EndsText, TakesOrder}
use Rattle.ng_dialogue.specs.Waiting.{text_left}
use Rattle.ng_dialogue.proofs.ReaderBytesLemmas.{ended_still}
use Rattle.ng_run.specs.Ending.{ended_by}
use Rattle.ng_run.proofs.AskedOrderLemmas.{asks_none}
use Rattle.ng_run.proofs.ConversationLemmas.{ends_deaf, ends_mute, ends_whole, talked_more}
use Rattle.ng_run.proofs.talking.talk_on.Goals as goal

pub returns-in-Err-answer-clause-talk : goal.returns-in-Err-answer-clause-talk
returns-in-Err-answer-clause-talk g c =
    let rest = text_left c.loop-pass.input (g.I.Read.remaining c.loop-pass.reader) in
    let next = text_left c.next_order.new.input (g.I.Read.remaining c.next_order.new.reader) in
    let asked : TakesOrder rest next (Some c.in-Ok-Some.order) = rw (c.in-Ok-Some.field-0-is) at c.in-Ok-Some.ensures.order in
    ends_mute g.row.A.Denot g.R.Rig.seen c.in-Ok-Some.order c.in-Err-answer.field-0 _ rest next _ _ _ _ _ _
    c.loop-pass.invariant.0 asked c.in-Err-answer.ensures

pub returns-in-Ok-None-clause-talk : goal.returns-in-Ok-None-clause-talk
returns-in-Ok-None-clause-talk g c =
    let rest = text_left c.loop-pass.input (g.I.Read.remaining c.loop-pass.reader) in
    let end : IfSome rest EndsText = rw (c.in-Ok-None.field-0-is) at c.in-Ok-None.ensures.order in
    ends_whole g.row.A.Denot g.R.Rig.seen c.ended_by.result _ _ _ _ _ _
    c.loop-pass.invariant.0 end (c.ended_by.ensures ∙ ap ended_by c.broken.ensures)

pub returns-in-Err-clause-talk : goal.returns-in-Err-clause-talk
returns-in-Err-clause-talk g c = ends_deaf g.row.A.Denot g.R.Rig.seen _ _ _ _ _ _ c.loop-pass.invariant.0

pub loop-pass-preserved : goal.loop-pass-preserved
loop-pass-preserved g c =
    let rest = text_left c.loop-pass.input (g.I.Read.remaining c.loop-pass.reader) in
    let next = text_left c.next_order.new.input (g.I.Read.remaining c.next_order.new.reader) in
    let asked : TakesOrder rest next (Some c.in-Ok-Some.order) = rw (c.in-Ok-Some.field-0-is) at c.in-Ok-Some.ensures.order in (
      talked_more g.row.A.Denot g.R.Rig.seen c.in-Ok-Some.order c.in-Ok.field-0 _ rest next _ _ _ _ _ _
          c.loop-pass.invariant.0 asked c.in-Ok.ensures,
      λ before. c.next_order.ensures.holds (c.loop-pass.invariant.1 before),
      λ ended.
          let still = ended_still c.args.input.now c.loop-pass.input (c.loop-pass.invariant.2 ended).0 ended in
          absurd (asks_none c.next_order.result c.in-Ok-Some.field-0 c.in-Ok-Some.order
          (c.next_order.ensures.last still).0 c.in-Ok-Some.is c.in-Ok-Some.field-0-is),
    )

pub returns-clause-talk : goal.returns-clause-talk
returns-clause-talk g c = ends_deaf g.row.A.Denot g.R.Rig.seen _ _ _ _ _ _ c.loop-pass.invariant.0
