use Rattle.ng_core.specs.AnsweredEvents.{IsAnsweredEvent}
use Rattle.ng_run.proofs.ReplyLemmas.{answers_event, answers_refusal, answers_ticks, answers_ticks_broken}
use Rattle.ng_run.proofs.answering.answer.Goals as goal

pub returns-in-Give : goal.returns-in-Give
returns-in-Give g c =
    let exchange : IsAnsweredEvent g.R.Rig.seen c.in-Give.event c.on-reply.result c.args.controller.now c.on-reply.new.self =
    record { serves = c.on-reply.ensures.serves; refuses = c.on-reply.ensures.broken } in
    rw (c.in-Give.is) (answers_event g.R.Rig.seen c.in-Give.event c.on-reply.result c.tell_reply.result _ _ _ _ exchange c.tell_reply.ensures)

pub returns-in-Ok : goal.returns-in-Ok
returns-in-Ok g c =
    rw (c.in-Ticks.is) (answers_ticks g.R.Rig.seen c.in-Ticks.most c.in-Ok.made c.tell_ticks.result _ _ _ _ _ c.in-Ok.ensures c.tell_ticks.ensures)

pub returns-in-Err : goal.returns-in-Err
returns-in-Err g c =
    rw (c.in-Ticks.is) (answers_ticks_broken {T = Unit {0}} g.R.Rig.seen c.in-Ticks.most c.in-Err.fault c.in-Err.fault _ _ _ _ c.in-Err.ensures)

pub returns-in-Refuse : goal.returns-in-Refuse
returns-in-Refuse g c =
    rw (c.in-Refuse.is) (answers_refusal g.R.Rig.seen c.in-Refuse.fault c.tell_refusal.result _ _ c.args.controller.now c.tell_refusal.ensures)
