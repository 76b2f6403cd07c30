use Rattle.std.proofs.Common.{◌∙◌, sym}
use Rattle.std.proofs.lemmas.Result.{err_from_is_err_and}
use Rattle.ng_session.specs.declared.event.Event.TheVariants as event
use Rattle.ng_core.specs.AnsweredEvents.{IsAnsweredEvent}
use Rattle.ng_run.proofs.TickCommandLemmas.{ticked_more, ticks_break, ticks_end}
use Rattle.ng_run.proofs.answering.tick_on.Goals as goal

pub returns-in_err-tell_tick : goal.returns-in_err-tell_tick
returns-in_err-tell_tick g c =
    let p = err_from_is_err_and c.from_residual.result c.from_residual.ensures.1 in
    let exchange : IsAnsweredEvent g.R.Rig.seen (event.Tick) c.on-reply.result c.loop-made.controller c.on-reply.new.self =
    record { serves = c.on-reply.ensures.serves; refuses = c.on-reply.ensures.broken } in
    rw (p.1) (ticks_break g.row.A.Denot g.R.Rig.seen c.args.most c.loop-made.made c.on-reply.result p.0 _ _ _ _ _ _
    c.loop-made.invariant c.loop-made-test.true exchange c.in_err-tell_tick.ensures)

pub returns-then-not-continues_ticks : goal.returns-then-not-continues_ticks
returns-then-not-continues_ticks g c =
    let exchange : IsAnsweredEvent g.R.Rig.seen (event.Tick) c.on-reply.result c.loop-made.controller c.on-reply.new.self =
    record { serves = c.on-reply.ensures.serves; refuses = c.on-reply.ensures.broken } in
    ticks_end g.row.A.Denot g.R.Rig.seen c.args.most c.loop-made.made c.on-reply.result _ _ _ _ _ _
    c.loop-made.invariant c.loop-made-test.true exchange (sym c.continues_ticks.ensures ∙ c.if-not-continues_ticks.true) c.in_ok-tell_tick.ensures

pub loop-made-preserved : goal.loop-made-preserved
loop-made-preserved g c =
    let exchange : IsAnsweredEvent g.R.Rig.seen (event.Tick) c.on-reply.result c.loop-made.controller c.on-reply.new.self =
    record { serves = c.on-reply.ensures.serves; refuses = c.on-reply.ensures.broken } in
    ticked_more g.row.A.Denot g.R.Rig.seen c.loop-made.made c.on-reply.result _ _ _ _ _ _
    c.loop-made.invariant exchange (sym c.continues_ticks.ensures ∙ c.if-not-continues_ticks.false) c.in_ok-tell_tick.ensures
