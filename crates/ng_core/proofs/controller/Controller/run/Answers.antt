use Rattle.std.proofs.Common.{refl, ◌∙◌, arith}
use Rattle.ng_core.specs.AnsweredEvents.{AreAnsweredEvents, answered_at}
use Rattle.ng_core.proofs.ExchangeLemmas.{exchanges_more, exchanges_all, exchanges_fail, exchanges_geometry}
use Rattle.ng_core.proofs.PastLemmas.{are_run}
use Rattle.ng_core.proofs.controller.Controller.run.Goals as goal

pub loop-event-init : goal.loop-event-init
loop-event-init g c = record {
  fits = omega (arith, c.in_ok-replies.ensures.capacity);
  count = omega (arith, c.in_ok-replies.ensures.len);
  size = refl;
  exchanges = rw c.in_ok-replies.ensures.items refl;
}

pub loop-event-preserved : goal.loop-event-preserved
loop-event-preserved g c = record {
  fits = omega (arith, c.push_reserved.ensures.capacity, c.loop-event.invariant.fits);
  count = omega (arith, c.push_reserved.ensures.len, c.loop-event.invariant.count);
  size = c.reply-reply.ensures.size ∙ c.loop-event.invariant.size;
  exchanges = rw c.push_reserved.ensures.items (exchanges_more g.R.Rig.seen c.args.events.now c.loop-event.event-index
      c.event-item.result c.loop-event.replies.items c.reply-reply.result
      c.args.self.now c.loop-event.self c.reply-reply.new.self (omega arith) c.event-item.is c.loop-event.invariant.exchanges
      (record { serves = c.reply-reply.ensures.serves; refuses = c.reply-reply.ensures.broken }));
}

pub returns-clause-runs : goal.returns-clause-runs
returns-clause-runs g c =
    let all : AreAnsweredEvents g.R.Rig.seen c.args.events.now c.loop-event.replies.items c.args.self.now
    c.loop-event.self = exchanges_all g.R.Rig.seen c.args.events.now c.loop-event.event-index
    c.loop-event.replies.items c.args.self.now c.loop-event.self (omega arith) c.loop-event.invariant.exchanges in
    let moments = answered_at g.R.Rig.seen c.args.events.now c.loop-event.replies.items c.args.self.now c.loop-event.self all in
    (moments, are_run g.R.Rig.seen c.args.events.now c.loop-event.replies.items moments c.args.self.now c.loop-event.self all refl)

pub returns-clause-failures : goal.returns-clause-failures
returns-clause-failures g c = exchanges_fail g.R.Rig.seen c.args.events.now c.loop-event.replies.items c.args.self.now
    c.loop-event.self (returns-clause-runs g c).1.exchanges

pub returns-clause-geometry : goal.returns-clause-geometry
returns-clause-geometry g c = exchanges_geometry g.R.Rig.seen c.args.events.now c.loop-event.replies.items
    c.args.self.now c.loop-event.self (returns-clause-runs g c).1.exchanges
