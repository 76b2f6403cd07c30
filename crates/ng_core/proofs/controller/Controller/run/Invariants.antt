use Rattle.std.proofs.Common.{◌≡◌, ◌≤◌, length, take, vec_len}
use Rattle.std.specs.Vec.{vec_capacity}
use Rattle.ng_core.specs.AnsweredEvents.{AreAnsweredEvents}
use Rattle.ng_core.proofs.controller.Controller.run.Given as goal

abbrev pub invariant-loop-event : goal.invariant-loop-event
invariant-loop-event g l = record {
  fits : length l.events ≤ vec_capacity l.replies;
  count : vec_len l.replies ≡ l.event-index;
  size : (g.R.Rig.seen l.self.journal.rig).sectors ≡ (g.R.Rig.seen l.fn.self.journal.rig).sectors;
  exchanges : AreAnsweredEvents g.R.Rig.seen (take l.event-index l.events) l.replies.items l.fn.self l.self;
}
