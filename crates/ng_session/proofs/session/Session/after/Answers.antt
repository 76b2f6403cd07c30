use Rattle.std.proofs.Common.{refl, ap, arith}
use Rattle.std.specs.Option.{option_map}
use Rattle.ng_session.specs.BareBlock.{block_on}
use Rattle.ng_session.specs.Session.{SessionModel}
use Rattle.ng_session.proofs.session.Session.after.Goals as goal

pub returns-in-Some-clause-after : goal.returns-in-Some-clause-after
returns-in-Some-clause-after g c =
    let x = c.self.inside.stored in
    let s : SessionModel = record {
      stored = x;
      activity = c.self.inside.activity;
      held = c.self.inside.held;
      optional_stop = c.self.inside.optional_stop;
      block_delete = c.self.inside.block_delete;
      current = option_map (block_on x.setup.params) c.self.inside.current;
    } in
    rw (← c.self.view_is) (block_on x.setup.params c.in-Some.current, ap (option_map (block_on x.setup.params)) c.in-Some.is, c.update.ensures.value s refl)

pub update-requires-clause-count : goal.update-requires-clause-count
update-requires-clause-count g c = omega arith

pub update-requires-clause-storable : goal.update-requires-clause-storable
update-requires-clause-storable g c = grind arith

pub update-requires-clause-ready : goal.update-requires-clause-ready
update-requires-clause-ready g c = grind arith

pub returns-in-Some-clause-next : goal.returns-in-Some-clause-next
returns-in-Some-clause-next g c = grind arith

pub returns-in-None-clause-after : goal.returns-in-None-clause-after
returns-in-None-clause-after g c = grind arith

pub returns-in-None-clause-next : goal.returns-in-None-clause-next
returns-in-None-clause-next g c = omega arith
