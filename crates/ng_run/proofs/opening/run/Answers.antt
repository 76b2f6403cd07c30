use Rattle.std.proofs.Common.{Ok, Err, refl}
use Rattle.ng_run.proofs.opening.run.Goals as goal

pub returns-in-Ok : goal.returns-in-Ok
returns-in-Ok g c = record {
  powered = Ok c.in-Ok.controller;
  starts = c.in-Ok.ensures.gives;
  continues_ticks = (c.talk-ended.new.controller, c.talk-ended.ensures, c.into_rig.ensures);
}

pub returns-in-Err : goal.returns-in-Err
returns-in-Err g c = record {
  powered = Err (c.in-Err.fault, c.in-Err.rig);
  starts = c.in-Err.ensures.gives;
  continues_ticks = (refl, c.refuse.ensures);
}
