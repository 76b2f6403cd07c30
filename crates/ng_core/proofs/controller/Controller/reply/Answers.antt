use Rattle.std.proofs.Common.{Ok, Err, refl}
use Rattle.ng_core.proofs.FailureLemmas.{tells_failure}
use Rattle.ng_core.proofs.controller.Controller.reply.Goals as goal

pub returns-in-Ok-clause-serves : goal.returns-in-Ok-clause-serves
returns-in-Ok-clause-serves g c =
    λ whole. record { answer = Ok c.in-Ok.reply; told_is = refl; carried = c.in-Ok.ensures.carried whole }

pub returns-in-Err-clause-serves : goal.returns-in-Err-clause-serves
returns-in-Err-clause-serves g c =
    λ whole. record { answer = Err c.in-Err.fault; told_is = refl; carried = c.in-Err.ensures.carried whole }

pub returns-in-Ok-clause-failures : goal.returns-in-Ok-clause-failures
returns-in-Ok-clause-failures g c =
    λ whole. tells_failure g.R.Rig.seen c.args.event.now (Ok c.in-Ok.reply) c.args.self.now c.handle.new.self (c.in-Ok.ensures.carried whole)

pub returns-in-Err-clause-failures : goal.returns-in-Err-clause-failures
returns-in-Err-clause-failures g c =
    λ whole. tells_failure g.R.Rig.seen c.args.event.now (Err c.in-Err.fault) c.args.self.now c.handle.new.self (c.in-Err.ensures.carried whole)
