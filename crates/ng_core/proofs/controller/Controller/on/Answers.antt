use Rattle.std.proofs.Common.{[], ◌∷◌, refl}
use Rattle.ng_core.proofs.PastLemmas.{adds_to_past}
use Rattle.ng_core.proofs.controller.Controller.on.Goals as goal

pub returns-clause-past : goal.returns-clause-past
returns-clause-past g c = adds_to_past g.R.Rig.seen (c.args.event ∷ []) (c.reply.result ∷ []) c.args.self.now c.reply.new.self
    (c.reply.new.self, (record { serves = c.reply.ensures.serves; refuses = c.reply.ensures.broken }, refl))
