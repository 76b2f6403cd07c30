use Rattle.std.proofs.Common.{refl}
use Rattle.ng_rig.proofs.GuaranteeLemmas.{meaning}
use Rattle.ng_journal.proofs.AtRestLemmas.{handed_out, perhaps_handed}
use Rattle.ng_journal.proofs.journal.Journal.hand_out.Goals as goal

pub returns-in-Ok-clause-stops : goal.returns-in-Ok-clause-stops
returns-in-Ok-clause-stops g c =
    rw (← c.self.view_is)
    (meaning c.in-Ok.ensures.trace (λ h. λ standing rest. handed_out _ _ _ standing c.args.item _ _ refl refl rest
    h))

pub returns-in-Err-clause-stops : goal.returns-in-Err-clause-stops
returns-in-Err-clause-stops g c =
    rw (← c.self.view_is)
    (meaning c.in-Err.ensures.trace (λ h. λ standing rest. perhaps_handed _ _ _ standing c.args.item _ _ refl refl
    rest h))
