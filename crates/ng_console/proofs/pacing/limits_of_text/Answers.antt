use Rattle.ng_console.proofs.pacing.limits_of_text.Goals as goal

pub returns-in-Ok-clause-met : goal.returns-in-Ok-clause-met
returns-in-Ok-clause-met c = c.in-Ok.ensures.2.1.2.2.can_be_met
