use Rattle.std.proofs.Common.{arith, sym, ap, ◌∙◌}
use Rattle.ng_step.specs.declared.frame.Frame.{Frame}
use Rattle.ng_step.specs.Frame.{pulse_without, with_third}
use Rattle.ng_step.proofs.PulseLemmas.{rest_keeps, rest_next, step_keeps, step_next}
use Rattle.ng_step.proofs.arc.ArcPulses.next.Goals as goal

pub invariant_of-self : goal.invariant_of-self
invariant_of-self c = rest_keeps c.self.inside _ _ _ _ c.self.invariant (omega arith) c.step.ensures c.step-third.ensures

pub invariant_of-self-in_default : goal.invariant_of-self-in_default
invariant_of-self-in_default c = step_keeps c.self.inside _ _ _ _ _ _ c.self.invariant (omega arith) c.step.ensures
    c.step-third.ensures c.step-in_default.ensures

pub returns-in-Still : goal.returns-in-Still
returns-in-Still c =
    sym c.self.view_is ∙ rest_next c.self.inside _ _ _ _ _ c.self.invariant (omega arith) c.step.ensures
    c.step-third.ensures c.in-Still.is (c.pulse_without.ensures
    ∙ ap (λ (f : Frame). pulse_without f c.step-third.result) c.frame.ensures)

pub returns-in_default : goal.returns-in_default
returns-in_default c =
    sym c.self.view_is ∙ step_next c.self.inside _ _ _ _ _ _ _ c.self.invariant (omega arith) c.step.ensures
    c.step-third.ensures c.step-in_default.ensures c.in_default.not-Still (c.with_third.ensures
    ∙ ap (λ (f : Frame). with_third f.plane c.step-in_default.result c.step-third.result)
    c.frame-in_default.ensures)
