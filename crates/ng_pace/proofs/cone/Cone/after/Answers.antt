use Rattle.std.proofs.Common.{arith, ◌≡◌, ◌++◌, ◌∷◌, [], length, sym, ◌∙◌}
use Rattle.ng_pace.proofs.ConeLemmas.{cone-push, length-push, at-few}
use Rattle.ng_pace.proofs.cone.Cone.after.Goals as goal

pub returns : goal.returns
returns c = λ steps is long fits.
    let at = c.rise_to-rise.ensures c.args.slack steps is long (omega arith) in
    let pulses : c.args.pulses ≡ length (steps ++ c.args.step ∷ []) = sym long ∙ sym (length-push steps c.args.step) in
    cone-push c.args.slack c.args.self _ _ _ steps c.args.step is at.steps_are c.saturating_sub.ensures pulses
    (omega (arith, c.saturating_add.ensures, at-few c.rise_to-rise.result.steps (steps ++ c.args.step ∷ []) at.steps_are, pulses)) pulses
    c.greater.ensures.either c.greater.ensures.from_self c.greater.ensures.from_other c.smaller.ensures.either c.smaller.ensures.up_to_self
    c.smaller.ensures.up_to_other
