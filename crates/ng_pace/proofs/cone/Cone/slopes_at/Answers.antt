use Rattle.std.proofs.Common.{arith}
use Rattle.ng_pace.specs.Chord.{slope_of}
use Rattle.ng_pace.proofs.ConeLemmas.{rise-between, rise-inside, reached-weaker, slope_of-some}
use Rattle.ng_pace.proofs.cone.Cone.slopes_at.Goals as goal

pub returns-clause-between : goal.returns-clause-between
returns-clause-between c = λ slack steps is long some.
    let at = c.rise-rise.ensures slack steps is long in
    let within = rise-between c.rise-rise.result steps at in
    c.between.ensures.all (omega (arith, at.pulses_are)) (omega (arith, at.pulses_are)) (slope_of steps) (slope_of-some steps (omega arith)) within.0 within.1

pub returns-clause-reached : goal.returns-clause-reached
returns-clause-reached c = λ slack steps is straight long some.
    let at = c.rise-rise.ensures slack steps is long in
    let within = rise-between c.rise-rise.result steps at in
    reached-weaker _ _ c.between.result
    (λ slope ok both. rise-inside slack c.args.self.now c.rise-rise.result steps is straight (omega arith) at slope ok both.0 both.1)
    (c.between.ensures.reached (omega (arith, at.pulses_are)) (omega (arith, at.pulses_are)) (slope_of steps) (slope_of-some steps (omega arith)) within.0
    within.1)
