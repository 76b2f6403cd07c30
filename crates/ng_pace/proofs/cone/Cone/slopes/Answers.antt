use Rattle.ng_pace.specs.Chord.{slope_of}
use Rattle.ng_pace.proofs.ConeLemmas.{reached-weaker, slope_of-some}
use Rattle.ng_pace.proofs.cone.Cone.slopes.Goals as goal

pub returns-clause-reached : goal.returns-clause-reached
returns-clause-reached c = λ slack steps is straight some.
    let both = is.near (slope_of steps) (slope_of-some steps some) straight in
    reached-weaker _ _ c.between.result (λ slope ok within. is.inside slope ok within.0 within.1)
    (c.between.ensures.reached is.low is.high (slope_of steps) (slope_of-some steps some) both.0 both.1)
