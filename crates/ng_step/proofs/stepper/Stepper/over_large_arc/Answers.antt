use Rattle.std.proofs.Common.{arith, rules, refl, ◌∙◌}
use mir.Syntax.{w64}
use mir.Val.{SFits}
use Rattle.std.proofs.lemmas.Int.{ints, to_z-of_z}
use Rattle.ng_step.proofs.HandLemmas.{large_is, time_is, total_is, arc_length_few}
use Rattle.ng_step.proofs.stepper.Stepper.over_large_arc.Goals as goal

pub returns : goal.returns
returns c =
    let fits : SFits w64 c.across-across.result = search rules in
    let fits_a : SFits w64 c.count-count.result.a = search rules in
    let fits_b : SFits w64 c.count-count.result.b = search rules in
    c.over.ensures ∙ large_is c.args.geometry.now c.args.pace c.args.arc.now c.args.distance.now c.new-walk.result
    c.quadrants_to_walk.result c.count-count.result.steps _ _ c.across-across.result
    c.closing_after-closing.result _ c.new.result c.new-2.result
    c.requires.walkable c.new-walk.ensures.frame c.new-walk.ensures.circle c.new-walk.ensures.spot
    c.quadrants_to_walk.ensures.value c.count-count.ensures.steps c.count-count.ensures.a
    c.count-count.ensures.b
    (simp to_z-of_z at c.closing_after-closing.ensures.value)
    (time_is c.args.geometry.now c.args.pace _ _ _ _ _ _
    (total_is _ c.unsigned_abs.result c.max.result c.largest.result _ c.across-across.result _ (omega arith)
    (omega (arith, ints)) c.across-across.ensures.value c.largest.ensures.value) c.larger.ensures refl
    c.pulse_us-period_us.ensures)
    c.across-across.ensures.value (simp to_z-of_z at c.new.ensures) c.new-2.ensures

pub pulse_us-period_us-requires-clause-length : goal.pulse_us-period_us-requires-clause-length
pulse_us-period_us-requires-clause-length c = λ some. arc_length_few _ c.larger.result _ c.larger.ensures c.requires.walkable.step

pub new-walk-requires-clause-arc : goal.new-walk-requires-clause-arc
new-walk-requires-clause-arc c = grind arith

pub new-walk-requires-clause-small : goal.new-walk-requires-clause-small
new-walk-requires-clause-small c = omega arith

pub new-walk-requires-clause-some : goal.new-walk-requires-clause-some
new-walk-requires-clause-some c = omega arith

pub new-walk-requires-clause-a : goal.new-walk-requires-clause-a
new-walk-requires-clause-a c = omega arith

pub new-walk-requires-clause-b : goal.new-walk-requires-clause-b
new-walk-requires-clause-b c = omega arith

pub quadrants_to_walk-requires-clause-start : goal.quadrants_to_walk-requires-clause-start
quadrants_to_walk-requires-clause-start c = omega arith

pub quadrants_to_walk-requires-clause-end : goal.quadrants_to_walk-requires-clause-end
quadrants_to_walk-requires-clause-end c = omega arith

pub count-count-requires-clause-walks : goal.count-count-requires-clause-walks
count-count-requires-clause-walks c = grind arith

pub count-count-requires-clause-end_a : goal.count-count-requires-clause-end_a
count-count-requires-clause-end_a c = omega arith

pub count-count-requires-clause-end_b : goal.count-count-requires-clause-end_b
count-count-requires-clause-end_b c = omega arith

pub count-count-requires-clause-few : goal.count-count-requires-clause-few
count-count-requires-clause-few c = omega arith

pub across-across-requires : goal.across-across-requires
across-across-requires c = omega arith

pub closing_after-closing-requires-clause-a : goal.closing_after-closing-requires-clause-a
closing_after-closing-requires-clause-a c = grind arith

pub closing_after-closing-requires-clause-b : goal.closing_after-closing-requires-clause-b
closing_after-closing-requires-clause-b c = grind arith

pub unsigned_abs-requires : goal.unsigned_abs-requires
unsigned_abs-requires c = omega arith

pub max-requires : goal.max-requires
max-requires c = omega arith

pub largest-requires : goal.largest-requires
largest-requires c = omega arith

pub overflow_add-pulses : goal.overflow_add-pulses
overflow_add-pulses c = omega arith

pub overflow_cast-length : goal.overflow_cast-length
overflow_cast-length c = omega arith

pub larger-requires : goal.larger-requires
larger-requires c = omega arith

pub overflow_cast-length-2 : goal.overflow_cast-length-2
overflow_cast-length-2 c = omega arith

pub overflow_mul-length : goal.overflow_mul-length
overflow_mul-length c = grind arith

pub pulse_us-period_us-requires-clause-pulses : goal.pulse_us-period_us-requires-clause-pulses
pulse_us-period_us-requires-clause-pulses c = search rules

pub new-requires-clause-walks : goal.new-requires-clause-walks
new-requires-clause-walks c = grind arith

pub new-requires-clause-count : goal.new-requires-clause-count
new-requires-clause-count c = omega arith

pub new-requires-clause-third : goal.new-requires-clause-third
new-requires-clause-third c = grind arith

pub new-requires-2-clause-x : goal.new-requires-2-clause-x
new-requires-2-clause-x c = omega arith

pub new-requires-2-clause-y : goal.new-requires-2-clause-y
new-requires-2-clause-y c = omega arith

pub new-requires-2-clause-z : goal.new-requires-2-clause-z
new-requires-2-clause-z c = omega arith

pub over-requires : goal.over-requires
over-requires c = omega arith
