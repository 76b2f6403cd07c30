use Rattle.std.proofs.Common.{refl, ◌≡◌, ◌-ℤ◌}
use Rattle.ng_arc.specs.Extremes.{axis_a, axis_b, is_inside}
use Rattle.ng_arc.specs.Private.Quadrants.{direction}
use Rattle.ng_canon.specs.declared.quadrant.Quadrant.TheVariants.{First, Second, Third, Fourth}
use Rattle.ng_arc.proofs.ExtremesLemmas.{inside_is}
use Rattle.ng_arc.proofs.extremes.extremes_inside.Goals as goal

pub returns : goal.returns
returns c =
    let arc = c.args.arc.now in
    let g = c.args.geometry.now in
    let passes = c.between-passage.ensures.passes in
    let square = c.between-passage.ensures.square in
    let high_a : c.reach_nm.result ≡ (axis_a arc g).high -ℤ arc.centre_a = rw (← c.pick_a-a.ensures) c.reach_nm.ensures.value in
    let high_b : c.reach_nm-2.result ≡ (axis_b arc g).high -ℤ arc.centre_b = rw (← c.pick_b-b.ensures) c.reach_nm-2.ensures.value in
    let low_a : c.reach_nm-3.result ≡ arc.centre_a -ℤ (axis_a arc g).low = rw (← c.pick_a-a.ensures) c.reach_nm-3.ensures.value in
    let low_b : c.reach_nm-4.result ≡ arc.centre_b -ℤ (axis_b arc g).low = rw (← c.pick_b-b.ensures) c.reach_nm-4.ensures.value in
    let first : c.keeps.result ≡ is_inside arc (direction First) ((axis_a arc g).high -ℤ arc.centre_a) =
    inside_is arc (direction First) c.from_centre.result c.from_centre-2.result _ _ _ c.reach_nm.result _
    c.keeps.ensures (passes First) square c.reach_nm.ensures.size high_a c.from_centre.ensures.value
    c.from_centre-2.ensures.value in
    let second : c.keeps-2.result ≡ is_inside arc (direction Second) ((axis_b arc g).high -ℤ arc.centre_b) =
    inside_is arc (direction Second) c.from_centre.result c.from_centre-2.result _ _ _ c.reach_nm-2.result _
    c.keeps-2.ensures (passes Second) square c.reach_nm-2.ensures.size high_b c.from_centre.ensures.value
    c.from_centre-2.ensures.value in
    let third : c.keeps-3.result ≡ is_inside arc (direction Third) (arc.centre_a -ℤ (axis_a arc g).low) =
    inside_is arc (direction Third) c.from_centre.result c.from_centre-2.result _ _ _ c.reach_nm-3.result _
    c.keeps-3.ensures (passes Third) square c.reach_nm-3.ensures.size low_a c.from_centre.ensures.value
    c.from_centre-2.ensures.value in
    let fourth : c.keeps-4.result ≡ is_inside arc (direction Fourth) (arc.centre_b -ℤ (axis_b arc g).low) =
    inside_is arc (direction Fourth) c.from_centre.result c.from_centre-2.result _ _ _ c.reach_nm-4.result _
    c.keeps-4.ensures (passes Fourth) square c.reach_nm-4.ensures.size low_b c.from_centre.ensures.value
    c.from_centre-2.ensures.value in
    rw (first, second, third, fourth) refl
