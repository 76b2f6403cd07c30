use Rattle.std.proofs.Common.{arith, ◌^◌, rules, ◌≡◌}
use mir.Syntax.{w64}
use mir.Val.{SFits}
use Rattle.std.proofs.lemmas.Int.{ints, to_z-of_z}
use Rattle.ng_canon.specs.declared.plane.Plane.TheVariants.{Xy, Xz, Yz}
use Rattle.ng_canon.specs.Plane.{pick_a, pick_b}
use Rattle.ng_step.proofs.CentreLemmas.{closing_at, of_a_small, of_b_small, of_a_same, of_b_same}
use Rattle.ng_step.proofs.frame.Frame.closing_after.Goals as goal

pub returns-in-Xy-clause-value : goal.returns-in-Xy-clause-value
returns-in-Xy-clause-value c =
    let small_a = of_a_small c.args.self.plane c.args.distance.now (2 ^ 50) c.requires.distance in
    let small_b = of_b_small c.args.self.plane c.args.distance.now (2 ^ 50) c.requires.distance in
    let a : c.pick_a.result ≡ pick_a c.args.self.plane c.args.distance.now.x c.args.distance.now.y
    c.args.distance.now.z = of_a_same c.args.self.plane c.args.distance.now c.pick_a.result c.requires.distance
    c.pick_a.ensures in
    let b : c.pick_b.result ≡ pick_b c.args.self.plane c.args.distance.now.x c.args.distance.now.y
    c.args.distance.now.z = of_b_same c.args.self.plane c.args.distance.now c.pick_b.result c.requires.distance
    c.pick_b.ensures in
    let fits : SFits w64 c.args.net_b = search rules in
    closing_at Xy c.args.self c.args.distance.now c.args.net_a c.args.net_b _ _ c.pick_a.result c.pick_b.result
    c.mirrored.result c.in-Xy.is a b (simp to_z-of_z at c.mirrored.ensures.value) (omega (arith, ints))
    (omega (arith, ints))

pub returns-in-Xz-clause-value : goal.returns-in-Xz-clause-value
returns-in-Xz-clause-value c =
    let small_a = of_a_small c.args.self.plane c.args.distance.now (2 ^ 50) c.requires.distance in
    let small_b = of_b_small c.args.self.plane c.args.distance.now (2 ^ 50) c.requires.distance in
    let a : c.pick_a.result ≡ pick_a c.args.self.plane c.args.distance.now.x c.args.distance.now.y
    c.args.distance.now.z = of_a_same c.args.self.plane c.args.distance.now c.pick_a.result c.requires.distance
    c.pick_a.ensures in
    let b : c.pick_b.result ≡ pick_b c.args.self.plane c.args.distance.now.x c.args.distance.now.y
    c.args.distance.now.z = of_b_same c.args.self.plane c.args.distance.now c.pick_b.result c.requires.distance
    c.pick_b.ensures in
    let fits : SFits w64 c.args.net_b = search rules in
    closing_at Xz c.args.self c.args.distance.now c.args.net_a c.args.net_b _ _ c.pick_a.result c.pick_b.result
    c.mirrored.result c.in-Xz.is a b (simp to_z-of_z at c.mirrored.ensures.value) (omega (arith, ints))
    (omega (arith, ints))

pub returns-in-Yz-clause-value : goal.returns-in-Yz-clause-value
returns-in-Yz-clause-value c =
    let small_a = of_a_small c.args.self.plane c.args.distance.now (2 ^ 50) c.requires.distance in
    let small_b = of_b_small c.args.self.plane c.args.distance.now (2 ^ 50) c.requires.distance in
    let a : c.pick_a.result ≡ pick_a c.args.self.plane c.args.distance.now.x c.args.distance.now.y
    c.args.distance.now.z = of_a_same c.args.self.plane c.args.distance.now c.pick_a.result c.requires.distance
    c.pick_a.ensures in
    let b : c.pick_b.result ≡ pick_b c.args.self.plane c.args.distance.now.x c.args.distance.now.y
    c.args.distance.now.z = of_b_same c.args.self.plane c.args.distance.now c.pick_b.result c.requires.distance
    c.pick_b.ensures in
    let fits : SFits w64 c.args.net_b = search rules in
    closing_at Yz c.args.self c.args.distance.now c.args.net_a c.args.net_b _ _ c.pick_a.result c.pick_b.result
    c.mirrored.result c.in-Yz.is a b (simp to_z-of_z at c.mirrored.ensures.value) (omega (arith, ints))
    (omega (arith, ints))

pub pick_a-requires : goal.pick_a-requires
pick_a-requires c κs = search rules

pub overflow_sub-a : goal.overflow_sub-a
overflow_sub-a c = search rules

pub pick_b-requires : goal.pick_b-requires
pick_b-requires c κs = search rules

pub mirrored-requires : goal.mirrored-requires
mirrored-requires c = grind arith

pub overflow_sub-b : goal.overflow_sub-b
overflow_sub-b c = search rules

pub returns-in-Xy-clause-sizes : goal.returns-in-Xy-clause-sizes
returns-in-Xy-clause-sizes c = search rules

pub returns-in-Xz-clause-sizes : goal.returns-in-Xz-clause-sizes
returns-in-Xz-clause-sizes c = search rules

pub returns-in-Yz-clause-sizes : goal.returns-in-Yz-clause-sizes
returns-in-Yz-clause-sizes c = search rules
