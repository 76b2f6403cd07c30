use Rattle.std.proofs.Common.{rules, ◌≡◌, pos, ◌*ℤ◌}
use mir.Syntax.{w64, w128}
use mir.Val.{SFits}
use Rattle.std.proofs.lemmas.Int.{to_z-of_z}
use Rattle.ng_step.proofs.WalkLemmas.{past_is}
use Rattle.ng_step.proofs.walk.ArcWalk.is_past.Goals as goal

pub returns : goal.returns
returns c =
    let fits_a : SFits w64 c.turned-end.result.a = search rules in
    let fits_b : SFits w64 c.turned-end.result.b = search rules in
    let fits_first : SFits w128 c.product.result = search rules in
    let fits_second : SFits w128 c.product-2.result = search rules in
    let first : c.product.result ≡ pos c.args.self.now.inner *ℤ c.turned-end.result.b = simp to_z-of_z at c.product.ensures in
    let second : c.product-2.result ≡ pos c.args.self.now.outer *ℤ c.turned-end.result.a = simp to_z-of_z at c.product-2.ensures in
    simp to_z-of_z (past_is c.args.self.now.quadrant c.args.self.now.inner c.args.self.now.outer c.args.end
    c.turned-end.result c.product.result c.product-2.result
    c.turned-end.ensures first second)
