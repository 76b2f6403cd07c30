use Rattle.std.proofs.Common.{rules, ◌≡◌, pos, refl, sym, ap, ◌∙◌, true, false}
use Rattle.std.specs.Prelude.{int_le, unsigned_abs}
use mir.Syntax.{w64}
use mir.Val.{SFits}
use Rattle.std.proofs.lemmas.Int.{to_z-of_z}
use Rattle.ng_canon.specs.declared.plane_point.PlanePoint.{PlanePoint}
use Rattle.ng_step.specs.Turned.{turned}
use Rattle.ng_step.proofs.StopLemmas.{never, ahead_is}
use Rattle.ng_step.proofs.walk.ArcWalk.ahead.Goals as goal

pub returns-then-end-le0 : goal.returns-then-end-le0
returns-then-end-le0 c = λ i o some low far.
    let w = c.args.self.now in
    let fits : SFits w64 c.turned-end.result.a = search rules in
    let past_axis : int_le c.turned-end.result.a (pos 0) ≡ true = simp to_z-of_z at c.if-end-le0.true in
    let there : int_le (turned w.quadrant c.args.end).a (pos 0) ≡ true = sym (ap (λ (s : PlanePoint). int_le s.a (pos 0)) c.turned-end.ensures) ∙ past_axis in
    never w.quadrant w.inner w.outer i o c.args.end _ _ refl refl there c.requires.before some low far

pub returns : goal.returns
returns c =
    let w = c.args.self.now in
    let fits_a : SFits w64 c.turned-end.result.a = search rules in
    let fits_b : SFits w64 c.turned-end.result.b = search rules in
    let some : int_le c.turned-end.result.a (pos 0) ≡ false = simp to_z-of_z at c.if-end-le0.false in
    let inner : c.unsigned_abs.result ≡ unsigned_abs c.turned-end.result.a = simp to_z-of_z at c.unsigned_abs.ensures.value in
    let outer : c.unsigned_abs-2.result ≡ unsigned_abs c.turned-end.result.b = simp to_z-of_z at c.unsigned_abs-2.ensures.value in
    ahead_is w.quadrant w.inner w.outer c.args.end c.turned-end.result c.unsigned_abs.result c.unsigned_abs-2.result
    c.turned-end.ensures some c.requires.before inner outer
