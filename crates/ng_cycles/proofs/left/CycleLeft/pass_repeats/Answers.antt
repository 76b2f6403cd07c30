use Rattle.std.proofs.Common.{arith, ◌≡◌, ◌≤◌, ◌+◌, ◌-◌, ◌*◌, ◌∙◌, ap, refl}
use Rattle.ng_cycles.specs.Left.{repeat_length}
use Rattle.ng_cycles.proofs.SkipLemmas.{pass_repeats_later}
use Rattle.ng_cycles.proofs.left.CycleLeft.pass_repeats.Goals as goal

pub returns-clause-later : goal.returns-clause-later
returns-clause-later c =
    let d = c.args.self.now.canned in
    let begun = c.args.self.now.begun in
    let left = c.args.self.now.repeats_left in
    let whole = c.parts-whole.result.0 in
    let some : 1 ≤ whole = omega arith in
    let most : left ≡ whole + (left - whole) = let h = c.parts-whole.ensures.most in omega (arith, h) in
    let long : c.repeat_length-length.result ≡ repeat_length d = c.repeat_length-length.ensures.value ∙ ap repeat_length c.drill.ensures.value in
    let sum : c.args.n ≡ whole * repeat_length d + c.parts-whole.result.1 = rw long at c.parts-whole.ensures.sum in
    rw c.requires.phase (pass_repeats_later d c.args.self.now.motion_state begun c.args.n whole left (left - whole)
    (begun + whole) c.parts-whole.result.1 c.hole_at-self.result c.clear-clear.result c.requires.clear
    c.requires.outputs some sum most refl c.hole_at-self.ensures c.clear-clear.ensures)
