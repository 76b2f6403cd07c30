use Rattle.std.proofs.Common.{arith, ◌≡◌, ◌≤◌, ◌+◌, ◌-◌, ◌∷◌, [], flat_map, refl, suc}
use Rattle.ng_cycles.specs.Strokes.{TraverseTo, numbers_from, repeat}
use Rattle.ng_cycles.proofs.SkipLemmas.{skip_pecks}
use Rattle.ng_cycles.proofs.left.CycleLeft.pass_pecks.Goals as goal

pub returns-clause-later : goal.returns-clause-later
returns-clause-later c =
    let d = c.args.self.now.canned in
    let p = c.args.pecking in
    let whole = c.parts-whole.result.0 in
    let some : 1 ≤ whole = omega arith in
    let most : p.left ≡ whole + (p.left - whole) = let h = c.parts-whole.ensures.most in omega (arith, h) in
    let later_repeats = flat_map (repeat d) (numbers_from (suc c.args.self.now.begun) c.args.self.now.repeats_left) in
    rw (c.requires, c.at_height-self.ensures, c.bottom-bottom.ensures, c.drill.ensures.value)
    (skip_pecks d c.args.self.now.motion_state p.peck p.done c.args.n whole p.left (p.done + whole) (p.left - whole)
    c.parts-whole.result.1 (TraverseTo d.clear ∷ []) later_repeats some c.parts-whole.ensures.sum most refl)
