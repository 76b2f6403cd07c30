use Rattle.std.proofs.Common.{arith, ◌≡◌, suc, ◌+◌, ◌-◌}
use Rattle.ng_cycles.proofs.StrokeLemmas.{across_goes}
use Rattle.ng_cycles.proofs.left.CycleLeft.across.Goals as goal

pub returns-clause-next : goal.returns-clause-next
returns-clause-next c =
    let d = c.args.self.now.canned in
    let begun = c.args.self.now.begun in
    let left = c.args.self.now.repeats_left in
    let one_more : begun + 1 ≡ suc begun = omega arith in
    let one_less : left ≡ suc (left - 1) = omega arith in (
      rw c.requires.phase (across_goes d _ begun left (begun + 1) (left - 1) _ _ _ _ one_more one_less
          c.hole_at-end.ensures c.at_place-self.ensures c.move_to.ensures.segment c.move_to.ensures.motion_state),
      c.move_to.ensures.motion_state,
    )
