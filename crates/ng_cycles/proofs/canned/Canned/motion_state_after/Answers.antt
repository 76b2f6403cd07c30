use Rattle.std.proofs.Common.{arith, ◌≡◌, ◌≤◌, true, false, sym, ◌∙◌, ap, take}
use Rattle.ng_cycles.specs.Private.Counts.{has_switch}
use Rattle.ng_cycles.specs.Segments.{CycleModel, cycle_segments}
use Rattle.ng_cycles.proofs.AfterSegmentsLemmas.{switched-motion_state, unswitched-motion_state}
use Rattle.ng_cycles.proofs.canned.Canned.motion_state_after.Goals as goal

pub returns-then-has_switched : goal.returns-then-has_switched
returns-then-has_switched c =
    let more : 1 ≤ c.args.n = let h = c.if-n-eq0.false in omega (arith, h) in
    let own = c.motion_state-own.ensures ∙ ap (λ (a : CycleModel). a.motion_state) c.from.ensures in
    let there : has_switch (take c.args.n (cycle_segments c.args.self.now)) ≡ true =
    sym (rw c.drill-drill.ensures.value at c.has_switched.ensures) ∙ c.if-has_switched.true in
    switched-motion_state c.args.self.now c.args.before c.motion_state-own.result c.args.n c.drill-drill.ensures.canned.made.some more own there

pub returns : goal.returns
returns c =
    let more : 1 ≤ c.args.n = let h = c.if-n-eq0.false in omega (arith, h) in
    let own = c.motion_state-own.ensures ∙ ap (λ (a : CycleModel). a.motion_state) c.from.ensures in
    let none : has_switch (take c.args.n (cycle_segments c.args.self.now)) ≡ false =
    sym (rw c.drill-drill.ensures.value at c.has_switched.ensures) ∙ c.if-has_switched.false in
    unswitched-motion_state c.args.self.now c.args.before c.motion_state-own.result c.args.n c.drill-drill.ensures.canned.made.some more own none
