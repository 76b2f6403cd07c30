use Rattle.std.proofs.Common.{arith, ℕ, sym, subst, ◌∙◌, ◌≡◌, false}
use Rattle.ng_step.specs.Arcs.{stops}
use Rattle.ng_step.specs.Turned.{spot_of}
use Rattle.ng_step.specs.Private.Sweeps.{inner_at, outer_at}
use Rattle.ng_step.specs.Private.Leaps.{NeverStopsUntil}
use Rattle.ng_step.proofs.StopLemmas.{last_left, stands_ends, stop_ends, across_ends}
use Rattle.ng_step.proofs.walk.ArcWalk.to_end.Goals as goal

pub returns-then-stops-clause-ends : goal.returns-then-stops-clause-ends
returns-then-stops-clause-ends c = stands_ends c.args.self.now c.args.end c.args.left c.requires.walks (sym c.stops.ensures ∙ c.if-stops.true)

pub stop-requires-clause-before : goal.stop-requires-clause-before
stop-requires-clause-before c =
    let going : stops c.args.end c.args.left (spot_of c.args.self.now) ≡ false = sym c.stops.ensures ∙ c.if-stops.false in
    let one = last_left c.args.end (spot_of c.args.self.now) c.args.left c.requires.last going in
    rw one at going

pub returns-in-Some-clause-ends : goal.returns-in-Some-clause-ends
returns-in-Some-clause-ends c =
    let going : stops c.args.end c.args.left (spot_of c.args.self.now) ≡ false = sym c.stops.ensures ∙ c.if-stops.false in
    let one = last_left c.args.end (spot_of c.args.self.now) c.args.left c.requires.last going in
    stop_ends c.args.self.now c.onward.result.walk c.passage-passage.result c.in-Some.way c.args.end c.args.left
    c.onward.result.steps c.requires.walks c.passage-passage.ensures c.in-Some.ensures.stop one
    c.onward.ensures.quadrant c.onward.ensures.inner c.onward.ensures.outer c.onward.ensures.steps

pub returns-in-None-clause-ends : goal.returns-in-None-clause-ends
returns-in-None-clause-ends c =
    let going : stops c.args.end c.args.left (spot_of c.args.self.now) ≡ false = sym c.stops.ensures ∙ c.if-stops.false in
    let one = last_left c.args.end (spot_of c.args.self.now) c.args.left c.requires.last going in
    across_ends c.args.self.now c.across.result.walk c.args.end c.args.left c.across.result.steps one
    (c.across.ensures.leads c.args.end c.args.left (omega arith)
    (subst (λ (n : ℕ). NeverStopsUntil c.args.end n c.args.self.now
    (inner_at c.passage-passage.result c.last-last.result.inward)
    (outer_at c.passage-passage.result c.last-last.result.outward)) (sym one) c.in-None.ensures.stop))
