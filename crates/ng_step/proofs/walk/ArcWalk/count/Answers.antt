use Rattle.std.proofs.Common.{arith, ◌+◌, ◌-◌, ap, ◌∙◌, rules}
use Rattle.std.proofs.lemmas.Int.{ints}
use Rattle.ng_canon.specs.declared.plane_point.PlanePoint.{PlanePoint}
use Rattle.ng_step.specs.Arcs.{net_a, net_b}
use Rattle.ng_step.specs.Turned.{spot_of, point_of_quadrant}
use Rattle.ng_step.specs.Private.Leaps.{WalkLeads, EndsArc}
use Rattle.ng_step.proofs.RoundLemmas.{stored}
use Rattle.ng_step.proofs.StopLemmas.{goes_on_before, reached_more, reached_end, few_steps}
use Rattle.ng_step.proofs.walk.ArcWalk.count.Goals as goal

leads : (c : goal.After-struct_known-1) → WalkLeads c.args.end c.quadrants.walk c.quadrants.left
    c.across-leap.result.walk (c.quadrants.left - 1) c.across-leap.result.steps
leads c = c.across-leap.ensures.leads c.args.end c.quadrants.left (omega arith)
    (λ i o low high near far. goes_on_before c.args.end (point_of_quadrant c.quadrants.walk.quadrant i o)
    c.quadrants.left c.quadrants-test.true)

pub overflow_add-steps : goal.overflow_add-steps
overflow_add-steps c =
    let few = few_steps c.args.self.now c.args.quadrants c.requires.walks c.requires.few in
    let so_far = c.quadrants.invariant.leads.bound in
    let more = (leads c).bound in
    omega arith

pub quadrants-preserved : goal.quadrants-preserved
quadrants-preserved c =
    reached_more c.args.end c.args.self.now c.args.quadrants c.quadrants.walk c.across-leap.result.walk
    c.quadrants.left (c.quadrants.left - 1) c.quadrants.steps c.across-leap.result.steps c.quadrants.invariant
    c.across-leap.ensures.walks c.across-leap.ensures.circle (leads c)

ends : (c : goal.After-whole_steps-2) → EndsArc c.args.self.now.circle c.args.end c.args.self.now.quadrant
    c.args.self.now.inner c.args.self.now.outer c.args.quadrants (spot_of c.to_end-leap.result.walk)
    (c.quadrants.steps + c.to_end-leap.result.steps)
ends c = reached_end c.args.end c.args.self.now c.args.quadrants c.quadrants.walk c.quadrants.left c.quadrants.steps
    (spot_of c.to_end-leap.result.walk) c.to_end-leap.result.steps c.quadrants.invariant c.to_end-leap.ensures.ends

pub returns-clause-steps : goal.returns-clause-steps
returns-clause-steps c = (ends c).steps

pub returns-clause-a : goal.returns-clause-a
returns-clause-a c = λ ms arc.
    let net = (ends c).net ms arc in
    let first = ap (λ (p : PlanePoint). p.a) c.spot-first.ensures.value in
    let last = ap (λ (p : PlanePoint). p.a) c.spot-last.ensures.value in
    let small_first = c.spot-first.ensures.a in
    let small_last = c.spot-last.ensures.a in
    stored c.whole_steps.result (omega (arith, c.whole_steps.ensures.size)) ∙ c.whole_steps.ensures.value (net_a ms) (omega (arith, ints, net.0, first, last))

pub returns-clause-b : goal.returns-clause-b
returns-clause-b c = λ ms arc.
    let net = (ends c).net ms arc in
    let first = ap (λ (p : PlanePoint). p.b) c.spot-first.ensures.value in
    let last = ap (λ (p : PlanePoint). p.b) c.spot-last.ensures.value in
    let small_first = c.spot-first.ensures.b in
    let small_last = c.spot-last.ensures.b in
    stored c.whole_steps-2.result (omega (arith, c.whole_steps-2.ensures.size))
    ∙ c.whole_steps-2.ensures.value (net_b ms) (omega (arith, ints, net.1, first, last))

pub quadrants-init : goal.quadrants-init
quadrants-init c = grind arith

pub passage-passage-requires : goal.passage-passage-requires
passage-passage-requires c = grind arith

pub last-requires : goal.last-requires
last-requires c = omega arith

pub across-leap-requires-clause-walks : goal.across-leap-requires-clause-walks
across-leap-requires-clause-walks c = grind arith

pub across-leap-requires-clause-from : goal.across-leap-requires-clause-from
across-leap-requires-clause-from c = omega arith

pub across-leap-requires-clause-last : goal.across-leap-requires-clause-last
across-leap-requires-clause-last c = grind arith

pub across-leap-requires-clause-fits : goal.across-leap-requires-clause-fits
across-leap-requires-clause-fits c = omega arith

pub overflow_sub-left : goal.overflow_sub-left
overflow_sub-left c = omega arith

pub quadrants-smaller : goal.quadrants-smaller
quadrants-smaller c = omega arith

pub to_end-leap-requires-clause-walks : goal.to_end-leap-requires-clause-walks
to_end-leap-requires-clause-walks c = grind arith

pub to_end-leap-requires-clause-end_a : goal.to_end-leap-requires-clause-end_a
to_end-leap-requires-clause-end_a c = omega arith

pub to_end-leap-requires-clause-end_b : goal.to_end-leap-requires-clause-end_b
to_end-leap-requires-clause-end_b c = omega arith

pub to_end-leap-requires-clause-last : goal.to_end-leap-requires-clause-last
to_end-leap-requires-clause-last c = omega arith

pub spot-first-requires : goal.spot-first-requires
spot-first-requires c = grind arith

pub spot-last-requires : goal.spot-last-requires
spot-last-requires c = grind arith

pub overflow_add-result : goal.overflow_add-result
overflow_add-result c = omega arith

pub whole_steps-requires-clause-step : goal.whole_steps-requires-clause-step
whole_steps-requires-clause-step c = omega arith

pub whole_steps-requires-clause-from : goal.whole_steps-requires-clause-from
whole_steps-requires-clause-from c = grind arith

pub whole_steps-requires-clause-to : goal.whole_steps-requires-clause-to
whole_steps-requires-clause-to c = grind arith

pub whole_steps-requires-2-clause-step : goal.whole_steps-requires-2-clause-step
whole_steps-requires-2-clause-step c = omega arith

pub whole_steps-requires-2-clause-from : goal.whole_steps-requires-2-clause-from
whole_steps-requires-2-clause-from c = grind arith

pub whole_steps-requires-2-clause-to : goal.whole_steps-requires-2-clause-to
whole_steps-requires-2-clause-to c = search rules

pub returns-clause-bounded : goal.returns-clause-bounded
returns-clause-bounded c = omega arith

pub returns-clause-size_a : goal.returns-clause-size_a
returns-clause-size_a c = grind arith

pub returns-clause-size_b : goal.returns-clause-size_b
returns-clause-size_b c = grind arith
