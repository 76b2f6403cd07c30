use Rattle.std.proofs.Common.{arith, ℕ, ◌+◌, ◌-◌, ◌*◌, ◌<◌, ⊎_elim, sym, subst, ◌∙◌, ap, rules}
use Rattle.ng_step.specs.Periods.{ceil_div}
use Rattle.ng_step.specs.Private.Sweeps.{IsLeaving, inner_at, LeavesBefore, IsFirstPast}
use Rattle.ng_step.proofs.SweepLemmas.{Enters, enters_at_none, enters_below, first_past_is, comes_fits, fits_few}
use Rattle.ng_step.proofs.sweep.QuadrantSweep.first_past.Goals as goal
use Rattle.ng_step.proofs.sweep.QuadrantSweep.first_past.Goals.{then-inward-eq0, else-inward-eq0}

enters : (c : goal.After-ceil_div-more) → Enters c.args.self.now c.args.end c.first_level_past-inward.result c.if-inward-eq0.before
enters c =
    elim c.if-inward-eq0.branch [
      | then-inward-eq0 w ↦ enters_at_none c.args.self.now c.args.end c.first_level_past-inward.result c.if-inward-eq0.before w.if-inward-eq0.true w.before-is
      | else-inward-eq0 w ↦
          let p = c.args.self.now in
          let level = c.first_level_past-inward.result in
          let some : 0 < level = omega arith in
          let before : LeavesBefore p c.args.end (level - 1) = ⊎_elim (λ none. absurd (omega arith))
          (λ before. before) c.first_level_past-inward.ensures.first in
          enters_below p c.args.end level c.if-inward-eq0.before some c.first_level_past-inward.ensures.inside
          (subst (λ (m : ℕ). IsLeaving p.square (inner_at p (level - 1)) p.outer p.outer_step m) (sym w.before-is) w.outward_to-before.ensures.leaving) before
    ]

first : (c : goal.After-ceil_div-more)
    → IsFirstPast c.args.self.now c.args.end
    (record {
      inward = c.first_level_past-inward.result;
      outward = c.if-inward-eq0.before + c.ceil_div-more.result;
    })
first c =
    let past = first_past_is c.args.self.now c.args.end c.first_level_past-inward.result c.if-inward-eq0.before
    c.ceil_div-more.result (enters c) c.requires.enters c.first_level_past-inward.ensures.past
    (c.ceil_div-more.ensures ∙ ap (λ x. ceil_div x (c.args.self.now.outer_step * c.args.end.inner)) c.saturating_sub.ensures) in
    record { inside = c.first_level_past-inward.ensures.inside; past = past.0; comes = past.1 }

pub overflow_cast-result : goal.overflow_cast-result
overflow_cast-result c = let fits = comes_fits c.args.self.now c.args.end _ (first c) in let few = fits_few c.args.self.now _ fits in omega arith

pub overflow_add-result : goal.overflow_add-result
overflow_add-result c = let fits = comes_fits c.args.self.now c.args.end _ (first c) in let few = fits_few c.args.self.now _ fits in omega arith

pub returns-clause-first : goal.returns-clause-first
returns-clause-first c = first c

pub returns-clause-fits : goal.returns-clause-fits
returns-clause-fits c = comes_fits c.args.self.now c.args.end _ (first c)

pub overflow_sub-inward : goal.overflow_sub-inward
overflow_sub-inward c = omega arith

pub outward_to-before-requires : goal.outward_to-before-requires
outward_to-before-requires c = grind arith

pub overflow_mul-outer : goal.overflow_mul-outer
overflow_mul-outer c = grind arith

pub overflow_add-outer : goal.overflow_add-outer
overflow_add-outer c = grind arith

pub overflow_mul-ahead : goal.overflow_mul-ahead
overflow_mul-ahead c = omega arith

pub overflow_sub-ahead : goal.overflow_sub-ahead
overflow_sub-ahead c = omega arith

pub overflow_cast-ahead-2 : goal.overflow_cast-ahead-2
overflow_cast-ahead-2 c = omega arith

pub overflow_mul-ahead-2 : goal.overflow_mul-ahead-2
overflow_mul-ahead-2 c = grind arith

pub overflow_cast-passed-2 : goal.overflow_cast-passed-2
overflow_cast-passed-2 c = omega arith

pub overflow_mul-passed : goal.overflow_mul-passed
overflow_mul-passed c = search rules

pub saturating_sub-requires : goal.saturating_sub-requires
saturating_sub-requires c = omega arith

pub overflow_cast-end : goal.overflow_cast-end
overflow_cast-end c = omega arith

pub overflow_mul-self : goal.overflow_mul-self
overflow_mul-self c = grind arith

pub ceil_div-more-requires-clause-some : goal.ceil_div-more-requires-clause-some
ceil_div-more-requires-clause-some c = grind arith

pub ceil_div-more-requires-clause-small : goal.ceil_div-more-requires-clause-small
ceil_div-more-requires-clause-small c = grind arith

pub ceil_div-more-requires-clause-small_b : goal.ceil_div-more-requires-clause-small_b
ceil_div-more-requires-clause-small_b c = grind arith
