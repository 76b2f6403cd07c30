use Rattle.std.proofs.Common.{arith, ◌≡◌, ◌≤ℤ◌, ◌∷◌, [], sym, ap, refl, true, false, int_lt, unwrap_or}
use Rattle.std.specs.Option.{is_none}
use Rattle.std.proofs.lemmas.Int.{ints}
use Rattle.ng_num.proofs.FirstFaultLemmas.{unless_err, unless_ok}
use Rattle.ng_num.specs.declared.fault.Fault.TheVariants.{NoFeed}
use Rattle.ng_canon.specs.Pace.{above_zero}
use Rattle.ng_num.specs.Causes.{first_fault}
use Rattle.ng_cycles.specs.Faults.{work_of, work_causes, drill_by}
use Rattle.ng_cycles.proofs.CauseListLemmas.{hole_err, hole_unfed, hole_ok}
use Rattle.ng_cycles.proofs.CycleWordLemmas.{not_below, clear_above, clear_below}
use Rattle.ng_cycles.proofs.canned.drill_in.Goals as goal

pub returns-then-nm-clause-drill : goal.returns-then-nm-clause-drill
returns-then-nm-clause-drill c =
    let l = c.args.lengths.now in
    let below : int_lt l.r l.z ≡ true = grind (arith, ints) in
    rw below refl

pub returns-then-context-clause-drill : goal.returns-then-context-clause-drill
returns-then-context-clause-drill c =
    let l = c.args.lengths.now in
    let above : l.z ≤ℤ l.r = omega (arith, ints) in
    rw (not_below l.r l.z above, c.if-context.true) refl

pub returns-in-Err-clause-drill : goal.returns-in-Err-clause-drill
returns-in-Err-clause-drill c =
    let w = c.args.words.now in
    let s = c.args.context.now in
    let words = c.args.in_force.now in
    let l = c.args.lengths.now in
    let above : l.z ≤ℤ l.r = omega (arith, ints) in
    hole_err _ s.is_inverse_time (work_causes w.kind words s.outputs.spindle)
    ((is_none (above_zero s.feed_per_min), NoFeed) ∷ []) c.in-Err.fault (drill_by w s words l)
    (not_below l.r l.z above) c.if-context.false
    (unless_err (first_fault (work_causes w.kind words s.outputs.spindle)) (work_of w.kind words) c.in-Err.fault
    (sym c.in-Err.ensures.work))

pub returns-in-None-clause-drill : goal.returns-in-None-clause-drill
returns-in-None-clause-drill c =
    let w = c.args.words.now in
    let s = c.args.context.now in
    let words = c.args.in_force.now in
    let l = c.args.lengths.now in
    let above : l.z ≤ℤ l.r = omega (arith, ints) in
    let causes = work_causes w.kind words s.outputs.spindle in
    let work = unless_ok (first_fault causes) (work_of w.kind words) c.in-Ok.work (sym c.in-Ok.ensures.work) in
    let unfed : is_none (above_zero s.feed_per_min) ≡ true = ap is_none (sym c.in-None.ensures) in
    hole_unfed _ s.is_inverse_time _ causes (drill_by w s words l) (not_below l.r l.z above) c.if-context.false work.0 unfed

pub returns-in-Some-clause-drill : goal.returns-in-Some-clause-drill
returns-in-Some-clause-drill c =
    let w = c.args.words.now in
    let s = c.args.context.now in
    let words = c.args.in_force.now in
    let l = c.args.lengths.now in
    let above : l.z ≤ℤ l.r = omega (arith, ints) in
    let causes = work_causes w.kind words s.outputs.spindle in
    let work = unless_ok (first_fault causes) (work_of w.kind words) c.in-Ok.work (sym c.in-Ok.ensures.work) in
    let fed : is_none (above_zero s.feed_per_min) ≡ false = ap is_none (sym c.in-Some.ensures) in
    let rate : c.in-Some.rate ≡ unwrap_or (above_zero s.feed_per_min) 1 = ap (λ o. unwrap_or o 1) c.in-Some.ensures in
    hole_ok _ s.is_inverse_time _ causes (drill_by w s words l) _ (not_below l.r l.z above) c.if-context.false
    work.0 fed (rw (sym work.1, c.clear_of.ensures, rate) refl)

pub returns-in-Some-clause-made : goal.returns-in-Some-clause-made
returns-in-Some-clause-made c =
    let s = c.args.context.now in
    let l = c.args.lengths.now in
    record {
      some = c.requires.some;
      x = c.requires.x;
      y = c.requires.y;
      deep = c.in-Ok.ensures.deep;
      above = omega (arith, ints);
      above_r = rw c.clear_of.ensures (clear_above s.keeps_old_z s.point.z l.r);
      below_top = rw c.clear_of.ensures (clear_below s.keeps_old_z s.point.z l.r);
    }
