use Rattle.std.proofs.Common.{◌≡◌, ◌<◌, ◌-ℤ◌, ◌*ℤ◌, ◌∙◌, ap, sym, arith, Some, unsigned_abs, w64}
use Rattle.std.proofs.lemmas.Int.{ints, to_z-of_z}
use Rattle.ng_num.specs.Arithmetic.{million}
use Rattle.ng_num.specs.Rounding.{near}
use Rattle.ng_num.specs.Whole.{IsClose}
use Rattle.ng_num.proofs.WholeNumberLemmas.{close_only, none_if_far, whole_if_close}
use Rattle.ng_num.proofs.whole.close_whole.Goals as goal

pub returns-then-unsigned_abs-le-CLOSE-clause-value :
    goal.returns-then-unsigned_abs-le-CLOSE-clause-value
returns-then-unsigned_abs-le-CLOSE-clause-value c =
    let nearest = c.nearest_whole-nearest in
    let value : nearest.result ≡ near c.args.count 1_000_000 = rw (to_z-of_z w64 c.args.count c.ranges.count) at nearest.ensures.value in
    let close : IsClose c.args.count (near c.args.count 1_000_000) = rw (← value) (omega (arith, ints)) in
    ap Some (to_z-of_z w64 nearest.result (record { sfits = nearest.type_inv }) ∙ value) ∙ sym (whole_if_close c.args.count close)

far : (c : goal.Else-unsigned_abs-le-CLOSE) → 100 < unsigned_abs (c.args.count -ℤ near c.args.count 1_000_000 *ℤ million)
far c =
    let value : c.nearest_whole-nearest.result ≡ near c.args.count 1_000_000 =
    rw (to_z-of_z w64 c.args.count c.ranges.count) at c.nearest_whole-nearest.ensures.value in
    rw (← value) (omega (arith, ints))

pub returns-else-unsigned_abs-le-CLOSE-clause-value :
    goal.returns-else-unsigned_abs-le-CLOSE-clause-value
returns-else-unsigned_abs-le-CLOSE-clause-value c = sym (none_if_far c.args.count (far c))

pub returns-else-unsigned_abs-le-CLOSE-clause-none :
    goal.returns-else-unsigned_abs-le-CLOSE-clause-none
returns-else-unsigned_abs-le-CLOSE-clause-none c = λ n close.
    let only = close_only c.args.count n close in
    let far_off = far c in
    let far_from : 100 < unsigned_abs (c.args.count -ℤ n *ℤ million) = rw only far_off in
    omega (arith, close)
