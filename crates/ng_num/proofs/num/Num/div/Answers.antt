use Rattle.std.proofs.Common.{◌≡◌, ◌<◌, ◌*ℤ◌, sym, ◌∙◌, arith, unsigned_abs}
use Rattle.ng_num.proofs.NearestLemmas.{Answers_nearest}
use Rattle.ng_num.proofs.ProductLemmas.{quotient_by_other, quotient_by_size, quotient_by_zero}
use Rattle.ng_num.specs.Range.{in_range}
use Rattle.ng_num.specs.Rounding.{near_by, signed, is_unlike}
use Rattle.ng_num.specs.Arithmetic.{million}
use Rattle.ng_num.proofs.num.Num.div.Goals as goal

pub returns-then-size-eq0-clause-value : goal.returns-then-size-eq0-clause-value
returns-then-size-eq0-clause-value c = sym (quotient_by_zero _ _ (omega arith))

computed : (c : goal.After-of_size) → c.of_size.result ≡ in_range (near_by (c.args.self *ℤ million) c.args.divisor)
computed c =
    let some : 0 < unsigned_abs c.args.divisor = omega arith in
    let known : c.of_size.result ≡ in_range (signed (is_unlike c.args.self c.args.divisor) c.nearest_size.result) = cc in
    known ∙ quotient_by_size c.args.self c.args.divisor _ _ _ some c.size-2.ensures.value c.size-3.ensures.value c.nearest_size.ensures

pub returns-clause-value : goal.returns-clause-value
returns-clause-value c = computed c ∙ sym (quotient_by_other _ _ (omega arith))

pub returns-clause-nearest : goal.returns-clause-nearest
returns-clause-nearest c = λ other. Answers_nearest _ _ _ (omega arith) (computed c)
