use Rattle.std.proofs.Common.{arith, ◌*◌, ◌≤◌}
use Rattle.std.proofs.Math.Nat.{mul-le-mul_right}
use Rattle.ng_pace.proofs.corner.axis_bend.Goals as goal

pub returns-clause-most : goal.returns-clause-most
returns-clause-most c = λ slope next is is' between between'. record {
  before_size = let more : c.size.result * slope.over ≤ c.max.result * slope.over = mul-le-mul_right slope.over (omega (arith, c.max.ensures)) in
      omega (arith, c.size.ensures.most slope is between);
  after_size = let more : c.size-2.result * next.over ≤ c.max.result * next.over = mul-le-mul_right next.over (omega (arith, c.max.ensures)) in
      omega (arith, c.size-2.ensures.most next is' between');
  change = c.bend_to.ensures.most slope next is is' between between';
}

pub returns-clause-exact : goal.returns-clause-exact
returns-clause-exact c = (cc (c.max.ensures, c.size.ensures.exact, c.size-2.ensures.exact), c.bend_to.ensures.exact)
