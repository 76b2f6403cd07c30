use Rattle.std.proofs.Common.{arith}
use Rattle.std.proofs.lemmas.Int.{ints}
use Rattle.ng_canon.proofs.PlanePointLemmas.{stored_cross}
use Rattle.ng_canon.proofs.plane_point.PlanePoint.cross.Goals as goal

pub overflow_sub-result : goal.overflow_sub-result
overflow_sub-result c =
    let first = c.product.ensures.size in
    let second = c.product-2.ensures.size in
    omega (arith, ints)

pub returns : goal.returns
returns c = stored_cross c.args.self c.args.other _ _ c.requires.first c.requires.second c.product.ensures.value
    c.product-2.ensures.value c.product.ensures.size c.product-2.ensures.size
