use Rattle.std.proofs.Common.{arith}
use Rattle.std.proofs.lemmas.Int.{ints}
use Rattle.ng_canon.proofs.PlanePointLemmas.{stored_dot}
use Rattle.ng_canon.proofs.plane_point.PlanePoint.dot.Goals as goal

pub overflow_add-result : goal.overflow_add-result
overflow_add-result c =
    let first = c.product.ensures.size in
    let second = c.product-2.ensures.size in
    omega (arith, ints)

pub returns : goal.returns
returns c = stored_dot c.args.self c.args.other _ _ c.requires.first c.requires.second c.product.ensures.value
    c.product-2.ensures.value c.product.ensures.size c.product-2.ensures.size
