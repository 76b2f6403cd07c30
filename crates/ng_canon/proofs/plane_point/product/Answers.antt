use Rattle.ng_canon.proofs.PlanePointLemmas.{wide_product, wide_product_size, wide_product_fits}
use Rattle.ng_canon.proofs.plane_point.product.Goals as goal

pub overflow_mul-result : goal.overflow_mul-result
overflow_mul-result c = wide_product_fits c.args.first c.args.second c.requires.first c.requires.second

pub returns-clause-value : goal.returns-clause-value
returns-clause-value c = wide_product c.args.first c.args.second c.requires.first c.requires.second

pub returns-clause-size : goal.returns-clause-size
returns-clause-size c = wide_product_size c.args.first c.args.second c.requires.first c.requires.second
