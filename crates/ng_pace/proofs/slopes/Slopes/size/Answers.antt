use Rattle.ng_pace.proofs.SlopeLemmas.{size-most}
use Rattle.ng_pace.proofs.slopes.Slopes.size.Goals as goal

pub returns-clause-most : goal.returns-clause-most
returns-clause-most c = λ slope is between. size-most c.args.self.now.least c.args.self.now.greatest slope.up slope.down slope.over c.min.result between.from
    between.up_to is.up is.down (cc (c.min.ensures, c.max.ensures, c.abs_diff.ensures, c.abs_diff-2.ensures))
