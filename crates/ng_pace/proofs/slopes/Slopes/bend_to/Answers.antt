use Rattle.std.proofs.Common.{arith}
use Rattle.ng_pace.proofs.SlopeLemmas.{bend_of}
use Rattle.ng_pace.proofs.slopes.Slopes.bend_to.Goals as goal

pub returns-clause-most : goal.returns-clause-most
returns-clause-most c = λ before after is is' between between'.
    bend_of c.args.self.now.least c.args.self.now.greatest c.args.other.now.least c.args.other.now.greatest before.up before.down before.over after.up
    after.down after.over c.max.result
    between.from between.up_to is.up between'.from between'.up_to is'.up (omega arith)
