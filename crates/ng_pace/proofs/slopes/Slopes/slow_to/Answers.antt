use Rattle.std.proofs.Common.{inl, inr}
use Rattle.ng_pace.proofs.SlopeLemmas.{slows}
use Rattle.ng_pace.proofs.slopes.Slopes.slow_to.Goals as goal

pub returns-then-slow_ahead_to : goal.returns-then-slow_ahead_to
returns-then-slow_ahead_to c = λ yes before after is is' between between'.
    slows c.args.self.now c.args.other.now before after between between' (inl (c.slow_ahead_to.ensures c.if-slow_ahead_to.true))

pub returns-else-slow_ahead_to : goal.returns-else-slow_ahead_to
returns-else-slow_ahead_to c = λ yes before after is is' between between'.
    slows c.args.self.now c.args.other.now before after between between' (inr (c.slow_back_to.ensures yes))
