use Rattle.std.proofs.Common.{arith, ◌<◌}
use Rattle.ng_step.proofs.PeriodLemmas.{root_up_only, root_lt, root_le}
use Rattle.ng_step.proofs.periods.root_up.Goals as goal

pub returns-then-root-square-clause-least : goal.returns-then-root-square-clause-least
returns-then-root-square-clause-least c = record { enough = omega arith; least = λ k le. root_le c.isqrt-root.result k (omega arith) }

pub returns-else-root-square-clause-least : goal.returns-else-root-square-clause-least
returns-else-root-square-clause-least c =
    record {
      enough = omega arith;
      least = λ k le.
          (let less : c.isqrt-root.result < k = root_lt c.isqrt-root.result k (omega arith) in omega arith);
    }

pub returns-then-root-square-clause-value : goal.returns-then-root-square-clause-value
returns-then-root-square-clause-value c = root_up_only c.args.square c.isqrt-root.result (omega arith) (λ k le. root_le c.isqrt-root.result k (omega arith))

pub returns-else-root-square-clause-value : goal.returns-else-root-square-clause-value
returns-else-root-square-clause-value c = root_up_only c.args.square _ (omega arith)
    (λ k le. let less : c.isqrt-root.result < k = root_lt c.isqrt-root.result k (omega arith) in omega arith)
