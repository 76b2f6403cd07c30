use Rattle.std.proofs.Common.{◌≡◌, Ok}
use Rattle.ng_num.specs.Power.{power}
use Rattle.ng_num.proofs.num.Num.multiplied.Given as goal

abbrev pub invariant-loop : goal.invariant-loop
invariant-loop l = power l.self l.counter ≡ Ok l.product
