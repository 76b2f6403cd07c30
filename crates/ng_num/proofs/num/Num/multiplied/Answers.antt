use Rattle.std.proofs.Common.{◌+◌, Ok, ap, ◌∙◌, sym, arith}
use Rattle.ng_num.proofs.PowerLemmas.{power-zero, power_ends, power_next}
use Rattle.ng_num.proofs.num.Num.multiplied.Goals as goal

pub loop-init : goal.loop-init
loop-init c = power-zero c.args.self ∙ ap Ok (sym c.one-product.ensures)

pub returns-in-Err : goal.returns-in-Err
returns-in-Err c =
    let next = power_next c.args.self c.loop.counter c.loop.product c.loop.invariant in
    sym (power_ends c.args.self (c.loop.counter + 1) c.args.times _ (next ∙ sym c.mul.ensures.value ∙ c.in-Err.is) (omega arith))

pub loop-preserved : goal.loop-preserved
loop-preserved c =
    power_next c.args.self c.loop.counter c.loop.product c.loop.invariant ∙ sym c.mul.ensures.value ∙ c.in-Ok.is
