use Rattle.std.proofs.Common.{◌≡◌, ℕ, drop, arith, subst}
use Rattle.ng_modal.specs.Sorted.{sorted}
use Rattle.ng_modal.proofs.sorted.Sorted.sort.Goals as goal

pub returns : goal.returns
returns c =
    let done : c.loop-i.i ≡ 0 = omega arith in
    let Left : ℕ → Type 0 = λ i. c.loop-i.self ≡ sorted (drop i c.args.words.now) in
    subst Left done c.loop-i.invariant
