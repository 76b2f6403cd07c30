use Rattle.std.proofs.Common.{◌≡◌, ◌+◌, ◌∷◌, ◌++◌, [], List, take, sym, ap, ◌∙◌, arith}
use Rattle.std.proofs.lemmas.List.{take_more, take_all}
use Rattle.ng_params.specs.declared.change.Change.{Change}
use Rattle.ng_params.proofs.SettlingLemmas.{next_none, next_above, next_below}
use Rattle.ng_params.proofs.differences.next_changed.Goals.{then-above-number, else-above-number}
use Rattle.ng_params.proofs.differences.next_changed.Goals as goal

pub loop-change-init : goal.loop-change-init
loop-change-init c = next_none c.args.above

pub loop-change-preserved : goal.loop-change-preserved
loop-change-preserved c =
    let number = c.number.ensures in
    let changes = c.args.changes.now in
    let change : Change = c.change-item.result in
    let before : List Change = take c.loop-change.change-index changes in
    let more : take (c.loop-change.change-index + 1) changes ≡ before ++ change ∷ [] =
    take_more changes c.loop-change.change-index change c.loop-change-test.true ∙ ap (λ (x : Change). before ++ x ∷ []) (sym c.change-item.is) in
    rw more (elim c.if-above-number.branch [
      | then-above-number w ↦ rw w.next-is
          (next_above c.args.above before change c.loop-change.next w.first_of.result number.low
          (omega (arith, number.value, w.if-above-number.true)) w.first_of.ensures c.loop-change.invariant)
      | else-above-number w ↦ rw w.next-is
          (next_below c.args.above before change c.loop-change.next number.low
          (omega (arith, number.value, w.if-above-number.false)) c.loop-change.invariant)
    ])

pub returns : goal.returns
returns c = rw (← take_all c.loop-change.change-index c.args.changes.now c.loop-change-test.false) c.loop-change.invariant
