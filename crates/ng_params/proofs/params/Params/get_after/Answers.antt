use Rattle.std.proofs.Common.{arith, ◌+◌, sym, ap, ◌∙◌, ◌≡◌, ◌∷◌, drop, subst, List}
use Rattle.std.proofs.lemmas.List.{drop_more, drop_all}
use Rattle.ng_params.specs.Params.{at}
use Rattle.ng_params.specs.Change.{with_changes}
use Rattle.ng_params.specs.declared.change.Change.{Change}
use Rattle.ng_params.proofs.OneParameterLemmas.{IsAhead, ahead_start, ahead_same, ahead_other, ahead_end}
use Rattle.ng_params.proofs.params.Params.get_after.Goals.{then-number, else-number}
use Rattle.ng_params.proofs.params.Params.get_after.Goals as goal

pub loop-change-init : goal.loop-change-init
loop-change-init g c =
    let n = c.number-number.ensures in
    ahead_start c.self.inside.values.items _ _ _ _ c.self.view_is c.self.invariant (omega (arith, n.value, n.low))
    (omega (arith, n.value, n.high)) c.index-value.ensures

pub loop-change-preserved : goal.loop-change-preserved
loop-change-preserved g c =
    let n = c.number-number.ensures in
    let m = c.number.ensures in
    let change : Change = c.change-item.result in
    let rest : List Change = drop (c.loop-change.change-index + 1) c.args.changes.now in
    let parted : drop c.loop-change.change-index c.args.changes.now ≡ change ∷ rest =
    drop_more c.args.changes.now c.loop-change.change-index change c.loop-change-test.true ∙ ap (λ x. x ∷ rest) (sym c.change-item.is) in
    let here = subst (λ l. IsAhead c.args.self.now c.number-number.result c.args.changes.now c.loop-change.value l) parted c.loop-change.invariant in
    elim c.if-number.branch [
      | then-number w ↦ rw w.value-is
          (ahead_same _ _ _ _ change rest (omega (arith, n.value, n.low)) (omega (arith, n.value, n.high))
          (omega (arith, m.value, w.if-number.true)) here)
      | else-number w ↦ rw w.value-is (ahead_other _ _ _ _ change rest (omega (arith, n.value, n.low)) m.low
          (λ e. w.if-number.false (omega (arith, m.value, e))) here)
    ]

pub returns : goal.returns
returns g c =
    let done = drop_all c.loop-change.change-index c.args.changes.now c.loop-change-test.false in
    ahead_end _ _ _ _ _ done c.loop-change.invariant ∙ ap (at (with_changes c.args.self.now c.args.changes.now)) c.number-number.ensures.value
