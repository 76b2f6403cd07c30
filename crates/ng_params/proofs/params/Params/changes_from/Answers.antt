use Rattle.std.proofs.Common.{◌∙◌, ap, arith}
use Rattle.ng_params.proofs.ChangeLemmas.{changes_none, step_push, step_same, changes_restore, changes_differ}
use Rattle.ng_params.proofs.params.Params.changes_from.Goals.{then-ne+in_ok-push, else-ne}
use Rattle.ng_params.proofs.params.Params.changes_from.Goals as goal

pub loop-k-init : goal.loop-k-init
loop-k-init g c = rw c.new-changes.ensures.items (changes_none _ _)

pub loop-k-preserved : goal.loop-k-preserved
loop-k-preserved g c =
    elim c.if-ne.branch [
      | then-ne+in_ok-push w ↦ step_push _ _ _ _ _ _ _ _ _ c.loop-k-test.true c.old.invariant c.self.invariant c.index.ensures c.index-in-loop-k.ensures
          c.ne.ensures w.if-ne.true w.known.ensures (ap (λ v. v.items) w.changes-is ∙ w.in_ok-push.ensures.items) c.loop-k.invariant
      | else-ne w ↦ step_same _ _ _ _ _ _ _ _ c.loop-k-test.true c.old.invariant c.self.invariant c.index.ensures c.index-in-loop-k.ensures
          c.ne.ensures w.if-ne.false (ap (λ v. v.items) w.changes-is) c.loop-k.invariant
    ]

pub returns-clause-restores : goal.returns-clause-restores
returns-clause-restores g c =
    rw (← c.old.view_is, ← c.self.view_is)
    (changes_restore _ _ _ _ (omega (arith, c.old.invariant)) (omega (arith, c.self.invariant)) c.loop-k.invariant)

pub returns-clause-differ : goal.returns-clause-differ
returns-clause-differ g c =
    rw (← c.old.view_is, ← c.self.view_is)
    (changes_differ _ _ _ _ (omega (arith, c.old.invariant)) (omega (arith, c.self.invariant)) c.loop-k.invariant)

pub returns-clause-rising : goal.returns-clause-rising
returns-clause-rising g c = c.loop-k.invariant.rising
