use Rattle.std.proofs.Common.{[], ◌∷◌, ◌++◌, sym, ◌∙◌, ap, arith, List}
use Rattle.std.proofs.lemmas.List.{take_all}
use Rattle.ng_rig.specs.Trace.{Trace, items}
use Rattle.ng_rig.specs.RecordedCalls.{trace_of_calls}
use Rattle.ng_rig.specs.declared.call.Call.{Call}
use Rattle.ng_rig.proofs.TraceLemmas.{trace_of_calls-next}
use Rattle.ng_rig.proofs.replay.items_of.Goals as goal
use Rattle.ng_rig.proofs.replay.items_of.Goals.{in-Write, in-Sync, in-Hand+in_ok-push-in-Hand}

pub loop-call-preserved : goal.loop-call-preserved
loop-call-preserved g c = λ sectors.
    elim c.match-call.branch [
      | in-Write w ↦
          let next = trace_of_calls-next sectors c.args.calls.now c.loop-call.call-index _ _ c.loop-call-test.true (sym c.call-item.is ∙ w.in-Write.is) in
          ap (λ v. v.items) w.handed-is ∙ c.loop-call.invariant sectors ∙ sym (ap (λ (l : Trace). items l) next)
      | in-Sync w ↦
          let next = trace_of_calls-next sectors c.args.calls.now c.loop-call.call-index _ _ c.loop-call-test.true (sym c.call-item.is ∙ w.in-Sync.is) in
          ap (λ v. v.items) w.handed-is ∙ c.loop-call.invariant sectors ∙ sym (ap (λ (l : Trace). items l) next)
      | in-Hand+in_ok-push-in-Hand w ↦
          let next = trace_of_calls-next sectors c.args.calls.now c.loop-call.call-index _ _ c.loop-call-test.true (sym c.call-item.is ∙ w.in-Hand.is) in
          ap (λ v. v.items) w.handed-is ∙ w.in_ok-push-in-Hand.ensures.items
          ∙ ap (λ l. l ++ w.in-Hand.item ∷ []) (c.loop-call.invariant sectors)
          ∙ sym (ap (λ (l : Trace). items l) next)
    ]

pub returns : goal.returns
returns g c = λ sectors. c.loop-call.invariant sectors ∙ ap (λ (cs : List Call). items (trace_of_calls sectors cs)) (take_all _ c.args.calls.now (omega arith))
