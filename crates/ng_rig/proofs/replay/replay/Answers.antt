use Rattle.std.proofs.Common.{length, take, sym, ◌∙◌, ap, arith}
use Rattle.ng_rig.specs.Trace.{Trace, reads}
use Rattle.ng_rig.specs.RecordedCalls.{contents, trace_of_calls}
use Rattle.ng_rig.proofs.TraceLemmas.{trace_of_calls-next}
use Rattle.ng_rig.proofs.ReplayLemmas.{within_at, reads_write, whole_set}
use Rattle.ng_rig.proofs.replay.replay.Goals as goal
use Rattle.ng_rig.proofs.replay.replay.Goals.{in-Write, in-Sync, in-Hand}

pub loop-call-preserved : goal.loop-call-preserved
loop-call-preserved c =
    elim c.match-call.branch [
      | in-Write w ↦
          let at = sym c.call-item.is ∙ w.in-Write.is in
          let next = trace_of_calls-next c.args.image.now c.args.calls.now c.loop-call.call-index _ _ c.loop-call-test.true at in
          let within = within_at (length c.args.image.now) c.args.calls.now c.loop-call.call-index _ _ _ c.requires c.loop-call-test.true at in
          record {
            whole = λ was. whole_set _ _ w.in-Write.sector w.in-Write.bytes w.image-is within.1 (c.loop-call.invariant.whole was);
            reads = λ n. reads_write
                (trace_of_calls c.args.image.now (take c.loop-call.call-index c.args.calls.now)) _ _
                w.in-Write.sector w.in-Write.bytes (omega arith) w.image-is c.loop-call.invariant.reads n
                ∙ sym (ap (λ (l : Trace). reads l n) next);
          }
      | in-Sync w ↦
          let next = trace_of_calls-next c.args.image.now c.args.calls.now c.loop-call.call-index _ _
          c.loop-call-test.true (sym c.call-item.is ∙ w.in-Sync.is) in
          record {
            whole = λ was. rw w.image-is (c.loop-call.invariant.whole was);
            reads = λ n. ap (λ xs. contents xs n) w.image-is ∙ c.loop-call.invariant.reads n ∙ sym (ap (λ (l : Trace). reads l n) next);
          }
      | in-Hand w ↦
          let next = trace_of_calls-next c.args.image.now c.args.calls.now c.loop-call.call-index _ _
          c.loop-call-test.true (sym c.call-item.is ∙ w.in-Hand.is) in
          record {
            whole = λ was. rw w.image-is (c.loop-call.invariant.whole was);
            reads = λ n. ap (λ xs. contents xs n) w.image-is ∙ c.loop-call.invariant.reads n ∙ sym (ap (λ (l : Trace). reads l n) next);
          }
    ]
