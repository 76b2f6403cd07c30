use Rattle.std.proofs.lemmas.Grind.{common_steps}
use Rattle.std.proofs.Common.{length, take, sym, ◌∙◌, ap, arith, slice_index}
use Rattle.ng_rig.specs.RecordedCalls.{contents, trace_of_calls}
use Rattle.ng_rig.proofs.TraceLemmas.{trace_of_calls-next}
use Rattle.ng_rig.specs.declared.call.Call.TheVariants.{Sync}
use Rattle.ng_rig.proofs.ReplayLemmas.{default_is, within_at, whole_set, durable_write, durable_passed, count_write, bound_write}
use Rattle.ng_rig.proofs.replay.replay_durable.Goals as goal
use Rattle.ng_rig.proofs.replay.replay_durable.Goals.{in-Write, then-before-number_at, else-before-number_at, in-Sync, in-Hand}

pub loop-call-preserved : goal.loop-call-preserved
loop-call-preserved c =
    elim c.match-call.branch [
      | in-Write w ↦
          let at = sym c.call-item.is ∙ w.in-Write.is in
          let next = trace_of_calls-next c.args.image.now c.args.calls.now c.loop-call.call-index _ _ c.loop-call-test.true at in
          let within = within_at (length c.args.image.now) c.args.calls.now c.loop-call.call-index _ _ _ c.requires.within c.loop-call-test.true at in
          let h = c.loop-call.invariant in
          let trace = trace_of_calls c.args.image.now (take c.loop-call.call-index c.args.calls.now) in
          let now = h.count w.in-Write.sector in
          rw next (record {
            whole = λ was. elim w.if-before-number_at.branch [
              | then-before-number_at w' ↦ whole_set _ _ w.in-Write.sector w.in-Write.bytes (w.image-is ∙ w'.image-is) within.1 (h.whole was)
              | else-before-number_at w' ↦ rw (w.image-is ∙ w'.image-is) (h.whole was)
            ];
            image = elim w.if-before-number_at.branch [
              | then-before-number_at w' ↦ durable_write trace c.args.keep.now _ _ w.in-Write.sector w.in-Write.bytes
                  (omega arith) (omega (arith, now, w.number_at.ensures)) (w.image-is ∙ w'.image-is) h.image
              | else-before-number_at w' ↦ durable_passed trace c.args.keep.now _ _ w.in-Write.sector w.in-Write.bytes
                  (omega (arith, now, w.number_at.ensures)) (w.image-is ∙ w'.image-is) h.image
            ];
            count = count_write trace _ _ w.in-Write.sector w.in-Write.bytes (omega arith) w.written-is h.count;
            bound = bound_write _ _ w.in-Write.sector c.loop-call.call-index (omega arith) w.written-is h.bound;
          })
      | in-Sync w ↦ absurd (c.requires.unsynced c.loop-call.call-index c.loop-call-test.true
          (default_is c.args.calls.now c.loop-call.call-index Sync c.call-item.result c.loop-call-test.true
          ∙ sym c.call-item.is ∙ w.in-Sync.is))
      | in-Hand w ↦
          let next = trace_of_calls-next c.args.image.now c.args.calls.now c.loop-call.call-index _ _
          c.loop-call-test.true (sym c.call-item.is ∙ w.in-Hand.is) in
          let h = c.loop-call.invariant in
          rw next (record {
            whole = λ was. rw w.image-is (h.whole was);
            image = λ n. ap (λ xs. contents xs n) w.image-is ∙ h.image n;
            count = λ n. ap (λ xs. slice_index xs n) w.written-is ∙ h.count n;
            bound = λ n. omega (arith, ap (λ xs. slice_index xs n) w.written-is, h.bound n);
          })
    ]

pub loop-call-init : goal.loop-call-init
loop-call-init c = grind arith

pub offset_bounds-calls-call-index : goal.offset_bounds-calls-call-index
offset_bounds-calls-call-index c = omega arith

pub bounds-calls-call-index : goal.bounds-calls-call-index
bounds-calls-call-index c = omega arith

pub offset_bounds-written-sector : goal.offset_bounds-written-sector
offset_bounds-written-sector c = grind (arith, common_steps)

pub bounds-written-sector : goal.bounds-written-sector
bounds-written-sector c = grind (arith, common_steps)

pub number_at-requires : goal.number_at-requires
number_at-requires c = omega arith

pub offset_bounds-image-sector : goal.offset_bounds-image-sector
offset_bounds-image-sector c = grind (arith, common_steps)

pub bounds-image-sector : goal.bounds-image-sector
bounds-image-sector c = grind (arith, common_steps)

pub overflow_add-written : goal.overflow_add-written
overflow_add-written c = omega arith

pub offset_bounds-written-sector-in-Write : goal.offset_bounds-written-sector-in-Write
offset_bounds-written-sector-in-Write c = grind (arith, common_steps)

pub bounds-written-sector-in-Write : goal.bounds-written-sector-in-Write
bounds-written-sector-in-Write c = grind (arith, common_steps)

pub loop-call-smaller : goal.loop-call-smaller
loop-call-smaller c = omega arith

pub returns-clause-whole : goal.returns-clause-whole
returns-clause-whole c = grind arith

pub returns-clause-image : goal.returns-clause-image
returns-clause-image c = grind (arith, common_steps)
