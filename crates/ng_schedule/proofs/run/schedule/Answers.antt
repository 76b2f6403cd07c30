use Rattle.std.proofs.Common.{Err, subst, ◌<◌, ◌∙◌, ◌++◌, [], List, ℕ, arith, length, refl, sym, take, rules}
use Rattle.ng_text.specs.Split.{HasNoNewline}
use Rattle.ng_schedule.specs.Private.Parts.{IsUnderWay}
use Rattle.ng_schedule.specs.declared.ending.ScheduleFault.TheVariants.{Reader}
use Rattle.ng_schedule.proofs.FinishLemmas.{ScheduleSpec-from, begun, cut_broken, nothing_written, run_ends, run_stops}
use Rattle.ng_schedule.proofs.RunStepLemmas.{stops_for_no_limits}
use Rattle.ng_schedule.proofs.ScheduleRunLemmas.{cut}
use Rattle.ng_streams.proofs.KnownBytesLemmas.{Consumes-nil, Consumes-trans}
use Rattle.ng_schedule.proofs.run.schedule.Goals as goal

pub returns-in-Err-clause-run : goal.returns-in-Err-clause-run
returns-in-Err-clause-run g c = nothing_written c.args.limits c.args.shown _ _ c.in-Err.fault

pub returns-in-Err-read-clause-run : goal.returns-in-Err-read-clause-run
returns-in-Err-read-clause-run g c =
    let so_far = c.loop-pass.invariant.0 in
    let s = c.loop-pass.splitter.schedule in
    run_stops c.args.limits _ _ _ _ so_far.0 c.args.shown (Err Reader) so_far.1
    (λ more. cut_broken c.args.limits c.args.shown _ _ so_far.0 more Reader
    (cut c.args.limits _ _ so_far.0 c.loop-pass.splitter.partial.items s c.args.shown (sym c.loop-pass.invariant.2)
    so_far.2))

pub returns-in-Ok-eq0-clause-run : goal.returns-in-Ok-eq0-clause-run
returns-in-Ok-eq0-clause-run g c =
    let so_far = c.loop-pass.invariant.0 in
    let r = c.in-Ok-eq0.ensures.bytes in
    let has_bytes : 0 < length c.read.new.buf = omega arith in
    run_ends c.args.limits _ _ _ _ _ so_far.0 _ _ c.args.shown c.close.result so_far.1 r.0 c.in-Ok-eq0.field-0-test (r.1 c.in-Ok-eq0.field-0-test has_bytes)
    (ScheduleSpec-from c.args.limits _ c.args.shown so_far.0 so_far.0 _ _ c.close.result
    (sym c.loop-pass.invariant.2) refl (c.close.ensures.step c.args.limits _ so_far.0 so_far.2))

pub returns-in-Err-take-clause-run : goal.returns-in-Err-take-clause-run
returns-in-Err-take-clause-run g c =
    let so_far = c.loop-pass.invariant.0 in
    let r = c.in-Ok-read.ensures.bytes in
    let bytes = take c.in-Ok-read.n c.read.new.buf in
    run_stops c.args.limits _ _ _ _ (so_far.0 ++ bytes) c.args.shown c.stop.result (Consumes-trans _ _ _ _ _ so_far.1 r.0)
    (λ more. ScheduleSpec-from c.args.limits _ c.args.shown _ _ _ _ c.stop.result (sym (c.take.ensures.shown ∙ c.loop-pass.invariant.2)) refl
    (c.stop.ensures.step c.args.limits _ (so_far.0 ++ bytes) more (c.in-Err-take.ensures.step c.args.limits _ so_far.0 so_far.2)))

pub loop-pass-preserved : goal.loop-pass-preserved
loop-pass-preserved g c =
    let so_far = c.loop-pass.invariant.0 in
    let r = c.in-Ok-read.ensures.bytes in
    let bytes = take c.in-Ok-read.n c.read.new.buf in (
      (so_far.0 ++ bytes, Consumes-trans _ _ _ _ _ so_far.1 r.0, c.in-Ok-take.ensures.step c.args.limits _ so_far.0 so_far.2),
      c.take.ensures.partial,
      c.take.ensures.shown ∙ c.loop-pass.invariant.2,
    )

pub returns-clause-run : goal.returns-clause-run
returns-clause-run g c =
    let so_far = c.loop-pass.invariant.0 in
    let s = c.loop-pass.splitter.schedule in
    run_stops c.args.limits _ _ _ _ so_far.0 c.args.shown (Err Reader) so_far.1
    (λ more. cut_broken c.args.limits c.args.shown _ _ so_far.0 more Reader
    (cut c.args.limits _ _ so_far.0 c.loop-pass.splitter.partial.items s c.args.shown (sym c.loop-pass.invariant.2)
    so_far.2))

pub loop-pass-init : goal.loop-pass-init
loop-pass-init g c =
    let w = g.W.Write.contents c.args.writer.now in
    let made = c.in-Ok.ensures in
    let nothing = begun c.args.limits w c.in-Ok.schedule made.empty made.text made.due made.number in (
      ([], Consumes-nil _, subst (λ (k : List ℕ). IsUnderWay c.args.limits w w [] k c.in-Ok.schedule) (sym c.new-2.ensures) nothing),
      subst HasNoNewline (sym c.new-2.ensures) tt,
      made.shown,
    )

pub new-requires : goal.new-requires
new-requires g c κs = grind arith

pub new-requires-2 : goal.new-requires-2
new-requires-2 g c = omega arith

pub slice_bounds-read-end : goal.slice_bounds-read-end
slice_bounds-read-end g c = omega arith

pub read-requires : goal.read-requires
read-requires g c κs = grind arith

pub drop-splitter-requires : goal.drop-splitter-requires
drop-splitter-requires g c κs = search rules

pub drop-splitter-requires-in-Err-read : goal.drop-splitter-requires-in-Err-read
drop-splitter-requires-in-Err-read g c κs = search rules

pub drop-splitter-requires-in-Err-read-2 : goal.drop-splitter-requires-in-Err-read-2
drop-splitter-requires-in-Err-read-2 g c κs = search rules

pub close-requires : goal.close-requires
close-requires g c = grind arith

pub drop-splitter-requires-in-Ok-eq0 : goal.drop-splitter-requires-in-Ok-eq0
drop-splitter-requires-in-Ok-eq0 g c κs = search rules

pub drop-splitter-requires-in-Ok-eq0-2 : goal.drop-splitter-requires-in-Ok-eq0-2
drop-splitter-requires-in-Ok-eq0-2 g c κs = search rules

pub drop-splitter-requires-in-Ok-eq0-3 : goal.drop-splitter-requires-in-Ok-eq0-3
drop-splitter-requires-in-Ok-eq0-3 g c κs = search rules

pub slice_bounds-buffer-end : goal.slice_bounds-buffer-end
slice_bounds-buffer-end g c = grind arith

pub slice_bounds-take-end : goal.slice_bounds-take-end
slice_bounds-take-end g c = grind arith

pub take-requires : goal.take-requires
take-requires g c = grind arith

pub stop-requires : goal.stop-requires
stop-requires g c κs = grind arith

pub drop-splitter-requires-in-Err-take : goal.drop-splitter-requires-in-Err-take
drop-splitter-requires-in-Err-take g c κs = search rules

pub drop-splitter-requires-in-Err-take-2 : goal.drop-splitter-requires-in-Err-take-2
drop-splitter-requires-in-Err-take-2 g c κs = search rules

pub drop-splitter-requires-in-Err-take-3 : goal.drop-splitter-requires-in-Err-take-3
drop-splitter-requires-in-Err-take-3 g c κs = search rules

pub loop-pass-smaller : goal.loop-pass-smaller
loop-pass-smaller g c = omega arith

pub drop-splitter-requires-2 : goal.drop-splitter-requires-2
drop-splitter-requires-2 g c κs = search rules

pub drop-splitter-requires-3 : goal.drop-splitter-requires-3
drop-splitter-requires-3 g c κs = search rules

pub drop-splitter-requires-4 : goal.drop-splitter-requires-4
drop-splitter-requires-4 g c κs = search rules

pub returns-in-Err-take-clause-limits : goal.returns-in-Err-take-clause-limits
returns-in-Err-take-clause-limits g c met =
    let so_far = c.loop-pass.invariant.0 in
    c.stop.ensures.limits (stops_for_no_limits c.args.limits _ _ _ c.take.new.self.schedule c.in-Err-take.stop
    (c.in-Err-take.ensures.step c.args.limits _ so_far.0 so_far.2))
