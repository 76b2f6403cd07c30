use Rattle.std.proofs.Common.{arith, ap, length, ◌-◌}
use Rattle.ng_words.proofs.WalkPlaceLemmas.{walking_starts, walking_goes, walking_ends, not_ended, has_ended_is}
use Rattle.ng_words.proofs.value.walk.Goals as goal

pub loop-cursor-init : goal.loop-cursor-init
loop-cursor-init c = (walking_starts _ _ _ c.clear.ensures, omega (arith, ap length c.clear.ensures), c.len-start.ensures.value)

pub loop-cursor-smaller : goal.loop-cursor-smaller
loop-cursor-smaller c =
    (walking_goes c.args.cursor.now _ _ _ _ _ _ _ _ _ c.loop-cursor.invariant.0
    (not_ended _ _ _ c.has_ended.ensures c.loop-cursor-test.true) c.in-Some.ensures.steps).1

pub loop-cursor-preserved : goal.loop-cursor-preserved
loop-cursor-preserved c = (
  (walking_goes c.args.cursor.now _ _ _ _ _ _ _ _ _ c.loop-cursor.invariant.0
      (not_ended _ _ _ c.has_ended.ensures c.loop-cursor-test.true) c.in-Some.ensures.steps).0,
  omega (arith, c.in-Some.ensures.fits),
  c.loop-cursor.invariant.2,
)

pub returns-clause-value : goal.returns-clause-value
returns-clause-value c =
    walking_ends c.args.cursor.now _ _ _ _ _ (c.len.result - c.len-start.result) c.loop-cursor.invariant.0
    (has_ended_is _ _ _ c.has_ended.ensures c.loop-cursor-test.false)
    (omega (arith, c.len.ensures.value, c.loop-cursor.invariant.2))
