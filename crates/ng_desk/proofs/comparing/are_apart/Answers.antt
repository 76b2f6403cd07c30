use Rattle.std.proofs.Common.{arith}
use Rattle.ng_desk.proofs.RisingNumberLemmas.{left_after, right_after, shared, rise_after}
use Rattle.ng_desk.proofs.comparing.are_apart.Goals as goal

pub loop-here-preserved-then-here-there : goal.loop-here-preserved-then-here-there
loop-here-preserved-then-here-there g c =
    let left = c.loop-here.left.now in
    let right = c.loop-here.right.now in
    let l = c.in-Some.ensures.cases.0 in
    let r = c.in-Some-split_first.ensures.cases.0 in
    let same = left_after left right c.in-Some.here.now c.in-Some-split_first.there.now c.in-Some.later.now
    c.in-Some-split_first.beyond.now l r c.if-here-there.true c.loop-here.invariant.right in
    record {
      left = rise_after left c.in-Some.here.now c.in-Some.later.now l c.loop-here.invariant.left;
      right = c.loop-here.invariant.right;
      all = λ apart. c.loop-here.invariant.all (same.0 apart);
      back = λ apart. same.1 (c.loop-here.invariant.back apart);
    }

pub loop-here-preserved : goal.loop-here-preserved
loop-here-preserved g c =
    let left = c.loop-here.left.now in
    let right = c.loop-here.right.now in
    let l = c.in-Some.ensures.cases.0 in
    let r = c.in-Some-split_first.ensures.cases.0 in
    let same = right_after left right c.in-Some.here.now c.in-Some-split_first.there.now c.in-Some.later.now
    c.in-Some-split_first.beyond.now l r c.if-there-here.true c.loop-here.invariant.left in
    record {
      left = c.loop-here.invariant.left;
      right = rise_after right c.in-Some-split_first.there.now c.in-Some-split_first.beyond.now r c.loop-here.invariant.right;
      all = λ apart. c.loop-here.invariant.all (same.0 apart);
      back = λ apart. same.1 (c.loop-here.invariant.back apart);
    }

pub returns-else-there-here : goal.returns-else-there-here
returns-else-there-here g c =
    let l = c.in-Some.ensures.cases.0 in
    let r = c.in-Some-split_first.ensures.cases.0 in (
      λ e. cc,
      λ apart. absurd (shared c.loop-here.left.now c.loop-here.right.now c.in-Some.here.now
          c.in-Some-split_first.there.now c.in-Some.later.now c.in-Some-split_first.beyond.now l r
          (omega (arith, c.if-here-there.false, c.if-there-here.false)) (c.loop-here.invariant.back apart)),
    )
