use Rattle.ng_commands.proofs.FirstBlankLemmas.{blank_after, first_blank, none_among}
use Rattle.ng_commands.proofs.lengths.parted.Goals as goal

pub loop-n-init : goal.loop-n-init
loop-n-init c = tt

pub returns-then-byte-eq32 : goal.returns-then-byte-eq32
returns-then-byte-eq32 c = (first_blank _ _ c.loop-n-test.true c.if-byte-eq32.true, c.loop-n.invariant)

pub loop-n-preserved : goal.loop-n-preserved
loop-n-preserved c = blank_after _ _ c.loop-n-test.true c.if-byte-eq32.false c.loop-n.invariant

pub returns : goal.returns
returns c = none_among _ _ c.loop-n-test.false c.loop-n.invariant
