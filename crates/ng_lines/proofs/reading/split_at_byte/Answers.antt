use Rattle.std.proofs.Common.{arith}
use Rattle.ng_lines.proofs.ByteLemmas.{HasNone-more, HasNone-whole, parts_at}
use Rattle.ng_lines.proofs.reading.split_at_byte.Goals as goal

pub loop-at-preserved : goal.loop-at-preserved
loop-at-preserved c = HasNone-more c.args.byte c.loop-at.at c.args.text.now (omega arith) c.loop-at.invariant c.if-next-byte.false

pub returns-then-next-byte : goal.returns-then-next-byte
returns-then-next-byte c = (c.loop-at.invariant, parts_at c.args.byte c.loop-at.at c.args.text.now (omega arith) c.if-next-byte.true)

pub returns : goal.returns
returns c = HasNone-whole c.args.byte c.loop-at.at c.args.text.now (omega arith) c.loop-at.invariant
