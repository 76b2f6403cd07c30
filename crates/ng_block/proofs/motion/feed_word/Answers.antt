use Rattle.std.proofs.Common.{arith}
use Rattle.ng_block.proofs.motion.feed_word.Goals as goal

pub returns-in-PerMinute : goal.returns-in-PerMinute
returns-in-PerMinute c = grind arith

pub returns-in-InverseTime : goal.returns-in-InverseTime
returns-in-InverseTime c = grind arith
