use Rattle.std.proofs.Common.{arith}
use Rattle.ng_lines.proofs.writing.spindle_text.Goals as goal

pub returns-in-Stopped : goal.returns-in-Stopped
returns-in-Stopped c = grind arith

pub returns-in-Clockwise : goal.returns-in-Clockwise
returns-in-Clockwise c = grind arith

pub returns-in-Counterclockwise : goal.returns-in-Counterclockwise
returns-in-Counterclockwise c = grind arith
