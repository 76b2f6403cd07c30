use Rattle.std.proofs.Common.{arith}
use Rattle.ng_pace.proofs.stream.push_item.Goals as goal

pub returns-in-Pulse-clause-takes : goal.returns-in-Pulse-clause-takes
returns-in-Pulse-clause-takes g c = λ legs path begun. rw c.in-Pulse.is (c.push_pulse.ensures.advances legs path begun)

pub push_pulse-requires-clause-fits : goal.push_pulse-requires-clause-fits
push_pulse-requires-clause-fits g c = omega arith

pub push_pulse-requires-clause-limits : goal.push_pulse-requires-clause-limits
push_pulse-requires-clause-limits g c = omega arith

pub push_pulse-requires-clause-capacity : goal.push_pulse-requires-clause-capacity
push_pulse-requires-clause-capacity g c = omega arith

pub push_still-requires-clause-fits : goal.push_still-requires-clause-fits
push_still-requires-clause-fits g c = omega arith

pub push_still-requires-clause-limits : goal.push_still-requires-clause-limits
push_still-requires-clause-limits g c = omega arith

pub push_still-requires-in-Switch-clause-fits : goal.push_still-requires-in-Switch-clause-fits
push_still-requires-in-Switch-clause-fits g c = omega arith

pub push_still-requires-in-Switch-clause-limits : goal.push_still-requires-in-Switch-clause-limits
push_still-requires-in-Switch-clause-limits g c = omega arith

pub returns-in-Pulse-clause-adds : goal.returns-in-Pulse-clause-adds
returns-in-Pulse-clause-adds g c = grind arith

pub returns-in-Pulse-clause-capacity : goal.returns-in-Pulse-clause-capacity
returns-in-Pulse-clause-capacity g c = omega arith

pub returns-in-Pulse-clause-stands : goal.returns-in-Pulse-clause-stands
returns-in-Pulse-clause-stands g c = grind arith

pub returns-in-Pulse-clause-few : goal.returns-in-Pulse-clause-few
returns-in-Pulse-clause-few g c = grind arith

pub returns-in-Pulse-clause-some : goal.returns-in-Pulse-clause-some
returns-in-Pulse-clause-some g c = grind arith

pub returns-in-Pulse-clause-behind : goal.returns-in-Pulse-clause-behind
returns-in-Pulse-clause-behind g c = grind arith

pub returns-in-Pulse-clause-start : goal.returns-in-Pulse-clause-start
returns-in-Pulse-clause-start g c = omega arith

pub returns-in-Pulse-clause-before : goal.returns-in-Pulse-clause-before
returns-in-Pulse-clause-before g c = grind arith

pub returns-in-Dwell-clause-adds : goal.returns-in-Dwell-clause-adds
returns-in-Dwell-clause-adds g c = grind arith

pub returns-in-Dwell-clause-capacity : goal.returns-in-Dwell-clause-capacity
returns-in-Dwell-clause-capacity g c = omega arith

pub returns-in-Dwell-clause-stands : goal.returns-in-Dwell-clause-stands
returns-in-Dwell-clause-stands g c = grind arith

pub returns-in-Dwell-clause-takes : goal.returns-in-Dwell-clause-takes
returns-in-Dwell-clause-takes g c = grind arith

pub returns-in-Dwell-clause-few : goal.returns-in-Dwell-clause-few
returns-in-Dwell-clause-few g c = grind arith

pub returns-in-Dwell-clause-some : goal.returns-in-Dwell-clause-some
returns-in-Dwell-clause-some g c = omega arith

pub returns-in-Dwell-clause-behind : goal.returns-in-Dwell-clause-behind
returns-in-Dwell-clause-behind g c = grind arith

pub returns-in-Dwell-clause-start : goal.returns-in-Dwell-clause-start
returns-in-Dwell-clause-start g c = omega arith

pub returns-in-Dwell-clause-before : goal.returns-in-Dwell-clause-before
returns-in-Dwell-clause-before g c = grind arith

pub returns-in-Switch-clause-adds : goal.returns-in-Switch-clause-adds
returns-in-Switch-clause-adds g c = grind arith

pub returns-in-Switch-clause-capacity : goal.returns-in-Switch-clause-capacity
returns-in-Switch-clause-capacity g c = omega arith

pub returns-in-Switch-clause-stands : goal.returns-in-Switch-clause-stands
returns-in-Switch-clause-stands g c = grind arith

pub returns-in-Switch-clause-takes : goal.returns-in-Switch-clause-takes
returns-in-Switch-clause-takes g c = grind arith

pub returns-in-Switch-clause-few : goal.returns-in-Switch-clause-few
returns-in-Switch-clause-few g c = grind arith

pub returns-in-Switch-clause-some : goal.returns-in-Switch-clause-some
returns-in-Switch-clause-some g c = grind arith

pub returns-in-Switch-clause-behind : goal.returns-in-Switch-clause-behind
returns-in-Switch-clause-behind g c = grind arith

pub returns-in-Switch-clause-start : goal.returns-in-Switch-clause-start
returns-in-Switch-clause-start g c = omega arith

pub returns-in-Switch-clause-before : goal.returns-in-Switch-clause-before
returns-in-Switch-clause-before g c = grind arith
