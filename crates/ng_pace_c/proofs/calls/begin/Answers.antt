use Rattle.std.proofs.Common.{rules}
use Rattle.ng_pace_c.proofs.calls.begin.Goals as goal

-- src/calls.rt:50:1
pub returns-in-Ok : goal.returns-in-Ok
returns-in-Ok c = record {
  made = λ _. c.in-Ok.ensures.made;
  none = search rules;
  no_acceleration = search rules;
  acceleration_too_great = search rules;
  rate_too_great = search rules;
  no_corner = search rules;
  no_slack = search rules;
  slack_too_great = search rules;
  no_percent = search rules;
  no_capacity = search rules;
  no_other = search rules;
}
