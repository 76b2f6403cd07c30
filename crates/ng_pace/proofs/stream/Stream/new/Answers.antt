use Rattle.std.proofs.Common.{◌≡◌, ◌∙◌, refl, ap, sym, subst, length, arith, rules}
use Rattle.ng_pace.specs.Axes.{IsStop}
use Rattle.ng_pace.specs.Stream.{items_waiting, timed_waiting}
use Rattle.ng_pace.proofs.stream.Stream.new.Goals as goal

pub returns-in-Ok-clause-made : goal.returns-in-Ok-clause-made
returns-in-Ok-clause-made g c =
    let start : c.in_ok-pacer.pacer.start ≡ c.start_of-start.result = ap (λ t. t.start) c.in_ok-pacer.ensures.made in
    record {
      known = ap (λ t. t.known) c.in_ok-pacer.ensures.made;
      waiting = ap timed_waiting c.in-Ok.ensures.items;
      rest = ap (λ t. t.square) c.in_ok-pacer.ensures.made;
      before = refl;
      start = start ∙ c.start_of-start.ensures.start;
      stops = subst (λ t. IsStop c.args.limits t) (sym start) c.start_of-start.ensures.stops;
      percent = ap (λ t. t.percent) c.in_ok-pacer.ensures.made;
      capacity_is = ap (λ t. t.capacity) c.in_ok-pacer.ensures.made;
      limits_are = refl;
      can_be_met = c.in_ok-check.ensures.limits;
      underway = record {
        path = (c.new-in-Ok.ensures, ap (λ t. length (timed_waiting t)) c.in-Ok.ensures.items);
        begun = tt;
        items = ap (λ t. items_waiting (timed_waiting t)) c.in-Ok.ensures.items;
      };
    }

pub check-requires : goal.check-requires
check-requires g c = omega arith

pub branch-check-requires : goal.branch-check-requires
branch-check-requires g c κs = search rules

pub returns-in_err-check-clause-made : goal.returns-in_err-check-clause-made
returns-in_err-check-clause-made g c = grind arith

pub returns-in_err-check-clause-no_acceleration : goal.returns-in_err-check-clause-no_acceleration
returns-in_err-check-clause-no_acceleration g c = grind arith

pub returns-in_err-check-clause-rate_too_great : goal.returns-in_err-check-clause-rate_too_great
returns-in_err-check-clause-rate_too_great g c = grind arith

pub returns-in_err-check-clause-no_corner : goal.returns-in_err-check-clause-no_corner
returns-in_err-check-clause-no_corner g c = grind arith

pub returns-in_err-check-clause-no_slack : goal.returns-in_err-check-clause-no_slack
returns-in_err-check-clause-no_slack g c = grind arith

pub returns-in_err-check-clause-slack_too_great : goal.returns-in_err-check-clause-slack_too_great
returns-in_err-check-clause-slack_too_great g c = grind arith

pub returns-in_err-check-clause-no_percent : goal.returns-in_err-check-clause-no_percent
returns-in_err-check-clause-no_percent g c = grind arith

pub returns-in_err-check-clause-no_capacity : goal.returns-in_err-check-clause-no_capacity
returns-in_err-check-clause-no_capacity g c = grind arith

pub returns-in_err-check-clause-no_other : goal.returns-in_err-check-clause-no_other
returns-in_err-check-clause-no_other g c = grind arith

pub start_of-start-requires : goal.start_of-start-requires
start_of-start-requires g c = grind arith

pub new-requires : goal.new-requires
new-requires g c κs = grind arith

pub branch-pacer-requires : goal.branch-pacer-requires
branch-pacer-requires g c κs = search rules

pub returns-in_err-pacer-clause-made : goal.returns-in_err-pacer-clause-made
returns-in_err-pacer-clause-made g c = grind arith

pub returns-in_err-pacer-clause-no_acceleration : goal.returns-in_err-pacer-clause-no_acceleration
returns-in_err-pacer-clause-no_acceleration g c = grind arith

pub returns-in_err-pacer-clause-rate_too_great : goal.returns-in_err-pacer-clause-rate_too_great
returns-in_err-pacer-clause-rate_too_great g c = grind arith

pub returns-in_err-pacer-clause-no_corner : goal.returns-in_err-pacer-clause-no_corner
returns-in_err-pacer-clause-no_corner g c = grind arith

pub returns-in_err-pacer-clause-no_slack : goal.returns-in_err-pacer-clause-no_slack
returns-in_err-pacer-clause-no_slack g c = grind arith

pub returns-in_err-pacer-clause-slack_too_great : goal.returns-in_err-pacer-clause-slack_too_great
returns-in_err-pacer-clause-slack_too_great g c = grind arith

pub returns-in_err-pacer-clause-no_percent : goal.returns-in_err-pacer-clause-no_percent
returns-in_err-pacer-clause-no_percent g c = grind arith

pub returns-in_err-pacer-clause-no_capacity : goal.returns-in_err-pacer-clause-no_capacity
returns-in_err-pacer-clause-no_capacity g c = grind arith

pub returns-in_err-pacer-clause-no_other : goal.returns-in_err-pacer-clause-no_other
returns-in_err-pacer-clause-no_other g c = grind arith

pub with_capacity-requires : goal.with_capacity-requires
with_capacity-requires g c κs = search rules

pub new-requires-in-Ok : goal.new-requires-in-Ok
new-requires-in-Ok g c = omega arith

pub drop-pacer-inside-requires : goal.drop-pacer-inside-requires
drop-pacer-inside-requires g c κs = search rules

pub returns-in-Ok-clause-no_acceleration : goal.returns-in-Ok-clause-no_acceleration
returns-in-Ok-clause-no_acceleration g c = grind arith

pub returns-in-Ok-clause-acceleration_too_great : goal.returns-in-Ok-clause-acceleration_too_great
returns-in-Ok-clause-acceleration_too_great g c = grind arith

pub returns-in-Ok-clause-rate_too_great : goal.returns-in-Ok-clause-rate_too_great
returns-in-Ok-clause-rate_too_great g c = grind arith

pub returns-in-Ok-clause-no_corner : goal.returns-in-Ok-clause-no_corner
returns-in-Ok-clause-no_corner g c = grind arith

pub returns-in-Ok-clause-no_slack : goal.returns-in-Ok-clause-no_slack
returns-in-Ok-clause-no_slack g c = grind arith

pub returns-in-Ok-clause-slack_too_great : goal.returns-in-Ok-clause-slack_too_great
returns-in-Ok-clause-slack_too_great g c = grind arith

pub returns-in-Ok-clause-no_percent : goal.returns-in-Ok-clause-no_percent
returns-in-Ok-clause-no_percent g c = grind arith

pub returns-in-Ok-clause-no_capacity : goal.returns-in-Ok-clause-no_capacity
returns-in-Ok-clause-no_capacity g c = grind arith

pub returns-in-Ok-clause-no_other : goal.returns-in-Ok-clause-no_other
returns-in-Ok-clause-no_other g c = grind arith

pub returns-in-Err-clause-made : goal.returns-in-Err-clause-made
returns-in-Err-clause-made g c = omega arith

pub returns-in-Err-clause-no_acceleration : goal.returns-in-Err-clause-no_acceleration
returns-in-Err-clause-no_acceleration g c = grind arith

pub returns-in-Err-clause-rate_too_great : goal.returns-in-Err-clause-rate_too_great
returns-in-Err-clause-rate_too_great g c = grind arith

pub returns-in-Err-clause-no_corner : goal.returns-in-Err-clause-no_corner
returns-in-Err-clause-no_corner g c = grind arith

pub returns-in-Err-clause-no_slack : goal.returns-in-Err-clause-no_slack
returns-in-Err-clause-no_slack g c = grind arith

pub returns-in-Err-clause-slack_too_great : goal.returns-in-Err-clause-slack_too_great
returns-in-Err-clause-slack_too_great g c = grind arith

pub returns-in-Err-clause-no_percent : goal.returns-in-Err-clause-no_percent
returns-in-Err-clause-no_percent g c = grind arith

pub returns-in-Err-clause-no_capacity : goal.returns-in-Err-clause-no_capacity
returns-in-Err-clause-no_capacity g c = grind arith

pub returns-in-Err-clause-no_other : goal.returns-in-Err-clause-no_other
returns-in-Err-clause-no_other g c = grind arith
