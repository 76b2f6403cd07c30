use Rattle.std.proofs.Common.{rules, ◌≡◌, length}
use Rattle.ng_pace.proofs.PlanLemmas.{whole_plan}
use Rattle.ng_pace.proofs.TakeLemmas.{fresh_whole}
use Rattle.ng_pace.proofs.planning.refresh.Goals as goal

pub returns-then-is_stale-clause-plan : goal.returns-then-is_stale-clause-plan
returns-then-is_stale-clause-plan g c =
    let all : c.len-then-is_stale.result ≡ length c.plan.new.slots.items = search rules in
    whole_plan c.len-then-is_stale.result c.plan.new.slots.items all c.plan.ensures.plan

pub returns-then-is_stale-clause-fresh : goal.returns-then-is_stale-clause-fresh
returns-then-is_stale-clause-fresh g c =
    let all : c.len-then-is_stale.result ≡ length c.plan.new.slots.items = search rules in
    fresh_whole c.plan.new.slots.items c.len-then-is_stale.result all
