use Rattle.std.proofs.Common.{arith, refl}
use Rattle.ng_pace.proofs.RestLemmas.{length-lines_of, lines_of-push, ahead-push, plan-push}
use Rattle.ng_pace.proofs.pacer.Pacer.push.Goals as goal

pub push_back_reserved-requires : goal.push_back_reserved-requires
push_back_reserved-requires g c =
    let capacity : _ = rw (← c.self.view_is) at c.requires in omega (arith, capacity, length-lines_of c.self.inside.slots.items)

pub invariant_of-self : goal.invariant_of-self
invariant_of-self g c = rw c.push_back_reserved.ensures.items (record {
  plan = plan-push c.self.inside.planned c.self.inside.slots.items c.args.line c.self.invariant.plan;
  within = omega (arith, c.self.invariant.within, ahead-push c.self.inside.slots.items c.args.line);
  is_percent = c.self.invariant.is_percent;
  is_root = c.self.invariant.is_root;
  size = c.self.invariant.size;
})

pub returns : goal.returns
returns g c = rw (
  ← c.self.view_is,
  c.push_back_reserved.ensures.items,
  lines_of-push c.self.inside.slots.items c.args.line,
  c.push_back_reserved.ensures.capacity,
) refl
