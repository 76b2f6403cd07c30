use Rattle.std.proofs.Common.{arith, rules, inl, inr, refl}
use Rattle.ng_pace.specs.Planning.{ahead}
use Rattle.ng_pace.proofs.RestLemmas.{rest_all, rest_less}
use Rattle.ng_pace.proofs.SquareLemmas.{IsChosen, hasty}
use Rattle.ng_pace.proofs.pacer.Pacer.next.Goals.{else-self-eq0-via-then-self-eq0+else-wanted-eq0, else-self-eq0-via-else-self-eq0}
use Rattle.ng_pace.proofs.pacer.Pacer.next.Goals as goal

pub returns-in-Some-clause-given : goal.returns-in-Some-clause-given
returns-in-Some-clause-given g c =
    let line = c.in-Some.slot.line in
    let slots = c.take.new.slots.items in
    let passed : IsChosen line c.self.inside.square c.self.inside.start c.args.wanted c.square_at-from.result c.square_after-to.result c.in-Some.slot.plan
    (ahead slots) = record {
      starts = c.square_at-from.ensures.starts;
      within = c.square_at-from.ensures.planned;
      planned = c.in-Some.ensures.taken.within;
      follows = rw c.ahead.ensures at c.square_after-to.ensures.follows;
      greatest = rw c.ahead.ensures at c.square_after-to.ensures.greatest;
      size = omega arith;
    } in
    rw (← c.self.view_is) (record {
      moves = elim c.else-self-eq0.branch [
        | else-self-eq0-via-then-self-eq0+else-wanted-eq0 w ↦ inr
            (omega (arith, w.if-wanted-eq0.false))
        | else-self-eq0-via-else-self-eq0 w ↦ inl (omega (arith, w.if-self-eq0.false))
      ];
      order = c.in-Some.ensures.taken.first;
      least = c.time_of-ns.ensures.least;
      time = c.time_of-ns.ensures.time;
      goes_on = c.square_at-from.ensures.goes_on;
      within = omega (arith, passed.within, passed.planned);
      hasty = hasty line c.self.inside.square c.self.inside.start c.args.wanted c.square_at-from.result c.square_after-to.result c.in-Some.slot.plan
          c.take.new.planned slots passed c.in-Some.ensures.taken.plan c.in-Some.ensures.taken.greatest;
      left = c.rest_of-self-inside.ensures;
      rests = rest_all c.take.new.planned slots c.in-Some.ensures.taken.plan c.rest_of-self-inside.result
          (rw c.rest_of-self-inside.ensures (rest_less line c.square_after-to.result c.self.inside.start c.args.wanted (ahead slots) passed.follows.within));
      start = refl;
      percent = refl;
      capacity = search rules;
    })
