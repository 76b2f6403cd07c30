use Rattle.std.proofs.Common.{arith, ◌≡◌, ◌∙◌, ◌<◌, ◌+◌, ◌∷◌, ◌++◌, [], length, refl, sym, subst, ℕ}
use Rattle.ng_pace.specs.Stream.{Flow, all_items, timed_waiting}
use Rattle.ng_pace.specs.Halting.{Takes}
use Rattle.ng_pace.specs.Path.{IsPath}
use Rattle.ng_pace.proofs.WaitingPulseLemmas.{few-most}
use Rattle.ng_pace.proofs.FinalLimitLemmas.{length-timed_waiting, adds_rest, put_items}
use Rattle.ng_pace.proofs.PutLemmas.{put-flow}
use Rattle.ng_pace.proofs.stream.Stream.push.Goals as goal

pub push_item-requires-clause-fits : goal.push_item-requires-clause-fits
push_item-requires-clause-fits g c =
    let short : length c.self.inside.pacer.known + length (timed_waiting c.self.inside.waiting.items) < c.self.inside.pacer.capacity = rw (← c.self.view_is) at
    c.requires in
    omega (arith, short, length-timed_waiting c.self.inside.waiting.items)

pub invariant_of-self : goal.invariant_of-self
invariant_of-self g c =
    let short : length c.self.inside.pacer.known + length (timed_waiting c.self.inside.waiting.items) < c.self.inside.pacer.capacity = rw (← c.self.view_is) at
    c.requires in
    record {
      fits = omega (arith, short, length-timed_waiting c.self.inside.waiting.items, c.push_item.ensures.adds.count, c.push_item.ensures.adds.settles.capacity);
      capacity_is = omega (arith, c.push_item.ensures.capacity, c.self.invariant.capacity_is, c.push_item.ensures.adds.settles.capacity);
      start_is = c.push_item.ensures.start ∙ c.self.invariant.start_is ∙ sym c.push_item.ensures.adds.settles.start;
      limits_are = c.self.invariant.limits_are;
      rests = adds_rest c.push_item.ensures.adds c.self.invariant.rests;
      few = c.push_item.ensures.few c.self.invariant.few;
      some = c.push_item.ensures.some c.self.invariant.some;
      stands = c.push_item.ensures.behind c.self.invariant.some;
    }

pub returns : goal.returns
returns g c =
    let old : Flow = record {
      motion = c.self.inside.pacer;
      waiting = timed_waiting c.self.inside.waiting.items;
      before =
          c.self.inside.shape.before;
      limits = c.self.inside.limits;
      chord = c.self.inside.shape.chord;
    } in
    let new : Flow = record {
      motion = c.push_item.new.pacer;
      waiting = timed_waiting c.push_item.new.waiting.items;
      before =
          c.push_item.new.shape.before;
      limits = c.self.inside.limits;
      chord = c.push_item.new.shape.chord;
    } in
    let items : all_items new ≡ all_items old ++ c.args.item ∷ [] = put_items old new c.args.item c.push_item.ensures.adds.settles in
    rw (← c.self.view_is) (record {
      items = items;
      settles = c.push_item.ensures.adds.settles;
      stands = c.push_item.ensures.stands;
      before = c.push_item.ensures.before;
      rests = adds_rest c.push_item.ensures.adds c.self.invariant.rests;
      limits = refl;
      few = few-most c.self.inside.limits c.push_item.new.shape.chord (length (timed_waiting c.push_item.new.waiting.items)) c.self.invariant.limits_are.half
          (rw (length-timed_waiting c.push_item.new.waiting.items) (c.push_item.ensures.few c.self.invariant.few));
      path = λ legs underway.
          let path : IsPath c.self.inside.limits 0 c.self.inside.shape.chord (length c.self.inside.waiting.items) legs = rw
          (length-timed_waiting c.self.inside.waiting.items) at underway.path in
          let P : ℕ → Type 0 = λ stop. Takes c.self.inside.limits stop c.self.inside.pacer c.push_item.new.pacer c.push_item.new.shape.chord
          (length c.push_item.new.waiting.items) legs c.args.item in
          put-flow old new legs c.args.item underway refl (rw (length-timed_waiting c.push_item.new.waiting.items)
          (subst P c.self.invariant.start_is (c.push_item.ensures.takes legs path underway.begun))) items;
    })
