use Rattle.std.proofs.Common.{arith, ◌≡◌, ◌∙◌, [], length, refl, sym, subst, ℕ, append-nil}
use Rattle.ng_pace.specs.Stream.{Flow, all_items, timed_waiting}
use Rattle.ng_pace.specs.Legs.{pulses_of, lines_of}
use Rattle.ng_pace.specs.Path.{IsPath, Finishes}
use Rattle.ng_pace.proofs.FinalLimitLemmas.{length-timed_waiting, settles_rest, settles_end, end_items, end-stands}
use Rattle.ng_pace.proofs.PutLemmas.{rest-flow}
use Rattle.ng_pace.proofs.stream.Stream.end.Goals as goal

pub invariant_of-self : goal.invariant_of-self
invariant_of-self g c = record {
  fits = omega (arith, c.self.invariant.fits, c.finish.ensures.keeps.count, c.finish.ensures.keeps.settles.capacity);
  capacity_is = omega (arith, c.finish.ensures.capacity, c.self.invariant.capacity_is, c.finish.ensures.keeps.settles.capacity);
  start_is = c.finish.ensures.start ∙ c.self.invariant.start_is ∙ sym c.finish.ensures.keeps.settles.start;
  limits_are = c.self.invariant.limits_are;
  rests = settles_rest c.finish.ensures.keeps.settles c.self.invariant.rests;
  few = c.finish.ensures.few;
  some = c.finish.ensures.some;
  stands = λ none. end-stands c.finish.ensures.keeps c.self.invariant.stands c.finish.ensures.marks tt none;
}

pub returns : goal.returns
returns g c =
    let old : Flow = record {
      motion = c.self.inside.pacer;
      waiting = timed_waiting c.self.inside.waiting.items;
      before =
          c.self.inside.shape.before;
      limits = c.self.inside.limits;
      chord = c.self.inside.shape.chord;
    } in
    let new : Flow = record {
      motion = c.finish.new.pacer;
      waiting = timed_waiting c.finish.new.waiting.items;
      before = c.finish.new.shape.before;
      limits =
          c.self.inside.limits;
      chord = c.finish.new.shape.chord;
    } in
    let items : all_items new ≡ all_items old = end_items old new (settles_end c.finish.ensures.keeps c.finish.ensures.none) (rw c.finish.ensures.none refl) in
    rw (← c.self.view_is) (record {
      items = items;
      settles = settles_end c.finish.ensures.keeps c.finish.ensures.none;
      none = rw c.finish.ensures.none refl;
      stands = end-stands c.finish.ensures.keeps c.self.invariant.stands c.finish.ensures.marks tt c.finish.ensures.none;
      marked = λ some. c.finish.ensures.marks.marked tt (omega (arith, length-timed_waiting c.self.inside.waiting.items, some)) c.finish.ensures.none;
      before = c.finish.ensures.before;
      rests = settles_rest c.finish.ensures.keeps.settles c.self.invariant.rests;
      limits = refl;
      path = λ legs underway.
          let path : IsPath c.self.inside.limits 0 c.self.inside.shape.chord (length c.self.inside.waiting.items) legs = rw
          (length-timed_waiting c.self.inside.waiting.items) at underway.path in
          let P : ℕ → Type 0 = λ stop. Finishes c.self.inside.limits stop c.self.inside.pacer c.finish.new.pacer (pulses_of legs) (lines_of legs) in
          rest-flow old new legs [] underway (record {
            mid = c.finish.new.pacer;
            finishes = subst P c.self.invariant.start_is (c.finish.ensures.finishes legs path underway.begun);
            known = sym (append-nil c.finish.new.pacer.known);
            path = (c.finish.ensures.closed, rw c.finish.ensures.none refl);
          }) (items ∙ sym (append-nil (all_items old)));
    })
