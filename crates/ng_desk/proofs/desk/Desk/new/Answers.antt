use Rattle.std.proofs.Common.{◌≡◌, [], List, length, ap, ◌∙◌, sym, subst, arith}
use Rattle.std.specs.Prelude.{All}
use Rattle.std.proofs.lemmas.List.{length_push}
use Rattle.std.proofs.lemmas.List.Elements.{All-push}
use Rattle.ng_desk.specs.Calls.{Seated}
use Rattle.ng_desk.proofs.desk.Desk.new.Goals as goal

pub loop-seat-preserved : goal.loop-seat-preserved
loop-seat-preserved g c =
    let inv = c.loop-seat.invariant in
    let seat = c.new.result in
    let places = c.loop-seat.places.items in
    record {
      parts = omega (arith, inv.parts, c.split_off.ensures.parts_left);
      amount = omega (arith, inv.amount, c.split_off.ensures.amount_left);
      fits = omega (arith, inv.fits, c.push_reserved.ensures.capacity);
      count = ap (λ (l : List (Seated g.row.A.Denot)). length l) c.push_reserved.ensures.items ∙ omega (arith, length_push places seat, inv.count);
      fresh = subst (λ (l : List (Seated g.row.A.Denot)).
          All (λ (s : Seated g.row.A.Denot). s ≡ record { calls = []; parts = 1 }) l)
          (sym c.push_reserved.ensures.items)
          (All-push (λ (s : Seated g.row.A.Denot). s ≡ record { calls = []; parts = 1 }) places seat inv.fresh c.new.ensures);
    }
