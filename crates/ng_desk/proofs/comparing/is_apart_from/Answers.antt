use Rattle.std.proofs.Common.{List, refl, subst, arith}
use Rattle.std.specs.Prelude.{All}
use Rattle.std.proofs.lemmas.List.{take_all}
use Rattle.std.proofs.lemmas.List.Elements.{All-more}
use Rattle.ng_desk.specs.declared.call.Call.{Call}
use Rattle.ng_desk.specs.Calls.{Seated, AreApart}
use Rattle.ng_desk.proofs.comparing.is_apart_from.Goals as goal

pub loop-seat-preserved : goal.loop-seat-preserved
loop-seat-preserved g c =
    All-more (λ (s : Seated g.row.A.Denot). AreApart c.args.calls.now s.calls) c.args.seats.now
    c.loop-seat.seat-index c.seat-item.result (omega arith) c.loop-seat.invariant
    (subst (λ (x : Seated g.row.A.Denot). AreApart c.args.calls.now x.calls) c.seat-item.is
    (subst (λ (l : List (Call g.row.A.Denot)). AreApart c.args.calls.now l) c.calls.ensures (c.are_apart.ensures.0 c.if-not-are_apart.false)))

pub returns : goal.returns
returns g c = (
  λ _. subst (λ (l : List (Seated g.row.A.Denot)).
      All (λ (s : Seated g.row.A.Denot). AreApart c.args.calls.now s.calls) l)
      (take_all c.loop-seat.seat-index c.args.seats.now (omega arith)) c.loop-seat.invariant,
  λ _. refl,
)
