use Rattle.std.proofs.Common.{List, refl, subst, arith}
use Rattle.std.specs.Prelude.{All}
use Rattle.std.proofs.lemmas.List.{take_all}
use Rattle.std.proofs.lemmas.List.Elements.{All-more}
use Rattle.ng_desk.specs.declared.call.Call.{Call}
use Rattle.ng_desk.specs.Calls.{Seated, StandsIn, RiseFrom}
use Rattle.ng_desk.proofs.comparing.all_in.Goals as goal

pub loop-seat-preserved : goal.loop-seat-preserved
loop-seat-preserved g c =
    All-more (λ (s : Seated g.row.A.Denot). All (StandsIn c.args.history.now) s.calls × RiseFrom 0 s.calls)
    c.args.seats.now c.loop-seat.seat-index c.seat-item.result (omega arith) c.loop-seat.invariant
    (subst (λ (x : Seated g.row.A.Denot). All (StandsIn c.args.history.now) x.calls × RiseFrom 0 x.calls) c.seat-item.is
    (subst (λ (l : List (Call g.row.A.Denot)). All (StandsIn c.args.history.now) l × RiseFrom 0 l) c.calls.ensures (c.are_in.ensures.0 c.if-not-are_in.false)))

pub returns : goal.returns
returns g c = (
  λ _. subst (λ (l : List (Seated g.row.A.Denot)).
      All (λ (s : Seated g.row.A.Denot). All (StandsIn c.args.history.now) s.calls × RiseFrom 0 s.calls) l)
      (take_all c.loop-seat.seat-index c.args.seats.now (omega arith)) c.loop-seat.invariant,
  λ _. refl,
)
