use Rattle.std.proofs.Common.{List, sym, ◌∙◌, subst}
use Rattle.std.specs.Prelude.{All}
use Rattle.ng_desk.specs.declared.call.Call.{Call}
use Rattle.ng_desk.specs.Calls.{Seated, RiseFrom, AreApart}
use Rattle.ng_desk.proofs.RisingNumberLemmas.{first_rises, apart_more_seats, apart_first, apart_others}
use Rattle.ng_desk.proofs.comparing.all_apart.Goals as goal

pub is_apart_from-requires : goal.is_apart_from-requires
is_apart_from-requires g c =
    let rise = first_rises c.loop-first.left.now c.in-Some.first.now c.in-Some.others.now c.in-Some.ensures.cases.0 c.loop-first.invariant.rise in
    (subst (λ (l : List (Call g.row.A.Denot)). RiseFrom 0 l) (sym c.calls.ensures) rise.0, rise.1)

pub returns-then-not-is_apart_from : goal.returns-then-not-is_apart_from
returns-then-not-is_apart_from g c = (
  λ e. cc,
  λ all. (let apart = apart_first c.loop-first.left.now c.in-Some.first.now c.in-Some.others.now c.in-Some.ensures.cases.0 (c.loop-first.invariant.back all) in
      let is = c.is_apart_from.ensures.1
      (subst (λ (l : List (Call g.row.A.Denot)). All (λ (s : Seated g.row.A.Denot). AreApart l s.calls)
      c.in-Some.others.now) (sym c.calls.ensures) apart) in
      sym c.if-not-is_apart_from.true ∙ is),
)

pub loop-first-preserved : goal.loop-first-preserved
loop-first-preserved g c =
    let is = c.in-Some.ensures.cases.0 in
    let first = c.in-Some.first.now in
    let others = c.in-Some.others.now in
    let left = c.loop-first.left.now in
    let apart = subst (λ (l : List (Call g.row.A.Denot)). All (λ (s : Seated g.row.A.Denot). AreApart l s.calls)
    others) c.calls.ensures (c.is_apart_from.ensures.0 c.if-not-is_apart_from.false) in
    record {
      rise = (first_rises left first others is c.loop-first.invariant.rise).1;
      all = λ all. c.loop-first.invariant.all (apart_more_seats left first others is apart all);
      back = λ all. apart_others left first others is (c.loop-first.invariant.back all);
    }
