use Rattle.std.proofs.Common.{List, refl, sym, subst, arith}
use Rattle.std.specs.Prelude.{All}
use Rattle.std.proofs.lemmas.List.{take_all, drop_all}
use Rattle.std.proofs.lemmas.List.Elements.{All-more}
use Rattle.ng_desk.specs.declared.call.Call.{Call}
use Rattle.ng_desk.specs.Calls.{StandsIn, RiseFrom}
use Rattle.ng_desk.proofs.RisingNumberLemmas.{here}
use Rattle.ng_desk.proofs.comparing.are_in.Goals as goal

pub loop-call-preserved : goal.loop-call-preserved
loop-call-preserved g c =
    let i = c.loop-call.call-index in
    let calls = c.args.calls.now in
    let call = c.call-item.result in
    let at = here calls i call (omega arith) c.call-item.is in
    let least = c.if-call-least.false in
    record {
      stand = All-more (StandsIn c.args.history.now) calls i call (omega arith) c.loop-call.invariant.stand
          (subst (λ (x : Call g.row.A.Denot). StandsIn c.args.history.now x) c.call-item.is
          (c.stands.ensures.0 c.if-not-stands.false));
      rise = λ rest. c.loop-call.invariant.rise (subst (λ (l : List (Call g.row.A.Denot)). RiseFrom c.loop-call.least l) (sym at) (omega arith, rest));
      back = λ all. (subst (λ (l : List (Call g.row.A.Denot)). RiseFrom c.loop-call.least l) at (c.loop-call.invariant.back all)).1;
    }

pub returns : goal.returns
returns g c =
    let i = c.loop-call.call-index in
    let calls = c.args.calls.now in
    let end = drop_all i calls (omega arith) in (
      λ _. (
        subst (λ (l : List (Call g.row.A.Denot)). All (StandsIn c.args.history.now) l) (take_all i calls (omega arith)) c.loop-call.invariant.stand,
        c.loop-call.invariant.rise (subst (λ (l : List (Call g.row.A.Denot)). RiseFrom c.loop-call.least l) (sym end) tt),
      ),
      λ _. refl,
    )
