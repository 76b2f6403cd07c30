use Rattle.std.proofs.Common.{◌≡◌, ◌∙◌, sym, true, false}
use Rattle.ng_desk.proofs.RisingNumberLemmas.{agreed, all_stand}
use Rattle.ng_desk.proofs.comparing.agree.Goals as goal

pub returns-then-all_in : goal.returns-then-all_in
returns-then-all_in g c = (
  λ is. agreed c.args.history.now c.args.seats.now (c.all_in.ensures.0 c.if-all_in.true) (c.all_apart.ensures.0 is),
  λ agree. c.all_apart.ensures.1 agree.apart,
)

pub returns-else-all_in : goal.returns-else-all_in
returns-else-all_in g c = (
  λ is. agreed c.args.history.now c.args.seats.now (c.all_in.ensures.0 is) (absurd (let e : false ≡ true = sym c.if-all_in.false ∙ is in cc)),
  λ agree. c.all_in.ensures.1 (all_stand c.args.history.now c.args.seats.now agree),
)
