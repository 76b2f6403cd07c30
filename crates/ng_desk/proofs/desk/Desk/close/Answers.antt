use Rattle.std.proofs.Common.{◌≡◌, ◌∙◌, List, length, ap, subst, arith}
use Rattle.std.specs.Prelude.{sum_by, MatchResult}
use Rattle.ng_num.specs.declared.fault.Fault.TheVariants.{SeatsDisagree}
use Rattle.ng_desk.specs.declared.call.Call.{Call}
use Rattle.ng_desk.specs.Calls.{Seated, Agree, lists_of}
use Rattle.ng_desk.proofs.RisingNumberLemmas.{same_lists}
use Rattle.ng_desk.proofs.desk.Desk.close.Goals as goal

pub returns-clause-closed : goal.returns-clause-closed
returns-clause-closed g c =
    record {
      moments = c.no_share-all.new.self.moments;
      runs = c.close-controller.ensures.runs;
      numbered = c.close-controller.ensures.numbered;
      each = c.close-controller.ensures.counted ∙ c.gather.ensures.amount
          ∙ ap (λ (l : List (Seated g.row.A.Denot)). sum_by (λ (s : Seated g.row.A.Denot). length s.calls) l)
          c.as_mut_slice.ensures.value;
      lists = same_lists c.args.seats.len c.args.seats.items c.gather.new.seats (omega (arith, c.args.seats.ok.0))
          (c.gather.ensures.calls ∙ ap (λ (l : List (Seated g.row.A.Denot)). lists_of l)
          c.as_mut_slice.ensures.value);
    }

pub returns-clause-agrees : goal.returns-clause-agrees
returns-clause-agrees g c =
    let history = c.close-controller.result.1.items in
    let lent = lists_of c.as_slice-2.result.now in
    let lists : lent ≡ lists_of c.args.seats.items = ap (λ (l : List (Seated g.row.A.Denot)). lists_of l) c.as_slice-2.ensures.value
    ∙ same_lists c.args.seats.len c.args.seats.items c.gather.new.seats (omega (arith, c.args.seats.ok.0))
    (c.gather.ensures.calls ∙ ap (λ (l : List (Seated g.row.A.Denot)). lists_of l)
    c.as_mut_slice.ensures.value) in
    subst (λ (l : List (List (Call g.row.A.Denot))). MatchResult c.compare-agreed.result (λ _. Agree history l)
    (λ fault. (fault ≡ SeatsDisagree) × (Agree history l → ⊥))) lists
    (subst (λ (h : List (Call g.row.A.Denot)). MatchResult c.compare-agreed.result (λ _. Agree h lent)
    (λ fault. (fault ≡ SeatsDisagree) × (Agree h lent → ⊥))) c.as_slice.ensures.value c.compare-agreed.ensures)
