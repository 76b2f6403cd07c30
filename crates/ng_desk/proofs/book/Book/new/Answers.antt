use Rattle.std.proofs.Common.{◌≡◌, ◌∙◌, ℕ, List, [], length, sym, ap, subst}
use Rattle.ng_desk.specs.declared.call.Call.{Call}
use Rattle.ng_desk.specs.Calls.{NumberedFrom}
use Rattle.ng_desk.specs.Running.{RunsFrom}
use Rattle.ng_desk.proofs.CallHistoryLemmas.{runs_none}
use Rattle.ng_desk.proofs.book.Book.new.Goals as goal

pub invariant_of-result : goal.invariant_of-result
invariant_of-result g c =
    let none : c.new.result.items ≡ [] = c.new.ensures.items in (
      ap (λ (l : List (Call g.row.A.Denot)). length l) none ∙ sym c.requires.none,
      c.empty.ensures.parts,
      subst (λ (l : List (Call g.row.A.Denot)). NumberedFrom 0 l) (sym none) tt,
      subst (λ (m : List ℕ). RunsFrom g.R.Rig.seen g.O.Origin.start c.new.result.items m c.args.controller) (sym c.none.ensures)
          (subst (λ (l : List (Call g.row.A.Denot)). RunsFrom g.R.Rig.seen g.O.Origin.start l [] c.args.controller) (sym none)
          (runs_none g.R.Rig.seen g.O.Origin.start c.args.controller c.requires.start)),
    )
