use Rattle.std.proofs.Common.{ℕ, List, ap, subst}
use Rattle.ng_desk.specs.Running.{Booked, RunsFrom}
use Rattle.ng_desk.proofs.book.Book.close.Goals as goal

pub returns-clause-runs : goal.returns-clause-runs
returns-clause-runs g c =
    subst (λ (l : List ℕ). RunsFrom g.R.Rig.seen g.O.Origin.start c.self.inside.history.items l c.self.inside.controller)
    (ap (λ (b : Booked g.row.R.Denot g.row.A.Denot). b.moments) c.self.view_is) c.self.invariant.3
