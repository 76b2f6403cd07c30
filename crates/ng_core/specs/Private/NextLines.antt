-- Where the next line of the program begins after a half-done block, and how it is found (own).
use Rattle.std.specs.Prelude.{◌≡◌, ℕ, List, Result, IfOk, IfSome}
use Rattle.ng_rig.specs.Trace.{Trace}
use Rattle.ng_layout.specs.Stored.{DurableState}
use Rattle.ng_journal.specs.Journal.{JournalModel, IsDurablyAt}
use Rattle.ng_session.specs.Session.{SessionModel}
use Rattle.ng_session.specs.Operator.{next_place_after}

-- the next line begins there
abbrev pub IsNextLineAt : List ℕ → SessionModel → ℕ → Type 0
IsNextLineAt program s next = IfSome s.stored.half (λ half. next ≡ next_place_after program s.stored.place half.source)

-- The next line is found, nothing is changed, and the journal is at rest as before.
pub record NextLineSpec {R E : Type 0} (result : Result ℕ E) (journal : JournalModel R) (standing : DurableState)
    (s : SessionModel) (old new : Trace) : Type 0 where
  pub same : new ≡ old
  pub at : IsDurablyAt new journal standing
  pub next : IfOk result (λ next. IsNextLineAt standing.program s next)
