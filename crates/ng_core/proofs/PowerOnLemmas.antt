-- What power on returns, from what the journal recovers.
use Rattle.std.proofs.Common.{◌≡◌, ℕ, ℤ, List, Ok, refl, sym, ◌∙◌, ap, subst}
use Rattle.ng_rig.specs.Trace.{Trace}
use Rattle.ng_layout.specs.Stored.{StoredModel, DurableState}
use Rattle.ng_journal.specs.Journal.{JournalModel, IsDurablyAt, program_in_force}
use Rattle.ng_journal.specs.Recover.{RecoverSpec, IsJournalRecovered}
use Rattle.ng_canon.specs.declared.geometry.Geometry.{Geometry}
use Rattle.ng_session.specs.Planned.{KnownModel, IsKnownOf}
use Rattle.ng_session.specs.Session.{SessionModel}
use Rattle.ng_core.specs.Model.{durable_state_of}
use Rattle.ng_core.specs.Power.{PowerOnSpecIfHonest, IsControllerRecovered}

recovered : {R : Type 0} (tools : List ℤ) (journal : JournalModel R) (session : SessionModel) (lines : KnownModel)
    (geometry : Geometry) (old new : Trace) → session.stored ≡ journal.saved
    → ((program : List ℕ) → IsKnownOf program lines)
    → IsJournalRecovered tools journal old new
    → IsControllerRecovered {R = R} tools
    (record { journal = journal; session = session; lines = lines; geometry = geometry }) old new
recovered tools journal session lines geometry old new stored known r =
    let same : r.standing ≡ durable_state_of r.standing.program session = λ i.
    record { saved = (r.rests.saved_is ∙ sym stored) i; program = r.standing.program } in
    record {
      program = r.standing.program;
      rests = (subst (λ (s : DurableState). IsDurablyAt new journal s) same r.rests, known r.standing.program);
      is = r.is ∙ ap (λ (s : DurableState). Ok s) same;
    }

pub powered : {R : Type 0} (tools : List ℤ) (journal : JournalModel R) (saved : StoredModel)
    (session : SessionModel) (lines : KnownModel) (geometry : Geometry) (old new : Trace) → session.stored ≡ saved
    → journal.saved ≡ saved → ((program : List ℕ) → IsKnownOf program lines)
    → RecoverSpec tools (Ok (journal, saved)) old new
    → PowerOnSpecIfHonest {R = R} tools
    (Ok (record { journal = journal; session = session; lines = lines; geometry = geometry })) old new
powered tools journal saved session lines geometry old new stored held known r = record {
  recovers = subst (λ (x : StoredModel). RecoverSpec tools (Ok (journal, x)) old new) (sym stored) r;
  rests = λ written. recovered tools journal session lines geometry old new (stored ∙ sym held) known (r.keeps written).ready;
  force = (record { synced = r.synced; program_is = refl }, known (program_in_force new journal));
}
