-- What `recover` returns.
use Rattle.std.proofs.Common.{◌≡◌, inl, inr, List, ℤ, Ok, Err, sym, ◌∙◌, subst}
use Rattle.ng_rig.specs.Trace.{Trace, reads}
use Rattle.ng_layout.specs.declared.header.Header.{Header}
use Rattle.ng_layout.specs.Stored.{StoredModel}
use Rattle.ng_log.specs.AtEnd.{no_records, IsAtEnd}
use Rattle.ng_journal.specs.declared.storing.Tip.{Tip}
use Rattle.ng_journal.specs.AtRest.{IsLaidOut}
use Rattle.ng_journal.specs.Journal.{JournalModel}
use Rattle.ng_journal.specs.Private.Records.{tip_of}
use Rattle.ng_journal.specs.Storing.{ledger_of}
use Rattle.ng_journal.specs.Recover.{RecoverSpec, IsJournalRecovered}
use Rattle.ng_journal.specs.Recovery.{IsNextEpoch}
use Rattle.ng_num.specs.declared.fault.Fault.{Fault}
use Rattle.ng_num.specs.declared.fault.Fault.TheVariants.{DeviceFailed, OutOfMemory}
use Rattle.ng_rig.proofs.ContinuationLemmas.{stays}
use Rattle.ng_journal.proofs.RestoreLemmas.{none_renews}
use Rattle.ng_journal.specs.Private.RecoverySteps.{IsReady, IsRefusal, RestoreSpec}

ready-rests : {R : Type 0} (tools : List ℤ) (journal : JournalModel R) (header : Header) (saved : StoredModel)
    (old new : Trace) → tip_of (ledger_of journal) ≡ record { header = header; end = no_records }
    → journal.saved ≡ saved → IsReady tools header saved old new → IsJournalRecovered tools journal old new
ready-rests tools journal header saved old new same held r = record {
  standing = r.standing;
  rests = record { at = subst (λ (t : Tip). IsAtEnd new t.header r.standing t.end) (sym same) r.at; saved_is = sym r.saved_is ∙ sym held };
  is = r.is;
}

pub recovered_all : {R E : Type 0} (tools : List ℤ) (journal : JournalModel R) (header : Header)
    (saved : StoredModel) (old new : Trace)
    → tip_of (ledger_of journal) ≡ record { header = header; end = no_records } → journal.saved ≡ saved
    → RestoreSpec {E = E} tools (Ok (Ok header)) saved old new → RecoverSpec tools (Ok (journal, saved)) old new
recovered_all tools journal header saved old new same held r = record {
  finds = (r.outcome.0, subst (λ (t : Tip). IsNextEpoch t.header (reads old)) (sym same) r.outcome.1);
  refused = tt;
  renews = r.renews;
  laid = subst (λ (t : Tip). IsLaidOut t.header saved (reads new)) (sym same) r.laid;
  synced = r.synced;
  keeps = λ written.
      let k = r.keeps written in
      record { stops = k.stops; ready = ready-rests tools journal header saved old new same held k.ready };
}

-- without memory the device isn't called
pub recovered_nothing : {R : Type 0} (tools : List ℤ) (rig : R) (trace : Trace) → RecoverSpec tools (Err (OutOfMemory, rig)) trace trace
recovered_nothing tools rig trace = record {
  finds = tt;
  refused = tt;
  renews = none_renews tools trace;
  laid = tt;
  synced = tt;
  keeps = λ written. record { stops = stays trace _; ready = tt };
}

-- why nothing was recovered
pub recovered_failed : {R E : Type 0} (tools : List ℤ) (rig : R) (e : E) (saved : StoredModel) (old new : Trace)
    → RestoreSpec tools (Err e) saved old new → RecoverSpec tools (Err (DeviceFailed, rig)) old new
recovered_failed tools rig e saved old new r =
    record {
      finds = tt;
      refused = tt;
      renews = r.renews;
      laid = tt;
      synced = tt;
      keeps = λ written.
          record { stops = (r.keeps written).stops; ready = tt };
    }

pub recovered_refused : {R E : Type 0} (tools : List ℤ) (rig : R) (fault : Fault) (saved : StoredModel)
    (old new : Trace) → IsRefusal fault → RestoreSpec {E = E} tools (Ok (Err fault)) saved old new
    → RecoverSpec tools (Err (fault, rig)) old new
recovered_refused {R} {E} tools rig fault saved old new refusal = elim refusal [
  | inl is ↦ subst P (sym is)
      (λ r. record {
        finds = r.outcome;
        refused = r.refused;
        renews = r.renews;
        laid = tt;
        synced = tt;
        keeps =
            λ written. record { stops = (r.keeps written).stops; ready = tt };
      })
  | inr (inl is) ↦ subst P (sym is)
      (λ r. record {
        finds = r.outcome;
        refused = r.refused;
        renews = r.renews;
        laid = tt;
        synced = tt;
        keeps =
            λ written. record { stops = (r.keeps written).stops; ready = tt };
      })
  | inr (inr is) ↦ subst P (sym is)
      (λ r. record {
        finds = r.outcome;
        refused = r.refused;
        renews = r.renews;
        laid = tt;
        synced = tt;
        keeps =
            λ written. record { stops = (r.keeps written).stops; ready = tt };
      })
]
  where
    P : Fault → Type 0
    P x = RestoreSpec {E = E} tools (Ok (Err x)) saved old new → RecoverSpec tools (Err (x, rig)) old new
