-- What an honest device is called for, whatever it stands for, from the contracts of the journal's calls.
use Rattle.std.proofs.Common.{◌≡◌, inl, ℕ, List, length, Option, None, Some, Result, Ok, Err, refl, sym, ◌∙◌, ap, subst}
use Rattle.std.specs.Prelude.{IfOk}
use Rattle.ng_num.specs.declared.fault.Fault.{Fault}
use Rattle.ng_canon.specs.declared.item.Item.{Item}
use Rattle.ng_rig.specs.Rig.{Device}
use Rattle.ng_rig.specs.Trace.{Trace}
use Rattle.ng_rig.specs.Calls.{IfHonest}
use Rattle.ng_rig.proofs.WritesOnlyLemmas.{only_none}
use Rattle.ng_layout.specs.Stored.{HalfModel, StoredModel, DurableState}
use Rattle.ng_journal.specs.Journal.{JournalModel}
use Rattle.ng_journal.specs.Loads.{StoresLoad}
use Rattle.ng_journal.specs.Storing.{Ledger, Storing, Commit, Open, Load, StoresRecord, IsLedgerAfter, with_program, ledger_of}
use Rattle.ng_session.specs.Entries.{after_load}
use Rattle.ng_session.specs.Session.{Transition}
use Rattle.ng_session.specs.Operator.{load, load_unless, load_refusal}
use Rattle.ng_session.specs.declared.reply.Reply.{Reply}
use Rattle.ng_core.specs.Causes.{stored_for}
use Rattle.ng_core.specs.Model.{ControllerModel}
use Rattle.ng_core.specs.Events.{MakesCalls, CallsFor, CallsIfHonest, IsStoredAfter, KeepsLedger, handed_all}
use Rattle.ng_core.proofs.QuietEventLemmas.{IsStill}

-- ---- nothing is called

nothing_made : (fault : Fault) (o : Option Storing) (out : Transition) (sectors : ℕ) (ledger : Ledger)
    (trace : Trace) → MakesCalls {T = Reply} (Err fault) o out sectors ledger trace trace
nothing_made fault None out sectors ledger trace = inl refl
nothing_made fault (Some (Commit saved)) out sectors ledger trace = record { writes = only_none _ trace; laid = tt; synced = tt }
nothing_made fault (Some (Open half)) out sectors ledger trace = record { writes = only_none _ trace; laid = tt; synced = tt }
nothing_made fault (Some (Load saved)) out sectors ledger trace = record { writes = only_none _ trace; text = tt; laid = tt; synced = tt }

-- there was no memory or no counter, or the device failed in a read
pub calls_none : {R : Type 0} (seen : R → Device) (fault : Fault) (out : List ℕ → Transition) (old new : ControllerModel R)
    → ((seen old.journal.rig).honest → (seen new.journal.rig).trace ≡ (seen old.journal.rig).trace) → CallsIfHonest seen (Err fault) out old new
calls_none seen fault out old new same h program =
    let before = seen old.journal.rig in
    subst (λ (t : Trace). CallsFor (Err fault) (out program) before.sectors (ledger_of old.journal) before.trace t) (sym (same h))
    (record {
      calls = nothing_made fault (stored_for (out program) (out program).reply) (out program) before.sectors
          (ledger_of old.journal) before.trace;
      unchanged = λ other. refl;
    })

-- the session replied, and nothing was to be stored or handed out
pub calls_quiet : {R : Type 0} (seen : R → Device) (r : Reply) (out : List ℕ → Transition) (old new : ControllerModel R)
    → ((program : List ℕ) → IsStill program old.session.stored (out program))
    → ((seen old.journal.rig).honest → (seen new.journal.rig).trace ≡ (seen old.journal.rig).trace) → CallsIfHonest seen (Ok r) out old new
calls_quiet seen r out old new quiet same h program =
    let before = seen old.journal.rig in
    record {
      calls = subst (λ (o : Option Storing). MakesCalls {E = Fault} (Ok r) o (out program) before.sectors
          (ledger_of old.journal) before.trace (seen new.journal.rig).trace) (sym (quiet program).nothing)
          (same h ∙ ap (λ (l : List Item). handed_all l before.trace) (sym (quiet program).items));
      unchanged = tt;
    }

-- then the device is as it was
pub quiet_calls : (r : Reply) (program : List ℕ) (stored : StoredModel) (out : Transition) (sectors : ℕ)
    (ledger : Ledger) (old new : Trace) → IsStill program stored out → CallsFor (Ok r) out sectors ledger old new
    → new ≡ old
quiet_calls r program stored out sectors ledger old new quiet c =
    let made : new ≡ handed_all out.items old =
    subst (λ (o : Option Storing). MakesCalls {E = Fault} (Ok r) o out sectors ledger old new) quiet.nothing
    c.calls in
    made ∙ ap (λ (l : List Item). handed_all l old) quiet.items

-- for an equal outcome
pub calls_on : {R : Type 0} (seen : R → Device) (answer : Result Reply Fault) (out wanted : List ℕ → Transition) (old new : ControllerModel R)
    → ((program : List ℕ) → out program ≡ wanted program) → CallsIfHonest seen answer out old new → CallsIfHonest seen answer wanted old new
calls_on seen answer out wanted old new equal calls h program =
    let before = seen old.journal.rig in
    subst (λ (o : Transition). CallsFor answer o before.sectors (ledger_of old.journal) before.trace
    (seen new.journal.rig).trace) (equal program) (calls h program)

-- ---- something is stored

-- the answer to a call of the journal, where this is the reply
abbrev pub told_as : {T : Type 0} → Result T Fault → Reply → Result Reply Fault
told_as (Ok v) r = Ok r
told_as (Err e) r = Err e

abbrev pub MakesIfHonest : {R : Type 0} → (R → Device) → Result Reply Fault → (List ℕ → Transition) → ControllerModel R → ControllerModel R → Type 0
MakesIfHonest seen answer out old new = (seen old.journal.rig).honest → (program : List ℕ)
    → MakesCalls answer (stored_for (out program) (out program).reply) (out program) (seen old.journal.rig).sectors
    (ledger_of old.journal) (seen old.journal.rig).trace (seen new.journal.rig).trace

-- it was stored
pub calls_made : {R : Type 0} (seen : R → Device) (r : Reply) (out : List ℕ → Transition)
    (old new : ControllerModel R) → MakesIfHonest seen (Ok r) out old new → CallsIfHonest seen (Ok r) out old new
calls_made seen r out old new made h program = record { calls = made h program; unchanged = tt }

-- what `commit` and `open_segment` write, with any device
abbrev pub Records : {R T : Type 0} → (R → Device) → Result T Fault → StoredModel → JournalModel R → JournalModel R → Type 0
Records seen result saved old new = IfHonest (seen old.rig) (seen new.rig) (StoresRecord result (ledger_of old) saved (seen old.rig).trace (seen new.rig).trace)

told_record : {T : Type 0} (result : Result T Fault) (r : Reply) (ledger : Ledger) (saved : StoredModel)
    (old new : Trace) → StoresRecord result ledger saved old new → StoresRecord (told_as result r) ledger saved old
    new
told_record (Ok v) r ledger saved old new p = record { writes = p.writes; laid = p.laid; synced = p.synced }
told_record (Err e) r ledger saved old new p = record { writes = p.writes; laid = tt; synced = tt }

-- an entry
pub makes_entry : {R T : Type 0} (seen : R → Device) (result : Result T Fault) (r : Reply)
    (own saved : StoredModel) (out : List ℕ → Transition) (old new : ControllerModel R) → own ≡ saved
    → ((program : List ℕ) → stored_for (out program) (out program).reply ≡ Some (Commit saved))
    → Records seen result own old.journal new.journal → MakesIfHonest seen (told_as result r) out old new
makes_entry seen result r own saved out old new is stores p h program =
    let before = seen old.journal.rig in
    let after = (seen new.journal.rig).trace in
    subst (λ (o : Option Storing). MakesCalls (told_as result r) o (out program) before.sectors
    (ledger_of old.journal) before.trace after) (sym (stores program))
    (told_record result r (ledger_of old.journal) saved before.trace after
    (subst (λ (x : StoredModel). StoresRecord result (ledger_of old.journal) x before.trace after) is
    (p.holds h)))

-- a block of which something is open
pub makes_opening : {R T : Type 0} (seen : R → Device) (result : Result T Fault) (r : Reply) (half : HalfModel)
    (out : List ℕ → Transition) (old new : ControllerModel R)
    → ((program : List ℕ) → stored_for (out program) (out program).reply ≡ Some (Open half))
    → Records seen result (record old.journal.saved { half = Some half }) old.journal new.journal
    → MakesIfHonest seen (told_as result r) out old new
makes_opening seen result r half out old new stores p h program =
    let before = seen old.journal.rig in
    let after = (seen new.journal.rig).trace in
    subst (λ (o : Option Storing). MakesCalls (told_as result r) o (out program) before.sectors
    (ledger_of old.journal) before.trace after) (sym (stores program))
    (told_record result r (ledger_of old.journal) (record old.journal.saved { half = Some half }) before.trace after (p.holds h))

-- what `load_program` writes, with any device
abbrev pub StoresText : {R T : Type 0} → (R → Device) → Result T Fault → StoredModel → List ℕ → JournalModel R → JournalModel R → Type 0
StoresText seen result saved text old new = IfHonest (seen old.rig) (seen new.rig)
    (StoresLoad result (seen old.rig).sectors (ledger_of old) (record { saved = saved; program = text }) (seen old.rig).trace (seen new.rig).trace)

told_load : {T : Type 0} (result : Result T Fault) (r : Reply) (sectors : ℕ) (ledger : Ledger) (loaded : DurableState)
    (old new : Trace) → StoresLoad result sectors ledger loaded old new
    → StoresLoad (told_as result r) sectors ledger loaded old new
told_load (Ok v) r sectors ledger loaded old new p = record { writes = p.writes; text = p.text; laid = p.laid; synced = p.synced }
told_load (Err e) r sectors ledger loaded old new p = record { writes = p.writes; text = tt; laid = tt; synced = tt }

-- a program
pub makes_load : {R T : Type 0} (seen : R → Device) (result : Result T Fault) (r : Reply) (own : StoredModel) (text : List ℕ) (old new : ControllerModel R)
    → load_refusal old.session text ≡ None → own ≡ after_load old.session.stored (length text) → StoresText seen result own text old.journal new.journal
    → MakesIfHonest seen (told_as result r) (λ program. load program old.session text) old new
makes_load seen result r own text old new free is p h program =
    let before = seen old.journal.rig in
    let after = (seen new.journal.rig).trace in
    let ledger = ledger_of old.journal in
    subst (λ (o : Option Fault). let out : Transition = load_unless program old.session text o in MakesCalls
    (told_as result r) (stored_for out out.reply) out before.sectors ledger before.trace after)
    (sym free)
    (told_load result r before.sectors ledger (record { saved = after_load old.session.stored (length text); program = text }) before.trace after
    (subst (λ (x : StoredModel). StoresLoad result before.sectors ledger (record { saved = x; program = text }) before.trace after) is (p.holds h)))

-- ---- what the journal keeps then, with any device

-- nothing was to be stored
pub ledger_quiet : {R : Type 0} (seen : R → Device) (out : List ℕ → Transition) (old new : ControllerModel R)
    → ((program : List ℕ) → IsStill program old.session.stored (out program)) → ledger_of new.journal ≡ ledger_of old.journal → KeepsLedger seen out old new
ledger_quiet seen out old new quiet same program =
    subst (λ (o : Option Storing). IsStoredAfter o (seen old.journal.rig).sectors (ledger_of old.journal)
    (ledger_of new.journal)) (sym (quiet program).nothing) same

-- for an equal outcome
pub ledger_on : {R : Type 0} (seen : R → Device) (answer : Result Reply Fault) (out wanted : List ℕ → Transition) (old new : ControllerModel R)
    → ((program : List ℕ) → out program ≡ wanted program) → IfOk answer (λ r. KeepsLedger seen out old new) → IfOk answer (λ r. KeepsLedger seen wanted old new)
ledger_on seen answer out wanted old new equal own =
    subst (λ (f : List ℕ → Transition). IfOk answer (λ r. KeepsLedger seen f old new)) (λ i program. equal program i) own

-- an entry
pub ledger_entry : {R : Type 0} (seen : R → Device) (own saved : StoredModel) (out : List ℕ → Transition) (old new : ControllerModel R) → own ≡ saved
    → ((program : List ℕ) → stored_for (out program) (out program).reply ≡ Some (Commit saved))
    → IsLedgerAfter (ledger_of old.journal) own (ledger_of new.journal) → KeepsLedger seen out old new
ledger_entry seen own saved out old new is stores p program =
    subst (λ (o : Option Storing). IsStoredAfter o (seen old.journal.rig).sectors (ledger_of old.journal) (ledger_of new.journal)) (sym (stores program))
    (subst (λ (x : StoredModel). IsLedgerAfter (ledger_of old.journal) x (ledger_of new.journal)) is p)

-- a block of which something is open
pub ledger_opening : {R : Type 0} (seen : R → Device) (half : HalfModel) (out : List ℕ → Transition) (old new : ControllerModel R)
    → ((program : List ℕ) → stored_for (out program) (out program).reply ≡ Some (Open half))
    → IsLedgerAfter (ledger_of old.journal) (record old.journal.saved { half = Some half }) (ledger_of new.journal) → KeepsLedger seen out old new
ledger_opening seen half out old new stores p program =
    subst (λ (o : Option Storing). IsStoredAfter o (seen old.journal.rig).sectors (ledger_of old.journal) (ledger_of new.journal)) (sym (stores program)) p

-- a program
pub ledger_load : {R : Type 0} (seen : R → Device) (own : StoredModel) (text : List ℕ) (old new : ControllerModel R)
    → load_refusal old.session text ≡ None → own ≡ after_load old.session.stored (length text)
    → ledger_of new.journal ≡ with_program (seen old.journal.rig).sectors (ledger_of old.journal) own
    → KeepsLedger seen (λ program. load program old.session text) old new
ledger_load seen own text old new free is p program =
    let sectors = (seen old.journal.rig).sectors in
    subst (λ (o : Option Fault). let out : Transition = load_unless program old.session text o in IsStoredAfter
    (stored_for out out.reply) sectors (ledger_of old.journal) (ledger_of new.journal)) (sym free)
    (subst (λ (x : StoredModel). ledger_of new.journal ≡ with_program sectors (ledger_of old.journal) x) is p)
