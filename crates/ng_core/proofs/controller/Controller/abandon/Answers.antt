use Rattle.std.proofs.Common.{◌≡◌, ◌<◌, ℕ, List, Option, None, Some, refl, sym, ◌∙◌, ap, subst}
use Rattle.ng_layout.specs.Limits.{greatest_count}
use Rattle.ng_num.specs.declared.fault.Fault.{Fault}
use Rattle.ng_num.specs.declared.fault.Fault.TheVariants.{CountersUsed}
use Rattle.ng_layout.specs.Stored.{StoredModel}
use Rattle.ng_layout.specs.Update.{updated}
use Rattle.ng_journal.specs.Storing.{ledger_of}
use Rattle.ng_session.specs.Entries.{Abandoned, after_abandon}
use Rattle.ng_session.specs.Session.{SessionModel, commits}
use Rattle.ng_session.specs.Operator.{abandon, abandon_unless, abandon_refusal}
use Rattle.ng_session.specs.SessionInvariant.{IsNextEntry}
use Rattle.ng_core.specs.Causes.{IsCausedBy}
use Rattle.ng_core.specs.Model.{ControllerModel}
use Rattle.ng_core.proofs.CarriesOutLemmas.{carried_to, carried_refused, carried_used}
use Rattle.ng_core.proofs.EventCauseLemmas.{hindered_count, stored_abandon}
use Rattle.ng_core.proofs.ReportEntryLemmas.{no_block, has_half, counts_on, past_abandoned}
use Rattle.ng_core.proofs.controller.Controller.abandon.Goals as goal

pub keep-requires-clause-free : goal.keep-requires-clause-free
keep-requires-clause-free g c =
    let old : ControllerModel g.row.R.Denot = c.args.self.now in
    let none : abandon_refusal old.session ≡ None =
    subst (λ (x : ControllerModel g.row.R.Denot). abandon_refusal x.session ≡ None) c.self.view_is
    (sym c.in_default.ensures) in
    no_block old.session none

pub keep-requires-clause-count : goal.keep-requires-clause-count
keep-requires-clause-count g c =
    subst (λ (x : ControllerModel g.row.R.Denot). x.session.stored.entries < greatest_count) c.self.view_is
    (counts_on c.self.inside.session.stored.entries (sym c.if-is_count_used_up.ensures))

pub keep-requires-clause-next : goal.keep-requires-clause-next
keep-requires-clause-next g c =
    subst (λ (x : ControllerModel g.row.R.Denot). IsNextEntry x.session.stored c.in-Some-abandoned.update) c.self.view_is
    c.in-Some-abandoned.ensures.next

pub returns-in-Some : goal.returns-in-Some
returns-in-Some g c =
    let old : ControllerModel g.row.R.Denot = c.args.self.now in
    let refused : Some c.in-Some.fault ≡ abandon_refusal old.session =
    subst (λ (x : ControllerModel g.row.R.Denot). Some c.in-Some.fault ≡ abandon_refusal x.session)
    c.self.view_is c.in-Some.ensures in
    carried_refused g.R.Rig.seen ⊥ (abandon_refusal old.session ≡ None) ⊥ c.in-Some.fault
    (λ (program : List ℕ). abandon program old.session) old c.requires.whole (λ none. none)
    (λ program. ap (λ (o : Option Fault). abandon_unless program old.session o) refused)

pub returns-then-is_count_used_up : goal.returns-then-is_count_used_up
returns-then-is_count_used_up g c =
    let old : ControllerModel g.row.R.Denot = c.args.self.now in
    let session = c.self.inside.session in
    let ledger = ledger_of c.self.inside.journal in
    let saved = after_abandon session.stored in
    let free : abandon_refusal session ≡ None = sym c.in_default.ensures in
    carried_used g.R.Rig.seen ⊥ (abandon_refusal old.session ≡ None) ⊥ (λ (program : List ℕ). abandon program old.session) old c.requires.whole
    (subst (λ (x : ControllerModel g.row.R.Denot). IsCausedBy ⊥ (abandon_refusal x.session ≡ None)
    (ledger_of x.journal) (λ (program : List ℕ). abandon program x.session) CountersUsed) c.self.view_is
    (hindered_count ledger (λ program. abandon program session) saved (abandon_refusal session ≡ None)
    (c.counters.ensures.past ledger saved
    (past_abandoned session.stored (has_half session free) c.if-is_count_used_up.ensures))
    (λ program. stored_abandon program session free)))

pub returns-in-Some-abandoned : goal.returns-in-Some-abandoned
returns-in-Some-abandoned g c =
    let old : ControllerModel g.row.R.Denot = c.args.self.now in
    let none : abandon_refusal old.session ≡ None =
    subst (λ (x : ControllerModel g.row.R.Denot). abandon_refusal x.session ≡ None) c.self.view_is
    (sym c.in_default.ensures) in
    let is : updated old.session.stored c.in-Some-abandoned.update ≡ after_abandon old.session.stored =
    subst (λ (x : ControllerModel g.row.R.Denot). updated x.session.stored c.in-Some-abandoned.update
    ≡ after_abandon x.session.stored) c.self.view_is c.in-Some-abandoned.ensures.value in
    carried_to g.R.Rig.seen ⊥ ⊥ (Unit {0}) (abandon_refusal old.session ≡ None) ⊥ ⊥
    (λ (program : List ℕ).
    commits program Abandoned
    (record old.session { stored = updated old.session.stored c.in-Some-abandoned.update }))
    (λ (program : List ℕ). abandon program old.session)
    c.keep.result old c.keep.new.self (λ m. m) (λ u. none) (λ e. e) (λ e. e)
    (λ program. ap (λ (y : StoredModel).
    commits program Abandoned (let s : SessionModel = record old.session { stored = y } in s)) is
    ∙ sym (ap (λ (o : Option Fault). abandon_unless program old.session o) none))
    (c.keep.ensures Abandoned (λ saved. refl))

pub returns-in-None : goal.returns-in-None
returns-in-None g c =
    absurd (has_half c.self.inside.session (sym c.in_default.ensures) c.in-None.ensures.value)
