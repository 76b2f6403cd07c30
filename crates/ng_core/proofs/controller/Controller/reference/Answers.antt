use Rattle.std.proofs.Common.{◌≡◌, ℕ, List, Option, None, Some, refl, sym, ◌∙◌, ap, subst}
use Rattle.ng_num.specs.declared.fault.Fault.{Fault}
use Rattle.ng_num.specs.declared.fault.Fault.TheVariants.{CountersUsed}
use Rattle.ng_layout.specs.Stored.{StoredModel}
use Rattle.ng_layout.specs.Update.{updated}
use Rattle.ng_journal.specs.Storing.{ledger_of}
use Rattle.ng_canon.specs.declared.geometry.Geometry.{Geometry}
use Rattle.ng_session.specs.Entries.{Referenced, after_reference}
use Rattle.ng_session.specs.Session.{SessionModel, commits}
use Rattle.ng_session.specs.Operator.{reference, reference_unless, reference_refusal}
use Rattle.ng_session.specs.SessionInvariant.{IsNextEntry}
use Rattle.ng_core.specs.Causes.{IsCausedBy}
use Rattle.ng_core.specs.Model.{ControllerModel}
use Rattle.ng_core.proofs.CarriesOutLemmas.{carried_to, carried_refused, carried_used}
use Rattle.ng_core.proofs.EventCauseLemmas.{hindered_count, stored_reference}
use Rattle.ng_core.proofs.ReportEntryLemmas.{past_referenced}
use Rattle.ng_core.proofs.controller.Controller.reference.Goals as goal

pub keep-requires-clause-next : goal.keep-requires-clause-next
keep-requires-clause-next g c =
    subst (λ (x : ControllerModel g.row.R.Denot). IsNextEntry x.session.stored c.referenced-update.result) c.self.view_is
    c.referenced-update.ensures.next

pub returns-in-Some : goal.returns-in-Some
returns-in-Some g c =
    let old : ControllerModel g.row.R.Denot = c.args.self.now in
    let refused : Some c.in-Some.fault ≡ reference_refusal old.geometry old.session c.args.point.now =
    subst (λ (x : ControllerModel g.row.R.Denot). Some c.in-Some.fault ≡ reference_refusal x.geometry x.session
    c.args.point.now) c.self.view_is c.in-Some.ensures in
    carried_refused g.R.Rig.seen ⊥ (reference_refusal old.geometry old.session c.args.point.now ≡ None) ⊥
    c.in-Some.fault (λ (program : List ℕ). reference old.geometry program old.session c.args.point.now) old
    c.requires.whole (λ none. none)
    (λ program. ap (λ (o : Option Fault). reference_unless program old.session c.args.point.now o) refused)

pub returns-then-is_count_used_up : goal.returns-then-is_count_used_up
returns-then-is_count_used_up g c =
    let old : ControllerModel g.row.R.Denot = c.args.self.now in
    let geometry : Geometry = c.self.inside.geometry in
    let session = c.self.inside.session in
    let ledger = ledger_of c.self.inside.journal in
    let saved = after_reference session.stored c.args.point.now in
    let free : reference_refusal geometry session c.args.point.now ≡ None = sym c.in_default.ensures in
    carried_used g.R.Rig.seen ⊥ (reference_refusal old.geometry old.session c.args.point.now ≡ None) ⊥
    (λ (program : List ℕ). reference old.geometry program old.session c.args.point.now) old c.requires.whole
    (subst (λ (x : ControllerModel g.row.R.Denot).
    IsCausedBy ⊥ (reference_refusal x.geometry x.session c.args.point.now ≡ None) (ledger_of x.journal)
    (λ (program : List ℕ). reference x.geometry program x.session c.args.point.now) CountersUsed) c.self.view_is
    (hindered_count ledger (λ program. reference geometry program session c.args.point.now) saved (reference_refusal geometry session c.args.point.now ≡ None)
    (c.counters.ensures.past ledger saved (past_referenced session.stored c.args.point.now c.if-is_count_used_up.ensures))
    (λ program. stored_reference geometry program session c.args.point.now free)))

pub returns : goal.returns
returns g c =
    let old : ControllerModel g.row.R.Denot = c.args.self.now in
    let none : reference_refusal old.geometry old.session c.args.point.now ≡ None =
    subst (λ (x : ControllerModel g.row.R.Denot). reference_refusal x.geometry x.session c.args.point.now ≡ None) c.self.view_is (sym c.in_default.ensures) in
    let is : updated old.session.stored c.referenced-update.result ≡ after_reference old.session.stored c.args.point.now =
    subst (λ (x : ControllerModel g.row.R.Denot). updated x.session.stored c.referenced-update.result
    ≡ after_reference x.session.stored c.args.point.now) c.self.view_is c.referenced-update.ensures.value in
    carried_to g.R.Rig.seen ⊥ ⊥ (Unit {0}) (reference_refusal old.geometry old.session c.args.point.now ≡ None) ⊥ ⊥
    (λ (program : List ℕ). commits program (Referenced c.args.point.now)
    (record old.session { stored = updated old.session.stored c.referenced-update.result }))
    (λ (program : List ℕ). reference old.geometry program old.session c.args.point.now)
    c.keep.result old c.keep.new.self (λ m. m) (λ u. none) (λ e. e) (λ e. e)
    (λ program. ap (λ (y : StoredModel). commits program (Referenced c.args.point.now)
    (let s : SessionModel = record old.session { stored = y } in s)) is
    ∙ sym (ap (λ (o : Option Fault). reference_unless program old.session c.args.point.now o) none))
    (c.keep.ensures (Referenced c.args.point.now) (λ saved. refl))
