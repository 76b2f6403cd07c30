use Rattle.std.proofs.Common.{◌≡◌, ℕ, List, Option, None, Some, refl, sym, ◌∙◌, ap, subst}
use Rattle.ng_num.specs.declared.fault.Fault.{Fault}
use Rattle.ng_num.specs.declared.fault.Fault.TheVariants.{CountersUsed}
use Rattle.ng_layout.specs.Stored.{StoredModel}
use Rattle.ng_layout.specs.Update.{updated}
use Rattle.ng_journal.specs.Storing.{ledger_of}
use Rattle.ng_session.specs.Entries.{Tooled, after_tool}
use Rattle.ng_session.specs.Session.{SessionModel, commits}
use Rattle.ng_session.specs.Operator.{tool, tool_unless, tool_refusal}
use Rattle.ng_session.specs.SessionInvariant.{IsNextEntry}
use Rattle.ng_core.specs.Causes.{IsCausedBy}
use Rattle.ng_core.specs.Model.{ControllerModel}
use Rattle.ng_core.proofs.CarriesOutLemmas.{carried_to, carried_refused, carried_used}
use Rattle.ng_core.proofs.EventCauseLemmas.{hindered_count, stored_tool}
use Rattle.ng_core.proofs.ReportEntryLemmas.{no_block_at_rest, past_tooled}
use Rattle.ng_core.proofs.controller.Controller.tool.Goals as goal

pub keep-requires-clause-free : goal.keep-requires-clause-free
keep-requires-clause-free g c =
    subst (λ (x : ControllerModel g.row.R.Denot). x.session.current ≡ None) c.self.view_is (no_block_at_rest c.self.inside.session c.in_default.ensures.none.0)

pub keep-requires-clause-next : goal.keep-requires-clause-next
keep-requires-clause-next g c =
    subst (λ (x : ControllerModel g.row.R.Denot). IsNextEntry x.session.stored c.tooled-update.result) c.self.view_is
    c.tooled-update.ensures.next

pub returns-in-Some : goal.returns-in-Some
returns-in-Some g c =
    let old : ControllerModel g.row.R.Denot = c.args.self.now in
    let refused : Some c.in-Some.fault ≡ tool_refusal old.session c.args.slot c.args.tool_length =
    subst (λ (x : ControllerModel g.row.R.Denot). Some c.in-Some.fault ≡ tool_refusal x.session c.args.slot
    c.args.tool_length) c.self.view_is c.in-Some.ensures.value in
    carried_refused g.R.Rig.seen ⊥ (tool_refusal old.session c.args.slot c.args.tool_length ≡ None) ⊥
    c.in-Some.fault (λ (program : List ℕ). tool program old.session c.args.slot c.args.tool_length) old
    c.requires.whole (λ none. none)
    (λ program. ap (λ (o : Option Fault). tool_unless program old.session c.args.slot c.args.tool_length o) refused)

pub returns-then-is_count_used_up : goal.returns-then-is_count_used_up
returns-then-is_count_used_up g c =
    let old : ControllerModel g.row.R.Denot = c.args.self.now in
    let session = c.self.inside.session in
    let ledger = ledger_of c.self.inside.journal in
    let saved = after_tool session.stored c.args.slot c.args.tool_length in
    let free : tool_refusal session c.args.slot c.args.tool_length ≡ None = sym c.in_default.ensures.value in
    carried_used g.R.Rig.seen ⊥ (tool_refusal old.session c.args.slot c.args.tool_length ≡ None) ⊥
    (λ (program : List ℕ). tool program old.session c.args.slot c.args.tool_length) old c.requires.whole
    (subst (λ (x : ControllerModel g.row.R.Denot).
    IsCausedBy ⊥ (tool_refusal x.session c.args.slot c.args.tool_length ≡ None) (ledger_of x.journal)
    (λ (program : List ℕ). tool program x.session c.args.slot c.args.tool_length) CountersUsed) c.self.view_is
    (hindered_count ledger (λ program. tool program session c.args.slot c.args.tool_length) saved (tool_refusal session c.args.slot c.args.tool_length ≡ None)
    (c.counters.ensures.past ledger saved (past_tooled session.stored c.args.slot c.args.tool_length c.if-is_count_used_up.ensures))
    (λ program. stored_tool program session c.args.slot c.args.tool_length free)))

pub returns : goal.returns
returns g c =
    let old : ControllerModel g.row.R.Denot = c.args.self.now in
    let none : tool_refusal old.session c.args.slot c.args.tool_length ≡ None =
    subst (λ (x : ControllerModel g.row.R.Denot). tool_refusal x.session c.args.slot c.args.tool_length ≡ None)
    c.self.view_is (sym c.in_default.ensures.value) in
    let is : updated old.session.stored c.tooled-update.result ≡ after_tool old.session.stored c.args.slot c.args.tool_length =
    subst (λ (x : ControllerModel g.row.R.Denot). updated x.session.stored c.tooled-update.result
    ≡ after_tool x.session.stored c.args.slot c.args.tool_length) c.self.view_is c.tooled-update.ensures.value in
    carried_to g.R.Rig.seen ⊥ ⊥ (Unit {0}) (tool_refusal old.session c.args.slot c.args.tool_length ≡ None) ⊥ ⊥
    (λ (program : List ℕ). commits program (Tooled c.args.slot c.args.tool_length)
    (record old.session { stored = updated old.session.stored c.tooled-update.result }))
    (λ (program : List ℕ). tool program old.session c.args.slot c.args.tool_length)
    c.keep.result old c.keep.new.self (λ m. m) (λ u. none) (λ e. e) (λ e. e)
    (λ program. ap (λ (y : StoredModel). commits program (Tooled c.args.slot c.args.tool_length)
    (let s : SessionModel = record old.session { stored = y } in s)) is
    ∙ sym (ap (λ (o : Option Fault). tool_unless program old.session c.args.slot c.args.tool_length o) none))
    (c.keep.ensures (Tooled c.args.slot c.args.tool_length) (λ saved. refl))
