use Rattle.std.proofs.Common.{◌≡◌, ◌≤◌, ◌⊎◌, inl, ℕ, List, length, Option, None, Some, Ok, Err, refl, sym, ◌∙◌, ap, subst}
use Rattle.std.proofs.lemmas.Result.{err_from_is_err_and}
use Rattle.ng_num.specs.declared.fault.Fault.{Fault}
use Rattle.ng_num.specs.declared.fault.Fault.TheVariants.{DeviceFailed, CountersUsed}
use Rattle.ng_layout.specs.Stored.{StoredModel}
use Rattle.ng_journal.specs.Journal.{with_own_limit}
use Rattle.ng_journal.specs.Storing.{ledger_of}
use Rattle.ng_canon.specs.declared.geometry.Geometry.{Geometry}
use Rattle.ng_session.proofs.PlannedLineLemmas.{plan_none}
use Rattle.ng_session.specs.Session.{SessionModel}
use Rattle.ng_session.specs.Operator.{load, load_unless, load_refusal, loaded}
use Rattle.ng_session.specs.declared.reply.Reply.{Reply}
use Rattle.ng_session.specs.declared.reply.Reply.TheVariants as reply
use Rattle.ng_core.specs.Model.{ControllerModel}
use Rattle.ng_rig.proofs.GuaranteeLemmas.{meaning}
use Rattle.ng_core.proofs.LoadEventLemmas.{does_load, does_not_load, not_too_long}
use Rattle.ng_core.proofs.HonestCallLemmas.{calls_made, makes_load, ledger_load}
use Rattle.ng_core.proofs.EventCauseLemmas.{hindered_load}
use Rattle.ng_core.proofs.StoredJournalLemmas.{limit_is_own, after_failure}
use Rattle.ng_core.proofs.AnyDeviceLemmas.{comes_load}
use Rattle.ng_core.proofs.CarriesOutLemmas.{carried_as, carried_refused, carried_short, carried_failed}
use Rattle.ng_core.proofs.ProgramInForceLemmas.{reads_load}
use Rattle.ng_core.proofs.controller.Controller.load.Goals as goal

pub invariant_of-self : goal.invariant_of-self
invariant_of-self g c =
    let whole = ap (λ (x : ControllerModel g.row.R.Denot). x.journal.broken) c.self.view_is ∙ c.requires.whole in
    let small : length c.args.text.now ≤ c.self.inside.journal.saved.program_limit =
    subst (λ (x : StoredModel). length c.args.text.now ≤ x.program_limit) (c.self.invariant.saved whole)
    c.in_default.ensures.none.1 in
    let which = not_too_long (Unit {0}) c.in_err-load_program.field-0.0 c.self.inside.journal.saved.program_limit
    (length c.args.text.now) small c.in_err-load_program.ensures.fails.causes
    c.in_err-load_program.ensures.fails.too_long in
    record {
      saved = after_failure Reply c.in_err-load_program.field-0.0 c.self.inside.journal c.load_program.new.self
          c.self.inside.session.stored which c.in_err-load_program.ensures.call.broken
          (λ used. c.in_err-load_program.ensures.fails.unchanged (inl (ap (λ (f : Fault). Err f) used))) (c.self.invariant.saved whole);
      plan = c.self.invariant.plan;
    }

pub invariant_of-self-2 : goal.invariant_of-self-2
invariant_of-self-2 g c =
    let stored : c.load.new.self.stored ≡ c.in_ok-stored.stored = ap (λ (s : SessionModel). s.stored) c.load.ensures.next in
    let before = ap (λ (x : ControllerModel g.row.R.Denot). x.journal.broken) c.self.view_is ∙ c.requires.whole in
    let own = limit_is_own c.self.inside.journal c.in_ok-stored.stored c.self.inside.session.stored
    (c.self.invariant.saved before) (ap (λ (x : StoredModel). x.program_limit) c.in_ok-stored.ensures.value) in
    record {
      saved = λ whole. stored ∙ sym own ∙ sym c.in_ok-load_program.ensures.keeps.saved_is;
      plan = plan_none _ _ c.forget.new.self.ahead _ c.forget.ensures.ahead;
    }

pub returns-in-Some : goal.returns-in-Some
returns-in-Some g c =
    let old : ControllerModel g.row.R.Denot = c.args.self.now in
    let refused : Some c.in-Some.fault ≡ load_refusal old.session c.args.text.now =
    subst (λ (x : ControllerModel g.row.R.Denot). Some c.in-Some.fault ≡ load_refusal x.session c.args.text.now) c.self.view_is c.in-Some.ensures.value in
    carried_refused g.R.Rig.seen (load_refusal old.session c.args.text.now ≡ None) (load_refusal old.session c.args.text.now ≡ None) ⊥ c.in-Some.fault
    (λ (program : List ℕ). load program old.session c.args.text.now) old c.requires.whole (λ none. none)
    (λ program. ap (λ (o : Option Fault). load_unless program old.session c.args.text.now o) refused)

pub returns-in_err-stored : goal.returns-in_err-stored
returns-in_err-stored g c =
    let p = err_from_is_err_and c.from_residual.result c.from_residual.ensures.1 in
    let old : ControllerModel g.row.R.Denot = c.args.self.now in
    let free : load_refusal old.session c.args.text.now ≡ None =
    subst (λ (x : ControllerModel g.row.R.Denot). load_refusal x.session c.args.text.now ≡ None) c.self.view_is
    (sym c.in_default.ensures.value) in
    rw (p.1) (carried_short g.R.Rig.seen (load_refusal old.session c.args.text.now ≡ None) (load_refusal old.session c.args.text.now ≡ None) ⊥ p.0
    (λ (program : List ℕ). load program old.session c.args.text.now) old old c.requires.whole p.2 free refl refl refl refl)

pub returns-in_err-load_program : goal.returns-in_err-load_program
returns-in_err-load_program g c =
    let p = err_from_is_err_and c.from_residual-in_err-load_program.result c.from_residual-in_err-load_program.ensures.1 in
    let e = c.in_err-load_program.field-0.0 in
    let geometry : Geometry = c.self.inside.geometry in
    let old : ControllerModel g.row.R.Denot =
    record {
      journal = c.self.inside.journal;
      session = c.self.inside.session;
      lines = c.self.inside.lines;
      geometry = geometry;
    } in
    let new : ControllerModel g.row.R.Denot =
    record {
      journal = c.load_program.new.self;
      session = c.self.inside.session;
      lines = c.self.inside.lines;
      geometry = geometry;
    } in
    let free : load_refusal old.session c.args.text.now ≡ None = sym c.in_default.ensures.value in
    let whole = ap (λ (x : ControllerModel g.row.R.Denot). x.journal.broken) c.self.view_is ∙ c.requires.whole in
    let small : length c.args.text.now ≤ c.self.inside.journal.saved.program_limit =
    subst (λ (x : StoredModel). length c.args.text.now ≤ x.program_limit) (c.self.invariant.saved whole)
    c.in_default.ensures.none.1 in
    let which : (e ≡ CountersUsed) ⊎ (e ≡ DeviceFailed) = not_too_long (Unit {0}) e c.self.inside.journal.saved.program_limit
    (length c.args.text.now) small c.in_err-load_program.ensures.fails.causes
    c.in_err-load_program.ensures.fails.too_long in
    let own = limit_is_own old.journal c.in_ok-stored.stored old.session.stored (c.self.invariant.saved whole)
    (ap (λ (x : StoredModel). x.program_limit) c.in_ok-stored.ensures.value) in
    let unchanged : e ≡ CountersUsed → new.journal ≡ old.journal = λ used.
    c.in_err-load_program.ensures.fails.unchanged (inl (ap (λ (f : Fault). Err f) used)) in
    rw (p.1) (carried_as g.R.Rig.seen (λ (x : ControllerModel g.row.R.Denot).
    load_refusal x.session c.args.text.now ≡ None) (λ (x : ControllerModel g.row.R.Denot).
    load_refusal x.session c.args.text.now ≡ None) (λ (x : ControllerModel g.row.R.Denot). ⊥)
    (λ (x : ControllerModel g.row.R.Denot) (program : List ℕ). load program x.session c.args.text.now) (Err p.0)
    c.args.self.now old new c.self.view_is
    (carried_failed g.R.Rig.seen (load_refusal old.session c.args.text.now ≡ None) (load_refusal old.session c.args.text.now ≡ None) ⊥ p.0 e
    (λ (program : List ℕ). load program old.session c.args.text.now) old new p.2
    (does_not_load g.R.Rig.seen e e (with_own_limit old.journal c.in_ok-stored.stored) c.args.text.now old new free
    (own ∙ c.in_ok-stored.ensures.value) refl which unchanged (meaning c.in_err-load_program.ensures.stores (λ s. s.stops)) refl)
    (makes_load {T = Unit {0}} g.R.Rig.seen (Err e) reply.Idle (with_own_limit old.journal c.in_ok-stored.stored)
    c.args.text.now old new free (own ∙ c.in_ok-stored.ensures.value) (meaning c.in_err-load_program.ensures.stores (λ s. s.writes)))
    which unchanged refl refl refl
    (hindered_load (Unit {0}) e c.self.inside.journal.saved.program_limit old.session c.in_ok-stored.stored c.args.text.now
    (ledger_of old.journal) free small c.in_ok-stored.ensures.value which c.in_err-load_program.ensures.fails.used_up)
    c.in_err-load_program.ensures.call))

pub returns : goal.returns
returns g c =
    let geometry : Geometry = c.self.inside.geometry in
    let old : ControllerModel g.row.R.Denot =
    record {
      journal = c.self.inside.journal;
      session = c.self.inside.session;
      lines = c.self.inside.lines;
      geometry = geometry;
    } in
    let new : ControllerModel g.row.R.Denot = record {
      journal = c.load_program.new.self;
      session = c.load.new.self;
      lines = c.forget.new.self;
      geometry = geometry;
    } in
    let free : load_refusal old.session c.args.text.now ≡ None = sym c.in_default.ensures.value in
    let whole = ap (λ (x : ControllerModel g.row.R.Denot). x.journal.broken) c.self.view_is ∙ c.requires.whole in
    let own = limit_is_own old.journal c.in_ok-stored.stored old.session.stored (c.self.invariant.saved whole)
    (ap (λ (x : StoredModel). x.program_limit) c.in_ok-stored.ensures.value) in
    carried_as g.R.Rig.seen (λ (x : ControllerModel g.row.R.Denot). load_refusal x.session c.args.text.now ≡ None)
    (λ (x : ControllerModel g.row.R.Denot). load_refusal x.session c.args.text.now ≡ None)
    (λ (x : ControllerModel g.row.R.Denot). ⊥) (λ (x : ControllerModel g.row.R.Denot) (program : List ℕ).
    load program x.session c.args.text.now) (Ok c.load.result) c.args.self.now old new c.self.view_is (record {
      does = does_load g.R.Rig.seen c.in_ok-load_program.field-0 c.load.result
          (with_own_limit old.journal c.in_ok-stored.stored) c.args.text.now old new free
          (own ∙ c.in_ok-stored.ensures.value)
          c.load.ensures.reply (c.load.ensures.next ∙ ap (loaded old.session) (sym own))
          (meaning c.in_ok-load_program.ensures.stores (λ s. s.stops)) (c.forget.ensures.holds c.args.text.now);
      calls = calls_made g.R.Rig.seen c.load.result (λ (program : List ℕ). load program old.session c.args.text.now) old new
          (makes_load g.R.Rig.seen (Ok c.in_ok-load_program.field-0) c.load.result
          (with_own_limit old.journal c.in_ok-stored.stored) c.args.text.now old new free
          (own ∙ c.in_ok-stored.ensures.value) (meaning c.in_ok-load_program.ensures.stores (λ s. s.writes)));
      reads = reads_load g.R.Rig.seen c.load.result (with_own_limit old.journal c.in_ok-stored.stored) c.args.text.now old new
          free (own ∙ c.in_ok-stored.ensures.value)
          (c.load.ensures.reply ∙ ap (λ (x : StoredModel). reply.Done x.entries) (sym own))
          (c.load.ensures.next ∙ ap (loaded old.session) (sym own))
          (λ h. (c.in_ok-load_program.ensures.stores.holds h).holds) (c.forget.ensures.holds c.args.text.now);
      comes = comes_load ⊥ c.load.result c.in_ok-stored.stored c.args.text.now old new free
          c.in_ok-stored.ensures.value c.load.ensures.reply c.load.ensures.next;
      line = λ none. absurd none;
      ledger = ledger_load g.R.Rig.seen (with_own_limit old.journal c.in_ok-stored.stored) c.args.text.now old new free
          (own ∙ c.in_ok-stored.ensures.value) c.in_ok-load_program.ensures.keeps.ledger;
      hindered = tt;
      broken = c.in_ok-load_program.ensures.call.broken;
      geometry = refl;
      size = c.in_ok-load_program.ensures.call.size;
      failures = c.in_ok-load_program.ensures.call.failures;
    })
