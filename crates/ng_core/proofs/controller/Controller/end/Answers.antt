use Rattle.std.proofs.Common.{◌≡◌, ℕ, List, Result, Ok, Err, refl, sym, ◌∙◌, ap, true, false, Option, subst}
use Rattle.std.proofs.lemmas.Result.{err_from_is_err_and}
use Rattle.ng_num.specs.declared.fault.Fault.{Fault}
use Rattle.ng_num.specs.declared.fault.Fault.TheVariants.{CountersUsed}
use Rattle.ng_session.specs.declared.reply.Reply.{Reply}
use Rattle.ng_layout.specs.Stored.{StoredModel}
use Rattle.ng_layout.specs.Update.{UpdateModel, updated}
use Rattle.ng_journal.specs.Storing.{ledger_of}
use Rattle.ng_canon.specs.declared.geometry.Geometry.{Geometry}
use Rattle.ng_session.specs.Planned.{base_of}
use Rattle.ng_session.proofs.PlannedLineLemmas.{committed_base, plan_as}
use Rattle.ng_session.specs.Session.{SessionModel, Transition, CurrentBlockModel, is_running}
use Rattle.ng_session.specs.Ticking.{end, begin, rest}
use Rattle.ng_session.specs.declared.reply.Reply.TheVariants as reply
use Rattle.ng_core.specs.Model.{ControllerModel}
use Rattle.ng_rig.specs.Rig.{Device}
use Rattle.ng_rig.proofs.GuaranteeLemmas.{meaning}
use Rattle.ng_core.proofs.AnyDeviceLemmas.{comes_commit, comes_rest}
use Rattle.ng_core.proofs.CarriesOutLemmas.{carried_as, carried_failed, carried_to}
use Rattle.ng_core.proofs.ProgramInForceLemmas.{reads_commit, reads_on, reads_still}
use Rattle.ng_core.proofs.HonestCallLemmas.{calls_made, makes_entry, ledger_entry, calls_on, calls_quiet, ledger_on, ledger_quiet}
use Rattle.ng_core.proofs.EventCauseLemmas.{hindered_entry, stored_end, busy_block, busy_unread, busy_running}
use Rattle.ng_core.proofs.StoredJournalLemmas.{settled_next, storable_next}
use Rattle.ng_core.proofs.TickLemmas.{IsDue, does_commit, does_not_commit, does_rest, rests_there}
use Rattle.std.specs.Option.{is_some}
use Rattle.ng_text.specs.Programs.{program_line_at}
use Rattle.ng_session.specs.Step.{has_work, IsBetweenLines}
use Rattle.ng_core.specs.Needs.{needs_device, needs_of_work}
use Rattle.ng_core.specs.Events.{CarriesOut}
use Rattle.ng_core.proofs.TickChoiceLemmas.{begins_there}
use Rattle.ng_core.proofs.QuietEventLemmas.{still_rest}
use Rattle.ng_core.proofs.controller.Controller.end.Goals as goal

-- the commit of a block that is current, as an end of what is open
of_work : {R : Type 0} (seen : R → Device) (answer : Result Reply Fault) (old new : ControllerModel R)
    → is_some old.session.current ≡ true
    → CarriesOut seen needs_device
    (λ (program : List ℕ). end old.geometry program old.session old.session.current) answer old new
    → CarriesOut seen (needs_of_work old.session)
    (λ (program : List ℕ). end old.geometry program old.session old.session.current) answer old new
of_work seen answer old new block carried =
    carried_to seen ⊥ ⊥ (Unit {0}) (has_work old.session ≡ true) ⊥ (IsBetweenLines old.session)
    (λ (program : List ℕ). end old.geometry program old.session old.session.current)
    (λ (program : List ℕ). end old.geometry program old.session old.session.current) answer old new
    (λ m. m) (λ u. busy_block (is_running old.session.activity) old.session.current block)
    (λ none. absurd none) (busy_unread old.session block) (λ program. refl) carried

pub commit_update-requires-clause-storable : goal.commit_update-requires-clause-storable
commit_update-requires-clause-storable g c =
    let whole = ap (λ (x : ControllerModel g.row.R.Denot). x.journal.broken) c.self.view_is ∙ c.requires in
    storable_next _ _ c.in-Some.update (c.self.invariant.saved whole) c.in-Some.ensures.next

pub commit_update-requires-clause-settled : goal.commit_update-requires-clause-settled
commit_update-requires-clause-settled g c =
    let whole = ap (λ (x : ControllerModel g.row.R.Denot). x.journal.broken) c.self.view_is ∙ c.requires in
    settled_next _ _ c.in-Some.update (c.self.invariant.saved whole) c.in-Some.ensures.next

pub invariant_of-self-in-Some : goal.invariant_of-self-in-Some
invariant_of-self-in-Some g c =
    let update : UpdateModel = c.in-Some.update in
    let block = c.in-Some.ensures.after in
    let whole = ap (λ (x : ControllerModel g.row.R.Denot). x.journal.broken) c.self.view_is ∙ c.requires in
    let next = c.commit.ensures.next block.0 block.1 in
    let there : updated c.self.inside.journal.saved update ≡ updated c.self.inside.session.stored update =
    ap (λ (x : StoredModel). updated x update) (sym (c.self.invariant.saved whole)) in
    let stored : c.commit.new.self.stored ≡ updated c.self.inside.journal.saved update =
    ap (λ (s : SessionModel). s.stored) next ∙ sym (there ∙ block.2) in
    record {
      saved = λ _. stored ∙ sym c.in_ok-commit_update.ensures.keeps.saved_is;
      plan = plan_as _ (base_of c.self.inside.session) (base_of c.commit.new.self) c.self.inside.lines.ahead _
          (ap base_of next ∙ committed_base c.self.inside.session block.0 block.1) c.self.invariant.plan;
    }

pub returns-in_err-commit_update : goal.returns-in_err-commit_update
returns-in_err-commit_update g c =
    let p = err_from_is_err_and c.from_residual.result c.from_residual.ensures.1 in
    let e = c.in_err-commit_update.field-0.0 in
    let update : UpdateModel = c.in-Some.update in
    let geometry : Geometry = c.self.inside.geometry in
    let old : ControllerModel g.row.R.Denot =
    record {
      journal = c.self.inside.journal;
      session = c.self.inside.session;
      lines = c.self.inside.lines;
      geometry = geometry;
    } in
    let new : ControllerModel g.row.R.Denot = record {
      journal = c.commit_update.new.self;
      session = c.self.inside.session;
      lines = c.self.inside.lines;
      geometry = geometry;
    } in
    let block = c.in-Some.ensures.after in
    let whole = ap (λ (x : ControllerModel g.row.R.Denot). x.journal.broken) c.self.view_is ∙ c.requires in
    let saved : StoredModel = updated old.journal.saved update in
    let due : IsDue old.session saved = record {
      block = block.0;
      current = block.1;
      after = ap (λ (x : StoredModel). updated x update) (sym (c.self.invariant.saved whole)) ∙ block.2;
    } in
    let ends : List ℕ → Transition = λ program. end geometry program old.session old.session.current in
    let failed = c.in_err-commit_update.ensures.fails in
    let unchanged : e ≡ CountersUsed → new.journal ≡ old.journal = λ used. failed.unchanged (ap (λ (f : Fault). Err f) used) in
    rw (p.1) (carried_as g.R.Rig.seen (λ (x : ControllerModel g.row.R.Denot). ⊥)
    (λ (x : ControllerModel g.row.R.Denot). has_work x.session ≡ true)
    (λ (x : ControllerModel g.row.R.Denot). IsBetweenLines x.session)
    (λ (x : ControllerModel g.row.R.Denot) (program : List ℕ).
    end x.geometry program x.session x.session.current) (Err p.0) c.args.self.now old new c.self.view_is
    (of_work g.R.Rig.seen (Err p.0) old new (ap (λ (o : Option CurrentBlockModel). is_some o) block.1)
    (carried_failed g.R.Rig.seen ⊥ (Unit {0}) ⊥ p.0 e ends old new p.2
    (does_not_commit g.R.Rig.seen e e saved old new due refl failed.causes unchanged
    (meaning c.in_err-commit_update.ensures.stores (λ s. s.stops)) refl)
    (makes_entry {T = Unit {0}} g.R.Rig.seen (Err e) reply.Idle saved saved ends old new refl
    (λ program. stored_end geometry program old.session saved due) (meaning c.in_err-commit_update.ensures.stores (λ s. s.writes)))
    failed.causes unchanged refl refl refl
    (hindered_entry (Unit {0}) e geometry old.session (ledger_of old.journal) saved due failed.causes failed.used_up)
    c.in_err-commit_update.ensures.call)))

pub returns-in-Some : goal.returns-in-Some
returns-in-Some g c =
    let update : UpdateModel = c.in-Some.update in
    let geometry : Geometry = c.self.inside.geometry in
    let old : ControllerModel g.row.R.Denot =
    record {
      journal = c.self.inside.journal;
      session = c.self.inside.session;
      lines = c.self.inside.lines;
      geometry = geometry;
    } in
    let new : ControllerModel g.row.R.Denot = record {
      journal = c.commit_update.new.self;
      session = c.commit.new.self;
      lines = c.self.inside.lines;
      geometry = geometry;
    } in
    let block = c.in-Some.ensures.after in
    let whole = ap (λ (x : ControllerModel g.row.R.Denot). x.journal.broken) c.self.view_is ∙ c.requires in
    let saved : StoredModel = updated old.journal.saved update in
    let due : IsDue old.session saved = record {
      block = block.0;
      current = block.1;
      after = ap (λ (x : StoredModel). updated x update) (sym (c.self.invariant.saved whole)) ∙ block.2;
    } in
    let ends : List ℕ → Transition = λ program. end geometry program old.session old.session.current in
    let done = c.in_ok-commit_update.ensures in
    let replied = c.commit.ensures.reply block.0 block.1 in
    let next = c.commit.ensures.next block.0 block.1 in
    carried_as g.R.Rig.seen (λ (x : ControllerModel g.row.R.Denot). ⊥)
    (λ (x : ControllerModel g.row.R.Denot). has_work x.session ≡ true)
    (λ (x : ControllerModel g.row.R.Denot). IsBetweenLines x.session)
    (λ (x : ControllerModel g.row.R.Denot) (program : List ℕ).
    end x.geometry program x.session x.session.current) (Ok c.commit.result) c.args.self.now old new c.self.view_is
    (of_work g.R.Rig.seen (Ok c.commit.result) old new (ap (λ (o : Option CurrentBlockModel). is_some o) block.1)
    (record {
      does = does_commit g.R.Rig.seen c.in_ok-commit_update.field-0 c.commit.result saved old new due replied next
          (meaning done.stores (λ s. s.stops)) refl;
      calls = calls_made g.R.Rig.seen c.commit.result ends old new
          (makes_entry g.R.Rig.seen (Ok c.in_ok-commit_update.field-0) c.commit.result saved saved ends old new refl
          (λ program. stored_end geometry program old.session saved due) (meaning done.stores (λ s. s.writes)));
      reads = reads_commit g.R.Rig.seen c.commit.result saved old new due replied next
          (λ h. (done.stores.holds h).holds) refl;
      comes = comes_commit ⊥ c.commit.result saved old new due replied next;
      line = λ none. absurd none;
      ledger = ledger_entry g.R.Rig.seen saved saved ends old new refl
          (λ program. stored_end geometry program old.session saved due) done.keeps.ledger;
      hindered = tt;
      broken = done.call.broken;
      geometry = refl;
      size = done.call.size;
      failures = done.call.failures;
    }))

pub begin_next-requires-clause-free : goal.begin_next-requires-clause-free
begin_next-requires-clause-free g c =
    sym (ap (λ (x : ControllerModel g.row.R.Denot). x.session.current) c.self.view_is)
    ∙ c.in_default.ensures.after

pub returns-then-is_running : goal.returns-then-is_running
returns-then-is_running g c =
    let old : ControllerModel g.row.R.Denot = c.args.self.now in
    let none = sym (ap (λ (x : ControllerModel g.row.R.Denot). x.session.current) c.self.view_is)
    ∙ c.in_default.ensures.after in
    let runs = sym (ap (λ (x : ControllerModel g.row.R.Denot). is_running x.session.activity) c.self.view_is) ∙ sym c.if-is_running.ensures in
    carried_to g.R.Rig.seen ⊥ ⊥ (Unit {0}) (has_work old.session ≡ true) (Unit {0}) (IsBetweenLines old.session)
    (λ (program : List ℕ). begin old.geometry program old.session
    (program_line_at program old.session.stored.place))
    (λ (program : List ℕ). end old.geometry program old.session old.session.current) c.begin_next.result old
    c.begin_next.new.self
    (λ m. m) (λ u. busy_running (is_running old.session.activity) (is_some old.session.current) runs) (λ u. (none, runs)) (λ between. tt)
    (λ program. sym (begins_there old.geometry program old.session none runs)) c.begin_next.ensures

pub returns : goal.returns
returns g c =
    let geometry : Geometry = c.self.inside.geometry in
    let old : ControllerModel g.row.R.Denot =
    record {
      journal = c.self.inside.journal;
      session = c.self.inside.session;
      lines = c.self.inside.lines;
      geometry = geometry;
    } in
    let whole = ap (λ (x : ControllerModel g.row.R.Denot). x.journal.broken) c.self.view_is ∙ c.requires in
    let none = c.in_default.ensures.after in
    subst (λ (x : ControllerModel g.row.R.Denot). CarriesOut g.R.Rig.seen (needs_of_work x.session)
    (λ (program : List ℕ). end x.geometry program x.session x.session.current) (Ok c.rest.result) x x)
    c.self.view_is
    (record {
      does = does_rest g.R.Rig.seen c.rest.result old none (sym c.if-is_running.ensures) c.rest.ensures;
      calls = calls_on g.R.Rig.seen (Ok c.rest.result) (λ (program : List ℕ). rest program old.session)
          (λ (program : List ℕ). end geometry program old.session old.session.current) old old
          (λ program. sym (rests_there geometry program old.session none (sym c.if-is_running.ensures)))
          (calls_quiet g.R.Rig.seen c.rest.result (λ (program : List ℕ). rest program old.session) old old
          (λ program. still_rest program old.session) (λ h. refl));
      reads = reads_on g.R.Rig.seen (Ok c.rest.result) (λ (program : List ℕ). rest program old.session)
          (λ (program : List ℕ). end geometry program old.session old.session.current) old old
          (λ program. sym (rests_there geometry program old.session none (sym c.if-is_running.ensures)))
          (reads_still g.R.Rig.seen c.rest.result (λ (program : List ℕ). rest program old.session) old old
          (λ program. still_rest program old.session) refl refl c.rest.ensures (λ program. refl));
      comes = comes_rest (IsBetweenLines old.session) c.rest.result old none (sym c.if-is_running.ensures) c.rest.ensures;
      line = λ read. absurd (let z : false ≡ true = c.if-is_running.ensures ∙ read.1 in cc);
      ledger = ledger_on g.R.Rig.seen (Ok c.rest.result) (λ (program : List ℕ). rest program old.session)
          (λ (program : List ℕ). end geometry program old.session old.session.current) old old
          (λ program. sym (rests_there geometry program old.session none (sym c.if-is_running.ensures)))
          (ledger_quiet g.R.Rig.seen (λ (program : List ℕ). rest program old.session) old old (λ program. still_rest program old.session) refl);
      hindered = tt;
      broken = whole;
      geometry = refl;
      size = refl;
      failures = refl;
    })
