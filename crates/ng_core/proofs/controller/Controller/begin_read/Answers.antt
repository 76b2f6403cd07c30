use Rattle.std.proofs.Common.{◌≡◌, ℕ, List, [], Option, Some, None, Ok, Err, refl, sym, ◌∙◌, ap, subst}
use Rattle.std.proofs.lemmas.Result.{err_from_is_err_and}
use Rattle.ng_num.specs.declared.fault.Fault.{Fault}
use Rattle.ng_text.specs.Programs.{ProgramLineModel, program_line_at}
use Rattle.ng_journal.specs.Storing.{Ledger, ledger_of}
use Rattle.ng_canon.specs.declared.geometry.Geometry.{Geometry}
use Rattle.ng_session.specs.Planned.{KnownModel, IsKnownOf}
use Rattle.ng_session.proofs.PlannedLineLemmas.{plan_none}
use Rattle.ng_session.specs.Session.{SessionModel, is_running}
use Rattle.ng_session.specs.Ticking.{begin}
use Rattle.ng_core.specs.Model.{ControllerModel}
use Rattle.ng_core.proofs.LineBeginLemmas.{Reading, finding_both, does_begin, does_begin_unfound, does_begin_unread, begun_line, known_after}
use Rattle.ng_core.proofs.CarriesOutLemmas.{carried_as, carried_lost}
use Rattle.ng_core.proofs.ProgramInForceLemmas.{keeps_unwritten, finds_in_force, reads_begin}
use Rattle.ng_core.proofs.HonestCallLemmas.{calls_none, calls_quiet, ledger_quiet}
use Rattle.ng_core.proofs.QuietEventLemmas.{still_begin}
use Rattle.ng_core.proofs.StoredJournalLemmas.{call_after}
use Rattle.ng_core.proofs.EventCauseLemmas.{unused_begin}
use Rattle.ng_core.proofs.controller.Controller.begin_read.Goals as goal

pub invariant_of-self-in-Some : goal.invariant_of-self-in-Some
invariant_of-self-in-Some g c =
    let whole = ap (λ (x : ControllerModel g.row.R.Denot). x.journal.broken) c.self.view_is ∙ c.requires.whole in
    let alone = ap (λ (k : KnownModel). k.ahead) c.set_before.ensures
    ∙ ap (λ (x : ControllerModel g.row.R.Denot). x.lines.ahead) c.self.view_is ∙ c.requires.alone in
    record {
      saved = λ _. c.begin-reply.ensures.stored ∙ c.self.invariant.saved whole
          ∙ sym (ap (λ (l : Ledger). l.saved) (c.in_ok-line.ensures.ledger ∙ c.in_ok-first.ensures.ledger));
      plan = plan_none _ _ c.set_before.new.self.ahead _ alone;
    }

pub invariant_of-self-in-None : goal.invariant_of-self-in-None
invariant_of-self-in-None g c =
    let same : c.break_off.new.self.stored ≡ c.self.inside.session.stored = ap (λ (s : SessionModel). s.stored) (c.break_off.ensures.next []) in
    let whole = ap (λ (x : ControllerModel g.row.R.Denot). x.journal.broken) c.self.view_is ∙ c.requires.whole in
    let alone = ap (λ (x : ControllerModel g.row.R.Denot). x.lines.ahead) c.self.view_is ∙ c.requires.alone in
    record {
      saved = λ _. same ∙ c.self.invariant.saved whole ∙ sym (ap (λ (l : Ledger). l.saved) (c.in_ok-line.ensures.ledger ∙ c.in_ok-first.ensures.ledger));
      plan = plan_none _ _ c.self.inside.lines.ahead _ alone;
    }

pub returns-in_err-first : goal.returns-in_err-first
returns-in_err-first g c =
    let p = err_from_is_err_and c.from_residual.result c.from_residual.ensures.1 in
    let e = c.in_err-first.field-0.0 in
    let geometry : Geometry = c.self.inside.geometry in
    let old : ControllerModel g.row.R.Denot =
    record {
      journal = c.self.inside.journal;
      session = c.self.inside.session;
      lines = c.self.inside.lines;
      geometry = geometry;
    } in
    let new : ControllerModel g.row.R.Denot =
    record {
      journal = c.first_kind_before.new.journal;
      session = c.self.inside.session;
      lines =
          c.self.inside.lines;
      geometry = geometry;
    } in
    rw (p.1) (carried_as g.R.Rig.seen (λ (x : ControllerModel g.row.R.Denot). ⊥)
    (λ (x : ControllerModel g.row.R.Denot). Unit {0}) (λ (x : ControllerModel g.row.R.Denot). Unit {0})
    (λ (x : ControllerModel g.row.R.Denot) (program : List ℕ). begin x.geometry program x.session
    (program_line_at program x.session.stored.place)) (Err p.0) c.args.self.now old new c.self.view_is
    (carried_lost g.R.Rig.seen ⊥ (Unit {0}) (Unit {0}) p.0 e
    (λ (program : List ℕ). begin geometry program old.session
    (program_line_at program old.session.stored.place)) old new p.2
    (does_begin_unfound {E = Fault} g.R.Rig.seen e e c.place-place.result
    (λ (program : List ℕ). begin geometry program old.session
    (program_line_at program old.session.stored.place)) old new c.in_err-first.ensures.kind
    c.in_err-first.ensures.errors refl)
    (calls_none g.R.Rig.seen e
    (λ (program : List ℕ). begin geometry program old.session
    (program_line_at program old.session.stored.place)) old new c.in_err-first.ensures.unwritten.holds)
    c.in_err-first.ensures.errors tt
    (λ program used. unused_begin geometry program old.session
    (program_line_at program old.session.stored.place) (ledger_of old.journal) used) refl refl
    c.in_err-first.ensures.call))

pub returns-in_err-line : goal.returns-in_err-line
returns-in_err-line g c =
    let p = err_from_is_err_and c.from_residual-in_err-line.result c.from_residual-in_err-line.ensures.1 in
    let e = c.in_err-line.field-0.0 in
    let geometry : Geometry = c.self.inside.geometry in
    let old : ControllerModel g.row.R.Denot =
    record {
      journal = c.self.inside.journal;
      session = c.self.inside.session;
      lines = c.self.inside.lines;
      geometry = geometry;
    } in
    let new : ControllerModel g.row.R.Denot =
    record {
      journal = c.program_line.new.self;
      session = c.self.inside.session;
      lines = c.self.inside.lines;
      geometry = geometry;
    } in
    rw (p.1) (carried_as g.R.Rig.seen (λ (x : ControllerModel g.row.R.Denot). ⊥)
    (λ (x : ControllerModel g.row.R.Denot). Unit {0}) (λ (x : ControllerModel g.row.R.Denot). Unit {0})
    (λ (x : ControllerModel g.row.R.Denot) (program : List ℕ). begin x.geometry program x.session
    (program_line_at program x.session.stored.place)) (Err p.0) c.args.self.now old new c.self.view_is
    (carried_lost g.R.Rig.seen ⊥ (Unit {0}) (Unit {0}) p.0 e
    (λ (program : List ℕ). begin geometry program old.session
    (program_line_at program old.session.stored.place)) old new p.2
    (does_begin_unread {E = Fault} {F = Fault} g.R.Rig.seen e c.in_ok-first.first e c.place-place.result
    (λ (program : List ℕ). begin geometry program old.session
    (program_line_at program old.session.stored.place)) old new c.first_kind_before.new.journal
    c.in_ok-first.ensures.kind c.in_err-line.ensures.line c.in_err-line.ensures.errors refl)
    (calls_none g.R.Rig.seen e (λ (program : List ℕ). begin geometry program old.session (program_line_at program old.session.stored.place)) old new
    (λ h. (c.in_err-line.ensures.reads.holds (c.in_ok-first.ensures.kind.keeps h)).same ∙ c.in_ok-first.ensures.unwritten.holds h))
    c.in_err-line.ensures.errors tt
    (λ program used. unused_begin geometry program old.session
    (program_line_at program old.session.stored.place) (ledger_of old.journal) used) refl refl
    (call_after g.R.Rig.seen c.in_ok-first.first (Err e) _ _ _ c.in_ok-first.ensures.call c.in_err-line.ensures.call)))

pub returns-in-Some : goal.returns-in-Some
returns-in-Some g c =
    let geometry : Geometry = c.self.inside.geometry in
    let old : ControllerModel g.row.R.Denot =
    record {
      journal = c.self.inside.journal;
      session = c.self.inside.session;
      lines = c.self.inside.lines;
      geometry = geometry;
    } in
    let new : ControllerModel g.row.R.Denot =
    record {
      journal = c.program_line.new.self;
      session = c.begin-reply.new.self;
      lines = c.set_before.new.self;
      geometry = geometry;
    } in
    let line : ProgramLineModel = record { text = c.as_slice-text.result.now; next = c.line.inside.next } in
    let read : line ≡ c.in-Some.line = (λ i. record { text = c.as_slice-text.ensures.value i; next = c.line.inside.next }) ∙ c.line.view_is in
    let reading = subst (λ (l : Option ProgramLineModel). Reading {E = Fault} g.R.Rig.seen (Ok l)
    c.place-place.result c.first_kind_before.new.journal c.program_line.new.self)
    (c.in-Some.is ∙ ap (λ (l : ProgramLineModel). Some l) (sym read)) c.in_ok-line.ensures.line in
    carried_as g.R.Rig.seen (λ (x : ControllerModel g.row.R.Denot). ⊥)
    (λ (x : ControllerModel g.row.R.Denot). Unit {0}) (λ (x : ControllerModel g.row.R.Denot). Unit {0})
    (λ (x : ControllerModel g.row.R.Denot) (program : List ℕ). begin x.geometry program x.session
    (program_line_at program x.session.stored.place)) (Ok c.begin-reply.result) c.args.self.now old new
    c.self.view_is (record {
      does = does_begin g.R.Rig.seen c.begin-reply.result c.in_ok-first.first (Some line) c.place-place.result old new c.place-place.ensures.value
          (finding_both {E = Fault} {F = Fault} g.R.Rig.seen c.in_ok-first.first (Some line) c.self.inside.lines
          c.place-place.result c.self.inside.journal c.first_kind_before.new.journal c.program_line.new.self
          c.in_ok-first.ensures.kind reading)
          (λ program known at kind. subst (λ (k : KnownModel). IsKnownOf program k) (sym c.set_before.ensures)
          (known_after c.self.inside.lines c.lines_after-before.result c.place-place.result c.in_ok-first.first line
          c.lines_after-before.ensures program known at kind)) c.begin-reply.ensures.reply
          c.begin-reply.ensures.next;
      calls = calls_quiet g.R.Rig.seen c.begin-reply.result
          (λ (program : List ℕ). begin geometry program old.session
          (program_line_at program old.session.stored.place)) old new
          (λ program. still_begin geometry program old.session (program_line_at program old.session.stored.place))
          (λ h. (c.in_ok-line.ensures.reads.holds (c.in_ok-first.ensures.kind.keeps h)).same ∙ c.in_ok-first.ensures.unwritten.holds h);
      reads = reads_begin g.R.Rig.seen c.begin-reply.result c.in_ok-first.first (Some line) c.place-place.result
          old new c.place-place.ensures.value
          (finds_in_force g.R.Rig.seen c.in_ok-first.first c.in_ok-line.field-0 (Some line) old.lines
          c.place-place.result old.journal c.first_kind_before.new.journal c.in_ok-first.ensures.reads
          c.in_ok-first.ensures.kind.keeps c.in_ok-first.ensures.unwritten.holds c.in_ok-first.ensures.ledger
          (c.in-Some.is ∙ ap (λ (l : ProgramLineModel). Some l) (sym read))
          (λ h. (c.in_ok-line.ensures.reads.holds h).right))
          (keeps_unwritten g.R.Rig.seen old.journal new.journal
          (λ h. (c.in_ok-line.ensures.reads.holds (c.in_ok-first.ensures.kind.keeps h)).same ∙ c.in_ok-first.ensures.unwritten.holds h)
          (c.in_ok-line.ensures.ledger ∙ c.in_ok-first.ensures.ledger))
          (λ program known at kind. subst (λ (k : KnownModel). IsKnownOf program k) (sym c.set_before.ensures)
          (known_after old.lines c.lines_after-before.result c.place-place.result c.in_ok-first.first line
          c.lines_after-before.ensures program known at kind))
          c.begin-reply.ensures.reply c.begin-reply.ensures.next;
      comes = λ none. absurd (none tt);
      line = λ read. begun_line c.begin-reply.result
          (λ (program : List ℕ). begin geometry program old.session
          (program_line_at program old.session.stored.place)) c.in_ok-first.first (Some line) c.place-place.result
          old new (ap (λ (x : ControllerModel g.row.R.Denot). is_running x.session.activity) c.self.view_is
          ∙ c.requires.runs) c.place-place.ensures.value
          c.in_ok-first.ensures.beginning c.begin-reply.ensures.reply c.begin-reply.ensures.next
          (c.in_ok-line.ensures.ledger ∙ c.in_ok-first.ensures.ledger);
      ledger = ledger_quiet g.R.Rig.seen (λ (program : List ℕ). begin geometry program old.session (program_line_at program old.session.stored.place)) old new
          (λ program. still_begin geometry program old.session (program_line_at program old.session.stored.place))
          (c.in_ok-line.ensures.ledger ∙ c.in_ok-first.ensures.ledger);
      hindered = tt;
      broken = c.in_ok-line.ensures.call.broken;
      geometry = refl;
      size = c.in_ok-line.ensures.call.size ∙ c.in_ok-first.ensures.call.size;
      failures = c.in_ok-line.ensures.call.failures ∙ c.in_ok-first.ensures.call.failures;
    })

pub returns-in-None : goal.returns-in-None
returns-in-None g c =
    let geometry : Geometry = c.self.inside.geometry in
    let old : ControllerModel g.row.R.Denot =
    record {
      journal = c.self.inside.journal;
      session = c.self.inside.session;
      lines = c.self.inside.lines;
      geometry = geometry;
    } in
    let new : ControllerModel g.row.R.Denot =
    record {
      journal = c.program_line.new.self;
      session = c.break_off.new.self;
      lines = c.self.inside.lines;
      geometry = geometry;
    } in
    let reading = subst (λ (l : Option ProgramLineModel). Reading {E = Fault} g.R.Rig.seen (Ok l)
    c.place-place.result c.first_kind_before.new.journal c.program_line.new.self) c.in-None.is
    c.in_ok-line.ensures.line in
    carried_as g.R.Rig.seen (λ (x : ControllerModel g.row.R.Denot). ⊥)
    (λ (x : ControllerModel g.row.R.Denot). Unit {0}) (λ (x : ControllerModel g.row.R.Denot). Unit {0})
    (λ (x : ControllerModel g.row.R.Denot) (program : List ℕ). begin x.geometry program x.session
    (program_line_at program x.session.stored.place)) (Ok c.break_off.result) c.args.self.now old new
    c.self.view_is (record {
      does = does_begin g.R.Rig.seen c.break_off.result c.in_ok-first.first None c.place-place.result old new c.place-place.ensures.value
          (finding_both {E = Fault} {F = Fault} g.R.Rig.seen c.in_ok-first.first None c.self.inside.lines
          c.place-place.result c.self.inside.journal c.first_kind_before.new.journal c.program_line.new.self
          c.in_ok-first.ensures.kind reading) (λ program true_of _ _. true_of) c.break_off.ensures.reply (λ program _. c.break_off.ensures.next program);
      calls = calls_quiet g.R.Rig.seen c.break_off.result
          (λ (program : List ℕ). begin geometry program old.session
          (program_line_at program old.session.stored.place)) old new
          (λ program. still_begin geometry program old.session (program_line_at program old.session.stored.place))
          (λ h. (c.in_ok-line.ensures.reads.holds (c.in_ok-first.ensures.kind.keeps h)).same ∙ c.in_ok-first.ensures.unwritten.holds h);
      reads = reads_begin g.R.Rig.seen c.break_off.result c.in_ok-first.first None c.place-place.result
          old new c.place-place.ensures.value
          (finds_in_force g.R.Rig.seen c.in_ok-first.first c.in_ok-line.field-0 None old.lines c.place-place.result
          old.journal c.first_kind_before.new.journal c.in_ok-first.ensures.reads
          c.in_ok-first.ensures.kind.keeps c.in_ok-first.ensures.unwritten.holds c.in_ok-first.ensures.ledger
          c.in-None.is (λ h. (c.in_ok-line.ensures.reads.holds h).right))
          (keeps_unwritten g.R.Rig.seen old.journal new.journal
          (λ h. (c.in_ok-line.ensures.reads.holds (c.in_ok-first.ensures.kind.keeps h)).same ∙ c.in_ok-first.ensures.unwritten.holds h)
          (c.in_ok-line.ensures.ledger ∙ c.in_ok-first.ensures.ledger))
          (λ program true_of _ _. true_of) c.break_off.ensures.reply (λ program _. c.break_off.ensures.next program);
      comes = λ none. absurd (none tt);
      line = λ read. begun_line c.break_off.result
          (λ (program : List ℕ). begin geometry program old.session
          (program_line_at program old.session.stored.place)) c.in_ok-first.first None c.place-place.result old new
          (ap (λ (x : ControllerModel g.row.R.Denot). is_running x.session.activity) c.self.view_is
          ∙ c.requires.runs) c.place-place.ensures.value
          c.in_ok-first.ensures.beginning c.break_off.ensures.reply
          (λ program kind. c.break_off.ensures.next program) (c.in_ok-line.ensures.ledger
          ∙ c.in_ok-first.ensures.ledger);
      ledger = ledger_quiet g.R.Rig.seen (λ (program : List ℕ). begin geometry program old.session (program_line_at program old.session.stored.place)) old new
          (λ program. still_begin geometry program old.session (program_line_at program old.session.stored.place))
          (c.in_ok-line.ensures.ledger ∙ c.in_ok-first.ensures.ledger);
      hindered = tt;
      broken = c.in_ok-line.ensures.call.broken;
      geometry = refl;
      size = c.in_ok-line.ensures.call.size ∙ c.in_ok-first.ensures.call.size;
      failures = c.in_ok-line.ensures.call.failures ∙ c.in_ok-first.ensures.call.failures;
    })
