use Rattle.std.proofs.Common.{◌≡◌, ℕ, List, None, Ok, Err, refl, sym, ◌∙◌, ap, subst}
use Rattle.std.proofs.lemmas.Result.{err_from_is_err_and}
use Rattle.ng_num.specs.declared.fault.Fault.{Fault}
use Rattle.ng_journal.specs.Storing.{ledger_of}
use Rattle.ng_canon.specs.declared.geometry.Geometry.{Geometry}
use Rattle.ng_session.specs.Session.{SessionModel, refuses}
use Rattle.ng_session.specs.Operator.{resume, resume_refusal}
use Rattle.ng_session.specs.Step.{IsProgramsLine}
use Rattle.ng_session.specs.declared.reply.Reply.TheVariants as reply
use Rattle.ng_core.specs.Model.{ControllerModel}
use Rattle.ng_core.proofs.CarriesOutLemmas.{carried_as, carried_lost}
use Rattle.ng_session.proofs.RefusalLemmas.{refused_again}
use Rattle.ng_core.proofs.HonestCallLemmas.{calls_none, calls_on, calls_quiet, ledger_on, ledger_quiet}
use Rattle.ng_core.proofs.ProgramInForceLemmas.{keeps_unwritten}
use Rattle.ng_core.proofs.QuietEventLemmas.{still}
use Rattle.ng_core.proofs.EventCauseLemmas.{unused_resume}
use Rattle.ng_core.proofs.ResumeLemmas.{still_resume, does_not_resume, reads_not_resumed, comes_not_resumed}
use Rattle.ng_core.proofs.ResumeLemmas.{does_resume, reads_resume, comes_resume, refused_unread, resumed_line}
use Rattle.ng_core.proofs.ResumeLemmas.{does_resume_unread}
use Rattle.ng_core.proofs.controller.Controller.resume.Goals as goal

pub returns-in-Some : goal.returns-in-Some
returns-in-Some g c =
    let geometry : Geometry = c.self.inside.geometry in
    let old : ControllerModel g.row.R.Denot =
    record {
      journal = c.self.inside.journal;
      session = c.self.inside.session;
      lines = c.self.inside.lines;
      geometry = geometry;
    } in
    let new : ControllerModel g.row.R.Denot =
    record {
      journal = c.self.inside.journal;
      session = c.resume_refusal.new.self;
      lines = c.self.inside.lines;
      geometry = geometry;
    } in
    let whole = ap (λ (x : ControllerModel g.row.R.Denot). x.journal.broken) c.self.view_is ∙ c.requires.whole in
    carried_as g.R.Rig.seen (λ (x : ControllerModel g.row.R.Denot). ⊥)
    (λ (x : ControllerModel g.row.R.Denot). (resume_refusal x.geometry x.session ≡ None)
    × IsProgramsLine x.session.stored.half) (λ (x : ControllerModel g.row.R.Denot).
    (resume_refusal x.geometry x.session ≡ None) × IsProgramsLine x.session.stored.half)
    (λ (x : ControllerModel g.row.R.Denot) (program : List ℕ). resume x.geometry program x.session)
    (Ok (reply.Refused c.in-Some.fault)) c.args.self.now old new c.self.view_is (record {
      does = does_not_resume g.R.Rig.seen c.in-Some.fault old new c.in-Some.ensures.refusal refl refl c.in-Some.ensures.same;
      calls = calls_on g.R.Rig.seen (Ok (reply.Refused c.in-Some.fault))
          (λ (program : List ℕ). refuses program c.in-Some.fault old.session)
          (λ (program : List ℕ). resume geometry program old.session) old new
          (λ program. sym (refused_again geometry program old.session c.in-Some.fault c.in-Some.ensures.refusal))
          (calls_quiet g.R.Rig.seen (reply.Refused c.in-Some.fault)
          (λ (program : List ℕ). refuses program c.in-Some.fault old.session) old new
          (λ program. still refl refl refl refl) (λ h. refl));
      reads = reads_not_resumed g.R.Rig.seen c.in-Some.fault old new c.in-Some.ensures.refusal refl refl
          c.in-Some.ensures.same;
      comes = comes_not_resumed ((resume_refusal geometry old.session ≡ None)
          × IsProgramsLine old.session.stored.half) c.in-Some.fault old new c.in-Some.ensures.refusal
          c.in-Some.ensures.same;
      line = λ read. absurd (refused_unread (resume_refusal geometry old.session) c.in-Some.fault c.in-Some.ensures.refusal read.0);
      ledger = ledger_on g.R.Rig.seen (Ok (reply.Refused c.in-Some.fault))
          (λ (program : List ℕ). refuses program c.in-Some.fault old.session)
          (λ (program : List ℕ). resume geometry program old.session) old new
          (λ program. sym (refused_again geometry program old.session c.in-Some.fault c.in-Some.ensures.refusal)) (λ program. refl);
      hindered = tt;
      broken = whole;
      geometry = refl;
      size = refl;
      failures = refl;
    })

pub returns-in_err-next : goal.returns-in_err-next
returns-in_err-next g c =
    let p = err_from_is_err_and c.from_residual.result c.from_residual.ensures.1 in
    let e = c.in_err-next.field-0.0 in
    let geometry : Geometry = c.self.inside.geometry in
    let old : ControllerModel g.row.R.Denot =
    record {
      journal = c.self.inside.journal;
      session = c.self.inside.session;
      lines = c.self.inside.lines;
      geometry = geometry;
    } in
    let new : ControllerModel g.row.R.Denot =
    record {
      journal = c.next_line.new.journal;
      session = c.resume_refusal.new.self;
      lines =
          c.self.inside.lines;
      geometry = geometry;
    } in
    let line : IsProgramsLine old.session.stored.half = subst (λ (s : SessionModel). IsProgramsLine s.stored.half)
    c.in_default.ensures.same c.in_err-next.ensures.errors.1 in
    rw (p.1) (carried_as g.R.Rig.seen (λ (x : ControllerModel g.row.R.Denot). ⊥) (λ (x : ControllerModel g.row.R.Denot).
    (resume_refusal x.geometry x.session ≡ None) × IsProgramsLine x.session.stored.half)
    (λ (x : ControllerModel g.row.R.Denot). (resume_refusal x.geometry x.session ≡ None)
    × IsProgramsLine x.session.stored.half) (λ (x : ControllerModel g.row.R.Denot) (program : List ℕ).
    resume x.geometry program x.session) (Err p.0) c.args.self.now old new c.self.view_is
    (carried_lost g.R.Rig.seen ⊥
    ((resume_refusal geometry old.session ≡ None) × IsProgramsLine old.session.stored.half)
    ((resume_refusal geometry old.session ≡ None) × IsProgramsLine old.session.stored.half) p.0 e
    (λ (program : List ℕ). resume geometry program old.session) old new p.2
    (does_resume_unread {E = Fault} g.R.Rig.seen e e c.resume_refusal.new.self
    (λ (program : List ℕ). resume geometry program old.session) old new c.in_err-next.ensures.next
    c.in_err-next.ensures.errors.0 c.in_default.ensures.same)
    (calls_none g.R.Rig.seen e (λ (program : List ℕ). resume geometry program old.session) old new c.in_err-next.ensures.unwritten.holds)
    c.in_err-next.ensures.errors.0 (sym c.in_default.ensures.refusal, line)
    (λ program used. unused_resume geometry program old.session (ledger_of old.journal) used)
    refl c.in_default.ensures.same c.in_err-next.ensures.call))

pub returns : goal.returns
returns g c =
    let geometry : Geometry = c.self.inside.geometry in
    let old : ControllerModel g.row.R.Denot =
    record {
      journal = c.self.inside.journal;
      session = c.self.inside.session;
      lines = c.self.inside.lines;
      geometry = geometry;
    } in
    let new : ControllerModel g.row.R.Denot =
    record {
      journal = c.next_line.new.journal;
      session = c.resume.new.self;
      lines = c.self.inside.lines;
      geometry = geometry;
    } in
    carried_as g.R.Rig.seen (λ (x : ControllerModel g.row.R.Denot). ⊥)
    (λ (x : ControllerModel g.row.R.Denot). (resume_refusal x.geometry x.session ≡ None)
    × IsProgramsLine x.session.stored.half) (λ (x : ControllerModel g.row.R.Denot).
    (resume_refusal x.geometry x.session ≡ None) × IsProgramsLine x.session.stored.half)
    (λ (x : ControllerModel g.row.R.Denot) (program : List ℕ). resume x.geometry program x.session)
    (Ok c.resume.result) c.args.self.now old new c.self.view_is (record {
      does = does_resume {E = Fault} g.R.Rig.seen c.resume.result c.in_ok-next.next old new
          c.resume_refusal.new.self c.in_default.ensures.same c.in_ok-next.ensures.next refl
          (λ program is. (c.resume.ensures.reply program is, c.resume.ensures.next program is));
      calls = calls_quiet g.R.Rig.seen c.resume.result
          (λ (program : List ℕ). resume geometry program old.session) old new
          (λ program. still_resume geometry program old.session) c.in_ok-next.ensures.unwritten.holds;
      reads = reads_resume g.R.Rig.seen c.resume.result c.in_ok-next.next old new c.resume_refusal.new.self
          c.in_default.ensures.same c.in_ok-next.ensures.reads
          (keeps_unwritten g.R.Rig.seen old.journal new.journal c.in_ok-next.ensures.unwritten.holds
          c.in_ok-next.ensures.ledger) refl
          (λ program is. (c.resume.ensures.reply program is, c.resume.ensures.next program is));
      comes = comes_resume c.resume.result c.in_ok-next.next old new c.resume_refusal.new.self
          c.in_default.ensures.same c.in_default.ensures.refusal (λ other. (c.in_ok-next.ensures.unread other).1)
          (λ program is. (c.resume.ensures.reply program is, c.resume.ensures.next program is));
      line = λ read. resumed_line c.resume.result c.in_ok-next.next old new c.resume_refusal.new.self
          c.in_default.ensures.same read.0 read.1 c.in_ok-next.ensures.beyond
          (λ program is. (c.resume.ensures.reply program is, c.resume.ensures.next program is)) c.in_ok-next.ensures.ledger;
      ledger = ledger_quiet g.R.Rig.seen (λ (program : List ℕ). resume geometry program old.session) old new
          (λ program. still_resume geometry program old.session) c.in_ok-next.ensures.ledger;
      hindered = tt;
      broken = c.in_ok-next.ensures.call.broken;
      geometry = refl;
      size = c.in_ok-next.ensures.call.size;
      failures = c.in_ok-next.ensures.call.failures;
    })
