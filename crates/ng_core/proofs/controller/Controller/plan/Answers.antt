use Rattle.std.proofs.Common.{◌≡◌, ℕ, Option, Some, None, Ok, Err, refl, sym, ◌∙◌, ap, subst}
use Rattle.std.proofs.lemmas.Result.{err_from_is_err_and}
use Rattle.ng_num.specs.declared.fault.Fault.{Fault}
use Rattle.ng_rig.proofs.GuaranteeLemmas.{onto}
use Rattle.ng_text.specs.LinesBefore.{IsTrueOf, IsLineBetween}
use Rattle.ng_text.specs.Programs.{ProgramLineModel}
use Rattle.ng_text.specs.declared.lines_before.LinesBefore.{LinesBefore}
use Rattle.ng_canon.specs.declared.geometry.Geometry.{Geometry}
use Rattle.ng_session.specs.Planned.{KnownModel, IsKnownOf}
use Rattle.ng_core.specs.Model.{ControllerModel}
use Rattle.ng_core.specs.Private.Ahead.{PlansAhead}
use Rattle.ng_core.proofs.ReadAheadLemmas.{plans_found, plans_lost}
use Rattle.ng_core.proofs.StoredJournalLemmas.{call_after}
use Rattle.ng_core.proofs.LineBeginLemmas.{Reading, finding_both}
use Rattle.ng_core.proofs.ProgramInForceLemmas.{finds_in_force}
use Rattle.ng_core.proofs.controller.Controller.plan.Goals as goal

pub returns-in_err-first : goal.returns-in_err-first
returns-in_err-first g c =
    let p = err_from_is_err_and c.from_residual.result c.from_residual.ensures.1 in
    let e = c.in_err-first.field-0.0 in
    let geometry : Geometry = c.self.inside.geometry in
    let old : ControllerModel g.row.R.Denot =
    record {
      journal = c.self.inside.journal;
      session = c.self.inside.session;
      lines = c.self.inside.lines;
      geometry = geometry;
    } in
    let new : ControllerModel g.row.R.Denot =
    record {
      journal = c.first_kind_before.new.journal;
      session = c.self.inside.session;
      lines =
          c.self.inside.lines;
      geometry = geometry;
    } in
    rw (p.1) (subst (λ (x : ControllerModel g.row.R.Denot). PlansAhead g.R.Rig.seen (Err p.0) x new) c.self.view_is
    (plans_lost g.R.Rig.seen p.0 e old new p.2 c.in_err-first.ensures.unwritten c.in_err-first.ensures.errors refl refl c.in_err-first.ensures.ledger
    c.in_err-first.ensures.call))

pub returns-in_err-line : goal.returns-in_err-line
returns-in_err-line g c =
    let p = err_from_is_err_and c.from_residual-in_err-line.result c.from_residual-in_err-line.ensures.1 in
    let e = c.in_err-line.field-0.0 in
    let geometry : Geometry = c.self.inside.geometry in
    let old : ControllerModel g.row.R.Denot =
    record {
      journal = c.self.inside.journal;
      session = c.self.inside.session;
      lines = c.self.inside.lines;
      geometry = geometry;
    } in
    let new : ControllerModel g.row.R.Denot =
    record {
      journal = c.program_line.new.self;
      session = c.self.inside.session;
      lines = c.self.inside.lines;
      geometry = geometry;
    } in
    rw (p.1) (subst (λ (x : ControllerModel g.row.R.Denot). PlansAhead g.R.Rig.seen (Err p.0) x new) c.self.view_is
    (plans_lost g.R.Rig.seen p.0 e old new p.2 (onto _ c.in_ok-first.ensures.unwritten c.in_err-line.ensures.reads (λ first line. line.same ∙ first))
    c.in_err-line.ensures.errors refl refl (c.in_err-line.ensures.ledger ∙ c.in_ok-first.ensures.ledger)
    (call_after g.R.Rig.seen c.in_ok-first.first (Err e) _ _ _ c.in_ok-first.ensures.call c.in_err-line.ensures.call)))

pub returns-in-Some-2 : goal.returns-in-Some-2
returns-in-Some-2 g c =
    let geometry : Geometry = c.self.inside.geometry in
    let old : ControllerModel g.row.R.Denot =
    record {
      journal = c.self.inside.journal;
      session = c.self.inside.session;
      lines = c.self.inside.lines;
      geometry = geometry;
    } in
    let new : ControllerModel g.row.R.Denot = record {
      journal = c.program_line.new.self;
      session = c.plan.new.self;
      lines = c.set_before.new.self;
      geometry = geometry;
    } in
    let line : ProgramLineModel = record { text = c.as_slice-text.result.now; next = c.line.inside.next } in
    let read : line ≡ c.in-Some-2.line = (λ i. record { text = c.as_slice-text.ensures.value i; next = c.line.inside.next }) ∙ c.line.view_is in
    let reading = subst (λ (l : Option ProgramLineModel). Reading {E = Fault} g.R.Rig.seen (Ok l) c.in-Some.place
    c.first_kind_before.new.journal c.program_line.new.self)
    (c.in-Some-2.is ∙ ap (λ (l : ProgramLineModel). Some l) (sym read)) c.in_ok-line.ensures.line in
    subst (λ (x : ControllerModel g.row.R.Denot). PlansAhead g.R.Rig.seen (Ok tt) x new) c.self.view_is
    (plans_found g.R.Rig.seen c.in_ok-line.field-0 c.in_ok-first.first (Some line) c.in-Some.place old new
    (finding_both {E = Fault} {F = Fault} g.R.Rig.seen c.in_ok-first.first (Some line) c.self.inside.lines
    c.in-Some.place c.self.inside.journal c.first_kind_before.new.journal c.program_line.new.self
    c.in_ok-first.ensures.kind reading)
    (finds_in_force g.R.Rig.seen c.in_ok-first.first c.in_ok-line.field-0 (Some line) old.lines c.in-Some.place
    old.journal c.first_kind_before.new.journal c.in_ok-first.ensures.reads
    c.in_ok-first.ensures.kind.keeps c.in_ok-first.ensures.unwritten.holds c.in_ok-first.ensures.ledger
    (c.in-Some-2.is ∙ ap (λ (l : ProgramLineModel). Some l) (sym read))
    (λ h. (c.in_ok-line.ensures.reads.holds h).right))
    (λ program known at kind.
    let between : IsLineBetween program c.in-Some.place c.in_ok-first.first line.text line.next = record { line = sym at; kind = kind } in
    let before = c.lines_after-before.ensures program (subst (λ (k : LinesBefore). IsTrueOf program k) (sym c.plan.ensures.before) known.0) between in
    let ahead = c.plan.ensures.holds program known.1
    (subst (λ (n : ℕ). IsLineBetween program n c.in_ok-first.first line.text line.next) c.in-Some.ensures.place
    between) in
    subst (λ (k : KnownModel). IsKnownOf program k) (sym c.set_before.ensures) (before, ahead))
    (λ h. (c.in_ok-line.ensures.reads.holds (c.in_ok-first.ensures.kind.keeps h)).same ∙ c.in_ok-first.ensures.unwritten.holds h)
    c.plan.ensures.session refl (c.in_ok-line.ensures.ledger ∙ c.in_ok-first.ensures.ledger)
    (call_after g.R.Rig.seen c.in_ok-first.first (Ok c.in_ok-line.field-0) _ _ _ c.in_ok-first.ensures.call c.in_ok-line.ensures.call))

pub returns-in-None : goal.returns-in-None
returns-in-None g c =
    let geometry : Geometry = c.self.inside.geometry in
    let old : ControllerModel g.row.R.Denot =
    record {
      journal = c.self.inside.journal;
      session = c.self.inside.session;
      lines = c.self.inside.lines;
      geometry = geometry;
    } in
    let new : ControllerModel g.row.R.Denot =
    record {
      journal = c.program_line.new.self;
      session = c.self.inside.session;
      lines = c.end.new.self;
      geometry = geometry;
    } in
    let reading = subst (λ (l : Option ProgramLineModel). Reading {E = Fault} g.R.Rig.seen (Ok l) c.in-Some.place
    c.first_kind_before.new.journal c.program_line.new.self) c.in-None.is c.in_ok-line.ensures.line in
    subst (λ (x : ControllerModel g.row.R.Denot). PlansAhead g.R.Rig.seen (Ok tt) x new) c.self.view_is
    (plans_found g.R.Rig.seen c.in_ok-line.field-0 c.in_ok-first.first None c.in-Some.place old new
    (finding_both {E = Fault} {F = Fault} g.R.Rig.seen c.in_ok-first.first None c.self.inside.lines c.in-Some.place
    c.self.inside.journal c.first_kind_before.new.journal c.program_line.new.self
    c.in_ok-first.ensures.kind reading)
    (finds_in_force g.R.Rig.seen c.in_ok-first.first c.in_ok-line.field-0 None old.lines c.in-Some.place
    old.journal c.first_kind_before.new.journal c.in_ok-first.ensures.reads
    c.in_ok-first.ensures.kind.keeps c.in_ok-first.ensures.unwritten.holds c.in_ok-first.ensures.ledger
    c.in-None.is (λ h. (c.in_ok-line.ensures.reads.holds h).right))
    (λ program known at kind. subst (λ (k : KnownModel). IsKnownOf program k) (sym c.end.ensures) known)
    (λ h. (c.in_ok-line.ensures.reads.holds (c.in_ok-first.ensures.kind.keeps h)).same ∙ c.in_ok-first.ensures.unwritten.holds h)
    refl refl (c.in_ok-line.ensures.ledger ∙ c.in_ok-first.ensures.ledger)
    (call_after g.R.Rig.seen c.in_ok-first.first (Ok c.in_ok-line.field-0) _ _ _ c.in_ok-first.ensures.call c.in_ok-line.ensures.call))
