-- A line of the program is begun, from the contracts of the reads before it.
use Rattle.std.proofs.Common.{◌≡◌, ℕ, true, List, Option, Some, Result, Ok, Err, refl, sym, ◌∙◌, ap, subst}
use Rattle.ng_num.specs.declared.fault.Fault.{Fault}
use Rattle.ng_num.specs.declared.fault.Fault.TheVariants.{DeviceFailed}
use Rattle.ng_words.specs.declared.start.LineKind.{LineKind}
use Rattle.ng_words.specs.declared.start.LineKind.TheVariants.{Blank}
use Rattle.ng_rig.specs.Rig.{Device}
use Rattle.ng_rig.specs.Trace.{Trace}
use Rattle.ng_rig.specs.Calls.{IfHonest}
use Rattle.ng_rig.proofs.GuaranteeLemmas.{meaning}
use Rattle.ng_text.specs.Percent.{first_kind}
use Rattle.ng_text.specs.Programs.{ProgramLineModel, program_line_at, lines_before}
use Rattle.ng_layout.specs.Stored.{DurableState}
use Rattle.ng_journal.specs.Journal.{JournalModel, IsDurablyAt}
use Rattle.ng_journal.specs.Program.{FirstKindSpec, ProgramLineSpec}
use Rattle.ng_text.specs.LinesBefore.{IsTrueOf, IsLineBetween}
use Rattle.ng_session.specs.Planned.{KnownModel, IsKnownOf}
use Rattle.ng_journal.specs.Storing.{ledger_of}
use Rattle.ng_session.specs.Session.{Transition, is_running}
use Rattle.ng_session.specs.Operator.{session_status}
use Rattle.ng_session.specs.Ticking.{begin}
use Rattle.ng_text.specs.declared.lines_before.LinesBefore.{LinesBefore}
use Rattle.ng_session.specs.declared.reply.Reply.{Reply}
use Rattle.ng_core.specs.Model.{ControllerModel, durable_state_of}
use Rattle.ng_core.specs.Events.{IsAnsweredBy, IsAnsweredByLine, by_line, IsCarriedOutIfHonest}
use Rattle.ng_core.proofs.EventCallLemmas.{known_as, acts_read, acts_unread}
use Rattle.ng_core.proofs.ProgramExistsLemmas.{has_kind}
use Rattle.ng_core.proofs.QuietEventLemmas.{still_begin}

-- the contracts of `first_kind` and `program_line`
abbrev pub Finding : {R E : Type 0} → (R → Device) → Result LineKind E → LinesBefore → ℕ → JournalModel R → JournalModel R → Type 0
Finding seen result known place old new =
    IfHonest (seen old.rig) (seen new.rig) ((standing : DurableState)
    → IsDurablyAt (seen old.rig).trace old standing → IsTrueOf standing.program known
    → FirstKindSpec result new standing place (seen old.rig).trace (seen new.rig).trace)

abbrev pub Reading : {R E : Type 0} → (R → Device) → Result (Option ProgramLineModel) E → ℕ → JournalModel R → JournalModel R → Type 0
Reading seen result place old new =
    IfHonest (seen old.rig) (seen new.rig) ((standing : DurableState)
    → IsDurablyAt (seen old.rig).trace old standing
    → ProgramLineSpec result new standing place (seen old.rig).trace (seen new.rig).trace)

-- the kind is known
pub finds_known : {R : Type 0} (seen : R → Device) (known : LinesBefore) (kind : LineKind) (place : ℕ) (journal : JournalModel R)
    → ((program : List ℕ) → IsTrueOf program known → kind ≡ first_kind (lines_before program place))
    → Finding {E = Fault} seen (Ok kind) known place journal journal
finds_known seen known kind place journal is = record {
  keeps = λ h. h;
  back = λ h. h;
  holds = λ h standing rests true_of. record { same = refl; at = rests; kind = is standing.program true_of };
}

-- the kind is read
pub finds_asked : {R E : Type 0} (seen : R → Device) (result : Result LineKind E) (known : LinesBefore) (place : ℕ) (old new : JournalModel R)
    → IfHonest (seen old.rig) (seen new.rig) ((standing : DurableState)
    → IsDurablyAt (seen old.rig).trace old standing
    → FirstKindSpec result new standing place (seen old.rig).trace (seen new.rig).trace)
    → Finding {E = E} seen result known place old new
finds_asked seen result known place old new p = meaning p (λ f standing rests true_of. f standing rests)

-- both reads succeeded, and nothing is changed
pub record FindsBoth {R : Type 0} (first : LineKind) (line : Option ProgramLineModel) (journal : JournalModel R)
    (standing : DurableState) (place : ℕ) (old new : Trace) : Type 0 where
  pub same : new ≡ old
  pub at : IsDurablyAt new journal standing
  pub first_is : first ≡ first_kind (lines_before standing.program place)
  pub line_is : line ≡ program_line_at standing.program place

abbrev pub FindingBoth : {R : Type 0} → (R → Device) → LineKind → Option ProgramLineModel → KnownModel → ℕ → JournalModel R → JournalModel R → Type 0
FindingBoth seen first line known place old new =
    IfHonest (seen old.rig) (seen new.rig) ((standing : DurableState)
    → IsDurablyAt (seen old.rig).trace old standing → IsKnownOf standing.program known
    → FindsBoth first line new standing place (seen old.rig).trace (seen new.rig).trace)

pub finding_both : {R E F : Type 0} (seen : R → Device) (first : LineKind) (line : Option ProgramLineModel)
    (known : KnownModel) (place : ℕ) (old mid new : JournalModel R)
    → Finding {E = E} seen (Ok first) known.before place old mid → Reading {E = F} seen (Ok line) place mid new
    → FindingBoth seen first line known place old new
finding_both seen first line known place old mid new p q = record {
  keeps = λ h. q.keeps (p.keeps h);
  back = λ h. p.back (q.back h);
  holds = λ h standing rests true_of.
      let f = p.holds h standing rests true_of.0 in
      let l = q.holds (p.keeps h) standing f.at in
      record { same = l.same ∙ f.same; at = l.at; first_is = f.kind; line_is = l.line };
}

abbrev begins : {R : Type 0} → ControllerModel R → List ℕ → Transition
begins c program = begin c.geometry program c.session (program_line_at program c.session.stored.place)

pub does_begin : {R : Type 0} (seen : R → Device) (r : Reply) (first : LineKind) (line : Option ProgramLineModel) (place : ℕ) (old new : ControllerModel R)
    → place ≡ old.session.stored.place → FindingBoth seen first line old.lines place old.journal new.journal
    → ((program : List ℕ) → IsKnownOf program old.lines → line ≡ program_line_at program place
    → first ≡ first_kind (lines_before program place) → IsKnownOf program new.lines)
    → ((program : List ℕ) → first ≡ first_kind (lines_before program old.session.stored.place) → r ≡ (begin old.geometry program old.session line).reply)
    → ((program : List ℕ) → first ≡ first_kind (lines_before program old.session.stored.place)
    → new.session ≡ (begin old.geometry program old.session line).next)
    → IsCarriedOutIfHonest seen (Ok r) (λ program. begin old.geometry program old.session (program_line_at program old.session.stored.place)) old new
does_begin seen r first line place old new at p known replied next = record {
  keeps = p.keeps;
  back = p.back;
  holds = λ h program rests.
      let f = p.holds h (durable_state_of program old.session) rests.0 rests.1 in
      let kind = f.first_is ∙ ap (λ (n : ℕ). first_kind (lines_before program n)) at in
      let there = f.line_is ∙ ap (λ (n : ℕ). program_line_at program n) at in
      let quiet = still_begin old.geometry program old.session (program_line_at program old.session.stored.place) in
      acts_read r (begins old program) program old new (seen old.journal.rig).trace (seen new.journal.rig).trace f.same f.at
      (known_as program (begins old program).program new.lines new.lines quiet.program_is refl (known program rests.1 f.line_is f.first_is))
      (replied program kind ∙ ap (λ (l : Option ProgramLineModel). (begin old.geometry program old.session l).reply) there)
      (next program kind ∙ ap (λ (l : Option ProgramLineModel). (begin old.geometry program old.session l).next) there)
      quiet.items quiet.program_is quiet.stored_is;
}

-- with any device: a line was read, and the kind of the first line before it
pub by_running : {R : Type 0} (out : List ℕ → Transition) (c : ControllerModel R) (program : List ℕ) (line : Option ProgramLineModel)
    → is_running c.session.activity ≡ true → by_line out c program line ≡ begin c.geometry program c.session line
by_running out c program line runs = rw runs refl

pub begun_line : {R : Type 0} (r : Reply) (out : List ℕ → Transition) (first : LineKind)
    (line : Option ProgramLineModel) (place : ℕ) (old new : ControllerModel R)
    → is_running old.session.activity ≡ true → place ≡ old.session.stored.place → (place ≡ 0 → first ≡ Blank)
    → ((program : List ℕ) → first ≡ first_kind (lines_before program old.session.stored.place) → r ≡ (begin old.geometry program old.session line).reply)
    → ((program : List ℕ) → first ≡ first_kind (lines_before program old.session.stored.place)
    → new.session ≡ (begin old.geometry program old.session line).next)
    → ledger_of new.journal ≡ ledger_of old.journal → IsAnsweredByLine r out old new
begun_line r out first line place old new runs at beginning replied next ledger =
    let found = has_kind first place beginning in
    let kind = found.1 ∙ ap (λ (n : ℕ). first_kind (lines_before found.0 n)) at in
    record {
      program = found.0;
      line = line;
      comes = subst (λ (o : Transition). IsAnsweredBy (Ok r) o old new) (sym (by_running out old found.0 line runs)) (replied found.0 kind, next found.0 kind);
      ledger = ledger;
    }

-- the device failed in the first read, or in the second
pub does_begin_unfound : {R E : Type 0} (seen : R → Device) (fault : Fault) (e : E) (place : ℕ) (out : List ℕ → Transition) (old new : ControllerModel R)
    → Finding seen (Err e) old.lines.before place old.journal new.journal → fault ≡ DeviceFailed → new.session ≡ old.session
    → IsCarriedOutIfHonest seen (Err fault) out old new
does_begin_unfound seen fault e place out old new p is same = record {
  keeps = p.keeps;
  back = p.back;
  holds = λ h program rests.
      let f = p.holds h (durable_state_of program old.session) rests.0 rests.1.0 in
      acts_unread fault (out program) program old new (seen old.journal.rig).trace (seen new.journal.rig).trace is f.same (ap session_status same);
}

pub does_begin_unread : {R E F : Type 0} (seen : R → Device) (fault : Fault) (first : LineKind) (e : E) (place : ℕ)
    (out : List ℕ → Transition) (old new : ControllerModel R) (mid : JournalModel R)
    → Finding {E = F} seen (Ok first) old.lines.before place old.journal mid
    → Reading seen (Err e) place mid new.journal → fault ≡ DeviceFailed → new.session ≡ old.session
    → IsCarriedOutIfHonest seen (Err fault) out old new
does_begin_unread seen fault first e place out old new mid p q is same = record {
  keeps = λ h. q.keeps (p.keeps h);
  back = λ h. p.back (q.back h);
  holds = λ h program rests.
      let f = p.holds h (durable_state_of program old.session) rests.0 rests.1.0 in
      let l = q.holds (p.keeps h) (durable_state_of program old.session) f.at in
      acts_unread fault (out program) program old new (seen old.journal.rig).trace (seen new.journal.rig).trace is (l.same ∙ f.same) (ap session_status same);
}

-- what is known after a line
known_after_line : (known later : LinesBefore) (place : ℕ) (first : LineKind) (line : ProgramLineModel)
    → ((program : List ℕ) → IsTrueOf program known → IsLineBetween program place first line.text line.next → IsTrueOf program later)
    → (program : List ℕ) → IsTrueOf program known → Some line ≡ program_line_at program place
    → first ≡ first_kind (lines_before program place) → IsTrueOf program later
known_after_line known later place first line goes program true_of at kind = goes program true_of (record { line = sym at; kind = kind })

pub known_after : (known : KnownModel) (later : LinesBefore) (place : ℕ) (first : LineKind) (line : ProgramLineModel)
    → ((program : List ℕ) → IsTrueOf program known.before → IsLineBetween program place first line.text line.next → IsTrueOf program later)
    → (program : List ℕ) → IsKnownOf program known → Some line ≡ program_line_at program place
    → first ≡ first_kind (lines_before program place)
    → IsKnownOf program (let l : KnownModel = record known { before = later } in l)
known_after known later place first line goes program known_of at kind =
    (known_after_line known.before later place first line goes program known_of.0 at kind, known_of.1)
