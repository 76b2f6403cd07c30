-- A half-done block goes on, from the contract of the read before it.
use Rattle.std.proofs.Common.{◌≡◌, ◌≤◌, ℕ, ◌&&◌, Bool, true, false, not, if◌then◌else◌, List, Option, Some}
use Rattle.std.proofs.Common.{None, Result, Ok, Err, refl, sym, ◌∙◌, ap, subst}
use Rattle.std.specs.Prelude.{IfSome}
use Rattle.std.specs.Option.{is_none}
use Rattle.std.specs.Str.Lines.{lines}
use Rattle.ng_num.specs.declared.fault.Fault.{Fault}
use Rattle.ng_num.specs.declared.fault.Fault.TheVariants as fault
use Rattle.ng_num.specs.declared.fault.Fault.TheVariants.{DeviceFailed}
use Rattle.ng_num.specs.declared.point.Point.{Point}
use Rattle.ng_rig.specs.Rig.{Device}
use Rattle.ng_rig.specs.Calls.{IfHonest}
use Rattle.ng_rig.proofs.GuaranteeLemmas.{meaning}
use Rattle.ng_block.specs.Effects.{Done}
use Rattle.ng_text.specs.Programs.{ProgramLineModel, next_line_start, program_line_at}
use Rattle.ng_layout.specs.Stored.{HalfModel, DurableState}
use Rattle.ng_layout.specs.declared.half.Source.{Source}
use Rattle.ng_journal.specs.Journal.{JournalModel, IsDurablyAt, HoldsProgram}
use Rattle.ng_journal.specs.Storing.{ledger_of}
use Rattle.ng_canon.specs.declared.geometry.Geometry.{Geometry}
use Rattle.ng_session.specs.Entries.{done_again}
use Rattle.ng_session.specs.Session.{SessionModel, Transition, refuses, is_at_rest, is_running}
use Rattle.ng_session.specs.Operator.{resume, resume_half, resume_from, resume_by, resume_refusal, waiting_refusal}
use Rattle.ng_session.specs.Operator.{session_status, next_place_after}
use Rattle.ng_session.specs.Step.{IsProgramsLine}
use Rattle.ng_session.specs.declared.reply.Reply.{Reply}
use Rattle.ng_session.specs.declared.reply.Reply.TheVariants as reply
use Rattle.ng_session.proofs.RefusalLemmas.{refused_again}
use Rattle.ng_core.specs.Model.{ControllerModel, HasInForce, durable_state_of}
use Rattle.ng_core.specs.Events.{IsAnsweredAnyway, IsAnsweredBy, IsAnsweredByLine, by_line, IsCarriedOutIfHonest}
use Rattle.ng_core.specs.Events.{ReadsProgram}
use Rattle.ng_core.specs.Private.NextLines.{IsNextLineAt, NextLineSpec}
use Rattle.ng_core.proofs.EventCallLemmas.{known_as, acts_read, acts_unread}
use Rattle.ng_core.proofs.ProgramExistsLemmas.{has_next}
use Rattle.ng_core.proofs.LineBeginLemmas.{Reading}
use Rattle.ng_core.proofs.QuietEventLemmas.{IsStill, still}
use Rattle.ng_core.proofs.HonestEventLemmas.{does_still}
use Rattle.ng_core.proofs.TickLemmas.{does_on}
use Rattle.ng_core.proofs.TickChoiceLemmas.{with_session}
use Rattle.ng_core.proofs.AnyDeviceLemmas.{comes_by, comes_to}
use Rattle.ng_core.proofs.ProgramInForceLemmas.{KeepsProgram, ReadingInForce, reads_on, reads_still}

next_by : (program : List ℕ) (half : Option HalfModel) (place next : ℕ) → IsProgramsLine half
    → next ≡ next_line_start program place → IfSome half (λ h. next ≡ next_place_after program place h.source)
next_by program None place next line is = absurd line
next_by program (Some half) place next line is = is ∙ sym (ap (λ (x : Source). next_place_after program place x) line)

-- what finding the next line leaves
abbrev pub FindingNext : {R E : Type 0} → (R → Device) → Result ℕ E → SessionModel → JournalModel R → JournalModel R → Type 0
FindingNext seen result s old new =
    IfHonest (seen old.rig) (seen new.rig) ((standing : DurableState)
    → IsDurablyAt (seen old.rig).trace old standing → NextLineSpec result new standing s (seen old.rig).trace
    (seen new.rig).trace)

-- the block is a line of the program, and that is read
pub finds_next : {R E F : Type 0} (seen : R → Device) (line : Option ProgramLineModel) (next : ℕ) (s : SessionModel) (old new : JournalModel R)
    → IsProgramsLine s.stored.half → ((program : List ℕ) → line ≡ program_line_at program s.stored.place → next ≡ next_line_start program s.stored.place)
    → Reading {E = E} seen (Ok line) s.stored.place old new → FindingNext {E = F} seen (Ok next) s old new
finds_next seen line next s old new half later p =
    meaning p (λ f standing rests.
    let r = f standing rests in
    record { same = r.same; at = r.at; next = next_by standing.program s.stored.half s.stored.place next half (later standing.program r.line) })

-- that line is of the program in force
pub next_in_force : {R : Type 0} (seen : R → Device) (line : Option ProgramLineModel) (next : ℕ) (s : SessionModel)
    (journal : JournalModel R) → IsProgramsLine s.stored.half
    → ((program : List ℕ) → line ≡ program_line_at program s.stored.place
    → next ≡ next_line_start program s.stored.place)
    → ReadingInForce seen line s.stored.place journal
    → (seen journal.rig).honest → (program : List ℕ) → HoldsProgram (seen journal.rig).trace journal program
    → IsNextLineAt program s next
next_in_force seen line next s journal half later read h program held =
    next_by program s.stored.half s.stored.place next half
    (later program (read h ∙ ap (λ (p : List ℕ). program_line_at p s.stored.place) held.program_is))

-- ---- nothing is stored

still_by : (P : List ℕ) (s : SessionModel) (half : HalfModel) (from : Point) (done : Result Done Fault) → IsStill P s.stored (resume_by P s half from done)
still_by P s half from (Err fault) = still refl refl refl refl
still_by P s half from (Ok done) = still refl refl refl refl

still_from : (q : Geometry) (P : List ℕ) (s : SessionModel) (half : HalfModel) (from : Option Point) → IsStill P s.stored (resume_from q P s half from)
still_from q P s half None = still refl refl refl refl
still_from q P s half (Some from) = still_by P s half from (done_again q s.stored half.text)

still_half : (q : Geometry) (P : List ℕ) (s : SessionModel) (half : Option HalfModel) → IsStill P s.stored (resume_half q P s half)
still_half q P s None = still refl refl refl refl
still_half q P s (Some half) = still_from q P s half half.at

pub still_resume : (q : Geometry) (P : List ℕ) (s : SessionModel) → IsStill P s.stored (resume q P s)
still_resume q P s = by (not (is_at_rest s))
  where
    by : (b : Bool) → IsStill P s.stored (if b then refuses P fault.Busy s else resume_half q P s s.stored.half)
    by true = still refl refl refl refl
    by false = still_half q P s s.stored.half

-- ---- it doesn't go on

pub does_not_resume : {R : Type 0} (seen : R → Device) (fault : Fault) (old new : ControllerModel R)
    → Some fault ≡ resume_refusal old.geometry old.session → new.journal ≡ old.journal → new.lines ≡ old.lines → new.session ≡ old.session
    → IsCarriedOutIfHonest seen (Ok (reply.Refused fault)) (λ program. resume old.geometry program old.session) old new
does_not_resume seen fault old new is journal lines same =
    does_on seen (Ok (reply.Refused fault)) (λ program. refuses program fault old.session) (λ program. resume old.geometry program old.session) old old new refl
    (λ program. sym (refused_again old.geometry program old.session fault is))
    (does_still seen (reply.Refused fault) (λ program. refuses program fault old.session) old new
    (λ program. still refl refl refl refl) journal lines (λ program. refl) (λ program. same))

pub reads_not_resumed : {R : Type 0} (seen : R → Device) (fault : Fault) (old new : ControllerModel R)
    → Some fault ≡ resume_refusal old.geometry old.session → new.journal ≡ old.journal → new.lines ≡ old.lines
    → new.session ≡ old.session
    → ReadsProgram seen (Ok (reply.Refused fault)) (λ program. resume old.geometry program old.session) old new
reads_not_resumed seen fault old new is journal lines same =
    reads_on seen (Ok (reply.Refused fault)) (λ program. refuses program fault old.session)
    (λ program. resume old.geometry program old.session) old new
    (λ program. sym (refused_again old.geometry program old.session fault is))
    (reads_still seen (reply.Refused fault) (λ program. refuses program fault old.session) old new
    (λ program. still refl refl refl refl) journal lines (λ program. refl) (λ program. same))

pub comes_not_resumed : {R : Type 0} (reads : Type 0) (fault : Fault) (old new : ControllerModel R)
    → Some fault ≡ resume_refusal old.geometry old.session → new.session ≡ old.session
    → IsAnsweredAnyway reads (Ok (reply.Refused fault)) (λ program. resume old.geometry program old.session) old new
comes_not_resumed reads fault old new is same =
    comes_to reads reads (Ok (reply.Refused fault)) (λ program. refuses program fault old.session)
    (λ program. resume old.geometry program old.session) old new (λ p. p)
    (λ program. sym (refused_again old.geometry program old.session fault is))
    (comes_by reads (reply.Refused fault) (λ program. refuses program fault old.session) old new (λ program. refl) (λ program. same))

-- ---- it goes on

-- the reply of the session, and the session after it
abbrev pub GoesOn : {R : Type 0} → Reply → SessionModel → ControllerModel R → SessionModel → ℕ → Type 0
GoesOn r next old s place = (program : List ℕ) → IsNextLineAt program s place
    → (r ≡ (resume old.geometry program s).reply) × (next ≡ (resume old.geometry program s).next)

does_go : {R E : Type 0} (seen : R → Device) (r : Reply) (place : ℕ) (old new : ControllerModel R)
    → FindingNext {E = E} seen (Ok place) old.session old.journal new.journal → new.lines ≡ old.lines → GoesOn r new.session old old.session place
    → IsCarriedOutIfHonest seen (Ok r) (λ program. resume old.geometry program old.session) old new
does_go seen r place old new p lines goes = record {
  keeps = p.keeps;
  back = p.back;
  holds = λ h program rests.
      let f = p.holds h (durable_state_of program old.session) rests.0 in
      let quiet = still_resume old.geometry program old.session in
      let out : Transition = resume old.geometry program old.session in
      acts_read r out program old new (seen old.journal.rig).trace (seen new.journal.rig).trace f.same f.at
      (known_as program out.program old.lines new.lines quiet.program_is lines rests.1)
      (goes program f.next).0 (goes program f.next).1 quiet.items quiet.program_is quiet.stored_is;
}

pub does_resume : {R E : Type 0} (seen : R → Device) (r : Reply) (place : ℕ) (old new : ControllerModel R) (s : SessionModel)
    → s ≡ old.session → FindingNext {E = E} seen (Ok place) s old.journal new.journal → new.lines ≡ old.lines → GoesOn r new.session old s place
    → IsCarriedOutIfHonest seen (Ok r) (λ program. resume old.geometry program old.session) old new
does_resume {R} {E} seen r place old new s same p lines goes =
    subst (λ (x : SessionModel). IsCarriedOutIfHonest seen (Ok r) (λ program. resume old.geometry program x) (with_session old x) new) same
    (does_go {E = E} seen r place (with_session old s) new p lines goes)

pub reads_resume : {R : Type 0} (seen : R → Device) (r : Reply) (place : ℕ) (old new : ControllerModel R)
    (s : SessionModel) → s ≡ old.session
    → ((seen old.journal.rig).honest → (program : List ℕ)
    → HoldsProgram (seen old.journal.rig).trace old.journal program → IsNextLineAt program s place)
    → KeepsProgram seen old.journal new.journal → new.lines ≡ old.lines → GoesOn r new.session old s place
    → ReadsProgram seen (Ok r) (λ program. resume old.geometry program old.session) old new
reads_resume seen r place old new s same finding keeps lines goes = λ h program has.
    let quiet = still_resume old.geometry program old.session in
    let there : GoesOn r new.session old old.session place =
    subst (λ (x : SessionModel). GoesOn r new.session old x place) same goes in
    let next = subst (λ (x : SessionModel). IsNextLineAt program x place) same (finding h program has.0) in
    let here : HasInForce (seen new.journal.rig).trace new program =
    (keeps h program has.0, known_as program program old.lines new.lines refl lines has.1) in (
      there program next,
      subst (λ (p : List ℕ). HasInForce (seen new.journal.rig).trace new p) (sym quiet.program_is) here,
    )

pub comes_resume : {R : Type 0} (r : Reply) (place : ℕ) (old new : ControllerModel R) (s : SessionModel)
    → s ≡ old.session → None ≡ resume_refusal old.geometry old.session
    → ((IsProgramsLine s.stored.half → ⊥) → (program : List ℕ) → IsNextLineAt program s place)
    → GoesOn r new.session old s place
    → IsAnsweredAnyway ((resume_refusal old.geometry old.session ≡ None) × IsProgramsLine old.session.stored.half)
    (Ok r) (λ program. resume old.geometry program old.session) old new
comes_resume r place old new s same free next goes =
    subst (λ (x : SessionModel). IsAnsweredAnyway ((resume_refusal old.geometry x ≡ None)
    × IsProgramsLine x.stored.half) (Ok r) (λ program. resume old.geometry program x) (with_session old x) new)
    same
    (λ read program. goes program (next (λ line. read (ap (λ (x : SessionModel). resume_refusal old.geometry x) same ∙ sym free, line)) program))

-- it isn't refused, so the program doesn't run
stopped_by : (alone runs held : Bool) (rest : Option Fault) → (if not (alone && not runs && not held) then Some fault.Busy else rest) ≡ None → runs ≡ false
stopped_by alone false held rest free = refl
stopped_by true true held rest free = absurd (let busy : Option Fault = Some fault.Busy in let z : busy ≡ None = free in cc)
stopped_by false true held rest free = absurd (let busy : Option Fault = Some fault.Busy in let z : busy ≡ None = free in cc)

stopped : (q : Geometry) (s : SessionModel) → resume_refusal q s ≡ None → is_running s.activity ≡ false
stopped q s free = stopped_by (is_none s.current) (is_running s.activity) s.held (waiting_refusal q s.stored s.stored.half) free

by_stopped : {R : Type 0} (out : List ℕ → Transition) (c : ControllerModel R) (program : List ℕ) (line : Option ProgramLineModel)
    → is_running c.session.activity ≡ false → by_line out c program line ≡ out program
by_stopped out c program line stops = rw stops refl

-- if it was refused, no line was read
pub refused_unread : (refusal : Option Fault) (fault : Fault) → Some fault ≡ refusal → refusal ≡ None → ⊥
refused_unread refusal fault is free = absurd (let some : Option Fault = Some fault in let z : some ≡ None = is ∙ free in cc)

-- whatever the device returned for the line at the place, the next line begins there in some program
pub resumed_line : {R : Type 0} (r : Reply) (place : ℕ) (old new : ControllerModel R) (s : SessionModel)
    → s ≡ old.session → resume_refusal old.geometry old.session ≡ None → IsProgramsLine old.session.stored.half → s.stored.place ≤ place
    → GoesOn r new.session old s place → ledger_of new.journal ≡ ledger_of old.journal
    → IsAnsweredByLine r (λ program. resume old.geometry program old.session) old new
resumed_line r place old new s same free line beyond goes ledger =
    let out : List ℕ → Transition = λ program. resume old.geometry program old.session in
    let here : old.session.stored.place ≤ place = subst (λ (x : SessionModel). x.stored.place ≤ place) same beyond in
    let there : GoesOn r new.session old old.session place = subst (λ (x : SessionModel). GoesOn r new.session old x place) same goes in
    let found = has_next old.session.stored.place place here in
    let next = next_by found.0 old.session.stored.half old.session.stored.place place line found.1 in
    record {
      program = found.0;
      line = None;
      comes = subst (λ (o : Transition). IsAnsweredBy (Ok r) o old new)
          (sym (by_stopped out old found.0 None (stopped old.geometry old.session free))) (there found.0 next);
      ledger = ledger;
    }

-- the device failed in the read
pub does_resume_unread : {R E : Type 0} (seen : R → Device) (fault : Fault) (e : E) (s : SessionModel) (out : List ℕ → Transition) (old new : ControllerModel R)
    → FindingNext seen (Err e) s old.journal new.journal → fault ≡ DeviceFailed → new.session ≡ old.session
    → IsCarriedOutIfHonest seen (Err fault) out old new
does_resume_unread seen fault e s out old new p is same = record {
  keeps = p.keeps;
  back = p.back;
  holds = λ h program rests.
      let f = p.holds h (durable_state_of program old.session) rests.0 in
      acts_unread fault (out program) program old new (seen old.journal.rig).trace (seen new.journal.rig).trace is f.same (ap session_status same);
}
