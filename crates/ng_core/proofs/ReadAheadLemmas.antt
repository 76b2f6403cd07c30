-- Lines that were read ahead: one is begun, more are planned, or all are dropped.
use Rattle.std.proofs.Common.{◌≡◌, inr, ℕ, Bool, true, false, if◌then◌else◌, List, [], ◌∷◌, ◌++◌, Option, None}
use Rattle.std.proofs.Common.{Some, Result, Ok, Err, refl, sym, ◌∙◌, ap, subst}
use Rattle.std.specs.Prelude.{IfOk, IsSome}
use Rattle.ng_num.specs.declared.fault.Fault.{Fault}
use Rattle.ng_num.specs.declared.fault.Fault.TheVariants.{DeviceFailed}
use Rattle.ng_words.specs.declared.start.LineKind.{LineKind}
use Rattle.ng_rig.specs.Rig.{Device}
use Rattle.ng_rig.specs.Trace.{Trace, items}
use Rattle.ng_rig.specs.Calls.{IfHonest}
use Rattle.ng_rig.specs.Continuation.{IsContinuation}
use Rattle.ng_rig.proofs.GuaranteeLemmas.{meaning}
use Rattle.ng_text.specs.LinesBefore.{IsTrueOf}
use Rattle.ng_text.specs.Percent.{first_kind}
use Rattle.ng_text.specs.Programs.{ProgramLineModel, program_line_at, lines_before}
use Rattle.ng_journal.specs.Journal.{JournalModel, JournalCall, IsDurablyAt, IsBrokenBy, CountsFailure}
use Rattle.ng_journal.specs.Storing.{Ledger, ledger_of}
use Rattle.ng_canon.specs.declared.geometry.Geometry.{Geometry}
use Rattle.ng_session.specs.Entries.{done_of}
use Rattle.ng_session.specs.Session.{SessionModel, Transition, is_running}
use Rattle.ng_session.specs.Operator.{session_status}
use Rattle.ng_session.specs.Ticking.{begin, begin_by}
use Rattle.ng_session.specs.Step.{step, TakesMemory, AsksDevice, NeedsProgramLine}
use Rattle.ng_session.specs.Planned.{PlannedModel, KnownModel, IsKnownOf, IsLineOf, AreLinesOf, IsBegunAhead, forgotten_for, forgotten, drops_plan}
use Rattle.ng_session.specs.declared.event.Event.{Event}
use Rattle.ng_session.specs.declared.reply.Reply.{Reply}
use Rattle.ng_session.specs.declared.reply.Reply.TheVariants as reply
use Rattle.ng_layout.specs.declared.half.Source.TheVariants as source
use Rattle.ng_block.specs.Effects.{Done}
use Rattle.ng_core.specs.Model.{ControllerModel, durable_state_of}
use Rattle.ng_session.specs.Runs.{crash_in, session_of_transition}
use Rattle.ng_core.specs.Causes.{stored_for}
use Rattle.ng_core.specs.Needs.{needs, needs_line}
use Rattle.ng_core.specs.Events.{IsCrashOfEither, program_session_of, CallsFor, IsStoredAfter, CarriesOut}
use Rattle.ng_core.specs.Events.{CarriesOutEvent, IsAnsweredBy, IsAnsweredAnyway, IsAnsweredByLine}
use Rattle.ng_core.specs.Private.Ahead.{PlansAhead}
use Rattle.ng_core.proofs.EventCallLemmas.{acts_unread}
use Rattle.ng_core.proofs.HonestCallLemmas.{calls_none, calls_quiet, quiet_calls, ledger_quiet}
use Rattle.ng_core.proofs.LineBeginLemmas.{FindingBoth, does_begin, begun_line, by_running}
use Rattle.ng_core.proofs.ProgramExistsLemmas.{has_kind}
use Rattle.ng_core.proofs.ProgramInForceLemmas.{FindingInForce, keeps_same, keeps_unwritten, reads_lost, reads_begin}
use Rattle.ng_core.proofs.EventCauseLemmas.{unused_begin}
use Rattle.ng_core.proofs.QuietEventLemmas.{still_begin}

-- ---- the lines that were read ahead are dropped

-- a controller with this knowledge of the lines
abbrev pub with_lines : {R : Type 0} → ControllerModel R → KnownModel → ControllerModel R
with_lines c known = record { journal = c.journal; session = c.session; lines = known; geometry = c.geometry }

answered_from : {R : Type 0} (answer : Result Reply Fault) (out : Transition) (old new : ControllerModel R)
    (known : KnownModel) → IsAnsweredBy answer out (with_lines old known) new → IsAnsweredBy answer out old new
answered_from (Ok r) out old new known a = a
answered_from (Err DeviceFailed) out old new known a = a
answered_from (Err fault) out old new known a = a

anyway_from : {R : Type 0} (reads : Type 0) (answer : Result Reply Fault) (out : List ℕ → Transition) (old new : ControllerModel R) (known : KnownModel)
    → IsAnsweredAnyway reads answer out (with_lines old known) new → IsAnsweredAnyway reads answer out old new
anyway_from reads (Ok r) out old new known a = a
anyway_from reads (Err fault) out old new known a = record { status = a.status; session = a.session; ledger = a.ledger; journal = a.journal }

line_from : {R : Type 0} (answer : Result Reply Fault) (out : List ℕ → Transition) (old new : ControllerModel R) (known : KnownModel)
    → IfOk answer (λ r. IsAnsweredByLine r out (with_lines old known) new) → IfOk answer (λ r. IsAnsweredByLine r out old new)
line_from (Ok r) out old new known a = record { program = a.program; line = a.line; comes = a.comes; ledger = a.ledger }
line_from (Err fault) out old new known a = tt

module _ {R : Type 0} (seen : R → Device) where
  -- from a controller that knows less
  pub carried_from : (memory device reads : Type 0) (out : List ℕ → Transition) (answer : Result Reply Fault) (old new : ControllerModel R) (known : KnownModel)
      → ((program : List ℕ) → IsKnownOf program old.lines → IsKnownOf program known)
      → CarriesOut seen (needs memory device reads) out answer (with_lines old known) new → CarriesOut seen (needs memory device reads) out answer old new
  carried_from memory device reads out answer old new known still c = record {
    does = meaning c.does (λ f program rests.
        let a = f program (rests.0, still program rests.1) in
        record { comes = answered_from answer (out program) old new known a.comes; stops = a.stops; leaves = a.leaves; untouched = a.untouched });
    calls = c.calls;
    reads = λ h program has.
        let a = c.reads h program (has.0, still program has.1) in
        (answered_from answer (out program) old new known a.0, a.1);
    comes = anyway_from reads answer out old new known c.comes;
    line = λ read. line_from answer out old new known (c.line read);
    ledger = c.ledger;
    hindered = c.hindered;
    broken = c.broken;
    geometry = c.geometry;
    size = c.size;
    failures = c.failures;
  }

  -- ---- a line that was read ahead is begun

  still_lines : (program : List ℕ) (old new : KnownModel) (p : PlannedModel) → old.ahead ≡ p ∷ new.ahead
      → new.before ≡ old.before → IsKnownOf program old → IsKnownOf program new
  still_lines program old new p front before known =
      let ahead : IsLineOf program p × AreLinesOf program new.ahead = subst (λ (l : List PlannedModel). AreLinesOf program l) front known.1 in
      (subst (λ k. IsTrueOf program k) (sym before) known.0, ahead.1)

  first_line : (program : List ℕ) (old new : KnownModel) (p : PlannedModel) → old.ahead ≡ p ∷ new.ahead → IsKnownOf program old → IsLineOf program p
  first_line program old new p front known =
      let ahead : IsLineOf program p × AreLinesOf program new.ahead = subst (λ (l : List PlannedModel). AreLinesOf program l) front known.1 in
      ahead.0

  finding_ahead : (old new : KnownModel) (p : PlannedModel) (journal : JournalModel R) → old.ahead ≡ p ∷ new.ahead
      → FindingBoth seen p.first (Some (record { text = p.block.text; next = p.next })) old p.place journal journal
  finding_ahead old new p journal front = record {
    keeps = λ h. h;
    back = λ h. h;
    holds = λ h standing rests known.
        let line = first_line standing.program old new p front known in
        record { same = refl; at = rests; first_is = line.kind; line_is = sym line.line };
  }

  -- it is a line of the program in force
  ahead_in_force : (old new : KnownModel) (p : PlannedModel) (journal : JournalModel R) → old.ahead ≡ p ∷ new.ahead
      → FindingInForce seen p.first (Some (record { text = p.block.text; next = p.next })) old p.place journal
  ahead_in_force old new p journal front = λ h program held known.
      let line = first_line program old new p front known in
      (line.kind, sym line.line)

  pub carried_ahead : (told : Reply) (old new : ControllerModel R) → old.journal.broken ≡ false
      → is_running old.session.activity ≡ true → new.journal ≡ old.journal → new.geometry ≡ old.geometry
      → IsBegunAhead old.geometry told old.session new.session old.lines new.lines
      → CarriesOut seen needs_line (λ program. begin old.geometry program old.session (program_line_at program old.session.stored.place)) (Ok told) old new
  carried_ahead told old new whole runs same geometry b =
      let p = b.planned in
      let line : ProgramLineModel = record { text = p.block.text; next = p.next } in
      let found : FindingBoth seen p.first (Some line) old.lines p.place old.journal new.journal =
      subst (λ (j : JournalModel R). FindingBoth seen p.first (Some line) old.lines p.place old.journal j)
      (sym same) (finding_ahead old.lines new.lines p old.journal b.front) in
      record {
        does = does_begin seen told p.first (Some line) p.place old new b.place found
            (λ program known at kind. still_lines program old.lines new.lines p b.front b.before known) b.told_is
            b.next;
        calls = calls_quiet seen told (λ program. begin old.geometry program old.session (program_line_at program old.session.stored.place)) old new
            (λ program. still_begin old.geometry program old.session
            (program_line_at program old.session.stored.place))
            (λ h. ap (λ (j : JournalModel R). (seen j.rig).trace) same);
        reads = reads_begin seen told p.first (Some line) p.place old new b.place
            (ahead_in_force old.lines new.lines p old.journal b.front) (keeps_same seen old.journal new.journal same)
            (λ program known at kind. still_lines program old.lines new.lines p b.front b.before known)
            b.told_is b.next;
        comes = λ none. absurd (none tt);
        line = λ read. begun_line told
            (λ (program : List ℕ). begin old.geometry program old.session
            (program_line_at program old.session.stored.place)) p.first (Some line) p.place old new runs b.place
            b.beginning b.told_is b.next
            (ap (λ (j : JournalModel R). ledger_of j) same);
        ledger = ledger_quiet seen (λ program. begin old.geometry program old.session (program_line_at program old.session.stored.place)) old new
            (λ program. still_begin old.geometry program old.session
            (program_line_at program old.session.stored.place)) (ap (λ (j : JournalModel R). ledger_of j) same);
        hindered = tt;
        broken = ap (λ (j : JournalModel R). j.broken) same ∙ whole;
        geometry = geometry;
        size = ap (λ (j : JournalModel R). (seen j.rig).sectors) same;
        failures = ap (λ (j : JournalModel R). (seen j.rig).failed) same;
      }

  -- ---- lines are planned

  pub plans_none : (c : ControllerModel R) → c.journal.broken ≡ false → PlansAhead seen (Ok tt) c c
  plans_none c whole = record {
    does = record { keeps = λ h. h; back = λ h. h; holds = λ h program rests. rests };
    reads = λ h program has. has;
    unwritten = λ h. refl;
    session = refl;
    ledger = refl;
    errors = tt;
    geometry = refl;
    call = record { size = refl; failures = refl; broken = whole };
  }

  -- both reads succeeded
  pub plans_found : {T : Type 0} (v : T) (first : LineKind) (line : Option ProgramLineModel) (place : ℕ) (old new : ControllerModel R)
      → FindingBoth seen first line old.lines place old.journal new.journal
      → FindingInForce seen first line old.lines place old.journal
      → ((program : List ℕ) → IsKnownOf program old.lines → line ≡ program_line_at program place
      → first ≡ first_kind (lines_before program place) → IsKnownOf program new.lines)
      → ((seen old.journal.rig).honest → (seen new.journal.rig).trace ≡ (seen old.journal.rig).trace)
      → new.session ≡ old.session → new.geometry ≡ old.geometry → ledger_of new.journal ≡ ledger_of old.journal
      → JournalCall seen (Ok v) old.journal new.journal → PlansAhead seen (Ok tt) old new
  plans_found v first line place old new p finding known unwritten same geometry ledger call = record {
    reads = λ h program has.
        let found = finding h program has.0 has.1 in
        let keeps = keeps_unwritten seen old.journal new.journal unwritten ledger in
        (keeps h program has.0, known program has.1 found.1 found.0);
    unwritten = unwritten;
    does = record {
      keeps = p.keeps;
      back = p.back;
      holds = λ h program rests.
          let f = p.holds h (durable_state_of program old.session) rests.0 rests.1 in (
            subst (λ (s : SessionModel). IsDurablyAt (seen new.journal.rig).trace new.journal
                (durable_state_of program s)) (sym same) f.at,
            known program rests.1 f.line_is f.first_is,
          );
    };
    session = same;
    ledger = ledger;
    errors = tt;
    geometry = geometry;
    call = record { size = call.size; failures = call.failures; broken = call.broken };
  }

  -- the device failed
  pub plans_lost : {T : Type 0} (fault e : Fault) (old new : ControllerModel R) → fault ≡ e
      → IfHonest (seen old.journal.rig) (seen new.journal.rig) ((seen new.journal.rig).trace ≡ (seen old.journal.rig).trace)
      → e ≡ DeviceFailed → new.session ≡ old.session → new.geometry ≡ old.geometry
      → ledger_of new.journal ≡ ledger_of old.journal → JournalCall {T = T} seen (Err e) old.journal new.journal
      → PlansAhead seen (Err fault) old new
  plans_lost fault e old new is p lost same geometry ledger call =
      subst (λ (f : Fault). PlansAhead seen (Err f) old new) (sym is) (record {
        does = meaning p (λ still program rests. tt);
        reads = λ h program has. tt;
        unwritten = p.holds;
        session = same;
        ledger = ledger;
        errors = lost;
        geometry = geometry;
        call = record { size = call.size; failures = call.failures; broken = call.broken };
      })

  -- ---- a line is begun, and then more are planned

  pub carried_planned : (memory device reads : Type 0) (told : Reply) (v : Unit {0}) (out : List ℕ → Transition) (old mid new : ControllerModel R)
      → CarriesOut seen (needs memory device reads) out (Ok told) old mid → PlansAhead seen (Ok v) mid new
      → CarriesOut seen (needs memory device reads) out (Ok told) old new
  carried_planned memory device reads told v out old mid new c p = record {
    does = record {
      keeps = λ h. p.does.keeps (c.does.keeps h);
      back = λ h. c.does.back (p.does.back h);
      holds = λ h program rests.
          let a = c.does.holds h program rests in
          let same : (seen new.journal.rig).trace ≡ (seen mid.journal.rig).trace = p.unwritten (c.does.keeps h) in
          record {
            comes = (a.comes.0, p.session ∙ a.comes.1);
            stops = subst (λ (l : Trace). IsContinuation (seen old.journal.rig).trace l
                (IsCrashOfEither (crash_in (program_session_of program old) (items (seen old.journal.rig).trace))
                (crash_in (session_of_transition (out program))
                (items (seen old.journal.rig).trace ++ (out program).items)))) (sym same) a.stops;
            leaves = (p.does.holds (c.does.keeps h) (out program).program a.leaves.0, ap items same ∙ a.leaves.1);
            untouched = λ nothing. same ∙ a.untouched nothing;
          };
    };
    calls = λ h program. subst (λ (t : Trace). CallsFor (Ok told) (out program) (seen old.journal.rig).sectors
        (ledger_of old.journal) (seen old.journal.rig).trace t) (sym (p.unwritten (c.does.keeps h)))
        (c.calls h program);
    reads = λ h program has.
        let a = c.reads h program has in
        ((a.0.0, p.session ∙ a.0.1), p.reads (c.does.keeps h) (out program).program a.1);
    comes = λ none program. let x = c.comes none program in (x.0, p.session ∙ x.1);
    line = λ read. let l = c.line read in record {
      program = l.program;
      line = l.line;
      comes =
          (l.comes.0, p.session ∙ l.comes.1);
      ledger = p.ledger ∙ l.ledger;
    };
    ledger = λ program. subst (λ (l : Ledger). IsStoredAfter (stored_for (out program) (out program).reply)
        (seen old.journal.rig).sectors (ledger_of old.journal) l) (sym p.ledger) (c.ledger program);
    hindered = tt;
    broken = p.call.broken;
    geometry = p.geometry ∙ c.geometry;
    size = p.call.size ∙ c.size;
    failures = p.call.failures ∙ c.failures;
  }

  -- what the status shows is unchanged when a line is begun
  begun_by_status : (program : List ℕ) (s : SessionModel) (line : ProgramLineModel) (done : Result Done Fault)
      → reply.Begun ≡ (begin_by program s line done).reply
      → session_status (begin_by program s line done).next ≡ session_status s
  begun_by_status program s line (Ok done) told = refl
  begun_by_status program s line (Err fault) told = cc

  begun_status : (q : Geometry) (program : List ℕ) (s : SessionModel) (line : Option ProgramLineModel)
      → reply.Begun ≡ (begin q program s line).reply → session_status (begin q program s line).next ≡ session_status
      s
  begun_status q program s None told = cc
  begun_status q program s (Some line) told = begun_by_status program s line (done_of q program s.stored source.Program line.text s.block_delete) told

  -- the device failed while planning: the line is begun all the same
  pub carried_unplanned : (fault e : Fault) (old mid new : ControllerModel R) → fault ≡ e → is_running old.session.activity ≡ true
      → (let begins : List ℕ → Transition = λ program. begin old.geometry program old.session (program_line_at program old.session.stored.place) in
      CarriesOut seen needs_line begins (Ok reply.Begun) old mid → PlansAhead seen (Err e) mid new
      → CarriesOut seen needs_line begins (Err fault) old new)
  carried_unplanned fault e old mid new is runs c p =
      let begins : List ℕ → Transition = λ program. begin old.geometry program old.session (program_line_at program old.session.stored.place) in
      let l = c.line tt in
      let by = by_running begins old l.program l.line runs in
      let told : reply.Begun ≡ (begin old.geometry l.program old.session l.line).reply = l.comes.0 ∙ ap (λ (o : Transition). o.reply) by in
      let next : mid.session ≡ (begin old.geometry l.program old.session l.line).next = l.comes.1 ∙ ap (λ (o : Transition). o.next) by in
      let status : session_status new.session ≡ session_status old.session = ap session_status (p.session ∙ next)
      ∙ begun_status old.geometry l.program old.session l.line told in
      let lost : fault ≡ DeviceFailed = is ∙ p.errors in
      record {
        does = record {
          keeps = λ h. p.does.keeps (c.does.keeps h);
          back = λ h. c.does.back (p.does.back h);
          holds = λ h program rests.
              let a = c.does.holds h program rests in
              acts_unread fault (begins program) program old new (seen old.journal.rig).trace
              (seen new.journal.rig).trace lost (p.unwritten (c.does.keeps h) ∙ a.untouched tt) status;
        };
        calls = calls_none seen fault begins old new (λ h. p.unwritten (c.does.keeps h)
            ∙ quiet_calls reply.Begun [] old.session.stored (begins []) (seen old.journal.rig).sectors
            (ledger_of old.journal) (seen old.journal.rig).trace (seen mid.journal.rig).trace
            (still_begin old.geometry [] old.session (program_line_at [] old.session.stored.place)) (c.calls h []));
        reads = reads_lost seen fault begins old new lost status;
        comes = record {
          status = status;
          session = λ other. absurd (other lost);
          ledger = λ other.
              absurd (other lost);
          journal = λ other. absurd (other lost);
        };
        line = λ read. tt;
        ledger = tt;
        hindered = inr (inr (
          lost,
          tt,
          λ program used. unused_begin old.geometry program old.session
              (program_line_at program old.session.stored.place) (ledger_of old.journal) used,
        ));
        broken = subst (λ (f : Fault). IsBrokenBy {T = Reply} (Err f) new.journal.broken) (sym is) p.call.broken;
        geometry = p.geometry ∙ c.geometry;
        size = p.call.size ∙ c.size;
        failures = subst (λ (f : Fault). CountsFailure {T = Reply} (Err f) (seen old.journal.rig).failed (seen new.journal.rig).failed) (sym is)
            (subst (λ (n : ℕ). CountsFailure {T = Reply} (Err e) n (seen new.journal.rig).failed) c.failures p.call.failures);
      }

-- an event after which the lines read ahead are dropped
pub still_forgotten : {A : Type 0} (e : Event A) (known : KnownModel) (program : List ℕ) → IsKnownOf program known → IsKnownOf program (forgotten_for e known)
still_forgotten e known program of = by (drops_plan e)
  where
    by : (b : Bool) → IsKnownOf program (if b then forgotten known else known)
    by true = (of.0, tt)
    by false = of

pub forgotten_none : {A : Type 0} (e : Event A) (known : KnownModel) → drops_plan e ≡ true → (forgotten_for e known).ahead ≡ []
forgotten_none e known drops = ap (λ (b : Bool). (let k : KnownModel = if b then forgotten known else known in k).ahead) drops

module _ {R : Type 0} (seen : R → Device) where
  pub carried_forgotten : {A : Type 0} (e : Event A) (answer : Result Reply Fault) (old new : ControllerModel R)
      (known : KnownModel) → known ≡ forgotten_for e old.lines
      → CarriesOutEvent seen e answer (with_lines old known) new → CarriesOutEvent seen e answer old new
  carried_forgotten e answer old new known is c =
      carried_from seen (TakesMemory old.geometry old.session e) (AsksDevice old.geometry old.session e)
      (NeedsProgramLine old.geometry old.session e) (λ program. step old.geometry program old.session e)
      answer old new known (λ program of. subst (λ (k : KnownModel). IsKnownOf program k) (sym is) (still_forgotten e old.lines program of)) c

-- the stored state is unchanged when a line that was read ahead is begun
pub stored_ahead : (geometry : Geometry) (told : Reply) (s t : SessionModel) (known_old known_new : KnownModel)
    → IsBegunAhead geometry told s t known_old known_new → t.stored ≡ s.stored
stored_ahead geometry told s t known_old known_new b =
    let found = has_kind b.planned.first b.planned.place b.beginning in
    let kind = found.1 ∙ ap (λ (n : ℕ). first_kind (lines_before found.0 n)) b.place in
    let line : Option ProgramLineModel = Some (record { text = b.planned.block.text; next = b.planned.next }) in
    ap (λ (x : SessionModel). x.stored) (b.next found.0 kind) ∙ (still_begin geometry found.0 s line).stored_is

pub some_of : {T : Type 0} (o : Option T) → IsSome o → (x : T) × (o ≡ Some x)
some_of None some = cc
some_of (Some x) some = (x, refl)
