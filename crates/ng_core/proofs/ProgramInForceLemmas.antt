-- What an event reads and leaves of the program in force, whatever an honest device stands for.
use Rattle.std.proofs.Common.{◌≡◌, ◌⊎◌, inr, ⊎_elim, ℕ, false, List, length, Option, None, Some, Result, Ok, Err}
use Rattle.std.proofs.Common.{refl, sym, ◌∙◌, ap, subst}
use Rattle.std.specs.Prelude.{IfErr}
use Rattle.ng_num.specs.declared.fault.Fault.{Fault}
use Rattle.ng_num.specs.declared.fault.Fault.TheVariants.{DeviceFailed, CountersUsed, OutOfMemory}
use Rattle.ng_canon.specs.declared.item.Item.{Item}
use Rattle.ng_words.specs.declared.start.LineKind.{LineKind}
use Rattle.ng_rig.specs.Rig.{Device}
use Rattle.ng_rig.specs.Trace.{Handed, reads}
use Rattle.ng_text.specs.LinesBefore.{IsTrueOf}
use Rattle.ng_text.specs.Percent.{first_kind}
use Rattle.ng_text.specs.Programs.{ProgramLineModel, program_line_at, lines_before}
use Rattle.ng_layout.specs.Stored.{StoredModel}
use Rattle.ng_journal.specs.Journal.{JournalModel, HoldsProgram, program_in_force}
use Rattle.ng_journal.specs.Storing.{ledger_of}
use Rattle.ng_journal.proofs.ProgramHeldLemmas.{holds_same, holds_handed}
use Rattle.ng_session.specs.Entries.{after_load}
use Rattle.ng_session.specs.Planned.{KnownModel, IsKnownOf}
use Rattle.ng_session.specs.Session.{CurrentBlockModel, SessionModel, Transition}
use Rattle.ng_session.specs.Operator.{load, load_unless, load_refusal, loaded, session_status}
use Rattle.ng_session.specs.Ticking.{begin, end, committed, tick, item_of, handed}
use Rattle.ng_session.specs.declared.reply.Reply.{Reply}
use Rattle.ng_session.specs.declared.reply.Reply.TheVariants as reply
use Rattle.ng_core.specs.Model.{ControllerModel, HasInForce}
use Rattle.ng_core.specs.Events.{IsAnsweredBy, IsAnsweredAnyway, LeavesProgram, ReadsProgram, handing}
use Rattle.ng_core.proofs.TickChoiceLemmas.{with_session}
use Rattle.ng_core.proofs.QuietEventLemmas.{IsStill, still_begin}
use Rattle.ng_core.proofs.TickLemmas.{IsDue, tick_item}

-- the program in force stays the same
abbrev pub KeepsProgram : {R : Type 0} → (R → Device) → JournalModel R → JournalModel R → Type 0
KeepsProgram seen old new =
    (seen old.rig).honest → (program : List ℕ) → HoldsProgram (seen old.rig).trace old program
    → HoldsProgram (seen new.rig).trace new program

-- what the reads for a line find of the program in force
abbrev pub FindingInForce : {R : Type 0} → (R → Device) → LineKind → Option ProgramLineModel → KnownModel → ℕ
    → JournalModel R → Type 0
FindingInForce seen first line known place journal =
    (seen journal.rig).honest → (program : List ℕ) → HoldsProgram (seen journal.rig).trace journal program
    → IsKnownOf program known
    → (first ≡ first_kind (lines_before program place)) × (line ≡ program_line_at program place)

-- what `program_line` finds of the program in force
abbrev pub ReadingInForce : {R : Type 0} → (R → Device) → Option ProgramLineModel → ℕ → JournalModel R → Type 0
ReadingInForce seen line place journal =
    (seen journal.rig).honest
    → line ≡ program_line_at (program_in_force (seen journal.rig).trace journal) place

module _ {R : Type 0} (seen : R → Device) where
  -- ---- the program in force stays the same

  pub keeps_same : (old new : JournalModel R) → new ≡ old → KeepsProgram seen old new
  keeps_same old new same = λ h program held.
      subst (λ (j : JournalModel R). HoldsProgram (seen j.rig).trace j program) (sym same) held

  -- nothing is written
  pub keeps_unwritten : (old new : JournalModel R)
      → ((seen old.rig).honest → (seen new.rig).trace ≡ (seen old.rig).trace)
      → ledger_of new ≡ ledger_of old → KeepsProgram seen old new
  keeps_unwritten old new unwritten ledger = λ h program held.
      holds_same old new program (seen old.rig).trace (seen new.rig).trace (unwritten h)
      ledger held

  -- an item is handed out
  pub keeps_handed : (item : Item) (old new : JournalModel R)
      → ((seen old.rig).honest → (seen new.rig).trace ≡ Handed item (seen old.rig).trace)
      → ledger_of new ≡ ledger_of old → KeepsProgram seen old new
  keeps_handed item old new is ledger = λ h program held.
      holds_handed item old new program (seen old.rig).trace (seen new.rig).trace (is h)
      ledger held

  -- ---- an event is answered

  -- for an equal outcome
  pub reads_on : (answer : Result Reply Fault) (out wanted : List ℕ → Transition) (old new : ControllerModel R)
      → ((program : List ℕ) → out program ≡ wanted program) → ReadsProgram seen answer out old new
      → ReadsProgram seen answer wanted old new
  reads_on answer out wanted old new equal reads = λ h program has.
      subst (λ (o : Transition). IsAnsweredBy answer o old new
      × LeavesProgram answer o program new (seen new.journal.rig).trace)
      (equal program) (reads h program has)

  -- the program stays in force
  pub reads_answered : (r : Reply) (out : List ℕ → Transition) (old new : ControllerModel R)
      → KeepsProgram seen old.journal new.journal → ((program : List ℕ) → (out program).program ≡ program)
      → ((program : List ℕ) → IsKnownOf program old.lines → IsKnownOf program new.lines)
      → ((program : List ℕ) → r ≡ (out program).reply) → ((program : List ℕ) → new.session ≡ (out program).next)
      → ReadsProgram seen (Ok r) out old new
  reads_answered r out old new keeps same known replied next = λ h program has.
      let here : HasInForce (seen new.journal.rig).trace new program = (keeps h program has.0, known program has.1) in (
        (replied program, next program),
        subst (λ (p : List ℕ). HasInForce (seen new.journal.rig).trace new p) (sym (same program)) here,
      )

  -- the device isn't called
  pub reads_still : (r : Reply) (out : List ℕ → Transition) (old new : ControllerModel R)
      → ((program : List ℕ) → IsStill program old.session.stored (out program))
      → new.journal ≡ old.journal → new.lines ≡ old.lines
      → ((program : List ℕ) → r ≡ (out program).reply) → ((program : List ℕ) → new.session ≡ (out program).next)
      → ReadsProgram seen (Ok r) out old new
  reads_still r out old new quiet same lines replied next =
      reads_answered r out old new (keeps_same old.journal new.journal same) (λ program. (quiet program).program_is)
      (λ program known. subst (λ (k : KnownModel). IsKnownOf program k) (sym lines) known) replied next

  -- there was no memory, or no count was left
  pub reads_aside : (fault : Fault) (out : List ℕ → Transition) (old new : ControllerModel R)
      → (fault ≡ OutOfMemory) ⊎ (fault ≡ CountersUsed) → new.session ≡ old.session → new.lines ≡ old.lines
      → KeepsProgram seen old.journal new.journal → ReadsProgram seen (Err fault) out old new
  reads_aside fault out old new which same lines keeps =
      let Goal : Fault → Type 0 = λ f. ReadsProgram seen (Err f) out old new in
      let short : Goal OutOfMemory = λ h program has.
      (same, (keeps h program has.0, subst (λ (k : KnownModel). IsKnownOf program k) (sym lines) has.1)) in
      let used : Goal CountersUsed = λ h program has.
      (same, (keeps h program has.0, subst (λ (k : KnownModel). IsKnownOf program k) (sym lines) has.1)) in
      ⊎_elim (λ e. subst Goal (sym e) short) (λ e. subst Goal (sym e) used) which

  -- the device failed
  pub reads_lost : (fault : Fault) (out : List ℕ → Transition) (old new : ControllerModel R)
      → fault ≡ DeviceFailed → session_status new.session ≡ session_status old.session
      → ReadsProgram seen (Err fault) out old new
  reads_lost fault out old new lost status =
      let Goal : Fault → Type 0 = λ f. ReadsProgram seen (Err f) out old new in
      let here : Goal DeviceFailed = λ h program has. (status, tt) in
      subst Goal (sym lost) here

  -- nothing was stored
  pub reads_unstored : (fault : Fault) (out : List ℕ → Transition) (old new : ControllerModel R)
      → (fault ≡ CountersUsed) ⊎ (fault ≡ DeviceFailed) → (fault ≡ CountersUsed → new.journal ≡ old.journal)
      → new.session ≡ old.session → new.lines ≡ old.lines → ReadsProgram seen (Err fault) out old new
  reads_unstored fault out old new which unchanged same lines =
      ⊎_elim
      (λ used. reads_aside fault out old new (inr used) same lines
      (keeps_same old.journal new.journal (unchanged used)))
      (λ lost. reads_lost fault out old new lost (ap session_status same)) which

  -- ---- an item, an entry, a program

  pub reads_item : (reads : Type 0) (answer : Result Reply Fault) (item : Item) (old new : ControllerModel R)
      (taken : SessionModel) → old.session.held ≡ false → Some item ≡ item_of old.session.current
      → taken ≡ handed old.session → IfErr answer (λ e. e ≡ DeviceFailed)
      → IsAnsweredAnyway reads answer (λ program. tick old.geometry program old.session) old new
      → ReadsProgram seen answer (λ program. handing item program taken) (with_session old taken) new
      → ReadsProgram seen answer (λ program. tick old.geometry program old.session) old new
  reads_item reads (Ok r) item old new taken held is next errors comes read =
      reads_on (Ok r) (λ program. handing item program taken) (λ program. tick old.geometry program old.session) old new
      (λ program. ap (handing item program) next
      ∙ sym (tick_item old.geometry program old.session item held (sym is))) read
  reads_item reads (Err fault) item old new taken held is next errors comes read =
      reads_lost fault (λ program. tick old.geometry program old.session) old new errors comes.status

  pub reads_commit : (r : Reply) (saved : StoredModel) (old new : ControllerModel R) (due : IsDue old.session saved)
      → r ≡ reply.Done (committed old.session due.block).stored.entries
      → new.session ≡ committed old.session due.block → KeepsProgram seen old.journal new.journal
      → new.lines ≡ old.lines
      → ReadsProgram seen (Ok r) (λ program. end old.geometry program old.session old.session.current) old new
  reads_commit r saved old new due replied next keeps lines =
      reads_on (Ok r) (λ program. end old.geometry program old.session (Some due.block))
      (λ program. end old.geometry program old.session old.session.current) old new
      (λ program. sym (ap (λ (o : Option CurrentBlockModel). end old.geometry program old.session o) due.current))
      (reads_answered r (λ program. end old.geometry program old.session (Some due.block)) old new keeps
      (λ program. refl)
      (λ program known. subst (λ (k : KnownModel). IsKnownOf program k) (sym lines) known)
      (λ program. replied) (λ program. next))

  pub reads_load : (r : Reply) (saved : StoredModel) (text : List ℕ) (old new : ControllerModel R)
      → load_refusal old.session text ≡ None → saved ≡ after_load old.session.stored (length text)
      → r ≡ reply.Done saved.entries → new.session ≡ loaded old.session saved
      → ((seen old.journal.rig).honest → HoldsProgram (seen new.journal.rig).trace new.journal text)
      → IsKnownOf text new.lines → ReadsProgram seen (Ok r) (λ program. load program old.session text) old new
  reads_load r saved text old new free is replied next holds known =
      reads_on (Ok r) (λ program. load_unless program old.session text None) (λ program. load program old.session text)
      old new (λ program. sym (ap (λ (o : Option Fault). load_unless program old.session text o) free))
      (λ h program has. (
        (
          replied ∙ ap (λ (x : StoredModel). reply.Done x.entries) is,
          next ∙ ap (λ (x : StoredModel). loaded old.session x) is,
        ),
        (holds h, known),
      ))

  -- ---- a line is begun

  -- both reads succeeded
  pub finds_in_force : (first : LineKind) (found line : Option ProgramLineModel) (known : KnownModel)
      (place : ℕ) (old mid : JournalModel R)
      → ((seen old.rig).honest → (program : List ℕ) → HoldsProgram (seen old.rig).trace old program
      → IsTrueOf program known.before → first ≡ first_kind (lines_before program place))
      → ((seen old.rig).honest → (seen mid.rig).honest)
      → ((seen old.rig).honest → (seen mid.rig).trace ≡ (seen old.rig).trace) → ledger_of mid ≡ ledger_of old
      → found ≡ line → ReadingInForce seen found place mid → FindingInForce seen first line known place old
  finds_in_force first found line known place old mid kind honest unwritten ledger is read =
      λ h program held true_of.
      let held_on = keeps_unwritten old mid unwritten ledger h program held in
      let there = read (honest h) ∙ ap (λ (p : List ℕ). program_line_at p place) held_on.program_is in
      (kind h program held true_of.0, sym is ∙ there)

  pub reads_begin : (r : Reply) (first : LineKind) (line : Option ProgramLineModel) (place : ℕ)
      (old new : ControllerModel R)
      → place ≡ old.session.stored.place → FindingInForce seen first line old.lines place old.journal
      → KeepsProgram seen old.journal new.journal
      → ((program : List ℕ) → IsKnownOf program old.lines → line ≡ program_line_at program place
      → first ≡ first_kind (lines_before program place) → IsKnownOf program new.lines)
      → ((program : List ℕ) → first ≡ first_kind (lines_before program old.session.stored.place)
      → r ≡ (begin old.geometry program old.session line).reply)
      → ((program : List ℕ) → first ≡ first_kind (lines_before program old.session.stored.place)
      → new.session ≡ (begin old.geometry program old.session line).next)
      → ReadsProgram seen (Ok r)
      (λ program. begin old.geometry program old.session (program_line_at program old.session.stored.place)) old new
  reads_begin r first line place old new at finding keeps known replied next = λ h program has.
      let found = finding h program has.0 has.1 in
      let kind = found.0 ∙ ap (λ (n : ℕ). first_kind (lines_before program n)) at in
      let there = found.1 ∙ ap (λ (n : ℕ). program_line_at program n) at in
      let quiet = still_begin old.geometry program old.session (program_line_at program old.session.stored.place) in
      let here : HasInForce (seen new.journal.rig).trace new program =
      (keeps h program has.0, known program has.1 found.1 found.0) in (
        (
          replied program kind ∙ ap (λ (l : Option ProgramLineModel).
              (begin old.geometry program old.session l).reply) there,
          next program kind ∙ ap (λ (l : Option ProgramLineModel). (begin old.geometry program old.session l).next)
              there,
        ),
        subst (λ (p : List ℕ). HasInForce (seen new.journal.rig).trace new p) (sym quiet.program_is) here,
      )
