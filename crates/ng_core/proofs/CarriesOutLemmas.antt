-- Everything that an event leaves, from the contracts of its calls.
use Rattle.std.proofs.Common.{◌≡◌, ◌⊎◌, inl, inr, ℕ, true, false, List, [], Option, Some, None, Result, Ok, Err, refl, sym, ◌∙◌, ap, subst}
use Rattle.std.proofs.lemmas.Result.{IfErr-weaker}
use Rattle.std.specs.Option.{is_some}
use Rattle.std.specs.Prelude.{IfOk, IfErr}
use Rattle.ng_num.specs.declared.fault.Fault.{Fault}
use Rattle.ng_num.specs.declared.fault.Fault.TheVariants.{DeviceFailed, CountersUsed, OutOfMemory}
use Rattle.ng_canon.specs.declared.item.Item.{Item}
use Rattle.ng_rig.specs.Rig.{Device}
use Rattle.ng_journal.specs.Journal.{JournalModel, JournalCall}
use Rattle.ng_journal.specs.Storing.{Ledger, ledger_of}
use Rattle.ng_session.specs.Session.{CurrentBlockModel, SessionModel, Transition, is_running, refuses, answers}
use Rattle.ng_session.specs.Operator.{session_status}
use Rattle.ng_session.specs.Ticking.{tick, open_next, item_of, handed, opening_of}
use Rattle.ng_session.specs.Step.{IsBetweenLines, has_work}
use Rattle.ng_session.specs.declared.reply.Reply.{Reply}
use Rattle.ng_session.specs.declared.reply.Reply.TheVariants as reply
use Rattle.ng_core.specs.Model.{ControllerModel}
use Rattle.ng_core.specs.Needs.{Needs, needs, needs_device, needs_of_work}
use Rattle.ng_core.specs.Events.{CarriesOut, CallsIfHonest, IsAnsweredByLine, IsCarriedOutIfHonest, handing}
use Rattle.ng_core.specs.Causes.{UsesUpCounter, IsCausedBy}
use Rattle.ng_core.proofs.AnyDeviceLemmas.{stays_same, unless_lost, comes_by, comes_to, comes_held, comes_item}
use Rattle.ng_core.proofs.HonestCallLemmas.{MakesIfHonest, calls_none, calls_on, calls_quiet, ledger_on, ledger_quiet}
use Rattle.ng_core.proofs.TickChoiceLemmas.{with_session, does_item}
use Rattle.ng_core.proofs.HonestEventLemmas.{does_still, does_aside}
use Rattle.ng_core.proofs.ProgramInForceLemmas.{keeps_same, reads_on, reads_still, reads_aside, reads_lost, reads_unstored, reads_item}
use Rattle.ng_core.proofs.EventCauseLemmas.{hindered_as, busy_block, busy_unread}
use Rattle.ng_core.proofs.QuietEventLemmas.{IsStill, still}
use Rattle.ng_core.proofs.TickLemmas.{does_on, does_held, tick_held, tick_item, tick_none}

-- what a Tick needs
abbrev needs_of_tick : SessionModel → Needs
needs_of_tick s = needs ⊥ ((s.held ≡ false) × (has_work s ≡ true)) ((s.held ≡ false) × IsBetweenLines s)

module _ {R : Type 0} (seen : R → Device) where
  -- ---- equal controllers and outcomes

  -- from an equal controller
  pub carried_as : (memory device reads : ControllerModel R → Type 0) (out : ControllerModel R → List ℕ
      → Transition) (answer : Result Reply Fault) (old mid new : ControllerModel R)
      → mid ≡ old → CarriesOut seen (needs (memory mid) (device mid) (reads mid)) (out mid) answer mid new
      → CarriesOut seen (needs (memory old) (device old) (reads old)) (out old) answer old new
  carried_as memory device reads out answer old mid new same c =
      subst (λ (x : ControllerModel R). CarriesOut seen (needs (memory x) (device x) (reads x)) (out x) answer x new) same c

  -- for an equal outcome, and if memory and the device are needed in more cases; a line is read in the same cases
  pub carried_to : (memory m device d reads e : Type 0) (out wanted : List ℕ → Transition) (answer : Result Reply Fault) (old new : ControllerModel R)
      → (memory → m) → (device → d) → (reads → e) → (e → reads) → ((program : List ℕ) → out program ≡ wanted program)
      → CarriesOut seen (needs memory device reads) out answer old new → CarriesOut seen (needs m d e) wanted answer old new
  carried_to memory m device d reads e out wanted answer old new f g h back equal c = record {
    does = does_on seen answer out wanted old old new refl equal c.does;
    calls = calls_on seen answer out wanted old new equal c.calls;
    reads = reads_on seen answer out wanted old new equal c.reads;
    comes = comes_to reads e answer out wanted old new h equal c.comes;
    line = λ read. subst (λ (f : List ℕ → Transition). IfOk answer (λ r. IsAnsweredByLine r f old new)) (λ i program. equal program i) (c.line (back read));
    ledger = ledger_on seen answer out wanted old new equal c.ledger;
    hindered = IfErr-weaker answer (IsCausedBy memory device (ledger_of old.journal) out) (IsCausedBy m d (ledger_of old.journal) wanted)
        (hindered_as {m = memory} {n = m} {d = device} {e = d} (ledger_of old.journal) out wanted f g equal) c.hindered;
    broken = c.broken;
    geometry = c.geometry;
    size = c.size;
    failures = c.failures;
  }

  -- ---- the device isn't called

  -- the session replied
  pub carried_still : (memory device reads : Type 0) (r : Reply) (out : List ℕ → Transition) (old new : ControllerModel R)
      → old.journal.broken ≡ false → (reads → ⊥) → ((program : List ℕ) → IsStill program old.session.stored (out program))
      → new.journal ≡ old.journal → new.lines ≡ old.lines → new.geometry ≡ old.geometry
      → ((program : List ℕ) → r ≡ (out program).reply) → ((program : List ℕ) → new.session ≡ (out program).next)
      → CarriesOut seen (needs memory device reads) out (Ok r) old new
  carried_still memory device reads r out old new whole unread quiet same lines geometry replied next = record {
    does = does_still seen r out old new quiet same lines replied next;
    calls = calls_quiet seen r out old new quiet (λ h. ap (λ (j : JournalModel R). (seen j.rig).trace) same);
    reads = reads_still seen r out old new quiet same lines replied next;
    comes = comes_by reads r out old new replied next;
    line = λ read. absurd (unread read);
    ledger = ledger_quiet seen out old new quiet (ap (λ (j : JournalModel R). ledger_of j) same);
    hindered = tt;
    broken = ap (λ (j : JournalModel R). j.broken) same ∙ whole;
    geometry = geometry;
    size = ap (λ (j : JournalModel R). (seen j.rig).sectors) same;
    failures = ap (λ (j : JournalModel R). (seen j.rig).failed) same;
  }

  -- the session refused
  pub carried_refused : (memory device reads : Type 0) (fault : Fault) (out : List ℕ → Transition) (c : ControllerModel R)
      → c.journal.broken ≡ false → (reads → ⊥) → ((program : List ℕ) → refuses program fault c.session ≡ out program)
      → CarriesOut seen (needs memory device reads) out (Ok (reply.Refused fault)) c c
  carried_refused memory device reads fault out c whole unread equal =
      carried_to memory memory device device reads reads (λ program. refuses program fault c.session) out
      (Ok (reply.Refused fault)) c c (λ m. m) (λ d. d) (λ e. e) (λ e. e) equal
      (carried_still memory device reads (reply.Refused fault) (λ program. refuses program fault c.session) c c
      whole unread (λ program. still refl refl refl refl) refl refl refl (λ program. refl) (λ program. refl))

  -- there was no memory
  pub carried_short : (memory device reads : Type 0) (fault : Fault) (out : List ℕ → Transition) (old new : ControllerModel R)
      → old.journal.broken ≡ false → fault ≡ OutOfMemory → memory
      → new.journal ≡ old.journal → new.lines ≡ old.lines → new.geometry ≡ old.geometry → new.session ≡ old.session
      → CarriesOut seen (needs memory device reads) out (Err fault) old new
  carried_short memory device reads fault out old new whole is taken same lines geometry unmoved =
      let short : CarriesOut seen (needs memory device reads) out (Err OutOfMemory) old new = record {
        does = does_aside seen OutOfMemory out old new (inl refl) same lines unmoved;
        calls = calls_none seen OutOfMemory out old new (λ h. ap (λ (j : JournalModel R). (seen j.rig).trace) same);
        reads = reads_aside seen OutOfMemory out old new (inl refl) unmoved lines
            (keeps_same seen old.journal new.journal same);
        comes = stays_same reads OutOfMemory old new unmoved (λ other. same);
        line = λ read. tt;
        ledger = tt;
        hindered = inl (refl, taken);
        broken = ap (λ (j : JournalModel R). j.broken) same ∙ whole;
        geometry = geometry;
        size = ap (λ (j : JournalModel R). (seen j.rig).sectors) same;
        failures = ap (λ (j : JournalModel R). (seen j.rig).failed) same;
      } in
      subst (λ (f : Fault). CarriesOut seen (needs memory device reads) out (Err f) old new) (sym is) short

  -- a counter is used up, as was checked before
  pub carried_used : (memory device reads : Type 0) (out : List ℕ → Transition) (c : ControllerModel R)
      → c.journal.broken ≡ false → IsCausedBy memory device (ledger_of c.journal) out CountersUsed
      → CarriesOut seen (needs memory device reads) out (Err CountersUsed) c c
  carried_used memory device reads out c whole hindered = record {
    does = does_aside seen CountersUsed out c c (inr refl) refl refl refl;
    calls = calls_none seen CountersUsed out c c (λ h. refl);
    reads = reads_aside seen CountersUsed out c c (inr refl) refl refl (keeps_same seen c.journal c.journal refl);
    comes = stays_same reads CountersUsed c c refl (λ other. refl);
    line = λ read. tt;
    ledger = tt;
    hindered = hindered;
    broken = whole;
    geometry = refl;
    size = refl;
    failures = refl;
  }

  -- ---- the device is called

  -- to store something: a counter is used up, or the device failed
  pub carried_failed : {T : Type 0} (memory device reads : Type 0) (fault e : Fault) (out : List ℕ → Transition) (old new : ControllerModel R)
      → fault ≡ e → IsCarriedOutIfHonest seen (Err e) out old new → MakesIfHonest seen (Err e) out old new
      → (e ≡ CountersUsed) ⊎ (e ≡ DeviceFailed) → (e ≡ CountersUsed → new.journal ≡ old.journal)
      → new.geometry ≡ old.geometry → new.session ≡ old.session → new.lines ≡ old.lines
      → IsCausedBy memory device (ledger_of old.journal) out e → JournalCall {T = T} seen (Err e) old.journal new.journal
      → CarriesOut seen (needs memory device reads) out (Err fault) old new
  carried_failed memory device reads fault e out old new is does made which unchanged geometry unmoved lines hindered call =
      let there : CarriesOut seen (needs memory device reads) out (Err e) old new = record {
        does = does;
        calls = λ h program. record {
          calls = made h program;
          unchanged = λ other. ap (λ (j : JournalModel R). (seen j.rig).trace) (unless_lost e old.journal new.journal which unchanged other);
        };
        reads = reads_unstored seen e out old new which unchanged unmoved lines;
        comes = stays_same reads e old new unmoved (unless_lost e old.journal new.journal which unchanged);
        line = λ read. tt;
        ledger = tt;
        hindered = hindered;
        broken = call.broken;
        geometry = geometry;
        size = call.size;
        failures = call.failures;
      } in
      subst (λ (f : Fault). CarriesOut seen (needs memory device reads) out (Err f) old new) (sym is) there

  -- for something that uses up no counter, and the device failed
  pub carried_lost : {T : Type 0} (memory device reads : Type 0) (fault e : Fault) (out : List ℕ → Transition) (old new : ControllerModel R)
      → fault ≡ e → IsCarriedOutIfHonest seen (Err e) out old new → CallsIfHonest seen (Err e) out old new
      → e ≡ DeviceFailed → device → ((program : List ℕ) → UsesUpCounter (ledger_of old.journal) (out program)
      → ⊥)
      → new.geometry ≡ old.geometry → new.session ≡ old.session → JournalCall {T = T} seen (Err e) old.journal new.journal
      → CarriesOut seen (needs memory device reads) out (Err fault) old new
  carried_lost memory device reads fault e out old new is does calls lost asked unused geometry unmoved call =
      let there : CarriesOut seen (needs memory device reads) out (Err e) old new = record {
        does = does;
        calls = calls;
        reads = reads_lost seen e out old new lost (ap session_status unmoved);
        comes = stays_same reads e old new unmoved (λ other. absurd (other lost));
        line = λ read. tt;
        ledger = tt;
        hindered = inr (inr (lost, asked, unused));
        broken = call.broken;
        geometry = geometry;
        size = call.size;
        failures = call.failures;
      } in
      subst (λ (f : Fault). CarriesOut seen (needs memory device reads) out (Err f) old new) (sym is) there

  -- ---- a Tick

  pub carried_held : (memory device reads : Type 0) (c : ControllerModel R) → c.journal.broken ≡ false → (reads → ⊥) → c.session.held ≡ true
      → CarriesOut seen (needs memory device reads) (λ program. tick c.geometry program c.session) (Ok reply.Held) c c
  carried_held memory device reads c whole unread held = record {
    does = does_held seen c held;
    calls = calls_on seen (Ok reply.Held) (λ program. answers program reply.Held c.session)
        (λ program. tick c.geometry program c.session) c c
        (λ program. sym (tick_held c.geometry program c.session held))
        (calls_quiet seen reply.Held (λ program. answers program reply.Held c.session) c c (λ program. still refl refl refl refl) (λ h. refl));
    reads = reads_on seen (Ok reply.Held) (λ program. answers program reply.Held c.session)
        (λ program. tick c.geometry program c.session) c c
        (λ program. sym (tick_held c.geometry program c.session held))
        (reads_still seen reply.Held (λ program. answers program reply.Held c.session) c c
        (λ program. still refl refl refl refl) refl refl (λ program. refl) (λ program. refl));
    comes = comes_held reads c held;
    line = λ read. absurd (unread read);
    ledger = ledger_on seen (Ok reply.Held) (λ program. answers program reply.Held c.session)
        (λ program. tick c.geometry program c.session) c c
        (λ program. sym (tick_held c.geometry program c.session held)) (λ program. refl);
    hindered = tt;
    broken = whole;
    geometry = refl;
    size = refl;
    failures = refl;
  }

  some_item : (o : Option CurrentBlockModel) (item : Item) → Some item ≡ item_of o → is_some o ≡ true
  some_item None item is = absurd (let none : Option Item = None in let z : none ≡ Some item = sym is in cc)
  some_item (Some c) item is = refl

  -- what is handed out uses up no counter and needs no memory
  lost_alone : (ledger : Ledger) (item : Item) (s : SessionModel) (fault : Fault)
      → IsCausedBy ⊥ (Unit {0}) ledger (λ program. handing item program s) fault → fault ≡ DeviceFailed
  lost_alone ledger item s fault (inl short) = absurd short.1
  lost_alone ledger item s fault (inr (inl used)) = absurd (used.1 [])
  lost_alone ledger item s fault (inr (inr lost)) = lost.0

  pub carried_item : (answer : Result Reply Fault) (item : Item) (old new : ControllerModel R) (taken : SessionModel)
      → old.session.held ≡ false → Some item ≡ item_of old.session.current → taken ≡ handed old.session
      → CarriesOut seen needs_device (λ program. handing item program taken) answer (with_session old taken) new
      → CarriesOut seen (needs_of_tick old.session) (λ program. tick old.geometry program old.session) answer old new
  carried_item answer item old new taken held is next c =
      let ledger = ledger_of old.journal in
      let errors : IfErr answer (λ e. e ≡ DeviceFailed) =
      IfErr-weaker answer (IsCausedBy ⊥ (Unit {0}) ledger (λ program. handing item program taken))
      (λ e. e ≡ DeviceFailed) (lost_alone ledger item taken) c.hindered in
      let comes =
      comes_item ((old.session.held ≡ false) × IsBetweenLines old.session) answer item old new taken held is next errors
      c.comes in
      record {
        does = does_item seen answer item old new taken held is next errors c.does;
        reads = reads_item seen ((old.session.held ≡ false) × IsBetweenLines old.session) answer item old new taken
            held is next errors comes c.reads;
        calls = calls_on seen answer (λ program. handing item program taken) (λ program. tick old.geometry program old.session) old new
            (λ program. ap (handing item program) next ∙ sym (tick_item old.geometry program old.session item held (sym is))) c.calls;
        comes = comes;
        line = λ read. absurd (busy_unread old.session (some_item old.session.current item is) read.1);
        ledger = ledger_on seen answer (λ program. handing item program taken) (λ program. tick old.geometry program old.session) old new
            (λ program. ap (handing item program) next ∙ sym (tick_item old.geometry program old.session item held (sym is))) c.ledger;
        hindered = IfErr-weaker answer (λ e. e ≡ DeviceFailed)
            (IsCausedBy ⊥ ((old.session.held ≡ false)
            × (has_work old.session ≡ true)) ledger (λ program. tick old.geometry program old.session))
            (λ e lost. inr (inr (
              lost,
              (held, busy_block (is_running old.session.activity) old.session.current (some_item old.session.current item is)),
              λ program used. subst (λ (o : Transition). UsesUpCounter ledger o) (tick_item old.geometry program old.session item held (sym is)) used,
            ))) errors;
        broken = c.broken;
        geometry = c.geometry;
        size = c.size;
        failures = c.failures;
      }

  pub carried_further : (answer : Result Reply Fault) (old new : ControllerModel R) (left : SessionModel)
      → old.session.held ≡ false → None ≡ item_of old.session.current → left ≡ old.session
      → CarriesOut seen (needs_of_work left) (λ program. open_next old.geometry program left (opening_of left.current)) answer (with_session old left) new
      → CarriesOut seen (needs_of_tick old.session) (λ program. tick old.geometry program old.session) answer old new
  carried_further answer old new left held none same c =
      carried_to ⊥ ⊥
      (has_work old.session ≡ true) ((old.session.held ≡ false) × (has_work old.session ≡ true))
      (IsBetweenLines old.session) ((old.session.held ≡ false) × IsBetweenLines old.session)
      (λ program. open_next old.geometry program old.session (opening_of old.session.current)) (λ program. tick old.geometry program old.session) answer old new
      (λ m. m) (λ b. (held, b)) (λ p. (held, p)) (λ read. read.1) (λ program. sym (tick_none old.geometry program old.session held (sym none)))
      (subst (λ (s : SessionModel). CarriesOut seen (needs_of_work s)
      (λ program. open_next old.geometry program s (opening_of s.current)) answer (with_session old s) new) same
      c)
