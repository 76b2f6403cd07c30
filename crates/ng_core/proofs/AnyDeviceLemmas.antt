-- What an event leads to with any device, from the contracts of its calls.
use Rattle.std.proofs.Common.{◌≡◌, ◌≢◌, ◌⊎◌, inl, inr, ℕ, true, false, List, length, Option, Some, None, Result, Ok, Err, refl, sym, ◌∙◌, ap, subst}
use Rattle.std.specs.Prelude.{IfErr}
use Rattle.ng_num.specs.declared.fault.Fault.{Fault}
use Rattle.ng_num.specs.declared.fault.Fault.TheVariants.{DeviceFailed, CountersUsed}
use Rattle.ng_canon.specs.declared.item.Item.{Item}
use Rattle.ng_layout.specs.Stored.{StoredModel}
use Rattle.ng_journal.specs.Journal.{JournalModel}
use Rattle.ng_journal.specs.Storing.{ledger_of}
use Rattle.ng_session.specs.Entries.{after_load}
use Rattle.ng_session.specs.Session.{CurrentBlockModel, SessionModel, Transition, answers, is_running}
use Rattle.ng_session.specs.Operator.{load, load_unless, load_refusal, loaded, session_status}
use Rattle.ng_session.specs.Ticking.{tick, end, item_of, handed, rest, committed}
use Rattle.ng_session.specs.declared.reply.Reply.{Reply}
use Rattle.ng_session.specs.declared.reply.Reply.TheVariants as reply
use Rattle.ng_core.specs.Model.{ControllerModel}
use Rattle.ng_core.specs.Events.{IsAnsweredAnyway, KeepsSession, handing}
use Rattle.ng_core.proofs.TickChoiceLemmas.{with_session}
use Rattle.ng_core.proofs.TickLemmas.{IsDue, tick_held, tick_item, rests_there}

-- the device wasn't called, or it failed
pub stays_same : {R : Type 0} (reads : Type 0) (fault : Fault) (old new : ControllerModel R)
    → new.session ≡ old.session → (fault ≢ DeviceFailed → new.journal ≡ old.journal)
    → KeepsSession reads fault old new
stays_same {R} reads fault old new same journal = record {
  status = ap session_status same;
  session = λ other. same;
  ledger = λ other. ap (λ (j : JournalModel R). ledger_of j) (journal other);
  journal = λ other none. journal other;
}

-- a line may be read in more cases
stays_wider : {R : Type 0} (reads wider : Type 0) (fault : Fault) (old new : ControllerModel R) → (reads → wider)
    → KeepsSession reads fault old new → KeepsSession wider fault old new
stays_wider reads wider fault old new wide s = record {
  status = s.status;
  session = s.session;
  ledger = s.ledger;
  journal = λ other none. s.journal other (λ r. none (wide r));
}

-- a counter was used up, or the device failed
pub unless_lost : {J : Type 0} (fault : Fault) (old new : J) → (fault ≡ CountersUsed) ⊎ (fault ≡ DeviceFailed)
    → (fault ≡ CountersUsed → new ≡ old) → fault ≢ DeviceFailed → new ≡ old
unless_lost fault old new (inl used) same other = same used
unless_lost fault old new (inr lost) same other = absurd (other lost)

pub comes_by : {R : Type 0} (reads : Type 0) (r : Reply) (out : List ℕ → Transition) (old new : ControllerModel R)
    → ((program : List ℕ) → r ≡ (out program).reply) → ((program : List ℕ) → new.session ≡ (out program).next) → IsAnsweredAnyway reads (Ok r) out old new
comes_by reads r out old new replied next = λ read program. (replied program, next program)

-- for an equal outcome, and if a line may be read in more cases
pub comes_to : {R : Type 0} (reads wider : Type 0) (answer : Result Reply Fault) (out wanted : List ℕ → Transition) (old new : ControllerModel R)
    → (reads → wider) → ((program : List ℕ) → out program ≡ wanted program)
    → IsAnsweredAnyway reads answer out old new → IsAnsweredAnyway wider answer wanted old new
comes_to reads wider (Ok r) out wanted old new wide equal comes = λ read program.
    let here = comes (λ p. read (wide p)) program in
    (here.0 ∙ ap (λ (o : Transition). o.reply) (equal program), here.1 ∙ ap (λ (o : Transition). o.next) (equal program))
comes_to reads wider (Err fault) out wanted old new wide equal stays = stays_wider reads wider fault old new wide stays

-- ---- a Tick: held, an item, a segment, an entry, a line, nothing

pub comes_held : {R : Type 0} (reads : Type 0) (c : ControllerModel R) → c.session.held ≡ true
    → IsAnsweredAnyway reads (Ok reply.Held) (λ program. tick c.geometry program c.session) c c
comes_held reads c held =
    comes_to reads reads (Ok reply.Held) (λ program. answers program reply.Held c.session) (λ program. tick c.geometry program c.session) c c (λ p. p)
    (λ program. sym (tick_held c.geometry program c.session held))
    (comes_by reads reply.Held (λ program. answers program reply.Held c.session) c c (λ program. refl) (λ program. refl))

comes_before : {R : Type 0} (answer : Result Reply Fault) (out : List ℕ → Transition) (old new : ControllerModel R)
    → IfErr answer (λ e. e ≡ DeviceFailed) → IsAnsweredAnyway ⊥ answer out (with_session old (handed old.session)) new → IsAnsweredAnyway ⊥ answer out old new
comes_before (Ok r) out old new errors comes = comes
comes_before (Err fault) out old new errors stays =
    record {
      status = stays.status;
      session = λ other. absurd (other errors);
      ledger = stays.ledger;
      journal =
          stays.journal;
    }

pub comes_item : {R : Type 0} (reads : Type 0) (answer : Result Reply Fault) (item : Item) (old new : ControllerModel R) (taken : SessionModel)
    → old.session.held ≡ false → Some item ≡ item_of old.session.current → taken ≡ handed old.session → IfErr answer (λ e. e ≡ DeviceFailed)
    → IsAnsweredAnyway ⊥ answer (λ program. handing item program taken) (with_session old taken) new
    → IsAnsweredAnyway reads answer (λ program. tick old.geometry program old.session) old new
comes_item reads answer item old new taken held is next errors comes =
    comes_to ⊥ reads answer (λ program. handing item program (handed old.session))
    (λ program. tick old.geometry program old.session) old new (λ none. absurd none)
    (λ program. sym (tick_item old.geometry program old.session item held (sym is)))
    (comes_before answer (λ program. handing item program (handed old.session)) old new errors
    (subst (λ (s : SessionModel). IsAnsweredAnyway ⊥ answer (λ program. handing item program s) (with_session old s) new) next comes))

pub comes_commit : {R : Type 0} (reads : Type 0) (r : Reply) (saved : StoredModel) (old new : ControllerModel R) (due : IsDue old.session saved)
    → r ≡ reply.Done (committed old.session due.block).stored.entries → new.session ≡ committed old.session due.block
    → IsAnsweredAnyway reads (Ok r) (λ program. end old.geometry program old.session old.session.current) old new
comes_commit reads r saved old new due replied next =
    comes_to reads reads (Ok r) (λ program. end old.geometry program old.session (Some due.block))
    (λ program. end old.geometry program old.session old.session.current) old new (λ p. p)
    (λ program. sym (ap (λ (o : Option CurrentBlockModel). end old.geometry program old.session o) due.current))
    (comes_by reads r (λ program. end old.geometry program old.session (Some due.block)) old new (λ program. replied) (λ program. next))

pub comes_rest : {R : Type 0} (reads : Type 0) (r : Reply) (c : ControllerModel R) → c.session.current ≡ None → is_running c.session.activity ≡ false
    → ((program : List ℕ) → r ≡ (rest program c.session).reply)
    → IsAnsweredAnyway reads (Ok r) (λ program. end c.geometry program c.session c.session.current) c c
comes_rest reads r c none idle replied =
    comes_to reads reads (Ok r) (λ program. rest program c.session) (λ program. end c.geometry program c.session c.session.current) c c (λ p. p)
    (λ program. sym (rests_there c.geometry program c.session none idle))
    (comes_by reads r (λ program. rest program c.session) c c replied (λ program. refl))

-- ---- a program

pub comes_load : {R : Type 0} (reads : Type 0) (r : Reply) (saved : StoredModel) (text : List ℕ) (old new : ControllerModel R)
    → load_refusal old.session text ≡ None → saved ≡ after_load old.session.stored (length text)
    → r ≡ reply.Done saved.entries → new.session ≡ loaded old.session saved
    → IsAnsweredAnyway reads (Ok r) (λ program. load program old.session text) old new
comes_load reads r saved text old new free is replied next =
    comes_to reads reads (Ok r) (λ program. load_unless program old.session text None) (λ program. load program old.session text) old new (λ p. p)
    (λ program. sym (ap (λ (o : Option Fault). load_unless program old.session text o) free))
    (comes_by reads r (λ program. load_unless program old.session text None) old new
    (λ program. replied ∙ ap (λ (x : StoredModel). reply.Done x.entries) is) (λ program. next ∙ ap (λ (x : StoredModel). loaded old.session x) is))
