-- The events since power on, and those that come after them.
use Rattle.std.proofs.Common.{◌≡◌, ℕ, ℤ, false, List, ◌++◌, Result, Ok, Err, refl, sym, ◌∙◌, ap, subst}
use Rattle.std.specs.Prelude.{IfOk}
use Rattle.ng_num.specs.declared.fault.Fault.{Fault}
use Rattle.ng_rig.specs.Rig.{Device}
use Rattle.ng_rig.specs.Calls.{IfHonest}
use Rattle.ng_rig.specs.Trace.{Trace, reads}
use Rattle.ng_layout.specs.Stands.{stands_beside}
use Rattle.ng_layout.specs.Stored.{DurableState}
use Rattle.ng_journal.specs.Recovery.{recovered_of}
use Rattle.ng_session.specs.Session.{SessionModel, resting}
use Rattle.ng_session.specs.declared.event.Event.{Event}
use Rattle.ng_session.specs.declared.reply.Reply.{Reply}
use Rattle.ng_core.specs.Model.{ControllerModel, IsAtRestWith}
use Rattle.ng_core.specs.Power.{PowerOnResult, PowerOnSpecIfHonest, IsControllerRecovered}
use Rattle.ng_core.specs.AnsweredEvents.{AreAnsweredEvents, answered_at}
use Rattle.ng_core.specs.Runs.{IsRun}
use Rattle.ng_core.specs.Headline.{IsPoweredOn, IsPast, BeginsPast, AddsToPast, AreRun}
use Rattle.ng_core.proofs.ExchangeLemmas.{exchanges_joined_at, exchanges_ran}
use Rattle.ng_core.proofs.AccountLemmas.{accounts}

pub adds_to_past : {A R : Type 0} (seen : R → Device) (events : List (Event A)) (replies : List Reply) (old new : ControllerModel R)
    → (t : AreAnsweredEvents seen events replies old new)
    → IfHonest (seen old.journal.rig) (seen new.journal.rig) (AddsToPast seen events replies (answered_at seen events replies old new t) old new)
adds_to_past seen events replies old new t = record {
  keeps = (exchanges_ran seen events replies old new t).keeps;
  back = (exchanges_ran seen events replies old new t).back;
  holds = λ h x past told before first is.
      let moments = answered_at seen events replies old new t in
      let joined = exchanges_joined_at seen past events told replies first old new is.exchanges t in
      let whole : IsPast seen x (past ++ events) (told ++ replies) (before ++ moments) first new =
      record { began = is.began; exchanges = joined.0; answered = ap (λ (l : List ℕ). l ++ moments) is.answered ∙ sym joined.1 } in (
        whole,
        accounts seen x (past ++ events) (told ++ replies) (before ++ moments) first new
            ((exchanges_ran seen past told first old is.exchanges).back h) whole,
      );
}

-- all that is said of events answered in turn, with the moments at which they were answered
pub are_run : {A R : Type 0} (seen : R → Device) (events : List (Event A)) (replies : List Reply) (moments : List ℕ) (old new : ControllerModel R)
    → (t : AreAnsweredEvents seen events replies old new) → moments ≡ answered_at seen events replies old new t
    → AreRun seen events replies moments old new
are_run seen events replies moments old new t is = record {
  exchanges = t;
  answered = is;
  ran = subst (λ (l : List ℕ). IfHonest (seen old.journal.rig) (seen new.journal.rig) (IsRun seen events replies l old new)) (sym is)
      (exchanges_ran seen events replies old new t);
  past = subst (λ (l : List ℕ). IfHonest (seen old.journal.rig) (seen new.journal.rig) (AddsToPast seen events replies l old new)) (sym is)
      (adds_to_past seen events replies old new t);
}

pub powered_on : {R : Type 0} (tools : List ℤ) (seen : R → Device) (c : ControllerModel R) (old : Trace)
    (x : DurableState) → (c.journal.broken ≡ false) × (c.session ≡ resting c.journal.saved)
    → IsControllerRecovered tools c old (seen c.journal.rig).trace → recovered_of (stands_beside tools (reads old)) ≡ Ok x → IsPoweredOn seen x c
powered_on tools seen c old x begun r is =
    let same : record { saved = c.session.stored; program = r.program } ≡ x = ok_same (sym r.is ∙ is) in
    let stored : c.session ≡ resting c.session.stored = begun.1 ∙ ap (λ s. resting s) (sym (ap (λ (s : SessionModel). s.stored) begun.1)) in
    record {
      whole = begun.0;
      session = stored ∙ ap (λ (s : DurableState). resting s.saved) same;
      rests = subst (λ (s : DurableState). IsAtRestWith (seen c.journal.rig).trace c s.program) same r.rests;
    }
  where
    ok_same : {s t : DurableState} → (let a : Result DurableState Fault = Ok s in a) ≡ Ok t → s ≡ t
    ok_same e = cc

pub begins_past : {R : Type 0} (A : Type 0) (tools : List ℤ) (seen : R → Device) (result : PowerOnResult R) (old new : Trace)
    → IfOk result (λ c. (new ≡ (seen c.journal.rig).trace) × (c.journal.broken ≡ false) × (c.session ≡ resting c.journal.saved))
    → PowerOnSpecIfHonest tools result old new → BeginsPast A tools seen result old
begins_past A tools seen (Ok c) old new begun p = λ written x is.
    record {
      began = powered_on tools seen c old x (begun.1, begun.2)
          (subst (λ (l : Trace). IsControllerRecovered tools c old l) begun.0 (p.rests written)) is;
      exchanges = refl;
      answered = refl;
    }
begins_past A tools seen (Err e) old new begun p = λ written. tt
