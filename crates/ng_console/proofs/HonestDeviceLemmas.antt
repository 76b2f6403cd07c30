-- A console leaves an honest device honest.
use Rattle.std.proofs.Common.{◌≡◌, ◌⊎◌, inl, inr, ◌<◌, ◌≤◌, ℕ, List, [], ◌∷◌, ◌++◌, Bool, true, false, Option, Result, Ok, Err, refl, sym, subst, arith}
use Rattle.std.specs.Prelude.{IsErrAnd}
use Rattle.ng_num.specs.declared.fault.Fault.{Fault}
use Rattle.ng_num.specs.declared.fault.Fault.TheVariants.{NotFormatted}
use Rattle.ng_rig.specs.Rig.{Device}
use Rattle.ng_settings.specs.declared.standard.Settings.{Settings}
use Rattle.ng_layout.specs.Areas.{least_size}
use Rattle.ng_session.specs.declared.event.Event.{Event}
use Rattle.ng_session.specs.declared.reply.Reply.{Reply}
use Rattle.ng_core.specs.AnsweredEvents.{AreAnsweredEvents, IsAnsweredEvent}
use Rattle.ng_core.specs.Model.{ControllerModel}
use Rattle.ng_core.specs.Power.{PowerOnResult, PowerOnSpec, power_on_rig}
use Rattle.ng_run.specs.Consoles.{ConsoleAfterPowerOn, ConsoleSpec}
use Rattle.ng_run.specs.Talks.{events_in, replies_in}
use Rattle.ng_run.specs.declared.ending.ConsoleEnd.{ConsoleEnd}
use Rattle.ng_run.specs.declared.ending.ConsoleAbort.{ConsoleAbort}

-- so does an event
honest-after : {A R : Type 0} (seen : R → Device) (event : Event A) (r : Reply) (broken : Bool) (old new : ControllerModel R) → old.journal.broken ≡ broken
    → IsAnsweredEvent seen event r old new → (seen old.journal.rig).honest → (seen new.journal.rig).honest
honest-after seen event r false old new is t honest = (t.serves is).carried.does.keeps honest
honest-after {R = R} seen event r true old new is t honest =
    subst (λ (c : ControllerModel R). (seen c.journal.rig).honest) (sym (t.refuses is).0) honest

pub honest-after-all : {A R : Type 0} (seen : R → Device) (events : List (Event A)) (replies : List Reply) (old new : ControllerModel R)
    → AreAnsweredEvents seen events replies old new → (seen old.journal.rig).honest → (seen new.journal.rig).honest
honest-after-all {R = R} seen [] [] old new t honest = subst (λ (c : ControllerModel R). (seen c.journal.rig).honest) (sym t) honest
honest-after-all seen [] (r ∷ replies) old new t honest = absurd t
honest-after-all seen (event ∷ events) [] old new t honest = absurd t
honest-after-all seen (event ∷ events) (r ∷ replies) old new t honest =
    honest-after-all seen events replies t.0 new t.1.1 (honest-after seen event r old.journal.broken old t.0 refl t.1.0 honest)

-- so does power on, also over a device that is too small
pub honest-powered : {R : Type 0} (seen : R → Device) (settings : Settings) (rig : R) (answer : PowerOnResult R) → PowerOnSpec seen settings rig answer
    → (seen rig).honest → (seen (power_on_rig answer)).honest
honest-powered {R} seen settings rig answer spec honest = elim (side (seen rig).sectors least_size) [
  | inl few ↦ refused answer (spec.small few)
  | inr enough ↦ (spec.powers enough settings.tools (λ header force format. refl)).keeps honest
]
  where
    side : (n m : ℕ) → (n < m) ⊎ (m ≤ n)
    side n m = grind arith

    refused : (answer : PowerOnResult R) → IsErrAnd answer (λ e. (e.0 ≡ NotFormatted) × (e.1 ≡ rig)) → (seen (power_on_rig answer)).honest
    refused (Ok c) is = absurd is
    refused (Err e) is = subst (λ (r : R). (seen r).honest) (sym is.1) honest

pub honest-console : {A R : Type 0} (seen : R → Device) (settings : Settings) (rig : R) (text old new : Option (List ℕ)) (status : ℕ) (left : R)
    → ConsoleSpec A seen settings rig text old new (status, left) → (seen rig).honest → (seen left).honest
honest-console {A} {R} seen settings rig text old new status left spec honest =
    by spec.2.powered (honest-powered seen settings rig spec.2.powered spec.2.starts honest) spec.2.continues_ticks
  where
    by : (powered : PowerOnResult R) → (seen (power_on_rig powered)).honest → ConsoleAfterPowerOn A seen powered spec.0 left text old new → (seen left).honest
    by (Ok c) powered after =
        let talk = after.1.answered ++ after.1.begun in
        subst (λ (r : R). (seen r).honest) (sym after.2) (honest-after-all seen (events_in talk) (replies_in talk) c after.0 after.1.given powered)
    by (Err e) powered after = subst (λ (r : R). (seen r).honest) (sym after.0) powered
