-- What events do to a controller and to its device, one after another, with any device (own).
use Rattle.std.specs.Prelude.{◌≡◌, ℕ, true, false, List, [], ◌∷◌}
use Rattle.ng_rig.specs.Rig.{Device}
use Rattle.ng_rig.specs.Trace.{moment}
use Rattle.ng_session.specs.declared.event.Event.{Event}
use Rattle.ng_session.specs.declared.reply.Reply.{Reply}
use Rattle.ng_core.specs.Events.{Handles, reply_to, broken_answer}
use Rattle.ng_core.specs.Model.{ControllerModel}

-- An event with its reply: a whole controller handles it, a broken one refuses it.
pub record IsAnsweredEvent {A R : Type 0} (seen : R → Device) (event : Event A) (r : Reply) (old new : ControllerModel R) : Type 0 where
  pub serves : old.journal.broken ≡ false → Handles seen event r old new
  pub refuses : old.journal.broken ≡ true → (new ≡ old) × (r ≡ reply_to (broken_answer old.session event))

-- events with their replies, each from the controller and device that the one before left
abbrev pub AreAnsweredEvents : {A R : Type 0} → (R → Device) → List (Event A) → List Reply → ControllerModel R → ControllerModel R → Type 0
AreAnsweredEvents seen [] [] old new = new ≡ old
AreAnsweredEvents seen [] (r ∷ replies) old new = ⊥
AreAnsweredEvents seen (event ∷ events) [] old new = ⊥
AreAnsweredEvents {A} {R} seen (event ∷ events) (r ∷ replies) old new =
    (between : ControllerModel R) × (IsAnsweredEvent seen event r old between × AreAnsweredEvents seen events replies between new)

-- the moments of the device's trace at which they were answered
abbrev pub answered_at : {A R : Type 0} (seen : R → Device) (events : List (Event A)) (replies : List Reply)
    (old new : ControllerModel R) → AreAnsweredEvents seen events replies old new → List ℕ
answered_at seen [] replies old new exchanges = []
answered_at seen (event ∷ events) [] old new exchanges = []
answered_at seen (event ∷ events) (r ∷ replies) old new exchanges =
    moment (seen exchanges.0.journal.rig).trace ∷ answered_at seen events replies exchanges.0 new exchanges.1.1
