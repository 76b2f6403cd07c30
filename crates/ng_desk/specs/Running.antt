-- What a history's events did to its controller (own). Everything that is said of a controller here is what its own
-- functions guarantee.
use Rattle.std.specs.Prelude.{◌≡◌, ℕ, List, Option, Some, length, sum_by}
use Rattle.ng_rig.specs.Rig.{Device}
use Rattle.ng_session.specs.declared.event.Event.{Event}
use Rattle.ng_session.specs.declared.reply.Reply.{Reply}
use Rattle.ng_core.specs.Model.{ControllerModel}
use Rattle.ng_core.specs.Runs.{CountsOneFailure}
use Rattle.ng_core.specs.Headline.{AreRun}
use Rattle.ng_desk.specs.declared.call.Call.{Call}
use Rattle.ng_desk.specs.Calls.{Seated, NumberedFrom, events_of, replies_of, lists_of}

-- a book as its callers see it: the controller, the history of everything that it was given, and the moments of its
-- device's trace at which the events were answered
pub record Booked (R A : Type 0) : Type 0 where
  pub controller : ControllerModel R
  pub history : List (Call A)
  pub moments : List ℕ

-- What `run` guarantees for these events with these replies, answered at these moments, from one controller to another.
pub record IsPromisedRun {A R : Type 0} (seen : R → Device) (events : List (Event A)) (replies : List Reply)
    (moments : List ℕ) (old new : ControllerModel R) : Type 0 where
  pub runs : AreRun seen events replies moments old new
  pub each : length replies ≡ length events
  pub failures : CountsOneFailure old.journal.broken new.journal.broken (seen old.journal.rig).failed (seen new.journal.rig).failed
  pub geometry : new.geometry ≡ old.geometry
  pub size : (seen new.journal.rig).sectors ≡ (seen old.journal.rig).sectors

-- the same for a history, from the controller where it started
abbrev pub RunsFrom : {A R : Type 0} → (R → Device) → Option (ControllerModel R) → List (Call A) → (moments : List ℕ) → ControllerModel R → Type 0
RunsFrom {A} {R} seen start history moments now =
    (first : ControllerModel R) → start ≡ Some first → IsPromisedRun seen (events_of history) (replies_of history) moments first now

-- A desk with these seats was closed. The history's numbers count up from 0, and it ran at some moments. The lists of
-- the seats are as they were, and the history is as long as all of them together.
pub record IsClosed {A R : Type 0} (seen : R → Device) (start : Option (ControllerModel R))
    (seats : List (Seated A)) (controller : ControllerModel R) (history : List (Call A)) (left : List (Seated A)) :
    Type 0 where
  pub moments : List ℕ
  pub runs : RunsFrom seen start history moments controller
  pub numbered : NumberedFrom 0 history
  pub each : length history ≡ sum_by (λ seat. length seat.calls) seats
  pub lists : lists_of left ≡ lists_of seats
