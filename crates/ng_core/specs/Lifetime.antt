-- The lifetime of a device (own): power on after power on, each over what the stop before it left, with the events that
-- came after each. Of every call its contract is known, and nothing else. And what the plain interpreter makes of it.
use Rattle.std.specs.Prelude.{◌≡◌, ◌⊎◌, ◌≤◌, ℕ, ℤ, suc, Bool, true, false, if◌then◌else◌, List, [], ◌∷◌, ◌++◌}
use Rattle.std.specs.Prelude.{take, Option, Some, None, Result, Ok, OnOk}
use Rattle.ng_num.specs.declared.fault.Fault.{Fault}
use Rattle.ng_canon.specs.declared.geometry.Geometry.{Geometry}
use Rattle.ng_canon.specs.declared.item.Item.{Item}
use Rattle.ng_rig.specs.Rig.{Device}
use Rattle.ng_rig.specs.Trace.{Image, Trace, reads, items, moment, trace_at, IsStop}
use Rattle.ng_rig.specs.Continuation.{IsSynced}
use Rattle.ng_settings.specs.declared.standard.Settings.{Settings}
use Rattle.ng_layout.specs.Stands.{stands_beside, recovered, IsWritten}
use Rattle.ng_layout.specs.Stored.{DurableState}
use Rattle.ng_journal.specs.Formatting.{FormatSpec, fresh_standing}
use Rattle.ng_journal.specs.Growth.{IsGrown, with_limit_of}
use Rattle.ng_journal.specs.Journal.{StandsBeside, least_size}
use Rattle.ng_journal.specs.Recovery.{IsTableOver}
use Rattle.ng_session.specs.Runs.{session_at_power_on, entries_of, under_way, dones, lines_given}
use Rattle.ng_session.specs.declared.event.Event.{Event}
use Rattle.ng_session.specs.declared.reply.Reply.{Reply}
use Rattle.ng_core.specs.Model.{ControllerModel}
use Rattle.ng_core.specs.Moments.{answered_by}
use Rattle.ng_core.specs.Runs.{PassesAsSession, tried_events}
use Rattle.ng_core.specs.AnsweredEvents.{AreAnsweredEvents, answered_at}
use Rattle.ng_core.specs.Power.{PowerOnResult, PowerOnSpec, power_on_rig}
use Rattle.ng_core.specs.Lives.{CutSession, CommittedSession, state_after_session, items_of_session, KeepsToFold, SessionKeepsToFold}

-- ---- what happened

-- What a controller was given after power on: events, each with its reply and the moment at which it was answered; and
-- the controller before and after them.
pub record GivenEvents (A R : Type 0) : Type 0 where
  pub first : ControllerModel R
  pub events : List (Event A)
  pub replies : List Reply
  pub moments : List ℕ
  pub now : ControllerModel R

-- A session: whether the device was grown before it; the settings and the device of power on, and what that returned;
-- what the controller was given, `None` if power was cut within power on; and the stop: its moment, the image that it
-- left, and the items that were handed out in this session until then.
pub record DeviceSession (A R : Type 0) : Type 0 where
  pub is_grown : Bool
  pub settings : Settings
  pub rig : R
  pub answer : PowerOnResult R
  pub given : Option (GivenEvents A R)
  pub at : ℕ
  pub image : Image
  pub items : List Item

-- The session's stop came at its moment of this trace, from a moment on; these items were handed out before.
pub record StopsSession {A R : Type 0} (s : DeviceSession A R) (before : List Item) (first : ℕ) (trace : Trace) : Type 0 where
  pub from : first ≤ s.at
  pub until : s.at ≤ moment trace
  pub stop : IsStop (trace_at s.at trace) s.image (before ++ s.items)

-- Power was cut within power on, by a stop that the device couldn't have had before. Or it was cut after power on, while
-- the events were answered in turn, as `on` and `run` do.
abbrev pub EndsSession : {A R : Type 0} → (R → Device) → DeviceSession A R → Option (GivenEvents A R) → Type 0
EndsSession seen s None =
    let old = (seen s.rig).trace in
    StopsSession s (items old) (moment old) (seen (power_on_rig s.answer)).trace × (IsSynced old ⊎ (IsStop old s.image (items old ++ s.items) → ⊥))
EndsSession seen s (Some g) =
    StopsSession s (items (seen s.rig).trace) (moment (seen g.first.journal.rig).trace) (seen g.now.journal.rig).trace
    × (s.answer ≡ Ok g.first)
    × ((exchanges : AreAnsweredEvents seen g.events g.replies g.first g.now) × (g.moments ≡ answered_at seen g.events g.replies g.first g.now exchanges))

-- what power on found: the image that was left, or that of the grown device
abbrev pub IsFoundAs : Bool → Image → Image → Type 0
IsFoundAs false left found = found ≡ left
IsFoundAs true left found = IsGrown left found

-- A session over what was left before it, with an honest device and settings of this geometry.
pub record IsDeviceSession {A R : Type 0} (seen : R → Device) (geometry : Geometry) (left : Image) (s : DeviceSession A R) : Type 0 where
  pub honest : (seen s.rig).honest
  pub enough : least_size ≤ (seen s.rig).sectors
  pub found : IsFoundAs s.is_grown left (reads (seen s.rig).trace)
  pub geometry_is : s.settings.geometry ≡ geometry
  pub powers : PowerOnSpec seen s.settings s.rig s.answer
  pub ends : EndsSession seen s s.given

-- sessions, each over what the one before left
abbrev pub IsLifetime : {A R : Type 0} → (R → Device) → Geometry → Image → List (DeviceSession A R) → Type 0
IsLifetime seen geometry left [] = Unit {0}
IsLifetime seen geometry left (s ∷ ss) = IsDeviceSession seen geometry left s × IsLifetime seen geometry s.image ss

-- while the device is of format 1, the settings have this tool table
abbrev pub HasOneTable : {A R : Type 0} → List ℤ → Image → List (DeviceSession A R) → Type 0
HasOneTable tools left [] = Unit {0}
HasOneTable tools left (s ∷ ss) = IsTableOver s.settings.tools tools left × HasOneTable tools s.image ss

-- ---- what is kept of it

-- A session that was cut within power on, in terms of entries: it executed none.
abbrev pub cut_within : {A R : Type 0} → DeviceSession A R → CutSession
cut_within s = record { lines = []; executed = []; begun = []; acknowledged = 0; image = s.image; items = s.items }

-- A session that was cut after power on over a state: the entries that it executed for the events answered by then and
-- for the one under way, and what it had under way after that; as many were acknowledged as there were replies of Done.
-- An event that was refused for want of memory or of a counter isn't among those tried.
abbrev pub cut_after : {A R : Type 0} → Geometry → DurableState → DeviceSession A R → GivenEvents A R → (tried : List (Event A)) → CutSession
cut_after geometry x s g tried =
    let scene = session_at_power_on (recovered x) in
    let n = answered_by s.at g.moments in
    record {
      lines = lines_given (take (suc n) g.events);
      executed = entries_of geometry scene tried;
      begun = under_way geometry scene tried;
      acknowledged = dones (take n g.replies);
      image = s.image;
      items = s.items;
    }

-- The session keeps to the plain interpreter from a state on: it is accounted for by the first of the entries that it
-- executed, every acknowledged one among them and at most one more. Its events proceed as those of `ng_session` do.
abbrev pub KeepsToEntries : {A R : Type 0} → (R → Device) → Geometry → DurableState → DeviceSession A R → Option (GivenEvents A R)
    → Option CommittedSession → Type 0
KeepsToEntries seen geometry x s None committed = SessionKeepsToFold geometry x (cut_within s) committed
KeepsToEntries seen geometry x s (Some g) None = ⊥
KeepsToEntries seen geometry x s (Some g) (Some committed) =
    (p : PassesAsSession seen g.events g.replies g.moments geometry (session_at_power_on (recovered x)) (seen g.first.journal.rig).trace g.now)
    × KeepsToFold geometry x (cut_after geometry x s g (tried_events (take (suc (answered_by s.at g.moments)) g.events) p.answers)) committed

-- So the stop leaves the state after these entries, and what was handed out is what they hand out, with what may follow.
pub record SessionHolds {A R : Type 0} (seen : R → Device) (geometry : Geometry) (tools : List ℤ) (x : DurableState)
    (s : DeviceSession A R) (committed : Option CommittedSession) : Type 0 where
  pub entries : KeepsToEntries seen geometry x s s.given committed
  pub stands_for : StandsBeside tools (state_after_session geometry x committed) (items_of_session geometry x committed) s.image s.items

-- the state in which power on finds a device: that which was left, on a grown device with its limit
abbrev pub state_found : Bool → Image → DurableState → DurableState
state_found is_grown image x = if is_grown then with_limit_of image x else x

-- each session, from the state after the one before
abbrev pub LifetimeHolds : {A R : Type 0} → (R → Device) → Geometry → List ℤ → DurableState → List (DeviceSession A R) → Type 0
LifetimeHolds seen geometry tools x [] = Unit {0}
LifetimeHolds seen geometry tools x (s ∷ ss) =
    let found = state_found s.is_grown (reads (seen s.rig).trace) x in
    (committed : Option CommittedSession)
    × (SessionHolds seen geometry tools found s committed × LifetimeHolds seen geometry tools (state_after_session geometry found committed) ss)

-- ---- the laws

-- From a device on that was formatted, whatever tools the settings have.
abbrev pub KeepsFromFormat : {R : Type 0} → Type 0 → (R → Device) → Type 0
KeepsFromFormat {R} A seen = (result : Result (Unit {0}) Fault) (most : ℕ) (old new : Trace) → FormatSpec result most old new
    → OnOk result ((geometry : Geometry) (tools : List ℤ) (life : List (DeviceSession A R)) → IsLifetime seen geometry (reads new) life
    → LifetimeHolds seen geometry tools (fresh_standing most) life)

-- From any image on that only such a controller wrote, of either format; until it is of format 2, all settings have one
-- tool table.
abbrev pub KeepsFromImage : {R : Type 0} → Type 0 → (R → Device) → Type 0
KeepsFromImage {R} A seen = (geometry : Geometry) (tools : List ℤ) (left : Image) (x : DurableState) (life : List (DeviceSession A R))
    → stands_beside tools left ≡ Ok x → IsWritten left → HasOneTable tools left life → IsLifetime seen geometry left life
    → LifetimeHolds seen geometry tools x life
