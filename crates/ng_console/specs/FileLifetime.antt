-- The lifetime of a device in a file (own): power on after power on, each over the bytes that the loss of power before it
-- left in the file.
use Rattle.std.specs.Prelude.{◌≡◌, ◌≤◌, true, false, List, ◌∷◌, Option, None, Some, Result, Ok, OnOk, ℕ, ℤ, []}
use Rattle.ng_num.specs.declared.fault.Fault.{Fault}
use Rattle.ng_canon.specs.declared.geometry.Geometry.{Geometry}
use Rattle.ng_rig.specs.Trace.{Image, Trace, reads, items, moment, trace_at}
use Rattle.ng_layout.specs.Areas.{least_size}
use Rattle.ng_layout.specs.Stands.{is_large, stands_beside, IsWritten}
use Rattle.ng_layout.specs.Stored.{DurableState}
use Rattle.ng_journal.specs.Formatting.{FormatSpec, fresh_standing}
use Rattle.ng_core.specs.AnsweredEvents.{AreAnsweredEvents, answered_at}
use Rattle.ng_core.specs.Lifetime.{DeviceSession, GivenEvents, HasOneTable, LifetimeHolds}
use Rattle.ng_core.specs.Power.{PowerOnSpec, power_on_rig}
use Rattle.ng_file.specs.Promise.{Promise, IsDurable, IsLeft}
use Rattle.ng_file.specs.Rig.{device_of, sector_count, storage_at}
use Rattle.ng_file.specs.Sectors.{image_of}
use Rattle.ng_file.specs.declared.rig.FileRig.{FileRig}
use Rattle.ng_console.specs.Devices.{IsOver}
use Rattle.ng_console.specs.Lengthening.{IsFoundInFile, NamesSmallAreas, grows}

module _ {S W A E : Type 0} (content : S → Option (List ℕ)) (promise : S → Promise) where
  -- Power was lost at the session's moment of this device's trace, from a moment on. The loss left the session's image of
  -- the file, as that was then; and until then the session's items were handed out.
  pub record LosesPower (s : DeviceSession E (FileRig S W A)) (first : ℕ) (rig : FileRig S W A) : Type 0 where
    pub from : first ≤ s.at
    pub until : s.at ≤ moment (device_of content promise rig).trace
    pub left : IsLeft (sector_count rig) (promise (storage_at s.at rig)) s.image
    pub handed : s.items ≡ items (trace_at s.at (device_of content promise rig).trace)

  -- Power was lost within power on; or after it, while the events were answered in turn, as `on` and `run` do.
  abbrev pub EndsInFile : DeviceSession E (FileRig S W A) → Option (GivenEvents E (FileRig S W A)) → Type 0
  EndsInFile s None = LosesPower s 0 (power_on_rig s.answer)
  EndsInFile s (Some g) =
      let seen = device_of content promise in
      LosesPower s (moment (seen g.first.journal.rig).trace) g.now.journal.rig
      × (s.answer ≡ Ok g.first)
      × ((exchanges : AreAnsweredEvents seen g.events g.replies g.first g.now) × (g.moments ≡ answered_at seen g.events g.replies g.first g.now exchanges))

  -- A session over what was left before it: its device was made of a file that does what it promises, that is durable, and
  -- whose sectors are what was left, or those of the device lengthened since; and its settings have this geometry.
  pub record IsFileSession (geometry : Geometry) (left : Image) (s : DeviceSession E (FileRig S W A)) : Type 0 where
    pub file : S
    pub out : W
    pub over : IsOver content promise file out s.rig
    pub honest : (promise file).honest
    pub durable : IsDurable (content file) (promise file)
    pub found : IsFoundInFile s.is_grown left (image_of (sector_count s.rig) (content file))
    pub enough : least_size ≤ sector_count s.rig
    pub geometry_is : s.settings.geometry ≡ geometry
    pub powers : PowerOnSpec (device_of content promise) s.settings s.rig s.answer
    pub ends : EndsInFile s s.given

  -- sessions, each over what the one before left
  abbrev pub IsFileLifetime : Geometry → Image → List (DeviceSession E (FileRig S W A)) → Type 0
  IsFileLifetime geometry left [] = Unit {0}
  IsFileLifetime geometry left (s ∷ ss) = IsFileSession geometry left s × IsFileLifetime geometry s.image ss

-- as `KeepsFromFormat`
abbrev pub KeepsFileFromFormat : {S : Type 0} → (W A E : Type 0) → (S → Option (List ℕ)) → (S → Promise) → Type 0
KeepsFileFromFormat {S} W A E content promise = (result : Result (Unit {0}) Fault) (most : ℕ) (old new : Trace) → FormatSpec result most old new
    → OnOk result ((geometry : Geometry) (tools : List ℤ) (life : List (DeviceSession E (FileRig S W A)))
    → IsFileLifetime content promise geometry (reads new) life
    → LifetimeHolds (device_of content promise) geometry tools (fresh_standing most) life)

-- As `KeepsFromImage`. If the device is grown in it, and is small at first, its headers name areas of a small device then.
abbrev pub KeepsFileFromImage : {S : Type 0} → (W A E : Type 0) → (S → Option (List ℕ)) → (S → Promise) → Type 0
KeepsFileFromImage {S} W A E content promise = (geometry : Geometry) (tools : List ℤ) (left : Image) (x : DurableState)
    (life : List (DeviceSession E (FileRig S W A))) → stands_beside tools left ≡ Ok x → IsWritten left → HasOneTable tools left life
    → (grows life ≡ true → is_large left ≡ false → NamesSmallAreas left)
    → IsFileLifetime content promise geometry left life → LifetimeHolds (device_of content promise) geometry tools x life
