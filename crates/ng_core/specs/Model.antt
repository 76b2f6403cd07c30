-- A controller as its callers see it (own).
use Rattle.std.specs.Prelude.{◌≡◌, ℕ, false, List}
use Rattle.ng_rig.specs.Trace.{Trace}
use Rattle.ng_layout.specs.Stored.{DurableState}
use Rattle.ng_journal.specs.Journal.{JournalModel, IsDurablyAt, HoldsProgram}
use Rattle.ng_canon.specs.declared.geometry.Geometry.{Geometry}
use Rattle.ng_session.specs.Planned.{KnownModel, IsKnownOf, base_of, IsPlan}
use Rattle.ng_session.specs.Session.{SessionModel}

-- the journal of its device, its session, what it knows of the lines of its program, and the geometry that it was
-- powered on with
pub record ControllerModel (R : Type 0) : Type 0 where
  pub journal : JournalModel R
  pub session : SessionModel
  pub lines : KnownModel
  pub geometry : Geometry

-- what is stored of a session, with the program of its device
abbrev pub durable_state_of : List ℕ → SessionModel → DurableState
durable_state_of program s = record { saved = s.stored; program = program }

-- The device has one image, which stands for what the session stored, with this program; what is known of its lines is
-- true.
abbrev pub IsAtRestWith : {R : Type 0} → Trace → ControllerModel R → List ℕ → Type 0
IsAtRestWith trace c program = IsDurablyAt trace c.journal (durable_state_of program c.session) × IsKnownOf program c.lines

-- Whatever the device stands for, this is the program in force, and what is known of its lines is true.
abbrev pub HasInForce : {R : Type 0} → Trace → ControllerModel R → List ℕ → Type 0
HasInForce trace c program = HoldsProgram trace c.journal program × IsKnownOf program c.lines

-- What holds of each controller: unless the device failed, its session has what the journal has stored; and the lines
-- that were read ahead are planned on what will be stored after the current block.
pub record IsControllerInvariant {R : Type 0} (journal : JournalModel R) (session : SessionModel) (lines : KnownModel) (geometry : Geometry) : Type 0 where
  pub saved : journal.broken ≡ false → session.stored ≡ journal.saved
  pub plan : IsPlan geometry (base_of session) lines.ahead lines.base
