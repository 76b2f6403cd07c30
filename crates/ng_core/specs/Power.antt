-- What power on returns (own).
use Rattle.std.specs.Prelude.{◌≡◌, ◌≤◌, ◌<◌, ℕ, ℤ, false, List, Result, Ok, Err, IfOk, IfErr, IsErrAnd}
use Rattle.ng_num.specs.declared.fault.Fault.{Fault}
use Rattle.ng_num.specs.declared.fault.Fault.TheVariants.{NotFormatted, OutOfMemory}
use Rattle.ng_rig.specs.Rig.{Device}
use Rattle.ng_rig.specs.Calls.{IfHonest}
use Rattle.ng_rig.specs.Trace.{Trace, reads}
use Rattle.ng_settings.specs.declared.standard.Settings.{Settings}
use Rattle.ng_layout.specs.Stands.{stands_beside, IsWritten}
use Rattle.ng_layout.specs.Storable.{IsStorable}
use Rattle.ng_journal.specs.Journal.{CountsFailure, least_size, program_in_force}
use Rattle.ng_journal.specs.Recover.{RecoverResult, RecoverSpec, IsRecoveryFault, recover_rig, recover_fault}
use Rattle.ng_journal.specs.Recovery.{recovered_of, IsTableOver}
use Rattle.ng_session.specs.Session.{resting}
use Rattle.ng_core.specs.Model.{ControllerModel, IsAtRestWith, HasInForce}

-- a controller; or a fault, and the device
abbrev pub PowerOnResult : Type 0 → Type 0
PowerOnResult R = Result (ControllerModel R) (Fault × R)

-- what the journal returned: itself, with what its session stores; or a fault, and the device
abbrev pub journal_result : {R : Type 0} → PowerOnResult R → RecoverResult R
journal_result (Ok c) = Ok (c.journal, c.session.stored)
journal_result (Err e) = Err e

-- the device, in the controller or handed back
abbrev pub power_on_rig : {R : Type 0} → PowerOnResult R → R
power_on_rig answer = recover_rig (journal_result answer)

abbrev pub power_on_fault : {R : Type 0} → PowerOnResult R → Result ℕ Fault
power_on_fault answer = recover_fault (journal_result answer)

-- the device is at rest with the recovered state
pub record IsControllerRecovered {R : Type 0} (tools : List ℤ) (c : ControllerModel R) (old new : Trace) : Type 0 where
  pub program : List ℕ
  pub rests : IsAtRestWith new c program
  pub is : recovered_of (stands_beside tools (reads old)) ≡ Ok (record { saved = c.session.stored; program = program })

-- The journal recovers the state that an image stands for, or reports why not, for any image; one of format 1 is read
-- with this tool table. If only such a controller wrote the image, the device is then at rest with the recovered state,
-- and the session has that state too. Of any image, all is synced then, and what is known of the program in force is
-- true.
pub record PowerOnSpecIfHonest {R : Type 0} (tools : List ℤ) (result : PowerOnResult R) (old new : Trace) : Type 0 where
  pub recovers : RecoverSpec tools (journal_result result) old new
  pub rests : IsWritten (reads old) → IfOk result (λ c. IsControllerRecovered tools c old new)
  pub force : IfOk result (λ c. HasInForce new c (program_in_force new c.journal))

-- What power on returns, with any device: a whole controller at rest with the stored state, or a fault and the device.
-- A device of format 1 gets the tools of the settings; with format 2 these aren't used.
pub record PowerOnSpec {R : Type 0} (seen : R → Device) (settings : Settings) (rig : R) (answer : PowerOnResult R) : Type 0 where
  pub powers : least_size ≤ (seen rig).sectors → (tools : List ℤ)
      → IsTableOver settings.tools tools (reads (seen rig).trace) → IfHonest (seen rig) (seen (power_on_rig answer))
      (PowerOnSpecIfHonest tools answer (seen rig).trace (seen (power_on_rig answer)).trace)
  pub rests : IfOk answer (λ c. (c.journal.broken ≡ false) × (c.session ≡ resting c.journal.saved) × IsStorable c.session.stored)
  pub geometry : IfOk answer (λ c. c.geometry ≡ settings.geometry)
  pub small : (seen rig).sectors < least_size → IsErrAnd answer (λ e. (e.0 ≡ NotFormatted) × (e.1 ≡ rig))
  pub faults : IfErr answer (λ e. IsRecoveryFault e.0)
  pub memory : IfErr answer (λ e. e.0 ≡ OutOfMemory → e.1 ≡ rig)
  pub size : (seen (power_on_rig answer)).sectors ≡ (seen rig).sectors
  pub failures : CountsFailure (power_on_fault answer) (seen rig).failed (seen (power_on_rig answer)).failed
