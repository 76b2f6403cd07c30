-- How a line is read ahead (own).
use Rattle.std.specs.Prelude.{◌≡◌, ℕ, List, Result, IfOk, IfErr}
use Rattle.ng_num.specs.declared.fault.Fault.{Fault}
use Rattle.ng_num.specs.declared.fault.Fault.TheVariants.{DeviceFailed}
use Rattle.ng_rig.specs.Rig.{Device}
use Rattle.ng_rig.specs.Calls.{IfHonest}
use Rattle.ng_journal.specs.Journal.{JournalCall}
use Rattle.ng_journal.specs.Storing.{ledger_of}
use Rattle.ng_core.specs.Model.{ControllerModel, IsAtRestWith, HasInForce}

-- The session is unchanged, what was read is the program's, and the controller is at rest as before, unless the device
-- failed. Whatever an honest device stands for, what was read is of the program in force, nothing is stored and nothing
-- handed out. An error is the device's.
pub record PlansAhead {R : Type 0} (seen : R → Device) (answer : Result Unit Fault) (old new : ControllerModel R) : Type 0 where
  pub does : IfHonest (seen old.journal.rig) (seen new.journal.rig) ((program : List ℕ) → IsAtRestWith (seen old.journal.rig).trace old program
      → IfOk answer (λ _. IsAtRestWith (seen new.journal.rig).trace new program))
  pub reads : (seen old.journal.rig).honest → (program : List ℕ) → HasInForce (seen old.journal.rig).trace old program
      → IfOk answer (λ _. HasInForce (seen new.journal.rig).trace new program)
  pub unwritten : (seen old.journal.rig).honest → (seen new.journal.rig).trace ≡ (seen old.journal.rig).trace
  pub session : new.session ≡ old.session
  pub ledger : ledger_of new.journal ≡ ledger_of old.journal
  pub errors : IfErr answer (λ e. e ≡ DeviceFailed)
  pub geometry : new.geometry ≡ old.geometry
  pub call : JournalCall seen answer old.journal new.journal
