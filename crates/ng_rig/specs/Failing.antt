-- A device that passes a number of calls on, and then fails: one call, or all from there on (own).
use Rattle.std.specs.Prelude.{◌≡◌, ◌+◌, ◌-◌, ◌==◌, if◌then◌else◌, ℕ, Bool, Option, Some, None, Result, IsErr}
use Rattle.ng_rig.specs.Rig.{Device}
use Rattle.ng_rig.specs.Calls.{FailureCountSpec}
use Rattle.ng_rig.specs.declared.failing.FailingRig.{FailingRig}

-- the device that calls are passed on to
abbrev pub inner : {R : Type 0} {lasts : ℕ} → FailingRig R lasts → R
inner rig = rig.rig

-- the failures that it counts
abbrev pub failure_count : {R : Type 0} {lasts : ℕ} → FailingRig R lasts → ℕ
failure_count rig = rig.failures

-- the device as contracts see it: the one that calls are passed on to, but for the failures
abbrev pub device_of : {R : Type 0} {lasts : ℕ} → (R → Device) → FailingRig R lasts → Device
device_of seen rig = record (seen (inner rig)) { failed = failure_count rig }

-- how many calls are passed on before one fails; None if none fails any more
abbrev pub calls_before : {R : Type 0} {lasts : ℕ} → FailingRig R lasts → Option ℕ
calls_before rig = rig.before

-- that number after a call that fails: the next fails too, or none does
abbrev pub after_failure : Bool → Option ℕ
after_failure lasts = if lasts then Some 0 else None

-- that number after one call
abbrev pub after_one : Bool → Option ℕ → Option ℕ
after_one _ None = None
after_one lasts (Some n) = if n == 0 then after_failure lasts else Some (n - 1)

-- A call at which the device is set to fail has no effect; every other one is passed on, and fails exactly if the inner device fails.
pub record FailsAsSet {R T E : Type 0} {n : ℕ} (lasts : Bool) (result : Result T E) (seen : R → Device) (old new : FailingRig R n) : Type 0 where
  pub sooner : (n : ℕ) → calls_before old ≡ Some (n + 1) → (calls_before new ≡ Some n)
      × FailureCountSpec result (seen (inner old)).failed (seen (inner new)).failed
  pub failing : calls_before old ≡ Some 0 → (calls_before new ≡ after_failure lasts) × IsErr result × (inner new ≡ inner old)
  pub later : calls_before old ≡ None → (calls_before new ≡ None)
      × FailureCountSpec result (seen (inner old)).failed (seen (inner new)).failed
