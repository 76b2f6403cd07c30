-- Millimetres as steps, rounded down, so that nothing is exceeded (own).
use Rattle.std.specs.Prelude.{◌≡◌, ◌⊎◌, ℕ, ◌*◌, ◌/◌, ◌<◌, ◌≤◌, List, [], ◌∷◌, slice_index}
use Rattle.ng_canon.specs.declared.geometry.Geometry.{Geometry}
use Rattle.ng_pace.specs.declared.limits.Limits.{Limits}
use Rattle.ng_pace.specs.Axes.{EachAxis, AreLimits as CanBeMet}
use Rattle.ng_motion.specs.declared.axis.AxisName.{AxisName}
use Rattle.ng_motion.specs.declared.axis.AxisName.TheVariants.{X, Y, Z}
use Rattle.ng_motion.specs.declared.fault.MotionFault.{MotionFault}
use Rattle.ng_motion.specs.declared.fault.MotionFault.TheVariants.{TooWeak, TooStrong, TooSlow}
use Rattle.ng_motion.specs.declared.values.PerAxis.{PerAxis}
use Rattle.ng_motion.specs.declared.given.Given.{Given}

-- from millimetres a second, each second, and the nanometres of a step: steps a second, each second
abbrev pub steps_of_accel : ℕ → ℕ → ℕ
steps_of_accel mm_s2 step_nm = mm_s2 * 1_000_000 / step_nm

-- from millimetres a minute: steps a second
abbrev pub steps_of_rate : ℕ → ℕ → ℕ
steps_of_rate mm_min step_nm = mm_min * 1_000_000 / (60 * step_nm)

-- for each axis
abbrev pub by_axis : (ℕ → ℕ → ℕ) → PerAxis → Geometry → List ℕ
by_axis steps_of a machine = steps_of a.x machine.x.step_nm ∷ steps_of a.y machine.y.step_nm ∷ steps_of a.z machine.z.step_nm ∷ []

-- a limit that was given is a step at least
abbrev pub StaysGiven : ℕ → ℕ → Type 0
StaysGiven mm steps = 0 < mm → 0 < steps

-- a limit that was given became less than a step
abbrev pub IsLost : ℕ → ℕ → Type 0
IsLost mm steps = (0 < mm) × (steps ≡ 0)

abbrev pub EachStays : (ℕ → ℕ → ℕ) → PerAxis → Geometry → Type 0
EachStays steps_of a machine =
    StaysGiven a.x (steps_of a.x machine.x.step_nm) × StaysGiven a.y (steps_of a.y machine.y.step_nm) × StaysGiven a.z (steps_of a.z machine.z.step_nm)

abbrev pub OneIsLost : (ℕ → ℕ → ℕ) → PerAxis → Geometry → Type 0
OneIsLost steps_of a machine =
    IsLost a.x (steps_of a.x machine.x.step_nm) ⊎ IsLost a.y (steps_of a.y machine.y.step_nm) ⊎ IsLost a.z (steps_of a.z machine.z.step_nm)

-- the first axis, by its number, of which something holds
abbrev pub IsFirstAxis : (ℕ → Type 0) → AxisName → Type 0
IsFirstAxis P X = P 0
IsFirstAxis P Y = (¬ P 0) × P 1
IsFirstAxis P Z = (¬ P 0) × (¬ P 1) × P 2

-- the limits in steps, of what is given in millimetres
pub record AreLimits (given : Given) (machine : Geometry) (limits : Limits) : Type 0 where
  pub accel : limits.accel ≡ by_axis steps_of_accel given.accel machine
  pub rate : limits.rate ≡ by_axis steps_of_rate given.rate machine
  pub start : limits.start ≡ by_axis steps_of_rate given.start machine
  pub slack : limits.slack ≡ given.slack
  pub most_percent : limits.most_percent ≡ given.most_percent
  -- half of the pulses over which a corner is taken, at most
  pub half : limits.half ≡ 96
  pub rate_stays : EachStays steps_of_rate given.rate machine
  -- a pacer takes them
  pub can_be_met : CanBeMet limits

-- each axis gains so much that a pacer takes it
pub record IsFitToGain (given : Given) (machine : Geometry) : Type 0 where
  pub least : EachAxis (λ axis. 3 ≤ slice_index (by_axis steps_of_accel given.accel machine) axis)
  pub most : EachAxis (λ axis. slice_index (by_axis steps_of_accel given.accel machine) axis ≤ 1_000_000_000)

-- what is given in millimetres is too little in steps, or too much: the first that is
abbrev pub IsStepFault : Given → Geometry → MotionFault → Type 0
IsStepFault given machine (TooWeak axis) = IsFirstAxis (λ n. slice_index (by_axis steps_of_accel given.accel machine) n < 3) axis
IsStepFault given machine (TooStrong axis) =
    EachAxis (λ n. 3 ≤ slice_index (by_axis steps_of_accel given.accel machine) n)
    × IsFirstAxis (λ n. 1_000_000_000 < slice_index (by_axis steps_of_accel given.accel machine) n) axis
IsStepFault given machine TooSlow = IsFitToGain given machine × OneIsLost steps_of_rate given.rate machine
IsStepFault given machine _ = ⊥

abbrev pub AreAtMost : ℕ → PerAxis → Type 0
AreAtMost most a = (a.x ≤ most) × (a.y ≤ most) × (a.z ≤ most)

-- what is given is in the ranges of its keys
pub record IsInRanges (given : Given) : Type 0 where
  pub accel : AreAtMost 1_000_000 given.accel
  pub rate : AreAtMost 100_000 given.rate
  pub start : AreAtMost 100_000 given.start
  pub slack : (1 ≤ given.slack) × (given.slack ≤ 64)
  pub most_percent : (100 ≤ given.most_percent) × (given.most_percent ≤ 200)
