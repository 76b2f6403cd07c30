-- What is told of a fault: the key, what is wrong with it, its range or its name (own).
use Rattle.std.specs.Prelude.{ℕ, List, [], ◌++◌, codes}
use Rattle.ng_motion.specs.declared.key.Key.TheVariants.{Accel, Rate, Start, Slack, Most}
use Rattle.ng_motion.specs.declared.axis.AxisName.{AxisName}
use Rattle.ng_motion.specs.declared.axis.AxisName.TheVariants.{X, Y, Z}
use Rattle.ng_motion.specs.Name.{told}
use Rattle.ng_motion.specs.Table.{no_table_text}
use Rattle.ng_motion.specs.declared.fault.MotionFault.{MotionFault}
use Rattle.ng_motion.specs.declared.fault.MotionFault.TheVariants.{NotToml, OutOfMemory, UnknownTable, NotATable, NoTable, UnknownKey}
use Rattle.ng_motion.specs.declared.fault.MotionFault.TheVariants.{NoAcceleration, OutOfRange, TooWeak, TooStrong}
use Rattle.ng_motion.specs.declared.fault.MotionFault.TheVariants.{TooSlow}

abbrev pub cause_text : MotionFault → List ℕ
cause_text NotToml = codes ": not TOML"
cause_text OutOfMemory = codes ": out of memory"
cause_text (UnknownTable name) = codes ": has a table that isn't one of its nine: "
cause_text (NotATable table) = no_table_text table
cause_text NoTable = codes " motion: missing"
cause_text (UnknownKey name) = codes " motion: has a key that isn't one of its five: "
cause_text NoAcceleration = codes " accel_mm_s2: missing"
cause_text (OutOfRange Accel) = codes " accel_mm_s2: not three whole numbers from 1 to 1000000"
cause_text (OutOfRange Rate) = codes " rate_mm_min: not three whole numbers from 0 to 100000"
cause_text (OutOfRange Start) = codes " start_mm_min: not three whole numbers from 0 to 100000"
cause_text (OutOfRange Slack) = codes " slack_steps: not a whole number from 1 to 64"
cause_text (OutOfRange Most) = codes " most_percent: not a whole number from 100 to 200"
cause_text (TooWeak axis) = codes " accel_mm_s2: less than 3 steps a second, each second, of "
cause_text (TooStrong axis) = codes " accel_mm_s2: more than 1000000000 steps a second, each second, of "
cause_text TooSlow = codes " rate_mm_min: less than a step a second"

abbrev pub axis_text : AxisName → List ℕ
axis_text X = codes "X"
axis_text Y = codes "Y"
axis_text Z = codes "Z"

-- the table or the key that is none, or the axis, if that is the fault
abbrev pub name_told : MotionFault → List ℕ
name_told (UnknownTable name) = told name
name_told (UnknownKey name) = told name
name_told (TooWeak axis) = axis_text axis
name_told (TooStrong axis) = axis_text axis
name_told _ = []

abbrev pub fault_text : MotionFault → List ℕ
fault_text fault = cause_text fault ++ name_told fault
