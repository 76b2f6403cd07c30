-- Which fault says that a call of the device failed (own).
use Rattle.std.specs.Prelude.{Bool, true, false}
use Rattle.ng_num.specs.declared.fault.Fault.{Fault}
use Rattle.ng_num.specs.declared.fault.Fault.TheVariants as fault

abbrev pub is_device_failure : Fault → Bool
is_device_failure fault.DeviceFailed = true
is_device_failure _ = false
