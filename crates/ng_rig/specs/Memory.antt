-- A device in memory as its callers see it (own).
use Rattle.std.specs.Prelude.{ℕ, length}
use Rattle.ng_rig.specs.Rig.{Device}
use Rattle.ng_rig.specs.Trace.{Trace}
use Rattle.ng_rig.specs.RecordedCalls.{trace_of_calls}
use Rattle.ng_rig.specs.declared.memory.MemoryRig.{MemoryRig}

-- its number of sectors
abbrev pub sector_count : {A : Type 0} → MemoryRig A → ℕ
sector_count rig = length rig.first.items

-- its trace: the calls that didn't fail, in order
abbrev pub trace_of : {A : Type 0} → MemoryRig A → Trace
trace_of rig = trace_of_calls rig.first.items rig.calls.items

-- the failures that it counts
abbrev pub failure_count : {A : Type 0} → MemoryRig A → ℕ
failure_count rig = rig.failures

-- the device as contracts see it, which is honest
abbrev pub device_of : {A : Type 0} → MemoryRig A → Device
device_of rig = record { trace = trace_of rig; honest = Unit {0}; sectors = sector_count rig; failed = failure_count rig }
