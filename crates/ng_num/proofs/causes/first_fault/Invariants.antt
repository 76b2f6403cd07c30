use Rattle.std.proofs.Common.{◌≡◌, drop}
use Rattle.ng_num.specs.Causes.{first_fault}
use Rattle.ng_num.proofs.causes.first_fault.Given as goal

abbrev pub invariant-loop-fault : goal.invariant-loop-fault
invariant-loop-fault l = first_fault l.faults ≡ first_fault (drop l.fault-index l.faults)
