use Rattle.std.proofs.Common.{◌≡◌, take}
use Rattle.ng_offsets.proofs.tools.Tools.copy.Given as goal

abbrev pub invariant-loop-n : goal.invariant-loop-n
invariant-loop-n l = l.copy ≡ take l.n l.self
