use Rattle.std.proofs.Common.{◌≡◌, ◌+◌, drop}
use Rattle.ng_offsets.specs.Tools.{change_from}
use Rattle.ng_offsets.proofs.tools.Tools.change_to.Given as goal

abbrev pub invariant-loop-n : goal.invariant-loop-n
invariant-loop-n l = change_from 1 l.self l.other ≡ change_from (l.n + 1) (drop l.n l.self) (drop l.n l.other)
