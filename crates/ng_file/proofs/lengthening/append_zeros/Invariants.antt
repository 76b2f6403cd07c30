use Rattle.std.proofs.Common.{◌-◌, ◌≤◌, replicate}
use Rattle.std.specs.Io.KnownBytes.{Appends}
use Rattle.ng_file.proofs.lengthening.append_zeros.Given as goal

abbrev pub invariant-loop-appended : goal.invariant-loop-appended
invariant-loop-appended g l =
    (l.appended ≤ l.count) × Appends (g.S.Storage.content l.fn.file) (g.S.Storage.content l.file) (replicate l.appended 0)

abbrev pub decreases-loop-appended : goal.decreases-loop-appended
decreases-loop-appended g l = l.count - l.appended
