use Rattle.std.proofs.Common.{ℕ, List, ◌≡◌, ◌++◌, length}
use Rattle.std.specs.Io.KnownBytes.{Appends}
use Rattle.ng_dry.specs.Dry.{commands_text}
use Rattle.ng_dry.proofs.output.put_commands.Given as goal

abbrev pub invariant-loop-canon : goal.invariant-loop-canon
invariant-loop-canon g l =
    (out : List ℕ) × Appends (g.W.Write.contents l.fn.writer) (g.W.Write.contents l.writer) out
    × (l.fn.text.items ++ commands_text l.fn.commands ≡ out ++ (l.text.items ++ commands_text l.commands))

abbrev pub decreases-loop-canon : goal.decreases-loop-canon
decreases-loop-canon g l = length l.commands
