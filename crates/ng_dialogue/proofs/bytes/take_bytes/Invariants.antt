use Rattle.std.proofs.Common.{◌≡◌, ◌+◌, ℕ, List, length, true}
use Rattle.std.specs.Io.KnownBytes.{Consumes}
use Rattle.ng_dialogue.specs.Waiting.{EndHolds, text_left}
use Rattle.ng_dialogue.proofs.bytes.take_bytes.Given as goal

-- the bytes that were passed, which are kept if there was memory; if the text had ended, nothing is read
abbrev pub invariant-loop-left : goal.invariant-loop-left
invariant-loop-left g l =
    (passed : List ℕ) × Consumes (text_left l.fn.input (g.R.Read.remaining l.fn.reader)) (text_left l.input (g.R.Read.remaining l.reader)) passed
    × (length passed + l.left ≡ l.fn.length) × (l.has_memory ≡ true → l.text.items ≡ passed)
    × (EndHolds l.fn.input (g.R.Read.remaining l.fn.reader) → EndHolds l.input (g.R.Read.remaining l.reader))
    × (l.fn.input.ended ≡ true → (l.input ≡ l.fn.input) × (l.reader ≡ l.fn.reader))

abbrev pub decreases-loop-left : goal.decreases-loop-left
decreases-loop-left g l = l.left
