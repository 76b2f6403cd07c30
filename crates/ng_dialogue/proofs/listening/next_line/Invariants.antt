use Rattle.std.proofs.Common.{◌≡◌, ℕ, List, [], take, true}
use Rattle.std.specs.Io.KnownBytes.{Consumes}
use Rattle.ng_text.specs.Split.{HasNoNewline}
use Rattle.ng_dialogue.specs.Waiting.{EndHolds, text_left}
use Rattle.ng_dialogue.proofs.listening.next_line.Given as goal

-- what was passed of the line, and what is kept of it; if the text had ended, nothing is read
abbrev pub invariant-loop-pass : goal.invariant-loop-pass
invariant-loop-pass g l =
    (passed : List ℕ) × HasNoNewline passed × (l.line.items ≡ take 301 passed)
    × Consumes (text_left l.fn.input (g.R.Read.remaining l.fn.reader)) (text_left l.input (g.R.Read.remaining l.reader)) passed
    × (EndHolds l.fn.input (g.R.Read.remaining l.fn.reader) → EndHolds l.input (g.R.Read.remaining l.reader))
    × (l.fn.input.ended ≡ true → (l.input ≡ l.fn.input) × (l.reader ≡ l.fn.reader) × (l.line.items ≡ []) × (l._pass ≡ 0))
