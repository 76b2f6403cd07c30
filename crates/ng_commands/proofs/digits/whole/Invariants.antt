use Rattle.std.proofs.Common.{◌≡◌, ◌≤◌, length}
use Rattle.ng_words.specs.Grammar.{AreDigits, written_after}
use Rattle.ng_commands.proofs.digits.whole.Given as goal

-- the value so far is that of the digits that were read; only the digits that are left matter
abbrev pub invariant-loop-first : goal.invariant-loop-first
invariant-loop-first l = (l.value ≤ l.fn.greatest) × (written_after l.value l.rest ≡ written_after 0 l.fn.digits)
    × (AreDigits l.rest → AreDigits l.fn.digits) × (AreDigits l.fn.digits → AreDigits l.rest)

abbrev pub decreases-loop-first : goal.decreases-loop-first
decreases-loop-first l = length l.rest
