use Rattle.std.proofs.Common.{◌≡◌, ◌≤◌, length}
use Rattle.ng_words.specs.Comment.{past}
use Rattle.ng_words.proofs.comment.past.Given as goal

abbrev pub invariant-loop-first : goal.invariant-loop-first
invariant-loop-first l = (past l.expected l.rest ≡ past l.expected l.fn.bytes) × (length l.rest ≤ length l.fn.bytes)

abbrev pub decreases-loop-first : goal.decreases-loop-first
decreases-loop-first l = length l.rest
