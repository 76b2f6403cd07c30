use Rattle.std.proofs.Common.{◌≡◌, drop, take, true}
use Rattle.ng_words.specs.Plain.{plain}
use Rattle.ng_words.specs.Pieces.{comment_at}
use Rattle.ng_words.proofs.CommentLemmas.{found_after}
use Rattle.ng_words.proofs.cursor.comment_length.Given as goal

abbrev pub invariant-loop-i : goal.invariant-loop-i
invariant-loop-i l = found_after (take l.i l.bytes) (comment_at (plain true (drop l.i l.bytes))) ≡ comment_at (plain true l.bytes)
