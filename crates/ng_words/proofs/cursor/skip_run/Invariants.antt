use Rattle.std.proofs.Common.{◌≡◌, length, false}
use Rattle.ng_words.specs.Plain.{plain}
use Rattle.ng_words.proofs.cursor.skip_run.Given as goal

abbrev pub invariant-loop-first : goal.invariant-loop-first
invariant-loop-first l = plain false l.rest ≡ plain false l.fn.bytes

abbrev pub decreases-loop-first : goal.decreases-loop-first
decreases-loop-first l = length l.rest
