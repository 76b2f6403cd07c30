use Rattle.std.proofs.Common.{◌≡◌, drop}
use Rattle.ng_words.specs.Plain.{HasNoComment}
use Rattle.ng_words.specs.Value.{strip_prefix}
use Rattle.ng_words.proofs.cursor.Cursor.skip.Given as goal

abbrev pub invariant-loop-expected : goal.invariant-loop-expected
invariant-loop-expected l =
    (strip_prefix (drop l.expected-index l.text) l.ahead ≡ strip_prefix l.text l.fn.self) × HasNoComment (drop l.expected-index l.text)
