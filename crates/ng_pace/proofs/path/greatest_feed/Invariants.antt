use Rattle.std.proofs.Common.{ℕ, ◌<◌, ◌≤◌, length, slice_index_or}
use Rattle.ng_pace.specs.declared.chord.Waiting.{Waiting}
use Rattle.ng_pace.proofs.path.greatest_feed.Given as goal

abbrev pub invariant-loop-k : goal.invariant-loop-k
invariant-loop-k g l = (k : ℕ) (d : Waiting) → l.fn.from ≤ k → k < l.k → k < length l.waiting.items → (slice_index_or l.waiting.items k d).feed ≤ l.greatest
