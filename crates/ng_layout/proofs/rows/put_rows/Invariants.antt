use Rattle.std.proofs.Common.{◌≡◌, true, ℕ}
use Rattle.ng_layout.specs.Rows.{follow}
use Rattle.ng_layout.proofs.RowLemmas.{AreTo}
use Rattle.ng_layout.proofs.rows.put_rows.Given as goal

abbrev pub invariant-loop-at : goal.invariant-loop-at
invariant-loop-at l = (to : ℕ) → follow l.rows to ≡ true → AreTo l.rows to l.at-index l.fn.bytes l.bytes
