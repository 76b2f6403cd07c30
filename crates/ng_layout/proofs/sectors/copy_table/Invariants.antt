use Rattle.std.proofs.Common.{◌≡◌, ◌<◌, ℕ, length, get_or, pos}
use Rattle.ng_layout.proofs.sectors.copy_table.Given as goal

abbrev pub invariant-loop-k : goal.invariant-loop-k
invariant-loop-k g l = record {
  same : (j : ℕ) → j < l.k → get_or l.into j (pos 0) ≡ get_or l.from j (pos 0);
  long : length l.into ≡ 5399;
}
