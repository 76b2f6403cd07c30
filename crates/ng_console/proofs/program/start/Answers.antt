use Rattle.std.proofs.Common.{map, inl, inr, Bor, List, ℕ}
use Rattle.ng_console.proofs.program.start.Goals as goal

pub returns-clause-run : goal.returns-clause-run
returns-clause-run g c = elim c.ngc.ensures.run [
  | inl broken ↦ inl broken
  | inr run ↦ inr (map (λ (s : Bor (List ℕ)). s.now) c.as_slice.result.now, run)
]
