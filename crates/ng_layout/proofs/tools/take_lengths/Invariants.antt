use Rattle.std.proofs.Common.{◌≡◌, ◌+◌, ◌*◌, ℕ, List, length, Some}
use Rattle.ng_layout.specs.Storable.{IsStorableTools}
use Rattle.ng_layout.specs.Tools.{lengths_in}
use Rattle.ng_layout.proofs.tools.take_lengths.Given as goal

abbrev pub invariant-loop-k : goal.invariant-loop-k
invariant-loop-k l = record {
  long : length l.tools ≡ 64 * l.part + l.k;
  adds : (area : ℕ → List ℕ) → area l.part ≡ l.sector → lengths_in area (64 * l.part) ≡ Some l.initial.tools
      → lengths_in area (64 * l.part + l.k) ≡ Some l.tools;
  storable : IsStorableTools l.initial.tools → IsStorableTools l.tools;
}
