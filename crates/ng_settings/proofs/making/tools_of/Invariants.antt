use Rattle.std.proofs.Common.{◌≡◌, ◌≤◌, ◌++◌, pos, false, length}
use Rattle.ng_settings.specs.Causes.{are_beyond}
use Rattle.ng_settings.proofs.LengthLemmas.{numbers_from}
use Rattle.ng_settings.proofs.making.tools_of.Given as goal

abbrev pub invariant-loop-value : goal.invariant-loop-value
invariant-loop-value l = record {
  within : are_beyond (pos 0) (pos 1_000_000_000) (numbers_from l.value-index l.lengths.items) ≡ false;
  so_far : numbers_from 0 l.lengths.items ≡ l.tools ++ numbers_from l.value-index l.lengths.items;
  fits : length l.tools ≤ 128;
}
