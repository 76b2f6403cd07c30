use Rattle.std.proofs.Common.{◌≡◌, ◌≤◌, ◌-◌, ℕ, List, length, take, drop, ap, arith}
use Rattle.std.proofs.lemmas.List.{length-take, length-drop}
use Rattle.ng_params.specs.declared.change.Change.{Change}
use Rattle.ng_log.proofs.record_changes.RecordChanges.next_piece.Goals as goal

-- how many are taken, and how many are left
taken_few : (count n : ℕ) (changes piece : List Change) → count ≡ length changes → piece ≡ take 48 changes → n ≡ length piece → n ≤ count
taken_few count n changes piece all is counted = omega (arith, all, counted, ap length is, length-take 48 changes)

count_left : (count n : ℕ) (changes piece rest : List Change) → count ≡ length changes → piece ≡ take 48 changes
    → n ≡ length piece → rest ≡ drop 48 changes → count - n ≡ length rest
count_left count n changes piece rest all is counted rest_is =
    omega (arith, all, counted, ap length is, length-take 48 changes, ap length rest_is, length-drop 48 changes)

pub overflow_sub-count : goal.overflow_sub-count
overflow_sub-count g c =
    taken_few _ _ _ _ c.self.invariant.0 c.next_piece-piece.ensures.piece c.len.ensures.value

pub invariant_of-result : goal.invariant_of-result
invariant_of-result g c = (
  count_left _ _ _ _ _ c.self.invariant.0 c.next_piece-piece.ensures.piece c.len.ensures.value
      c.next_piece-piece.ensures.rest,
  c.next_piece-piece.ensures.compared,
)
