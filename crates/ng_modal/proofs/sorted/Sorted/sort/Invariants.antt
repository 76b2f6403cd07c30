use Rattle.std.proofs.Common.{◌≡◌, ◌+◌, drop}
use Rattle.ng_modal.specs.Sorted.{sorted}
use Rattle.ng_modal.proofs.sorted.Sorted.sort.Given as goal

-- the words after the added one
abbrev pub ghost-take_at : goal.ghost-take_at
ghost-take_at a = drop (a.i + 1) a.words.now

abbrev pub invariant-loop-i : goal.invariant-loop-i
invariant-loop-i l = l.self ≡ sorted (drop l.i l.words)
