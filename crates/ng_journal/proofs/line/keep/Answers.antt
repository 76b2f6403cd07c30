use Rattle.std.proofs.Common.{arith, rules}
use Rattle.ng_journal.proofs.LineReadLemmas.{head_more}
use Rattle.ng_journal.proofs.line.keep.Goals as goal

pub returns : goal.returns
returns c = head_more c.try_extend_from_slice.result _ _ _ c.remaining_capacity-capacity.result c.min.result
    c.remaining_capacity-capacity.ensures c.min.ensures c.try_extend_from_slice.ensures.variant
    c.try_extend_from_slice.ensures.ok

pub remaining_capacity-capacity-requires : goal.remaining_capacity-capacity-requires
remaining_capacity-capacity-requires c = omega arith

pub min-requires : goal.min-requires
min-requires c = omega arith

pub slice_bounds-try_extend_from_slice-end : goal.slice_bounds-try_extend_from_slice-end
slice_bounds-try_extend_from_slice-end c = search rules

pub try_extend_from_slice-requires : goal.try_extend_from_slice-requires
try_extend_from_slice-requires c = omega arith
