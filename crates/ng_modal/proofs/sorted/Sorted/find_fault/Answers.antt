use Rattle.std.proofs.lemmas.Grind.{common_steps}
use Rattle.std.proofs.Common.{arith}
use Rattle.ng_modal.proofs.sorted.Sorted.find_fault.Goals as goal

pub takes_axes_twice-requires : goal.takes_axes_twice-requires
takes_axes_twice-requires c = omega arith

pub leaves_axis_unused-requires : goal.leaves_axis_unused-requires
leaves_axis_unused-requires c = omega arith

pub moves_no_axis-requires : goal.moves_no_axis-requires
moves_no_axis-requires c = omega arith

pub sets_nothing-requires : goal.sets_nothing-requires
sets_nothing-requires c = omega arith

pub has_bad_g53-requires : goal.has_bad_g53-requires
has_bad_g53-requires c = omega arith

pub has_radius_arc-requires : goal.has_radius_arc-requires
has_radius_arc-requires c = omega arith

pub leaves_word_unused-requires : goal.leaves_word_unused-requires
leaves_word_unused-requires c = omega arith

pub has_negative-requires : goal.has_negative-requires
has_negative-requires c = omega arith

pub has_bad_slot-requires : goal.has_bad_slot-requires
has_bad_slot-requires c = omega arith

pub has_bad_l-requires : goal.has_bad_l-requires
has_bad_l-requires c = omega arith

pub has_bad_system-requires : goal.has_bad_system-requires
has_bad_system-requires c = omega arith

pub has_no_dwell-requires : goal.has_no_dwell-requires
has_no_dwell-requires c = omega arith

pub has_no_h-requires : goal.has_no_h-requires
has_no_h-requires c = omega arith

pub has_cycle_plane-requires : goal.has_cycle_plane-requires
has_cycle_plane-requires c = omega arith

pub slice_bounds-first_fault-end : goal.slice_bounds-first_fault-end
slice_bounds-first_fault-end c = omega arith

pub first_fault-requires : goal.first_fault-requires
first_fault-requires c = omega arith

pub returns : goal.returns
returns c = grind (arith, common_steps)
