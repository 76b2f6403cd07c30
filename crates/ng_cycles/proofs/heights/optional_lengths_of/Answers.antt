use Rattle.std.proofs.Common.{◌∙◌, ◌++◌}
use Rattle.ng_offsets.specs.Offsets.{shift_x, shift_y, shift_z}
use Rattle.ng_cycles.specs.Heights.{hole_axis_of, heights_of, place_lengths, height_lengths, optional_lengths_of}
use Rattle.ng_cycles.proofs.CauseListLemmas.{first_far, same_far, rest_far, none_far, far_ok}
use Rattle.ng_cycles.proofs.heights.optional_lengths_of.Goals as goal

pub returns-in-Err-clause-found : goal.returns-in-Err-clause-found
returns-in-Err-clause-found c =
    let w = c.args.words.now in
    let s = c.args.context.now in
    let words = c.args.in_force.now in
    let xs = place_lengths s.is_incremental w.x (shift_x s.offsets) s.point.x w.repeats in
    let ys = place_lengths s.is_incremental w.y (shift_y s.offsets) s.point.y w.repeats in
    let x = hole_axis_of s.is_incremental w.x (shift_x s.offsets) s.point.x in
    first_far xs (ys ++ height_lengths words s) x (optional_lengths_of w words s) c.in-Err.fault (rw c.x.ensures at c.in-Err.ensures.hole_axis)

pub returns-in-Err-hole_axis_of-clause-found : goal.returns-in-Err-hole_axis_of-clause-found
returns-in-Err-hole_axis_of-clause-found c =
    let w = c.args.words.now in
    let s = c.args.context.now in
    let words = c.args.in_force.now in
    let xs = place_lengths s.is_incremental w.x (shift_x s.offsets) s.point.x w.repeats in
    let ys = place_lengths s.is_incremental w.y (shift_y s.offsets) s.point.y w.repeats in
    let hs = height_lengths words s in
    let x = hole_axis_of s.is_incremental w.x (shift_x s.offsets) s.point.x in
    let y = hole_axis_of s.is_incremental w.y (shift_y s.offsets) s.point.y in
    first_far ys hs y (optional_lengths_of w words s) c.in-Err-hole_axis_of.fault (rw c.y.ensures at c.in-Err-hole_axis_of.ensures.hole_axis)
    ∙ rest_far xs (ys ++ hs) x c.in-Ok.hole_axis (optional_lengths_of w words s) (rw c.x.ensures at c.in-Ok.ensures.hole_axis)

pub returns-in-Err-heights_of-clause-found : goal.returns-in-Err-heights_of-clause-found
returns-in-Err-heights_of-clause-found c =
    let w = c.args.words.now in
    let s = c.args.context.now in
    let words = c.args.in_force.now in
    let xs = place_lengths s.is_incremental w.x (shift_x s.offsets) s.point.x w.repeats in
    let ys = place_lengths s.is_incremental w.y (shift_y s.offsets) s.point.y w.repeats in
    let hs = height_lengths words s in
    let x = hole_axis_of s.is_incremental w.x (shift_x s.offsets) s.point.x in
    let y = hole_axis_of s.is_incremental w.y (shift_y s.offsets) s.point.y in
    let h = heights_of s.is_incremental words (shift_z s.offsets) s.point.z in
    same_far hs h (optional_lengths_of w words s) c.in-Err-heights_of.fault c.in-Err-heights_of.ensures
    ∙ (rest_far ys hs y c.in-Ok-hole_axis_of.hole_axis (optional_lengths_of w words s) (rw c.y.ensures at c.in-Ok-hole_axis_of.ensures.hole_axis)
    ∙ rest_far xs (ys ++ hs) x c.in-Ok.hole_axis (optional_lengths_of w words s) (rw c.x.ensures at c.in-Ok.ensures.hole_axis))

pub returns-in-Ok-heights_of-clause-found : goal.returns-in-Ok-heights_of-clause-found
returns-in-Ok-heights_of-clause-found c =
    let w = c.args.words.now in
    let s = c.args.context.now in
    let words = c.args.in_force.now in
    let xs = place_lengths s.is_incremental w.x (shift_x s.offsets) s.point.x w.repeats in
    let ys = place_lengths s.is_incremental w.y (shift_y s.offsets) s.point.y w.repeats in
    let hs = height_lengths words s in
    let x = hole_axis_of s.is_incremental w.x (shift_x s.offsets) s.point.x in
    let y = hole_axis_of s.is_incremental w.y (shift_y s.offsets) s.point.y in
    let h = heights_of s.is_incremental words (shift_z s.offsets) s.point.z in
    let hx = rw c.x.ensures at c.in-Ok.ensures.hole_axis in
    let hy = rw c.y.ensures at c.in-Ok-hole_axis_of.ensures.hole_axis in
    let hh = c.in-Ok-heights_of.ensures in
    let is_x = far_ok xs x c.in-Ok.hole_axis hx in
    let is_y = far_ok ys y c.in-Ok-hole_axis_of.hole_axis hy in
    let is_h = far_ok hs h c.in-Ok-heights_of.heights hh in
    rw (is_x.1, is_y.1, is_h.1) (none_far hs h c.in-Ok-heights_of.heights (optional_lengths_of w words s) hh
    ∙ (rest_far ys hs y c.in-Ok-hole_axis_of.hole_axis (optional_lengths_of w words s) hy
    ∙ rest_far xs (ys ++ hs) x c.in-Ok.hole_axis (optional_lengths_of w words s) hx))
