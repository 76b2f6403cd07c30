-- The causes of B6 to B19, each as a sentence about what the line asks for and the modes before it (NISTIR 6556, 3.3 to
-- 3.7; numbers own).
use Rattle.std.specs.Prelude.{ℕ, ℤ, pos, Bool, true, false, not, ◌||◌, ◌&&◌, int_lt, Option, Some, None}
use Rattle.std.specs.Option.{is_some, is_none, option_and_then}
use Rattle.ng_num.specs.Whole.{whole_of}
use Rattle.ng_canon.specs.declared.plane.Plane.{Plane}
use Rattle.ng_canon.specs.declared.plane.Plane.TheVariants.{Xy, Xz, Yz}
use Rattle.ng_modal.specs.ByLetter.{has_axis}
use Rattle.ng_modal.specs.Block.{takes_axes, movement_of_word, motion_after, plane_after}
use Rattle.ng_modal.specs.Movement.{movement_of, is_straight, is_arc, is_cycle, dwells, pecks}
use Rattle.ng_modal.specs.declared.requests.NonModal.{NonModal}
use Rattle.ng_modal.specs.declared.requests.NonModal.TheVariants.{Dwell, SetOrigin, MachineCoordinates, SetOffset}
use Rattle.ng_modal.specs.declared.requests.ToolLength.{ToolLength}
use Rattle.ng_modal.specs.declared.requests.ToolLength.TheVariants.{OfSlot}
use Rattle.ng_modal.specs.declared.block.Block.{Block}
use Rattle.ng_state.specs.declared.modes.Modes.{Modes}
use Rattle.ng_state.specs.declared.modes.Motion.{Motion}
use Rattle.ng_state.specs.declared.modes.Motion.TheVariants.{Off}

-- B6: a group 1 word other than G80 on a line with G10, G28, G30 or G92
abbrev pub takes_axes_twice : Block → Bool
takes_axes_twice b = is_some (movement_of_word b) && takes_axes b.g.non_modal

abbrev pub is_off : Motion → Bool
is_off Off = true
is_off _ = false

-- B7: X, Y or Z when the motion mode after the line is G80, without G10, G28, G30 or G92
abbrev pub leaves_axis_unused : Block → Modes → Bool
leaves_axis_unused b m = has_axis b.values && (is_off (motion_after b m) && not (takes_axes b.g.non_modal))

-- B8: a G0 or G1 word without X, Y, Z
abbrev pub moves_no_axis : Block → Bool
moves_no_axis b = is_straight (movement_of_word b) && not (has_axis b.values)

abbrev pub is_set_offset : Option NonModal → Bool
is_set_offset (Some SetOffset) = true
is_set_offset _ = false

-- B9: G92 without X, Y, Z
abbrev pub sets_nothing : Block → Bool
sets_nothing b = is_set_offset b.g.non_modal && not (has_axis b.values)

abbrev pub is_machine : Option NonModal → Bool
is_machine (Some MachineCoordinates) = true
is_machine _ = false

-- B10: G53 when the motion mode after the line isn't G0 or G1
abbrev pub has_bad_g53 : Block → Modes → Bool
has_bad_g53 b m = is_machine b.g.non_modal && not (is_straight (movement_of (motion_after b m)))

-- B11: R on a line that moves by G2 or G3
abbrev pub has_radius_arc : Block → Bool
has_radius_arc b = is_some b.values.r && is_arc b.movement

abbrev pub is_dwell : Option NonModal → Bool
is_dwell (Some Dwell) = true
is_dwell _ = false

abbrev pub is_set_origin : Option NonModal → Bool
is_set_origin (Some SetOrigin) = true
is_set_origin _ = false

abbrev pub is_of_slot : Option ToolLength → Bool
is_of_slot (Some OfSlot) = true
is_of_slot _ = false

-- X is an axis of the plane
abbrev pub is_along_x : Plane → Bool
is_along_x Yz = false
is_along_x _ = true

abbrev pub is_along_y : Plane → Bool
is_along_y Xz = false
is_along_y _ = true

abbrev pub is_along_z : Plane → Bool
is_along_z Xy = false
is_along_z _ = true

-- there is a word that nothing uses
abbrev pub is_unused_word : Option ℤ → Bool → Bool
is_unused_word word taken = is_some word && not taken

-- I, J, K: one that isn't an offset of an arc in its plane
abbrev pub has_unused_offset : Block → Plane → Bool
has_unused_offset b plane =
    is_unused_word b.values.i (is_arc b.movement && is_along_x plane)
    || (is_unused_word b.values.j (is_arc b.movement && is_along_y plane)
    || is_unused_word b.values.k (is_arc b.movement && is_along_z plane))

-- B12: a word that nothing uses: H without G43; I, J, K except as offsets of an arc in its plane; L without G10 or a
-- cycle; P without G4, G10, G82, G86 or G89; Q without G83; R without a cycle or an arc
abbrev pub leaves_word_unused : Block → Modes → Bool
leaves_word_unused b m =
    is_unused_word b.values.h (is_of_slot b.g.tool_length)
    || (has_unused_offset b (plane_after b m)
    || (is_unused_word b.values.l (is_set_origin b.g.non_modal || is_cycle b.movement)
    || (is_unused_word b.values.p (is_dwell b.g.non_modal || (is_set_origin b.g.non_modal || dwells b.movement))
    || (is_unused_word b.values.q (pecks b.movement)
    || is_unused_word b.values.r (is_cycle b.movement || is_arc b.movement)))))

abbrev pub is_negative : Option ℤ → Bool
is_negative None = false
is_negative (Some v) = int_lt v (pos 0)

-- B13: F, S, or P of G4 is negative
abbrev pub has_negative : Block → Bool
has_negative b = is_negative b.values.f || (is_negative b.values.s || (is_dwell b.g.non_modal && is_negative b.values.p))

-- a number from low to high
abbrev pub is_between : ℤ → ℤ → Option ℤ → Bool
is_between low high None = false
is_between low high (Some n) = not (int_lt n low) && not (int_lt high n)

-- there is a word whose value counts as a whole number from low to high
abbrev pub is_whole_within : ℤ → ℤ → Option ℤ → Bool
is_whole_within low high value = is_between low high (option_and_then whole_of value)

-- B14: there is a T or H that isn't a whole number from 0 to the number of slots
abbrev pub has_bad_slot : Block → ℕ → Bool
has_bad_slot b slots =
    is_unused_word b.values.t (is_whole_within (pos 0) (pos slots) b.values.t)
    || is_unused_word b.values.h (is_whole_within (pos 0) (pos slots) b.values.h)

-- a number of at least 1
abbrev pub is_positive : Option ℤ → Bool
is_positive None = false
is_positive (Some n) = not (int_lt n (pos 1))

-- B15: L of G10 is missing or isn't 2; L of a cycle isn't whole or is below 1
abbrev pub has_bad_l : Block → Bool
has_bad_l b =
    (is_set_origin b.g.non_modal && not (is_whole_within (pos 2) (pos 2) b.values.l))
    || (is_cycle b.movement && is_unused_word b.values.l (is_positive (option_and_then whole_of b.values.l)))

-- B16: P of G10 is missing or isn't a whole number from 1 to 9
abbrev pub has_bad_system : Block → Bool
has_bad_system b = is_set_origin b.g.non_modal && not (is_whole_within (pos 1) (pos 9) b.values.p)

-- B17: G4 without P
abbrev pub has_no_dwell : Block → Bool
has_no_dwell b = is_dwell b.g.non_modal && is_none b.values.p

-- B18: G43 without H
abbrev pub has_no_h : Block → Bool
has_no_h b = is_of_slot b.g.tool_length && is_none b.values.h

-- B19: the line moves in a cycle and the plane after the line isn't G17
abbrev pub has_cycle_plane : Block → Modes → Bool
has_cycle_plane b m = is_cycle b.movement && is_along_z (plane_after b m)
