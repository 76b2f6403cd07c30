-- A cycle's lengths in machine coordinates, and the lengths whose range is checked (NISTIR 6556, 3.5.16, 3.5.17; ranges
-- own).
use Rattle.std.specs.Prelude.{ℕ, ℤ, pos, ◌+ℤ◌, ◌-ℤ◌, ◌*ℤ◌, unsigned_abs, Bool, true, false, not, nat_le}
use Rattle.std.specs.Prelude.{if◌then◌else◌, Option, Some, None, List, [], ◌∷◌, ◌++◌, flat_map, Result, Ok, Err}
use Rattle.std.specs.List.{list_any}
use Rattle.std.specs.Option.{option_map, option_and_then}
use Rattle.ng_num.specs.Range.{greatest}
use Rattle.ng_num.specs.declared.fault.Fault.{Fault}
use Rattle.ng_num.specs.declared.fault.Fault.TheVariants.{OutOfRange}
use Rattle.ng_offsets.specs.Offsets.{shift_x, shift_y, shift_z}
use Rattle.ng_cycles.specs.declared.drill.HoleAxis.{HoleAxis}
use Rattle.ng_cycles.specs.declared.heights.OptionalLengths.{OptionalLengths}
use Rattle.ng_cycles.specs.declared.heights.Heights.{Heights}
use Rattle.ng_cycles.specs.declared.heights.Lengths.{Lengths}
use Rattle.ng_cycles.specs.declared.words.CycleWords.{CycleWords}
use Rattle.ng_state.specs.declared.kept_words.KeptWords.{KeptWords}
use Rattle.ng_cycles.specs.declared.words.CycleContext.{CycleContext}
use Rattle.ng_cycles.specs.Strokes.{numbers_from}

-- ---- machine coordinates

-- the holes' coordinates along an axis: under G90 the named one for all repeats, under G91 starting at the current one
abbrev pub hole_axis_of : Bool → Option ℤ → ℤ → ℤ → HoleAxis
hole_axis_of incremental None shift at = record { from = at; step = pos 0 }
hole_axis_of false (Some word) shift at = record { from = word +ℤ shift; step = pos 0 }
hole_axis_of true (Some word) shift at = record { from = at; step = word }

-- R: under G91 it counts from the current Z
abbrev pub r_of : Bool → ℤ → ℤ → ℤ → ℤ
r_of false word shift at = word +ℤ shift
r_of true word shift at = at +ℤ word

-- Z: under G91 it counts from R
abbrev pub z_of : Bool → ℤ → ℤ → ℤ → ℤ
z_of false word shift r = word +ℤ shift
z_of true word shift r = r +ℤ word

abbrev pub z_by : Bool → Option ℤ → Option ℤ → ℤ → ℤ → Option ℤ
z_by incremental r None shift at = None
z_by false r (Some word) shift at = Some (word +ℤ shift)
z_by true None (Some word) shift at = None
z_by true (Some r) (Some word) shift at = Some ((at +ℤ r) +ℤ word)

-- R and Z from words that may be missing; under G91 there is no Z if R is missing
abbrev pub heights_of : Bool → KeptWords → ℤ → ℤ → Heights
heights_of incremental words shift at = record { r = option_map (λ r. r_of incremental r shift at) words.r; z = z_by incremental words.r words.z shift at }

abbrev pub optional_lengths_of : CycleWords → KeptWords → CycleContext → OptionalLengths
optional_lengths_of w words s = record {
  x = hole_axis_of s.is_incremental w.x (shift_x s.offsets) s.point.x;
  y = hole_axis_of s.is_incremental w.y (shift_y s.offsets) s.point.y;
  heights = heights_of s.is_incremental words (shift_z s.offsets) s.point.z;
}

-- all lengths, if R and Z are there
abbrev pub lengths_in : OptionalLengths → Option Lengths
lengths_in f = option_and_then (λ r. option_map (λ z. record { x = f.x; y = f.y; r = r; z = z }) f.heights.z) f.heights.r

-- ---- what is checked: the current and the new program coordinates if the line needs them, and the machine coordinates

-- a program and a machine coordinate at the hole of a repeat
abbrev pub repeated : ℤ → ℤ → ℤ → ℕ → List ℤ
repeated program machine word r = (program +ℤ pos r *ℤ word) ∷ (machine +ℤ pos r *ℤ word) ∷ []

abbrev pub place_lengths : Bool → Option ℤ → ℤ → ℤ → ℕ → List ℤ
place_lengths incremental None shift at repeats = []
place_lengths false (Some word) shift at repeats = (word +ℤ shift) ∷ []
place_lengths true (Some word) shift at repeats =
    (at -ℤ shift) ∷ flat_map (repeated (at -ℤ shift) at word) (numbers_from 1 repeats)

abbrev pub r_lengths : Bool → Option ℤ → ℤ → ℤ → List ℤ
r_lengths incremental None shift at = []
r_lengths false (Some word) shift at = (word +ℤ shift) ∷ []
r_lengths true (Some word) shift at = (at -ℤ shift) ∷ ((at -ℤ shift) +ℤ word) ∷ (at +ℤ word) ∷ []

-- under G91 there is no Z if R is missing
abbrev pub z_lengths : Bool → Option ℤ → Option ℤ → ℤ → ℤ → List ℤ
z_lengths incremental r None shift at = []
z_lengths false r (Some word) shift at = (word +ℤ shift) ∷ []
z_lengths true None (Some word) shift at = []
z_lengths true (Some r) (Some word) shift at = (((at -ℤ shift) +ℤ r) +ℤ word) ∷ ((at +ℤ r) +ℤ word) ∷ []

abbrev pub height_lengths : KeptWords → CycleContext → List ℤ
height_lengths words s =
    r_lengths s.is_incremental words.r (shift_z s.offsets) s.point.z
    ++ z_lengths s.is_incremental words.r words.z (shift_z s.offsets) s.point.z

-- the lengths with the words in force
abbrev pub lengths : CycleWords → KeptWords → CycleContext → List ℤ
lengths w words s =
    place_lengths s.is_incremental w.x (shift_x s.offsets) s.point.x w.repeats
    ++ (place_lengths s.is_incremental w.y (shift_y s.offsets) s.point.y w.repeats
    ++ height_lengths words s)

-- beyond the range of lengths
abbrev pub is_far : ℤ → Bool
is_far n = not (nat_le (unsigned_abs n) greatest)

-- a value, unless one of some lengths is out of range
abbrev pub far_unless : {X : Type 0} → List ℤ → X → Result X Fault
far_unless lengths x = if list_any is_far lengths then Err OutOfRange else Ok x
