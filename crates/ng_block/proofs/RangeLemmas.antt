-- What a line computes is refused only if it is out of range.
use Rattle.std.proofs.Common.{◌≡◌, ℕ, ℤ, ◌+ℤ◌, ◌-ℤ◌, Bool, true, false, List, [], ◌∷◌, Option, Some, None, Result, Ok, Err, refl, sym, ◌∙◌, if◌then◌else◌}
use Rattle.std.specs.Prelude.{nat_le, ◌==◌, unsigned_abs, unwrap_or}
use Rattle.ng_num.specs.Len.{nm_of}
use Rattle.ng_num.specs.Range.{greatest, in_range}
use Rattle.ng_num.specs.Results.{and_then}
use Rattle.ng_num.specs.declared.fault.Fault.{Fault}
use Rattle.ng_num.specs.declared.fault.Fault.TheVariants.{OutOfRange}
use Rattle.ng_num.specs.declared.point.Point.{Point}
use Rattle.ng_num.specs.declared.unit.Unit.{Unit as LengthUnit}
use Rattle.ng_canon.specs.declared.plane.ArcDirection.{ArcDirection}
use Rattle.ng_params.specs.declared.change.Change.{Change}
use Rattle.ng_modal.specs.WholeNumbers.{system_on}
use Rattle.ng_modal.specs.ByLetter.{has_axis}
use Rattle.ng_modal.specs.Causes.{is_machine}
use Rattle.ng_modal.specs.declared.movement.Movement.{Movement}
use Rattle.ng_modal.specs.declared.movement.Movement.TheVariants as movement
use Rattle.ng_modal.specs.declared.movement.StraightKind.{StraightKind}
use Rattle.ng_modal.specs.declared.requests.NonModal.{NonModal}
use Rattle.ng_modal.specs.declared.requests.NonModal.TheVariants.{Dwell, SetOrigin, Home, SecondHome}
use Rattle.ng_modal.specs.declared.requests.NonModal.TheVariants.{MachineCoordinates, SetOffset, CancelOffsetAndParameters}
use Rattle.ng_modal.specs.declared.requests.NonModal.TheVariants.{CancelOffset, RestoreOffset}
use Rattle.ng_modal.specs.declared.block.Block.{Block}
use Rattle.ng_state.specs.declared.modes.Distance.{Distance}
use Rattle.ng_state.specs.declared.modes.Distance.TheVariants.{Absolute, Incremental}
use Rattle.ng_state.specs.declared.modes.Modes.{Modes}
use Rattle.ng_offsets.specs.Named.{length_by, named_by}
use Rattle.ng_offsets.specs.Origins.{printed, storing, selected, origin_by, given_origin, offset_for, offsets_for, set_offset}
use Rattle.ng_params.specs.Points.{origin_of, g92_stored, g92_changes, origin_changes, selection}
use Rattle.ng_offsets.specs.Offsets.{shift_x, shift_y, shift_z, point_of}
use Rattle.ng_offsets.specs.declared.named.Named.{Named}
use Rattle.ng_offsets.specs.declared.offsets.Offsets.{Offsets}
use Rattle.ng_cycles.specs.declared.words.CycleKind.{CycleKind}
use Rattle.ng_state.specs.declared.modal_state.ModalState.{ModalState}
use Rattle.ng_block.specs.Arcs.{centre_offsets_on}
use Rattle.ng_block.specs.Asked.{straight, round, in_cycle, homeward, move_for, move_by}
use Rattle.ng_block.specs.AxisData.{unit_after, no_axis_data, named_on, system_after, with_system, with_origin}
use Rattle.ng_block.specs.AxisData.{with_offset, axis_data_by, axis_data_of, offsets_after}
use Rattle.ng_block.specs.Motion.{feed_word, feed_by, feed_of, feed_mode_after, program_coordinate, coordinate, end_of, straight_end_of}
use Rattle.ng_block.specs.Cycles.{own_words, cycle_words}
use Rattle.ng_block.specs.Homes.{home_on}
use Rattle.ng_block.specs.Shifts.{shift_of}
use Rattle.ng_block.specs.ToolLength.{offsets_after_length}

-- it is found, or it is out of range
pub record OnlyFar {X : Type 0} (r : Result X Fault) : Type 0 where
  pub fault_is : (fault : Fault) → r ≡ Err fault → fault ≡ OutOfRange

found : {X : Type 0} (x : X) → OnlyFar (Ok x)
found x = record { fault_is = λ fault e. absurd (cc e) }

far_then : {X Y : Type 0} (r : Result X Fault) (next : X → Result Y Fault) → OnlyFar r → ((x : X) → OnlyFar (next x)) → OnlyFar (and_then r next)
far_then (Ok x) next a b = b x
far_then (Err fault) next a b = record { fault_is = λ other e. let same : fault ≡ other = cc e in sym same ∙ a.fault_is fault refl }

far_if : {X : Type 0} (c : Bool) (a b : Result X Fault) → OnlyFar a → OnlyFar b → OnlyFar (if c then a else b)
far_if true a b p q = p
far_if false a b p q = q

far_in_range : (n : ℤ) → OnlyFar (in_range n)
far_in_range n = far_if (nat_le (unsigned_abs n) greatest) (Ok n) (Err OutOfRange) (found n)
    (record { fault_is = λ fault e. let same : OutOfRange ≡ fault = cc e in sym same })

-- ---- lengths and points

far_length : (word : Option ℤ) (unit : LengthUnit) → OnlyFar (length_by word unit)
far_length None unit = found _
far_length (Some n) unit = far_then (in_range (nm_of n unit)) _ (far_in_range (nm_of n unit)) (λ length. found (Some length))

far_named : (x y z : Option ℤ) (unit : LengthUnit) → OnlyFar (named_by x y z unit)
far_named x y z unit =
    far_then (length_by x unit) _ (far_length x unit) (λ _.
    far_then (length_by y unit) _ (far_length y unit) (λ _.
    far_then (length_by z unit) _ (far_length z unit) (λ _. found _)))

far_point : (x y z : ℤ) → OnlyFar (point_of x y z)
far_point x y z =
    far_then (in_range x) _ (far_in_range x) (λ _.
    far_then (in_range y) _ (far_in_range y) (λ _.
    far_then (in_range z) _ (far_in_range z) (λ _. found _)))

far_program : (distance : Distance) (current length : ℤ) → OnlyFar (program_coordinate distance current length)
far_program Absolute current length = found _
far_program Incremental current length = far_then (in_range current) _ (far_in_range current) (λ c. far_in_range (c +ℤ length))

far_coordinate : (word : Option ℤ) (unit : LengthUnit) (distance : Distance) (shift machine : ℤ) → OnlyFar (coordinate word unit distance shift machine)
far_coordinate None unit distance shift machine = found _
far_coordinate (Some word) unit distance shift machine =
    far_then (in_range (nm_of word unit)) _ (far_in_range (nm_of word unit)) (λ length.
    far_then (program_coordinate distance (machine -ℤ shift) length) _
    (far_program distance (machine -ℤ shift) length) (λ program. far_in_range (program +ℤ shift)))

far_end : (b : Block) (m : ModalState) (o : Offsets) → OnlyFar (end_of b m o)
far_end b m o =
    let unit = unit_after b m.modes in
    let distance = unwrap_or b.g.distance m.modes.distance in
    far_then (coordinate b.values.x unit distance (shift_x o) m.point.x) _ (far_coordinate b.values.x unit distance (shift_x o) m.point.x) (λ _.
    far_then (coordinate b.values.y unit distance (shift_y o) m.point.y) _ (far_coordinate b.values.y unit distance (shift_y o) m.point.y) (λ _.
    far_then (coordinate b.values.z unit distance (shift_z o) m.point.z) _ (far_coordinate b.values.z unit distance (shift_z o) m.point.z) (λ _. found _)))

far_named_on : (b : Block) (m : Modes) → OnlyFar (named_on b m)
far_named_on b m = far_named b.values.x b.values.y b.values.z (unit_after b m)

far_straight_end : (b : Block) (m : ModalState) (o : Offsets) → OnlyFar (straight_end_of b m o)
far_straight_end b m o = far_if (is_machine b.g.non_modal) _ _ (far_then (named_on b m.modes) _ (far_named_on b m.modes) (λ _. found _)) (far_end b m o)

-- ---- the feed

far_feed_by : (f : Option ℤ) (unit : LengthUnit) (old : ℤ) → OnlyFar (feed_by f unit old)
far_feed_by None unit old = found _
far_feed_by (Some f) unit old = far_in_range (nm_of f unit)

pub far_feed : (b : Block) (m : ModalState) → OnlyFar (feed_of b m)
far_feed b m = far_feed_by (feed_word (feed_mode_after b m.modes) b.values.f) m.modes.unit m.feed_per_min

-- ---- the offsets

far_printed : (o : Offsets) → OnlyFar (printed o)
far_printed o =
    let x = o.origin.x +ℤ o.g92.x in
    let y = o.origin.y +ℤ o.g92.y in
    let z = o.origin.z +ℤ o.g92.z in
    far_then (point_of x y z) _ (far_point x y z) (λ shown. found (record { offsets = o; shown = shown }))

-- with changes of parameters
far_storing : {X : Type 0} (r : Result X Fault) (changes : X → List Change) → OnlyFar r → OnlyFar (storing r changes)
far_storing r changes a = far_then r _ a (λ x. found (x, changes x))

far_selected : (o : Offsets) (system : ℕ) (table : List ℤ) → OnlyFar (selected o system table)
far_selected o system table =
    let new : Offsets = record o { origin = origin_of table system } in
    far_storing (printed new) (λ _. selection system ∷ []) (far_printed new)

far_system : (system : Option ℕ) (o : Offsets) (table : List ℤ) → OnlyFar (with_system system o table)
far_system None o table = found None
far_system (Some system) o table = far_then (selected o system table) _ (far_selected o system table) (λ found_there. found (Some found_there.0))

far_given : (o : Offsets) (system in_force : ℕ) (named : Named) (table : List ℤ) → OnlyFar (given_origin o system in_force named table)
far_given o system in_force named table =
    let origin = origin_by system named table in
    let changes = origin_changes system origin in
    let new : Offsets = record o { origin = origin } in
    far_if (system == in_force) (and_then (printed new) (λ shown. Ok (Some shown, changes))) (Ok (None, changes))
    (far_then (printed new) _ (far_printed new) (λ shown. found (Some shown, changes))) (found (None, changes))

far_origin : (system : Option ℕ) (b : Block) (m : Modes) (o : Offsets) (table : List ℤ) → OnlyFar (with_origin system b m o table)
far_origin None b m o table = found no_axis_data
far_origin (Some system) b m o table =
    far_then (named_on b m) _ (far_named_on b m) (λ named.
    far_then (given_origin o system (system_after b m) named table) _
    (far_given o system (system_after b m) named table)
    (λ given. found (record { new = given.0; stored = Some given.1 })))

far_offset_for : (wanted : Option ℤ) (old shift machine : ℤ) → OnlyFar (offset_for wanted old shift machine)
far_offset_for None old shift machine = found _
far_offset_for (Some wanted) old shift machine = far_then (in_range (machine -ℤ shift)) _
    (far_in_range (machine -ℤ shift)) (λ current. far_in_range ((old +ℤ current) -ℤ wanted))

far_offsets_for : (o : Offsets) (wanted : Named) (machine : Point) → OnlyFar (offsets_for o wanted machine)
far_offsets_for o wanted machine =
    far_then (offset_for wanted.x o.g92.x (shift_x o) machine.x) _ (far_offset_for wanted.x o.g92.x (shift_x o) machine.x) (λ _.
    far_then (offset_for wanted.y o.g92.y (shift_y o) machine.y) _ (far_offset_for wanted.y o.g92.y (shift_y o) machine.y) (λ _.
    far_then (offset_for wanted.z o.g92.z (shift_z o) machine.z) _ (far_offset_for wanted.z o.g92.z (shift_z o) machine.z) (λ _. found _)))

far_set : (o : Offsets) (named : Named) (machine : Point) → OnlyFar (set_offset o named machine)
far_set o named machine =
    far_then (offsets_for o named machine) _ (far_offsets_for o named machine) (λ offset.
    let new : Offsets = record o { g92 = offset } in
    far_storing (printed new) (λ _. g92_changes offset) (far_printed new))

far_offset : (b : Block) (m : Modes) (machine : Point) (o : Offsets) → OnlyFar (with_offset b m machine o)
far_offset b m machine o =
    far_then (named_on b m) _ (far_named_on b m) (λ named.
    far_then (set_offset o named machine) _ (far_set o named machine) (λ set. found (record { new = Some set.0; stored = Some set.1 })))

far_axis_data : (word : Option NonModal) (b : Block) (m : Modes) (machine : Point) (o : Offsets) (table : List ℤ)
    → OnlyFar (axis_data_by word b m machine o table)
far_axis_data None b m machine o table = found _
far_axis_data (Some Dwell) b m machine o table = found _
far_axis_data (Some Home) b m machine o table = found _
far_axis_data (Some SecondHome) b m machine o table = found _
far_axis_data (Some MachineCoordinates) b m machine o table = found _
far_axis_data (Some SetOrigin) b m machine o table = far_origin (system_on b.values.p) b m o table
far_axis_data (Some SetOffset) b m machine o table = far_offset b m machine o
far_axis_data (Some CancelOffsetAndParameters) b m machine o table = found _
far_axis_data (Some CancelOffset) b m machine o table = found _
far_axis_data (Some RestoreOffset) b m machine o table =
    let new : Offsets = record o { g92 = g92_stored table } in
    far_then (printed new) _ (far_printed new) (λ restored. found (record { new = Some restored; stored = None }))

pub far_shift : (b : Block) (m : ModalState) (table lengths : List ℤ) → OnlyFar (shift_of b m table lengths)
far_shift b m table lengths =
    let o = offsets_after_length b.g.tool_length b.values.h lengths m.offsets in
    far_then (with_system b.g.system o table) _ (far_system b.g.system o table) (λ system.
    far_then (axis_data_of b m.modes m.point (offsets_after system o) table) _
    (far_axis_data b.g.non_modal b m.modes m.point (offsets_after system o) table) (λ _. found _))

-- ---- the move

far_own : (b : Block) (m : Modes) → OnlyFar (own_words b m)
far_own b m =
    far_then (length_by b.values.r (unit_after b m)) _ (far_length b.values.r (unit_after b m)) (λ _.
    far_then (length_by b.values.z (unit_after b m)) _ (far_length b.values.z (unit_after b m)) (λ _.
    far_then (length_by b.values.q (unit_after b m)) _ (far_length b.values.q (unit_after b m)) (λ _. found _)))

far_straight : (kind : StraightKind) (b : Block) (m : ModalState) (o : Offsets) (feed : ℤ) → OnlyFar (straight kind b m o feed)
far_straight kind b m o feed = far_then (straight_end_of b m o) _ (far_straight_end b m o) (λ _. found _)

far_round : (turn : ArcDirection) (b : Block) (m : ModalState) (o : Offsets) (feed : ℤ) → OnlyFar (round turn b m o feed)
far_round turn b m o feed =
    far_then (end_of b m o) _ (far_end b m o) (λ _.
    far_then (centre_offsets_on b m.modes) _
    (far_then (named_by b.values.i b.values.j b.values.k (unit_after b m.modes)) _
    (far_named b.values.i b.values.j b.values.k (unit_after b m.modes)) (λ _. found _)) (λ _. found _))

far_in_cycle : (kind : CycleKind) (b : Block) (m : ModalState) (o : Offsets) (feed : ℤ) → OnlyFar (in_cycle kind b m o feed)
far_in_cycle kind b m o feed =
    far_then (own_words b m.modes) _ (far_own b m.modes) (λ own.
    far_then (cycle_words b m.modes kind own) _ (far_then (named_on b m.modes) _ (far_named_on b m.modes) (λ _. found _)) (λ _. found _))

far_homeward : (home : Option Point) (b : Block) (m : ModalState) (o : Offsets) → OnlyFar (homeward home b m o)
far_homeward None b m o = found _
far_homeward (Some home) b m o = far_if (has_axis b.values) _ _ (far_then (end_of b m o) _ (far_end b m o) (λ _. found _)) (found _)

far_move_for : (moves : Option Movement) (b : Block) (m : ModalState) (o : Offsets) (table : List ℤ) (feed : ℤ)
    → OnlyFar (move_for moves b m o table feed)
far_move_for (Some (movement.Straight kind)) b m o table feed = far_straight kind b m o feed
far_move_for (Some (movement.Arc turn)) b m o table feed = far_round turn b m o feed
far_move_for (Some (movement.Cycle kind)) b m o table feed = far_in_cycle kind b m o feed
far_move_for None b m o table feed = far_homeward (home_on b.g.non_modal table) b m o

pub far_move : (b : Block) (m : ModalState) (o : Offsets) (table : List ℤ) (feed : ℤ) → OnlyFar (move_by b m o table feed)
far_move b m o table feed = far_move_for b.movement b m o table feed
