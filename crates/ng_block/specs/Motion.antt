-- The motion of a line: its feed, its pace and its straight moves (NISTIR 6556, 3.5.1, 3.5.2, 3.5.12, 3.5.17, 3.5.19).
use Rattle.std.specs.Prelude.{ℤ, ◌+ℤ◌, ◌-ℤ◌, Bool, true, false, Option, Some, None, unwrap_or, Result, Ok, if◌then◌else◌}
use Rattle.std.specs.Option.{option_map, option_and_then}
use Rattle.ng_num.specs.Range.{in_range}
use Rattle.ng_num.specs.Len.{nm_of}
use Rattle.ng_num.specs.declared.unit.Unit.{Unit as LengthUnit}
use Rattle.ng_num.specs.declared.point.Point.{Point}
use Rattle.ng_num.specs.declared.fault.Fault.{Fault}
use Rattle.ng_canon.specs.Pace.{above_zero}
use Rattle.ng_canon.specs.declared.pace.Pace.{Pace}
use Rattle.ng_canon.specs.declared.pace.Pace.TheVariants as pace
use Rattle.ng_num.specs.Results.{and_then}
use Rattle.ng_modal.specs.Causes.{is_machine}
use Rattle.ng_modal.specs.declared.block.Block.{Block}
use Rattle.ng_state.specs.declared.modes.Modes.{Modes}
use Rattle.ng_modal.specs.declared.movement.Movement.{Movement}
use Rattle.ng_modal.specs.declared.movement.Movement.TheVariants.{Straight, Arc}
use Rattle.ng_modal.specs.declared.movement.StraightKind.{StraightKind}
use Rattle.ng_modal.specs.declared.movement.StraightKind.TheVariants.{Traverse, Feed}
use Rattle.ng_state.specs.declared.modes.Distance.{Distance}
use Rattle.ng_state.specs.declared.modes.Distance.TheVariants.{Absolute, Incremental}
use Rattle.ng_state.specs.declared.modes.FeedMode.{FeedMode}
use Rattle.ng_state.specs.declared.modes.FeedMode.TheVariants.{PerMinute, InverseTime}
use Rattle.ng_offsets.specs.Named.{put}
use Rattle.ng_offsets.specs.Offsets.{shift_x, shift_y, shift_z}
use Rattle.ng_offsets.specs.declared.offsets.Offsets.{Offsets}
use Rattle.ng_state.specs.declared.modal_state.ModalState.{ModalState}
use Rattle.ng_block.specs.AxisData.{unit_after, named_on}

-- the feed mode after the line, which decides how its F is read
abbrev pub feed_mode_after : Block → Modes → FeedMode
feed_mode_after b m = unwrap_or b.g.feed_mode m.feed_mode

abbrev pub is_inverse : FeedMode → Bool
is_inverse PerMinute = false
is_inverse InverseTime = true

-- G1, G2 and G3 go at a feed
abbrev pub is_fed : Option Movement → Bool
is_fed (Some (Straight Feed)) = true
is_fed (Some (Arc turn)) = true
is_fed _ = false

-- the F of a line that sets the feed: under G94
abbrev pub feed_word : FeedMode → Option ℤ → Option ℤ
feed_word PerMinute f = f
feed_word InverseTime f = None

-- the feed that F prints, if F sets it: the feed after the line
abbrev pub feed_set : Block → FeedMode → ℤ → Option ℤ
feed_set b mode feed = option_map (λ f. feed) (feed_word mode b.values.f)

-- the F of a line that is the time of its move: under G93, one minute divided by it
abbrev pub time_word : FeedMode → Option Movement → Option ℤ → Option ℤ
time_word PerMinute movement f = None
time_word InverseTime movement f = if is_fed movement then f else None

-- the feed after the line, a length per minute in the unit before the line's own G20 or G21
abbrev pub feed_by : Option ℤ → LengthUnit → ℤ → Result ℤ Fault
feed_by None unit old = Ok old
feed_by (Some f) unit old = in_range (nm_of f unit)

abbrev pub feed_of : Block → ModalState → Result ℤ Fault
feed_of b m = feed_by (feed_word (feed_mode_after b m.modes) b.values.f) m.modes.unit m.feed_per_min

-- the pace of a move at a feed; `None` if the feed or the time is missing
abbrev pub fed_pace : FeedMode → ℤ → Option ℤ → Option Pace
fed_pace PerMinute feed f = option_map pace.Feed (above_zero feed)
fed_pace InverseTime feed f = option_map pace.InverseTime (option_and_then above_zero f)

-- with the feed after the line
abbrev pub fed_pace_of : Block → ModalState → ℤ → Option Pace
fed_pace_of b m feed = fed_pace (feed_mode_after b m.modes) feed b.values.f

-- the pace of a straight move
abbrev pub straight_pace : StraightKind → Block → ModalState → ℤ → Option Pace
straight_pace Traverse b m feed = Some pace.Traverse
straight_pace Feed b m feed = fed_pace_of b m feed

-- the program coordinate that a length names: the length, or its sum with the current coordinate
abbrev pub program_coordinate : Distance → ℤ → ℤ → Result ℤ Fault
program_coordinate Absolute current length = Ok length
program_coordinate Incremental current length = and_then (in_range current) (λ c. in_range (c +ℤ length))

-- the machine coordinate of an axis after a move: an axis that isn't named stays
abbrev pub coordinate : Option ℤ → LengthUnit → Distance → ℤ → ℤ → Result ℤ Fault
coordinate None unit distance shift machine = Ok machine
coordinate (Some word) unit distance shift machine =
    and_then (in_range (nm_of word unit)) (λ length.
    and_then (program_coordinate distance (machine -ℤ shift) length) (λ program.
    in_range (program +ℤ shift)))

-- the end of a move under these offsets, in the unit and distance mode after the line
abbrev pub end_of : Block → ModalState → Offsets → Result Point Fault
end_of b m o =
    let unit = unit_after b m.modes in
    let distance = unwrap_or b.g.distance m.modes.distance in
    and_then (coordinate b.values.x unit distance (shift_x o) m.point.x) (λ x.
    and_then (coordinate b.values.y unit distance (shift_y o) m.point.y) (λ y.
    and_then (coordinate b.values.z unit distance (shift_z o) m.point.z) (λ z.
    Ok (record { x = x; y = y; z = z }))))

-- under G53 a length is a machine coordinate, in both distance modes
abbrev pub machine_end_of : Block → ModalState → Result Point Fault
machine_end_of b m = and_then (named_on b m.modes) (λ named. Ok (put named m.point))

abbrev pub straight_end_of : Block → ModalState → Offsets → Result Point Fault
straight_end_of b m o = if is_machine b.g.non_modal then machine_end_of b m else end_of b m o
