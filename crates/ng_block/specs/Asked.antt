-- What a line asks for, even if it is refused: its pieces, their values, and the move that these ask for (NISTIR 6556,
-- 3.3, 3.5).
use Rattle.std.specs.Prelude.{ℕ, ℤ, List, [], ◌∷◌, Option, Some, None, false, if◌then◌else◌, Result, Ok, Err}
use Rattle.std.specs.Result.{result_unwrap_or}
use Rattle.ng_num.specs.Results.{and_then}
use Rattle.ng_num.specs.declared.fault.Fault.{Fault}
use Rattle.ng_num.specs.declared.point.Point.{Point}
use Rattle.ng_canon.specs.declared.pace.Pace.{Pace}
use Rattle.ng_canon.specs.declared.pace.Pace.TheVariants.{Traverse}
use Rattle.ng_canon.specs.declared.plane.ArcDirection.{ArcDirection}
use Rattle.ng_words.specs.Plain.{plain}
use Rattle.ng_words.specs.Reading.{parse_line}
use Rattle.ng_words.specs.Grammar.{ParsedLine, Piece}
use Rattle.ng_expr.specs.Settle.{Settled, nothing, followed, given}
use Rattle.ng_arc.specs.declared.asked.AskedArc.{AskedArc}
use Rattle.ng_modal.specs.ByLetter.{has_axis}
use Rattle.ng_modal.specs.declared.movement.Movement.{Movement}
use Rattle.ng_modal.specs.declared.movement.Movement.TheVariants as movement
use Rattle.ng_modal.specs.declared.movement.StraightKind.{StraightKind}
use Rattle.ng_modal.specs.declared.block.Block.{Block}
use Rattle.ng_offsets.specs.declared.offsets.Offsets.{Offsets}
use Rattle.ng_cycles.specs.declared.words.CycleWords.{CycleWords}
use Rattle.ng_cycles.specs.declared.words.CycleKind.{CycleKind}
use Rattle.ng_cycles.specs.declared.words.CycleContext.{CycleContext}
use Rattle.ng_state.specs.declared.modal_state.ModalState.{ModalState}
use Rattle.ng_block.specs.declared.shifts.Shifted.{Shifted}
use Rattle.ng_block.specs.Arcs.{centre_offsets_on, asked_by}
use Rattle.ng_block.specs.Motion.{feed_of, fed_pace_of, straight_pace, end_of, straight_end_of}
use Rattle.ng_block.specs.Cycles.{kept_for, own_words, cycle_words, context_of}
use Rattle.ng_block.specs.Homes.{home_on}
use Rattle.ng_block.specs.Shifts.{shift_of}

-- ---- its values

-- the parsed line of a text of any length; `None` if it isn't a line
abbrev pub written_on : List ℕ → Option ParsedLine
written_on text = parse_line (plain false text)

abbrev pub pieces_in : Option ParsedLine → List Piece
pieces_in None = []
pieces_in (Some line) = line.pieces

-- the values of its pieces, each from the table as it was before the line; a piece without a value is left out
abbrev pub values_of : List Piece → List ℤ → Settled
values_of [] table = nothing
values_of (p ∷ pieces) table = followed (result_unwrap_or (given table p) nothing) (values_of pieces table)

-- ---- its feed and its offsets

-- the feed at its motion; if that is out of range, the one before the line
abbrev pub feed_at_motion : Block → ModalState → ℤ
feed_at_motion b m = result_unwrap_or (feed_of b m) m.feed_per_min

-- the offsets at its motion; if one of them is out of range, those before the line
abbrev pub offsets_found : Result Shifted Fault → Offsets → Offsets
offsets_found (Ok found) before = found.offsets
offsets_found (Err fault) before = before

abbrev pub offsets_at_motion : Block → ModalState → List ℤ → List ℤ → Offsets
offsets_at_motion b m table lengths = offsets_found (shift_of b m table lengths) m.offsets

-- ---- its move

pub data Move : Type 0 where
  Stays : Move  -- nothing moves
  Goes : Option Pace → Point → Move  -- straight to an end, at a pace if there is one
  Turns : Option Pace → AskedArc → Move  -- around an arc
  GoesHome : Point → Point → Move  -- to an intermediate point, and on from there to the home
  Drills : CycleWords → CycleContext → Move  -- in a canned cycle

abbrev pub straight : StraightKind → Block → ModalState → Offsets → ℤ → Result Move Fault
straight kind b m o feed = and_then (straight_end_of b m o) (λ end. Ok (Goes (straight_pace kind b m feed) end))

abbrev pub round : ArcDirection → Block → ModalState → Offsets → ℤ → Result Move Fault
round turn b m o feed =
    and_then (end_of b m o) (λ end.
    and_then (centre_offsets_on b m.modes) (λ offsets.
    Ok (Turns (fed_pace_of b m feed) (asked_by b m turn end offsets))))

abbrev pub in_cycle : CycleKind → Block → ModalState → Offsets → ℤ → Result Move Fault
in_cycle kind b m o feed =
    and_then (own_words b m.modes) (λ own.
    and_then (cycle_words b m.modes kind own) (λ words.
    Ok (Drills words (context_of b m o feed (kept_for kind m)))))

abbrev pub homeward : Option Point → Block → ModalState → Offsets → Result Move Fault
homeward None b m o = Ok Stays
homeward (Some home) b m o =
    if has_axis b.values
    then and_then (end_of b m o) (λ between. Ok (GoesHome between home))
    else Ok (Goes (Some Traverse) home)

-- the move from the machine's position, under these offsets and at this feed; or E3 if a length that its words name is
-- out of range
abbrev pub move_for : Option Movement → Block → ModalState → Offsets → List ℤ → ℤ → Result Move Fault
move_for (Some (movement.Straight kind)) b m o table feed = straight kind b m o feed
move_for (Some (movement.Arc turn)) b m o table feed = round turn b m o feed
move_for (Some (movement.Cycle kind)) b m o table feed = in_cycle kind b m o feed
move_for None b m o table feed = homeward (home_on b.g.non_modal table) b m o

abbrev pub move_by : Block → ModalState → Offsets → List ℤ → ℤ → Result Move Fault
move_by b m o table feed = move_for b.movement b m o table feed

abbrev pub move_on : Block → ModalState → List ℤ → List ℤ → Result Move Fault
move_on b m table lengths = move_by b m (offsets_at_motion b m table lengths) table (feed_at_motion b m)
