-- Why a line is refused: all faults, each with its cause, in the order in which they are checked (own; NISTIR 6556, 3.3
-- to 3.8). Each cause is about what the line asks for, even if the line is refused for another one; only an arc without
-- a feed isn't asked whether it leaves the travel.
use Rattle.std.specs.Prelude.{ℕ, ℤ, int_lt, Bool, true, false, ◌||◌, List, [], ◌∷◌, ◌++◌, length, Some, None, is_none, is_err, Result, Ok, Err}
use Rattle.std.specs.List.{list_any}
use Rattle.std.specs.Result.{result_unwrap_or}
use Rattle.ng_num.specs.declared.fault.Fault.{Fault}
use Rattle.ng_num.specs.declared.fault.Fault.TheVariants.{LineTooLong, Unreadable, OutOfRange, CycleNoAxis, NoZ}
use Rattle.ng_num.specs.declared.fault.Fault.TheVariants.{NoR, RBelowZ, InverseTime, NoFeed, OutsideTravel}
use Rattle.ng_params.specs.Change.{with_changes}
use Rattle.ng_canon.specs.Pace.{above_zero}
use Rattle.ng_canon.specs.declared.geometry.Geometry.{Geometry}
use Rattle.ng_words.specs.Grammar.{Piece, is_too_long}
use Rattle.ng_expr.specs.Settle.{Settled, given}
use Rattle.ng_modal.specs.BlockOfWords.{block_of}
use Rattle.ng_modal.specs.Checking.{faults}
use Rattle.ng_modal.specs.declared.block.Block.{Block}
use Rattle.ng_arc.specs.Asked.{shape_of}
use Rattle.ng_arc.specs.Shape.{arc_at}
use Rattle.ng_arc.specs.Checking.{is_centre_beyond, arc_causes}
use Rattle.ng_cycles.specs.Faults.{drill_of, names_no_axis, work_causes, leaves_travel}
use Rattle.ng_cycles.specs.Heights.{lengths, is_far}
use Rattle.ng_state.specs.KeptWords.{in_force}
use Rattle.ng_cycles.specs.declared.words.CycleWords.{CycleWords}
use Rattle.ng_cycles.specs.declared.words.CycleContext.{CycleContext}
use Rattle.ng_state.specs.declared.modal_state.ModalState.{ModalState}
use Rattle.ng_block.specs.Asked.{written_on, pieces_in, values_of, Move, Stays, Goes, Turns, GoesHome, Drills, move_on}
use Rattle.ng_block.specs.Motion.{feed_of}
use Rattle.ng_block.specs.Faults.{ends_outside, turns_outside, homes_outside}
use Rattle.ng_state.specs.State.{StateModel}
use Rattle.ng_block.specs.Shifts.{shift_of}

-- E3 to E5: a piece has no value; the value says why
abbrev pub value_cause : Result Settled Fault → List (Bool × Fault)
value_cause (Ok settled) = []
value_cause (Err fault) = (true, fault) ∷ []

abbrev pub value_causes : List Piece → List ℤ → List (Bool × Fault)
value_causes [] table = []
value_causes (p ∷ pieces) table = value_cause (given table p) ++ value_causes pieces table

-- an arc's centre, or a length of a cycle, is out of range
abbrev pub reaches_far : Move → Bool
reaches_far (Turns pace asked) = is_centre_beyond asked
reaches_far (Drills w s) = list_any is_far (lengths w (in_force w.own s.kept) s)
reaches_far _ = false

-- E3: the feed, an offset, or a length of the move is out of range
abbrev pub computes_beyond : Block → ModalState → List ℤ → List ℤ → Bool
computes_beyond b m table tools =
    is_err (feed_of b m) || (is_err (shift_of b m table tools)
    || (is_err (move_on b m table tools) || reaches_far (result_unwrap_or (move_on b m table tools) Stays)))

-- C1 to C4 of an arc
abbrev pub arc_faults : Move → List (Bool × Fault)
arc_faults (Turns pace asked) = arc_causes asked (shape_of asked)
arc_faults _ = []

-- Y1 to Y8 of a canned cycle
abbrev pub cycle_causes : CycleWords → CycleContext → List (Bool × Fault)
cycle_causes w s =
    let words = in_force w.own s.kept in
    let d = drill_of w s in
    (names_no_axis w, CycleNoAxis)
    ∷ ((is_none words.z, NoZ)
    ∷ ((is_none words.r, NoR)
    ∷ ((int_lt d.r d.z, RBelowZ)
    ∷ ((s.is_inverse_time, InverseTime)
    ∷ work_causes w.kind words s.outputs.spindle))))

abbrev pub cycle_faults : Move → List (Bool × Fault)
cycle_faults (Drills w s) = cycle_causes w s
cycle_faults _ = []

-- X1: it moves at a feed, and under G94 the feed is 0, under G93 the line has no F above 0
abbrev pub has_no_feed : Move → Bool
has_no_feed (Goes pace end) = is_none pace
has_no_feed (Turns pace asked) = is_none pace
has_no_feed (Drills w s) = is_none (above_zero s.feed_per_min)
has_no_feed _ = false

-- X2, of a straight move, an arc and a way home; of a cycle, if one of its moves ends outside the travel. An arc without
-- a feed has X1, which comes first
abbrev pub goes_outside : Move → Geometry → Bool
goes_outside Stays geometry = false
goes_outside (Goes pace end) geometry = ends_outside geometry end
goes_outside (Turns None asked) geometry = false
goes_outside (Turns (Some pace) asked) geometry = turns_outside geometry (arc_at (shape_of asked) pace)
goes_outside (GoesHome between home) geometry = homes_outside geometry between home
goes_outside (Drills w s) geometry = leaves_travel geometry (drill_of w s)

-- E2, E1, E3 to E5 of each piece in line order, B1 to B19, E3 of what is computed, C1 to C4, Y1 to Y8, X1, X2
unfoldable pub causes : StateModel → List ℤ → Geometry → List ℕ → List (Bool × Fault)
causes s tools geometry text =
    let pieces = pieces_in (written_on text) in
    let values = values_of pieces s.params in
    let b = block_of values.words s.modal.modes in
    let table = with_changes s.params values.assignments in
    let move = result_unwrap_or (move_on b s.modal table tools) Stays in
    (is_too_long text, LineTooLong)
    ∷ ((is_none (written_on text), Unreadable)
    ∷ (value_causes pieces s.params
    ++ (faults values.words s.modal.modes (length tools)
    ++ ((computes_beyond b s.modal table tools, OutOfRange)
    ∷ (arc_faults move
    ++ (cycle_faults move
    ++ ((has_no_feed move, NoFeed)
    ∷ ((goes_outside move geometry, OutsideTravel)
    ∷ []))))))))
