-- A line is refused exactly if a cause holds, with the fault of the first one that does. The list is proved part by
-- part.
use Rattle.std.proofs.Common.{◌≡◌, ◌∙◌, ℕ, ℤ, ◌||◌, Bool, true, false, List, [], ◌∷◌, ◌++◌, length, Option, Some}
use Rattle.std.proofs.Common.{None, Result, Ok, Err, refl, sym, ap, if◌then◌else◌}
use Rattle.std.specs.Prelude.{MatchResult, is_err, is_none}
use Rattle.std.specs.Result.{result_err, result_unwrap_or}
use Rattle.ng_num.specs.Results.{and_then}
use Rattle.ng_num.specs.declared.fault.Fault.{Fault}
use Rattle.ng_num.specs.declared.fault.Fault.TheVariants.{LineTooLong, Unreadable, OutOfRange, NoFeed, OutsideTravel}
use Rattle.ng_num.specs.declared.point.Point.{Point}
use Rattle.ng_params.specs.Change.{with_changes}
use Rattle.ng_params.specs.declared.change.Change.{Change}
use Rattle.ng_canon.specs.Printing.{CanonModel}
use Rattle.ng_canon.specs.declared.geometry.Geometry.{Geometry}
use Rattle.ng_canon.specs.declared.pace.Pace.{Pace}
use Rattle.ng_canon.specs.declared.plane.ArcDirection.{ArcDirection}
use Rattle.ng_words.specs.Reading.{read, or_unreadable}
use Rattle.ng_words.specs.Grammar.{ParsedLine, Piece, is_too_long}
use Rattle.ng_words.specs.Line.{last_comment}
use Rattle.ng_expr.specs.Settle.{Settled, nothing, followed, followed_if_ok, given, settled_pieces}
use Rattle.ng_modal.specs.BlockOfWords.{block_of}
use Rattle.ng_modal.specs.ByLetter.{has_axis}
use Rattle.ng_num.specs.Causes.{first_fault, unless, NoneHolds, IsFirstFault}
use Rattle.ng_num.proofs.FirstFaultLemmas.{none_holds, is_first, first_some, first_none}
use Rattle.ng_modal.specs.Checking.{faults}
use Rattle.ng_modal.specs.declared.movement.Movement.{Movement}
use Rattle.ng_modal.specs.declared.movement.Movement.TheVariants as movement
use Rattle.ng_modal.specs.declared.movement.StraightKind.{StraightKind}
use Rattle.ng_modal.specs.declared.block.Block.{Block}
use Rattle.ng_arc.specs.Asked.{shape_of}
use Rattle.ng_arc.specs.declared.shape.ArcShape.{ArcShape}
use Rattle.ng_arc.specs.Checking as arc
use Rattle.ng_arc.specs.declared.asked.AskedArc.{AskedArc}
use Rattle.ng_offsets.specs.declared.offsets.Offsets.{Offsets}
use Rattle.ng_cycles.specs.Faults as cycle
use Rattle.ng_cycles.specs.declared.drill.Drill.{Drill}
use Rattle.ng_state.specs.declared.kept_words.KeptWords.{KeptWords}
use Rattle.ng_cycles.specs.declared.words.CycleKind.{CycleKind}
use Rattle.ng_state.specs.declared.modal_state.ModalState.{ModalState}
use Rattle.ng_block.specs.declared.path.Path.{Path}
use Rattle.ng_block.specs.declared.path.Path.TheVariants as path
use Rattle.ng_block.specs.declared.shifts.Shifted.{Shifted}
use Rattle.ng_block.specs.Arcs.{centre_offsets_on, asked_by, round_path_at, path_along_arc}
use Rattle.ng_block.specs.Asked.{written_on, pieces_in, values_of, offsets_found, Move, Stays, Goes, Turns}
use Rattle.ng_block.specs.Asked.{GoesHome, Drills, straight, round, in_cycle, homeward, move_for, move_by}
use Rattle.ng_block.specs.Motion.{feed_of, fed_pace_of, straight_pace, end_of, straight_end_of}
use Rattle.ng_block.specs.Causes.{value_cause, value_causes, reaches_far, computes_beyond, arc_faults, cycle_faults, has_no_feed, goes_outside, causes}
use Rattle.ng_block.specs.Cycles.{kept_for, kept_after, kept_of, own_words, cycle_words, context_of, cycle_path}
use Rattle.ng_block.specs.Effects.{Done, unless_refused, block_done, executed_values, executed_pieces, executed}
use Rattle.ng_block.specs.Faults.{path_faults}
use Rattle.ng_block.specs.Goal.{Bearings, storing, selecting, Goal, goal_with, bearings_after, straight_path, path_for, path_of}
use Rattle.ng_block.specs.Homes.{home_on, home_path}
use Rattle.ng_block.specs.Path.{moving_at}
use Rattle.ng_block.specs.Remarks.{remark_of}
use Rattle.ng_state.specs.State.{StateModel}
use Rattle.ng_block.specs.Shifts.{shift_of}
use Rattle.ng_block.proofs.RangeLemmas.{OnlyFar, far_feed, far_shift, far_move}

abbrev Causes : Type 0
Causes = List (Bool × Fault)

-- ---- the first cause that holds

-- a result whose fault is that of the first cause
decided : (cs : Causes) (r : Result Done Fault) → result_err r ≡ first_fault cs → MatchResult r (λ _. NoneHolds cs) (λ fault. IsFirstFault cs fault)
decided cs (Ok done) e = none_holds cs (sym e)
decided cs (Err fault) e = is_first cs fault (sym e)

-- a result, unless a cause before it holds, and then what follows
stage : {X Y : Type 0} (found : Option Fault) (x : X) (next : X → Result Y Fault) (front rest : Causes) →
    found ≡ first_fault front → result_err (next x) ≡ first_fault rest → result_err (and_then (unless found x) next) ≡ first_fault (front ++ rest)
stage None x next front rest e h = h ∙ sym (first_none front rest (sym e))
stage (Some fault) x next front rest e h = sym (first_some front rest fault (sym e))

unless_refused_err : {X : Type 0} (found : Option Fault) (x : X) → result_err (unless_refused found (Ok x)) ≡ found
unless_refused_err None x = refl
unless_refused_err (Some fault) x = refl

-- ---- the path that a move becomes

unfoldable pub path_by : Point → Geometry → Move → Result Path Fault
path_by start geometry Stays = Ok path.Still
path_by start geometry (Goes pace end) = Ok (moving_at pace start end)
path_by start geometry (Turns pace asked) = and_then (arc.checked asked) (λ shape. Ok (round_path_at pace shape))
path_by start geometry (GoesHome between home) = Ok (path.Homing (record { start = start; between = between; home = home }))
path_by start geometry (Drills w s) = and_then (cycle.canned_of w s geometry) (λ drill. Ok (path.Cycle drill))

-- one length after another, and then what is made of them
after_one : {X Y Z : Type 0} (r : Result X Fault) (f : X → Y) (next : Y → Result Z Fault)
    → and_then r (λ x. next (f x)) ≡ and_then (and_then r (λ x. Ok (f x))) next
after_one (Ok x) f next = refl
after_one (Err fault) f next = refl

after_two : {W X Y Z : Type 0} (q : Result W Fault) (r : W → Result X Fault) (f : W → X → Y) (next : Y → Result Z Fault) →
    and_then q (λ w. and_then (r w) (λ x. next (f w x))) ≡ and_then (and_then q (λ w. and_then (r w) (λ x. Ok (f w x)))) next
after_two (Ok w) r f next = after_one (r w) (f w) next
after_two (Err fault) r f next = refl

either : {X Y : Type 0} (c : Bool) (a b : Result X Fault) (a' b' : Result Y Fault) (next : X → Result Y Fault) →
    a' ≡ and_then a next → b' ≡ and_then b next → (if c then a' else b') ≡ and_then (if c then a else b) next
either true a b a' b' next p q = p
either false a b a' b' next p q = q

round_is : (turn : ArcDirection) (b : Block) (m : ModalState) (o : Offsets) (feed : ℤ) (geometry : Geometry) →
    path_along_arc turn b m o feed ≡ and_then (round turn b m o feed) (path_by m.point geometry)
unfolding path_by path_along_arc
round_is turn b m o feed geometry =
    after_two (end_of b m o) (λ _. centre_offsets_on b m.modes)
    (λ end offsets. Turns (fed_pace_of b m feed) (asked_by b m turn end offsets))
    (path_by m.point geometry)

in_cycle_is : (kind : CycleKind) (b : Block) (m : ModalState) (o : Offsets) (feed : ℤ) (geometry : Geometry) →
    cycle_path kind b m o feed geometry ≡ and_then (in_cycle kind b m o feed) (path_by m.point geometry)
unfolding path_by cycle_path
in_cycle_is kind b m o feed geometry =
    after_two (own_words b m.modes) (λ own. cycle_words b m.modes kind own)
    (λ own words. Drills words (context_of b m o feed (kept_for kind m))) (path_by m.point geometry)

homeward_is : (home : Option Point) (b : Block) (m : ModalState) (o : Offsets) (geometry : Geometry) →
    home_path b m o home ≡ and_then (homeward home b m o) (path_by m.point geometry)
unfolding path_by
homeward_is None b m o geometry = refl
homeward_is (Some home) b m o geometry = either (has_axis b.values) _ _ _ _ (path_by m.point geometry)
    (after_one (end_of b m o) (λ between. GoesHome between home) (path_by m.point geometry)) refl

straight_is : (kind : StraightKind) (b : Block) (m : ModalState) (o : Offsets) (feed : ℤ) (geometry : Geometry) →
    straight_path kind b m o feed ≡ and_then (straight kind b m o feed) (path_by m.point geometry)
unfolding path_by
straight_is kind b m o feed geometry = after_one (straight_end_of b m o) (λ end. Goes (straight_pace kind b m feed) end) (path_by m.point geometry)

path_for_is : (moves : Option Movement) (b : Block) (m : ModalState) (o : Offsets) (table : List ℤ) (feed : ℤ) (geometry : Geometry) →
    path_for moves b m o table feed geometry ≡ and_then (move_for moves b m o table feed) (path_by m.point geometry)
path_for_is (Some (movement.Straight kind)) b m o table feed geometry = straight_is kind b m o feed geometry
path_for_is (Some (movement.Arc turn)) b m o table feed geometry = round_is turn b m o feed geometry
path_for_is (Some (movement.Cycle kind)) b m o table feed geometry = in_cycle_is kind b m o feed geometry
path_for_is None b m o table feed geometry = homeward_is (home_on b.g.non_modal table) b m o geometry

pub path_is : (b : Block) (m : ModalState) (o : Offsets) (table : List ℤ) (feed : ℤ) (geometry : Geometry) →
    path_of b m o table feed geometry ≡ and_then (move_by b m o table feed) (path_by m.point geometry)
path_is b m o table feed geometry = path_for_is b.movement b m o table feed geometry

-- ---- the faults of a move

-- after E3
abbrev move_causes : Move → Geometry → Causes
move_causes move geometry = arc_faults move ++ (cycle_faults move ++ ((has_no_feed move, NoFeed) ∷ ((goes_outside move geometry, OutsideTravel) ∷ [])))

-- what a path does, if its move has no fault
abbrev moved : {X : Type 0} → Geometry → (Path → X) → Result Path Fault → Result X Fault
moved geometry done found = and_then found (λ path. unless_refused (first_fault (path_faults path geometry)) (Ok (done path)))

turn_first : {X : Type 0} (pace : Option Pace) (asked : AskedArc) (geometry : Geometry) (done : Path → X) →
    result_err (unless_refused (first_fault (path_faults (round_path_at pace (shape_of asked)) geometry)) (Ok (done (round_path_at pace (shape_of asked)))))
    ≡ first_fault ((has_no_feed (Turns pace asked), NoFeed) ∷ ((goes_outside (Turns pace asked) geometry, OutsideTravel) ∷ []))
turn_first None asked geometry done = refl
turn_first (Some pace) asked geometry done = unless_refused_err _ _

drill_first : {X : Type 0} (r : Result Drill Fault) (geometry : Geometry) (done : Path → X) →
    result_err (moved geometry done (and_then r (λ drill. Ok (path.Cycle drill)))) ≡ result_err r
drill_first (Ok drill) geometry done = refl
drill_first (Err fault) geometry done = refl

canned_first : (found : Option Fault) (d : Drill) → result_err (unless found d) ≡ found
canned_first None d = refl
canned_first (Some fault) d = refl

moved_round : {X : Type 0} (r : Result ArcShape Fault) (pace : Option Pace) (geometry : Geometry) (done : Path → X) →
    moved geometry done (and_then r (λ shape. Ok (round_path_at pace shape))) ≡ and_then r (λ shape. moved geometry done (Ok (round_path_at pace shape)))
moved_round (Ok shape) pace geometry done = refl
moved_round (Err fault) pace geometry done = refl

move_first : {X : Type 0} (move : Move) (start : Point) (geometry : Geometry) (done : Path → X) →
    result_err (moved geometry done (path_by start geometry move)) ≡ first_fault ((reaches_far move, OutOfRange) ∷ move_causes move geometry)
unfolding path_by
move_first Stays start geometry done = refl
move_first (Goes None end) start geometry done = refl
move_first (Goes (Some pace) end) start geometry done = unless_refused_err _ _
move_first (GoesHome between home) start geometry done = unless_refused_err _ _
move_first (Turns pace asked) start geometry done =
    ap result_err (moved_round (arc.checked asked) pace geometry done)
    ∙ stage (first_fault (arc.causes asked)) (shape_of asked) (λ shape. moved geometry done (Ok (round_path_at pace shape))) (arc.causes asked)
    ((has_no_feed (Turns pace asked), NoFeed) ∷ ((goes_outside (Turns pace asked) geometry, OutsideTravel) ∷ []))
    refl (turn_first pace asked geometry done)
move_first (Drills w s) start geometry done =
    drill_first (cycle.canned_of w s geometry) geometry done
    ∙ canned_first (first_fault (cycle.causes w s geometry)) (cycle.drill_of w s)

-- ---- everything that a block computes

-- a cycle's words are kept if its move is found
own_found : (r : Result KeptWords Fault) (next : KeptWords → Result Move Fault) (keep : KeptWords → KeptWords) (move : Move) →
    and_then r next ≡ Ok move → (kept : KeptWords) × (and_then r (λ own. Ok (keep own)) ≡ Ok kept)
own_found (Ok own) next keep move e = (keep own, refl)
own_found (Err fault) next keep move e = absurd (cc e)

kept_for_move : (moves : Option Movement) (b : Block) (m : ModalState) (o : Offsets) (table : List ℤ) (feed : ℤ) (move : Move) →
    move_for moves b m o table feed ≡ Ok move → (kept : KeptWords) × (kept_after moves b m ≡ Ok kept)
kept_for_move (Some (movement.Cycle kind)) b m o table feed move e = own_found (own_words b m.modes) _ _ move e
kept_for_move (Some (movement.Straight kind)) b m o table feed move e = (_, refl)
kept_for_move (Some (movement.Arc turn)) b m o table feed move e = (_, refl)
kept_for_move None b m o table feed move e = (_, refl)

kept_found : (b : Block) (m : ModalState) (o : Offsets) (table : List ℤ) (feed : ℤ) (move : Move)
    → move_by b m o table feed ≡ Ok move → (kept : KeptWords) × (kept_of b m ≡ Ok kept)
kept_found b m o table feed move e = kept_for_move b.movement b m o table feed move e

-- what a valid goal does
abbrev reached : Geometry → (Goal → Done) → Result Goal Fault → Result Done Fault
reached geometry done found = and_then found (λ goal. unless_refused (first_fault (path_faults goal.path geometry)) (Ok (done goal)))

-- the goal, from its path and its kept words
abbrev goal_found : Block → StateModel → ℤ → Bearings → Result Path Fault → Result KeptWords Fault → Result Goal Fault
goal_found b s feed at paths kept =
    and_then {X = Bearings × Path} (and_then paths (λ path. Ok (at, path)))
    (λ way. and_then kept (λ kept. Ok (goal_with feed (bearings_after b s.params way.0) way.1 kept)))

goal_first : (b : Block) (s : StateModel) (feed : ℤ) (at : Bearings) (geometry : Geometry) (done : Goal → Done)
    (paths : Result Path Fault) (kept : KeptWords) (r : Result KeptWords Fault) → r ≡ Ok kept →
    result_err (reached geometry done (goal_found b s feed at paths r)) ≡ result_err
    (moved geometry (λ path. done (goal_with feed (bearings_after b s.params at) path kept)) paths)
goal_first b s feed at geometry done (Ok path) kept r e = rw e refl
goal_first b s feed at geometry done (Err fault) kept r e = refl

-- once the feed and the offsets are found
way_first : (b : Block) (s : StateModel) (feed : ℤ) (at : Bearings) (geometry : Geometry) (done : Goal → Done)
    (r : Result Move Fault) (paths : Result Path Fault) (kept : Result KeptWords Fault) →
    OnlyFar r → paths ≡ and_then r (path_by s.modal.point geometry) → ((move : Move) → r ≡ Ok move → (words : KeptWords) × (kept ≡ Ok words)) →
    result_err (reached geometry done (goal_found b s feed at paths kept))
    ≡ first_fault ((is_err r || reaches_far (result_unwrap_or r Stays), OutOfRange) ∷ move_causes (result_unwrap_or r Stays) geometry)
way_first b s feed at geometry done (Err fault) paths kept far is words =
    ap (λ (p : Result Path Fault). result_err (reached geometry done (goal_found b s feed at p kept))) is ∙ ap {B = Option Fault} Some (far.fault_is fault refl)
way_first b s feed at geometry done (Ok move) paths kept far is words =
    let found = words move refl in
    ap (λ (p : Result Path Fault). result_err (reached geometry done (goal_found b s feed at p kept))) is
    ∙ goal_first b s feed at geometry done (path_by s.modal.point geometry move) found.0 kept found.1
    ∙ move_first move s.modal.point geometry _

-- the whole goal
abbrev goal_by_parts : Block → List Change → StateModel → Result ℤ Fault → Result Shifted Fault
    → (Offsets → ℤ → Result Path Fault) → Result KeptWords Fault → Result Goal Fault
goal_by_parts b assignments s feeds shifts paths kept =
    and_then feeds (λ feed.
    and_then {X = Bearings × Path}
    (and_then {X = Bearings}
    (and_then shifts (λ at.
    Ok (record {
      offsets = at.offsets;
      shown = at.shown;
      changes =
          storing at.stored (selecting b.g.system assignments);
    })))
    (λ at. and_then (paths at.offsets feed) (λ path. Ok (at, path))))
    (λ way. and_then kept (λ kept. Ok (goal_with feed (bearings_after b s.params way.0) way.1 kept))))

parts_first : (b : Block) (assignments : List Change) (s : StateModel) (geometry : Geometry) (done : Goal → Done)
    (feeds : Result ℤ Fault) (shifts : Result Shifted Fault) (moves : Offsets → ℤ → Result Move Fault)
    (paths : Offsets → ℤ → Result Path Fault) (kept : Result KeptWords Fault) →
    OnlyFar feeds → OnlyFar shifts → ((o : Offsets) (feed : ℤ) → OnlyFar (moves o feed)) →
    ((o : Offsets) (feed : ℤ) → paths o feed ≡ and_then (moves o feed) (path_by s.modal.point geometry)) →
    ((o : Offsets) (feed : ℤ) (move : Move) → moves o feed ≡ Ok move → (words : KeptWords) × (kept ≡ Ok words)) →
    result_err (reached geometry done (goal_by_parts b assignments s feeds shifts paths kept))
    ≡ (let found = moves (offsets_found shifts s.modal.offsets) (result_unwrap_or feeds s.modal.feed_per_min) in
    first_fault ((
      is_err feeds || (is_err shifts || (is_err found || reaches_far (result_unwrap_or found Stays))),
      OutOfRange,
    ) ∷ move_causes (result_unwrap_or found Stays) geometry))
parts_first b assignments s geometry done (Err fault) shifts moves paths kept far_f far_s far_m is words =
    ap {B = Option Fault} Some (far_f.fault_is fault refl)
parts_first b assignments s geometry done (Ok feed) (Err fault) moves paths kept far_f far_s far_m is words =
    ap {B = Option Fault} Some (far_s.fault_is fault refl)
parts_first b assignments s geometry done (Ok feed) (Ok at) moves paths kept far_f far_s far_m is words =
    way_first b s feed _ geometry done (moves at.offsets feed) (paths at.offsets feed) kept (far_m at.offsets feed) (is at.offsets feed) (words at.offsets feed)

-- ---- the stages of a line

-- E3 of what is computed, and the causes after it
abbrev block_causes : Block → StateModel → List ℤ → List ℤ → Geometry → Causes
block_causes b s table tools geometry =
    let found = move_by b s.modal (offsets_found (shift_of b s.modal table tools) s.modal.offsets) table
    (result_unwrap_or (feed_of b s.modal) s.modal.feed_per_min) in
    (computes_beyond b s.modal table tools, OutOfRange) ∷ move_causes (result_unwrap_or found Stays) geometry

abbrev causes_of_values : StateModel → Settled → List ℤ → Geometry → Causes
causes_of_values s values tools geometry =
    let b = block_of values.words s.modal.modes in
    faults values.words s.modal.modes (length tools) ++ block_causes b s (with_changes s.params values.assignments) tools geometry

abbrev causes_of_pieces : StateModel → List Piece → List ℤ → Geometry → Causes
causes_of_pieces s pieces tools geometry = value_causes pieces s.params ++ causes_of_values s (values_of pieces s.params) tools geometry

block_first : (b : Block) (assignments : List Change) (s : StateModel) (tools : List ℤ) (geometry : Geometry) (done : Goal → Done) →
    result_err (reached geometry done
    (goal_by_parts b assignments s (feed_of b s.modal)
    (shift_of b s.modal (with_changes s.params assignments) tools)
    (λ o feed. path_of b s.modal o (with_changes s.params assignments) feed geometry) (kept_of b s.modal)))
    ≡ first_fault (block_causes b s (with_changes s.params assignments) tools geometry)
block_first b assignments s tools geometry done =
    let table = with_changes s.params assignments in
    parts_first b assignments s geometry done (feed_of b s.modal) (shift_of b s.modal table tools)
    (λ o feed. move_by b s.modal o table feed) (λ o feed. path_of b s.modal o table feed geometry)
    (kept_of b s.modal)
    (far_feed b s.modal) (far_shift b s.modal table tools) (λ o feed. far_move b s.modal o table feed)
    (λ o feed. path_is b s.modal o table feed geometry) (λ o feed. kept_found b s.modal o table feed)

values_first : (s : StateModel) (remark : List CanonModel) (values : Settled) (tools : List ℤ) (geometry : Geometry) →
    result_err (executed_values s remark values tools geometry) ≡ first_fault (causes_of_values s values tools geometry)
unfolding executed_values
values_first s remark values tools geometry =
    let b = block_of values.words s.modal.modes in
    stage (first_fault (faults values.words s.modal.modes (length tools))) b _
    (faults values.words s.modal.modes (length tools))
    (block_causes b s (with_changes s.params values.assignments) tools geometry) refl
    (block_first b values.assignments s tools geometry (λ goal. block_done b goal remark s))

-- the values of the pieces, if each has one
followed_if_ok_is : (first : Settled) (found : Option Fault) (rest : Settled)
    → and_then (unless found rest) (λ b. Ok (followed first b)) ≡ unless found (followed first rest)
followed_if_ok_is first None rest = refl
followed_if_ok_is first (Some fault) rest = refl

settled_by : (r : Result Settled Fault) (rest : Result Settled Fault) (values : Settled) (later : Causes) → rest ≡ unless (first_fault later) values →
    and_then r (λ first. followed_if_ok first rest) ≡ unless (first_fault (value_cause r ++ later)) (followed (result_unwrap_or r nothing) values)
settled_by (Ok first) rest values later e = ap (followed_if_ok first) e ∙ followed_if_ok_is first (first_fault later) values
settled_by (Err fault) rest values later e = refl

settled_is : (pieces : List Piece) (table : List ℤ) → settled_pieces pieces table ≡ unless (first_fault (value_causes pieces table)) (values_of pieces table)
settled_is [] table = refl
settled_is (p ∷ pieces) table = settled_by (given table p) (settled_pieces pieces table) (values_of pieces table)
    (value_causes pieces table) (settled_is pieces table)

pieces_first : (s : StateModel) (pieces : List Piece) (tools : List ℤ) (geometry : Geometry)
    → result_err (executed_pieces s pieces tools geometry) ≡ first_fault (causes_of_pieces s pieces tools geometry)
unfolding executed_pieces
pieces_first s pieces tools geometry =
    ap (λ (r : Result Settled Fault).
    result_err (and_then r (λ values. executed_values s (remark_of (last_comment pieces)) values tools
    geometry))) (settled_is pieces s.params)
    ∙ stage (first_fault (value_causes pieces s.params)) (values_of pieces s.params) _
    (value_causes pieces s.params) (causes_of_values s (values_of pieces s.params) tools geometry) refl
    (values_first s (remark_of (last_comment pieces)) (values_of pieces s.params) tools geometry)

text_first : (long : Bool) (line : Option ParsedLine) (next : ParsedLine → Result Done Fault) (rest : List Piece → Causes) →
    ((w : ParsedLine) → result_err (next w) ≡ first_fault (rest w.pieces)) →
    result_err (and_then (if long then Err LineTooLong else or_unreadable line) next) ≡ first_fault
    ((long, LineTooLong) ∷ ((is_none line, Unreadable) ∷ rest (pieces_in line)))
text_first true line next rest h = refl
text_first false None next rest h = refl
text_first false (Some w) next rest h = h w

line_first : (s : StateModel) (tools : List ℤ) (geometry : Geometry) (text : List ℕ)
    → result_err (executed s tools geometry text) ≡ first_fault (causes s tools geometry text)
unfolding executed read causes
line_first s tools geometry text =
    text_first (is_too_long text) (written_on text) (λ line. executed_pieces s line.pieces tools geometry) (λ pieces. causes_of_pieces s pieces tools geometry)
    (λ w. pieces_first s w.pieces tools geometry)

-- ---- what a line does, and why it is refused

pub none_of : (s : StateModel) (tools : List ℤ) (geometry : Geometry) (text : List ℕ) (done : Done)
    → executed s tools geometry text ≡ Ok done → NoneHolds (causes s tools geometry text)
none_of s tools geometry text done e = none_holds _ (sym (line_first s tools geometry text) ∙ ap result_err e)

pub first_of : (s : StateModel) (tools : List ℤ) (geometry : Geometry) (text : List ℕ) (fault : Fault)
    → executed s tools geometry text ≡ Err fault → IsFirstFault (causes s tools geometry text) fault
first_of s tools geometry text fault e = is_first _ fault (sym (line_first s tools geometry text) ∙ ap result_err e)

-- for a line that was read, and for a result whose effect is elsewhere
pub of_executed : (s : StateModel) (tools : List ℤ) (geometry : Geometry) (text : List ℕ) (done : Done) (r : Result (Unit {0}) Fault) →
    MatchResult r (λ _. executed s tools geometry text ≡ Ok done) (λ fault. executed s tools geometry text ≡ Err fault) →
    MatchResult r (λ _. NoneHolds (causes s tools geometry text)) (λ fault. IsFirstFault (causes s tools geometry text) fault)
of_executed s tools geometry text done (Ok _) h = none_of s tools geometry text done h
of_executed s tools geometry text done (Err fault) h = first_of s tools geometry text fault h
