-- The segments of a valid block join, and stay inside the travel: those of its path do, and no others move.
use Rattle.std.proofs.Common.{arith, ◌≡◌, ◌∙◌, ℕ, zero, suc, ℤ, Bool, true, false, not, ◌&&◌, ◌||◌, List, [], ◌∷◌}
use Rattle.std.proofs.Common.{◌++◌, Option, Some, None, Result, Ok, Err, refl, sym, ap, subst, if◌then◌else◌, cond}
use Rattle.std.specs.Ordering.{int_eq}
use Rattle.std.specs.List.{All, list_any}
use Rattle.std.proofs.lemmas.List.Sums.{fold-append}
use Rattle.std.proofs.lemmas.List.Folds.{list_any-append}
use Rattle.ng_num.specs.Results.{and_then}
use Rattle.ng_num.specs.declared.fault.Fault.{Fault}
use Rattle.ng_num.specs.declared.point.Point.{Point}
use Rattle.ng_params.specs.Change.{with_changes}
use Rattle.ng_canon.specs.Geometry.{is_inside}
use Rattle.ng_canon.specs.declared.geometry.Geometry.{Geometry}
use Rattle.ng_canon.specs.declared.outputs.Outputs.{Outputs}
use Rattle.ng_canon.specs.declared.pace.Pace.{Pace}
use Rattle.ng_canon.specs.declared.pace.Pace.TheVariants as pace
use Rattle.ng_canon.specs.declared.plane.ArcDirection.{ArcDirection}
use Rattle.ng_canon.specs.declared.segment.Segment.{Segment}
use Rattle.ng_canon.specs.declared.segment.Segment.TheVariants as segment
use Rattle.ng_words.specs.Line.{last_comment}
use Rattle.ng_num.specs.Causes.{first_fault}
use Rattle.ng_num.proofs.FirstFaultLemmas.{none_holds, unless_ok}
use Rattle.ng_modal.specs.ByLetter.{has_axis}
use Rattle.ng_modal.specs.declared.movement.Movement.{Movement}
use Rattle.ng_modal.specs.declared.movement.Movement.TheVariants as movement
use Rattle.ng_modal.specs.declared.movement.StraightKind.{StraightKind}
use Rattle.ng_modal.specs.declared.requests.StopWord.{StopWord}
use Rattle.ng_modal.specs.declared.block.Block.{Block}
use Rattle.ng_arc.specs.Asked.{shape_of}
use Rattle.ng_arc.specs.declared.shape.ArcShape.{ArcShape}
use Rattle.ng_arc.specs.Checking as arc
use Rattle.ng_arc.specs.Extremes.{extremes_inside}
use Rattle.ng_offsets.specs.declared.offsets.Offsets.{Offsets}
use Rattle.ng_cycles.specs.Faults as cycle
use Rattle.ng_cycles.specs.Segments.{after_segment, after_segments, begin, traced, cycle_segments, segments_of as stroke_segments, line_to}
use Rattle.ng_cycles.specs.Strokes.{Stroke, Across, ToR, TraverseTo, FeedTo, Wait, SetSpindle, strokes}
use Rattle.ng_cycles.specs.declared.drill.Drill.{Drill}
use Rattle.ng_cycles.specs.declared.motion_state.MotionState.{MotionState}
use Rattle.ng_cycles.specs.declared.words.CycleWords.{CycleWords}
use Rattle.ng_cycles.specs.declared.words.CycleKind.{CycleKind}
use Rattle.ng_cycles.specs.declared.words.CycleContext.{CycleContext}
use Rattle.ng_state.specs.declared.modal_state.ModalState.{ModalState}
use Rattle.ng_block.specs.declared.path.Path.{Path}
use Rattle.ng_block.specs.declared.path.Path.TheVariants as path
use Rattle.ng_block.specs.declared.action.Action.{Action}
use Rattle.ng_block.specs.declared.action.Action.TheVariants as action
use Rattle.ng_block.specs.Action.{action_outputs, action_segments, actions_segments, outputs_after}
use Rattle.ng_block.specs.Arcs.{round_path_at, centre_offsets_on, asked_by}
use Rattle.ng_block.specs.Asked.{Move, Stays, Goes, Turns, GoesHome, Drills, straight, round, in_cycle, homeward, move_for, move_by}
use Rattle.ng_block.specs.Motion.{fed_pace_of, straight_pace, end_of, straight_end_of}
use Rattle.ng_block.specs.Cycles.{own_words, cycle_words, kept_for, context_of}
use Rattle.ng_block.specs.Effects.{Done, plan_of, executed}
use Rattle.ng_block.specs.Ends.{ends, switched_off, stop_segments}
use Rattle.ng_block.specs.Faults.{stays_inside, path_faults}
use Rattle.ng_block.specs.Homes.{home_on}
use Rattle.ng_block.specs.Path.{moving_at, point_after, path_segments}
use Rattle.ng_block.specs.Plan.{Plan, segments_of}
use Rattle.ng_block.specs.Remarks.{remark_of}
use Rattle.ng_state.specs.State.{StateModel}
use Rattle.ng_block.specs.Travel.{Joins, NoneMoves, StaysInside}
use Rattle.ng_block.proofs.AcceptedLemmas.{same_ok, then_ok, accepted, reached}
use Rattle.ng_block.proofs.CauseLemmas.{path_by}

-- ---- lists of segments, one after another

joins_on : (p q r : Point) (xs ys : List Segment) → Joins p xs q → Joins q ys r → Joins p (xs ++ ys) r
joins_on p q r [] ys h k = subst (λ (x : Point). Joins x ys r) h k
joins_on p q r (segment.Line line ∷ xs) ys h k = (h.0, joins_on line.end q r xs ys h.1 k)
joins_on p q r (segment.Arc arc ∷ xs) ys h k = (h.0, joins_on arc.end q r xs ys h.1 k)
joins_on p q r (segment.Dwell seconds ∷ xs) ys h k = joins_on p q r xs ys h k
joins_on p q r (segment.Switch outputs ∷ xs) ys h k = joins_on p q r xs ys h k

still_joins : (p : Point) (xs : List Segment) → NoneMoves xs → Joins p xs p
still_joins p [] h = refl
still_joins p (segment.Line line ∷ xs) h = absurd h
still_joins p (segment.Arc arc ∷ xs) h = absurd h
still_joins p (segment.Dwell seconds ∷ xs) h = still_joins p xs h
still_joins p (segment.Switch outputs ∷ xs) h = still_joins p xs h

joins_still : (p q : Point) (xs : List Segment) → Joins p xs q → NoneMoves xs → q ≡ p
joins_still p q [] e h = e
joins_still p q (segment.Line line ∷ xs) e h = absurd h
joins_still p q (segment.Arc arc ∷ xs) e h = absurd h
joins_still p q (segment.Dwell seconds ∷ xs) e h = joins_still p q xs e h
joins_still p q (segment.Switch outputs ∷ xs) e h = joins_still p q xs e h

still_on : (xs ys : List Segment) → NoneMoves xs → NoneMoves ys → NoneMoves (xs ++ ys)
still_on [] ys h k = k
still_on (segment.Line line ∷ xs) ys h k = absurd h
still_on (segment.Arc arc ∷ xs) ys h k = absurd h
still_on (segment.Dwell seconds ∷ xs) ys h k = still_on xs ys h k
still_on (segment.Switch outputs ∷ xs) ys h k = still_on xs ys h k

-- each stays inside
abbrev AreInside : Geometry → List Segment → Type 0
AreInside g [] = Unit {0}
AreInside g (x ∷ xs) = StaysInside g x × AreInside g xs

inside_on : (g : Geometry) (xs ys : List Segment) → AreInside g xs → AreInside g ys → AreInside g (xs ++ ys)
inside_on g [] ys h k = k
inside_on g (x ∷ xs) ys h k = (h.0, inside_on g xs ys h.1 k)

still_inside : (g : Geometry) (xs : List Segment) → NoneMoves xs → AreInside g xs
still_inside g [] h = tt
still_inside g (segment.Line line ∷ xs) h = absurd h
still_inside g (segment.Arc arc ∷ xs) h = absurd h
still_inside g (segment.Dwell seconds ∷ xs) h = (tt, still_inside g xs h)
still_inside g (segment.Switch outputs ∷ xs) h = (tt, still_inside g xs h)

all_inside : (g : Geometry) (xs : List Segment) → AreInside g xs → All (StaysInside g) xs
all_inside g [] h k d low = absurd (omega arith)
all_inside g (x ∷ xs) h zero d low = h.0
all_inside g (x ∷ xs) h (suc k) d low = all_inside g xs h.1 k d (omega arith)

-- ---- the parts of a block

action_still : (a : Action) (now : Outputs) → NoneMoves (action_segments a now)
action_still (action.SpindleSpeed speed) now = tt
action_still (action.SelectTool slot) now = tt
action_still (action.ChangeTool slot) now = tt
action_still (action.Spindle spindle) now = tt
action_still (action.Coolant coolant) now = tt
action_still (action.Dwell seconds) now = tt
action_still (action.SelectPlane plane) now = tt
action_still (action.LengthUnits unit) now = tt
action_still (action.ToolLength length) now = tt
action_still (action.OriginOffsets offsets) now = tt
action_still (action.InverseTime time) now = tt

actions_still : (o : Outputs) (actions : List Action) → NoneMoves (actions_segments o actions)
actions_still o [] = tt
actions_still o (a ∷ actions) =
    let now = action_outputs o a in
    still_on (action_segments a now) (actions_segments now actions) (action_still a now) (actions_still now actions)

stop_still : (word : Option StopWord) (o : Outputs) → NoneMoves (stop_segments word o)
stop_still word o = by (ends word)
  where
    by : (t : Bool) → NoneMoves (cond t (segment.Switch (switched_off o) ∷ []) [])
    by true = tt
    by false = tt

-- what holds of the path's segments, also before segments that don't move, holds of a block's
of_path : (Holds : List Segment → Type 0) → ((xs ys : List Segment) → NoneMoves xs → Holds ys → Holds (xs ++ ys)) →
    (p : Plan) → ((ys : List Segment) → NoneMoves ys → Holds (path_segments p.path ++ ys)) → Holds (segments_of p)
of_path Holds on p h =
    on _ _ (actions_still p.before p.actions) (h _ (stop_still p.stop (outputs_after p.before p.actions)))

-- ---- a cycle

to_r_joins : (c : Bool) (at : MotionState) (end : Point) (pace : Pace)
    → (let xs : List Segment = if c then [] else line_to pace at.point end ∷ [] in Joins at.point xs
    (after_segments at xs).point)
to_r_joins true at end pace = refl
to_r_joins false at end pace = (refl, refl)

stroke_joins : (d : Drill) (at : MotionState) (s : Stroke) → Joins at.point (stroke_segments d at s) (after_segments at (stroke_segments d at s)).point
stroke_joins d at (Across r) = (refl, refl)
stroke_joins d at ToR = to_r_joins (int_eq at.point.z d.r) at _ _
stroke_joins d at (TraverseTo z) = (refl, refl)
stroke_joins d at (FeedTo z) = (refl, refl)
stroke_joins d at (Wait seconds) = refl
stroke_joins d at (SetSpindle spindle) = refl

traced_joins : (d : Drill) (at : MotionState) (ss : List Stroke) → Joins at.point (traced d at ss) (after_segments at (traced d at ss)).point
traced_joins d at [] = refl
traced_joins d at (s ∷ ss) =
    let here = stroke_segments d at s in
    let next = after_segments at here in
    let all : after_segments at (here ++ traced d next ss) ≡ after_segments next (traced d next ss) = fold-append after_segment at here (traced d next ss) in
    subst (λ (end : MotionState). Joins at.point (here ++ traced d next ss) end.point) (sym all)
    (joins_on at.point next.point (after_segments next (traced d next ss)).point here (traced d next ss) (stroke_joins d at s) (traced_joins d next ss))

drill_joins : (start : Point) (d : Drill) → d.start ≡ start → Joins start (cycle_segments d) (after_segments (begin d) (cycle_segments d)).point
drill_joins start d e =
    subst (λ (p : Point). Joins p (cycle_segments d) (after_segments (begin d) (cycle_segments d)).point) e
    (traced_joins d (begin d) (strokes d))

-- ---- a path

-- a move begins at the machine's position
abbrev BeginsAt : Point → Move → Type 0
BeginsAt start (Turns pace asked) = asked.start ≡ start
BeginsAt start (Drills w s) = s.point ≡ start
BeginsAt start _ = Unit {0}

round_joins : (start : Point) (pace : Option Pace) (shape : ArcShape) → shape.start ≡ start
    → Joins start (path_segments (round_path_at pace shape)) (point_after (round_path_at pace shape) start)
round_joins start None shape e = refl
round_joins start (Some pace) shape e = (e, refl)

path_joins : (start : Point) (geometry : Geometry) (move : Move) (p : Path) → BeginsAt start move
    → path_by start geometry move ≡ Ok p → Joins start (path_segments p) (point_after p start)
unfolding path_by
path_joins start geometry Stays p h e = subst (λ (q : Path). Joins start (path_segments q) (point_after q start)) (same_ok path.Still p e) refl
path_joins start geometry (Goes None end) p h e = subst (λ (q : Path). Joins start (path_segments q) (point_after q start)) (same_ok path.WithoutFeed p e) refl
path_joins start geometry (Goes (Some pace) end) p h e =
    subst (λ (q : Path). Joins start (path_segments q) (point_after q start))
    (same_ok (moving_at (Some pace) start end) p e) (refl, refl)
path_joins start geometry (GoesHome between home) p h e =
    subst (λ (q : Path). Joins start (path_segments q) (point_after q start))
    (same_ok (path.Homing (record { start = start; between = between; home = home })) p e) (refl, (refl, refl))
path_joins start geometry (Turns pace asked) p h e =
    let found = then_ok (arc.checked asked) (λ shape. Ok (round_path_at pace shape)) p e in
    let is : shape_of asked ≡ found.0 = (unless_ok (first_fault (arc.causes asked)) (shape_of asked) found.0 found.1).1 in
    subst (λ (q : Path). Joins start (path_segments q) (point_after q start))
    (same_ok (round_path_at pace found.0) p found.2)
    (round_joins start pace found.0 (ap (λ (shape : ArcShape). shape.start) (sym is) ∙ h))
path_joins start geometry (Drills w s) p h e =
    let found = then_ok (cycle.canned_of w s geometry) (λ d. Ok (path.Cycle d)) p e in
    let is = unless_ok (first_fault (cycle.causes w s geometry)) (cycle.drill_of w s) found.0 found.1 in
    subst (λ (q : Path). Joins start (path_segments q) (point_after q start))
    (same_ok (path.Cycle found.0) p found.2)
    (drill_joins start found.0 (ap (λ (d : Drill). d.start) (sym is.1) ∙ h))

-- a move that is found begins there
abbrev Begins : Point → Result Move Fault → Type 0
Begins start r = (move : Move) → r ≡ Ok move → BeginsAt start move

begins_if : (start : Point) (c : Bool) (a b : Result Move Fault) → Begins start a → Begins start b → Begins start (if c then a else b)
begins_if start true a b p q = p
begins_if start false a b p q = q

begins_ok : (start : Point) (move : Move) → BeginsAt start move → Begins start (Ok move)
begins_ok start move h other e = subst (BeginsAt start) (same_ok move other e) h

begins_then : {X : Type 0} (start : Point) (r : Result X Fault) (next : X → Result Move Fault)
    → ((x : X) → Begins start (next x)) → Begins start (and_then r next)
begins_then start (Ok x) next h move e = h x move e
begins_then start (Err fault) next h move e = absurd (cc e)

straight_begins : (kind : StraightKind) (b : Block) (m : ModalState) (o : Offsets) (feed : ℤ) → Begins m.point (straight kind b m o feed)
straight_begins kind b m o feed = begins_then m.point (straight_end_of b m o) _ (λ end. begins_ok m.point (Goes (straight_pace kind b m feed) end) tt)

round_begins : (turn : ArcDirection) (b : Block) (m : ModalState) (o : Offsets) (feed : ℤ) → Begins m.point (round turn b m o feed)
round_begins turn b m o feed =
    begins_then m.point (end_of b m o) _ (λ end.
    begins_then m.point (centre_offsets_on b m.modes) _ (λ offsets.
    begins_ok m.point (Turns (fed_pace_of b m feed) (asked_by b m turn end offsets)) refl))

in_cycle_begins : (kind : CycleKind) (b : Block) (m : ModalState) (o : Offsets) (feed : ℤ) → Begins m.point (in_cycle kind b m o feed)
in_cycle_begins kind b m o feed =
    begins_then m.point (own_words b m.modes) _ (λ own.
    begins_then m.point (cycle_words b m.modes kind own) _ (λ words. begins_ok m.point (Drills words (context_of b m o feed (kept_for kind m))) refl))

homeward_begins : (home : Option Point) (b : Block) (m : ModalState) (o : Offsets) → Begins m.point (homeward home b m o)
homeward_begins None b m o = begins_ok m.point Stays tt
homeward_begins (Some home) b m o =
    begins_if m.point (has_axis b.values) _ _
    (begins_then m.point (end_of b m o) _ (λ between. begins_ok m.point (GoesHome between home) tt))
    (begins_ok m.point (Goes (Some pace.Traverse) home) tt)

move_for_begins : (moves : Option Movement) (b : Block) (m : ModalState) (o : Offsets) (table : List ℤ) (feed : ℤ)
    → Begins m.point (move_for moves b m o table feed)
move_for_begins (Some (movement.Straight kind)) b m o table feed = straight_begins kind b m o feed
move_for_begins (Some (movement.Arc turn)) b m o table feed = round_begins turn b m o feed
move_for_begins (Some (movement.Cycle kind)) b m o table feed = in_cycle_begins kind b m o feed
move_for_begins None b m o table feed = homeward_begins (home_on b.g.non_modal table) b m o

move_begins : (b : Block) (m : ModalState) (o : Offsets) (table : List ℤ) (feed : ℤ) → Begins m.point (move_by b m o table feed)
move_begins b m o table feed = move_for_begins b.movement b m o table feed

-- ---- the segments of a block join

-- also before segments that don't move
joins_before : (p q : Point) (xs ys : List Segment) → Joins p xs q → NoneMoves ys → Joins p (xs ++ ys) q
joins_before p q xs ys h k = joins_on p q q xs ys h (still_joins q ys k)

pub joined : (s : StateModel) (tools : List ℤ) (geometry : Geometry) (text : List ℕ) (done : Done)
    → executed s tools geometry text ≡ Ok done → Joins s.modal.point done.segments done.setup.modal.point
joined s tools geometry text done e =
    let a = accepted s tools geometry text done e in
    let g = reached a.block a.values.assignments s tools geometry a.goal a.goal_is in
    let h = path_joins s.modal.point geometry g.move a.goal.path
    (move_begins a.block s.modal g.at.offsets (with_changes s.params a.values.assignments) g.feed g.move
    g.move_is) g.path_found_by in
    let start = s.modal.point in
    let end = point_after a.goal.path start in
    subst (λ (d : Done). Joins start d.segments d.setup.modal.point) a.done_is
    (of_path (λ xs. Joins start xs end)
    (λ xs ys still k. joins_on start start end xs ys (still_joins start xs still) k)
    (plan_of a.block a.goal (remark_of (last_comment a.line.pieces)) s.modal)
    (λ ys still. joins_before start end (path_segments a.goal.path) ys h still))

pub still : (s : StateModel) (tools : List ℤ) (geometry : Geometry) (text : List ℕ) (done : Done)
    → executed s tools geometry text ≡ Ok done → NoneMoves done.segments →
    done.setup.modal.point ≡ s.modal.point
still s tools geometry text done e h = joins_still s.modal.point done.setup.modal.point done.segments (joined s tools geometry text done e) h

-- ---- they stay inside the travel

not_false : (b : Bool) → not b ≡ false → b ≡ true
not_false true e = refl
not_false false e = absurd (cc e)

both : (a b : Bool) → (a && b) ≡ true → (a ≡ true) × (b ≡ true)
both true b e = (refl, e)
both false b e = absurd (cc e)

neither : (a b : Bool) → (a || b) ≡ false → (a ≡ false) × (b ≡ false)
neither true b e = absurd (cc e)
neither false b e = (refl, e)

-- a line by itself
line_inside : (g : Geometry) (pace : Pace) (start end : Point)
    → list_any (cycle.ends_outside g) (line_to pace start end ∷ []) ≡ false
    → AreInside g (line_to pace start end ∷ [])
line_inside g pace start end e = (not_false (is_inside g end) (neither (not (is_inside g end)) false e).0, tt)

to_r_inside : (c : Bool) (g : Geometry) (pace : Pace) (start end : Point)
    → list_any (cycle.ends_outside g) (if c then [] else line_to pace start end ∷ []) ≡ false →
    AreInside g (if c then [] else line_to pace start end ∷ [])
to_r_inside true g pace start end e = tt
to_r_inside false g pace start end e = line_inside g pace start end e

stroke_inside : (g : Geometry) (d : Drill) (at : MotionState) (s : Stroke)
    → list_any (cycle.ends_outside g) (stroke_segments d at s) ≡ false → AreInside g (stroke_segments d at s)
stroke_inside g d at (Across r) e = line_inside g pace.Traverse at.point _ e
stroke_inside g d at ToR e = to_r_inside (int_eq at.point.z d.r) g pace.Traverse at.point _ e
stroke_inside g d at (TraverseTo z) e = line_inside g pace.Traverse at.point _ e
stroke_inside g d at (FeedTo z) e = line_inside g (pace.Feed d.rate) at.point _ e
stroke_inside g d at (Wait seconds) e = (tt, tt)
stroke_inside g d at (SetSpindle spindle) e = (tt, tt)

traced_inside : (g : Geometry) (d : Drill) (at : MotionState) (ss : List Stroke)
    → list_any (cycle.ends_outside g) (traced d at ss) ≡ false → AreInside g (traced d at ss)
traced_inside g d at [] e = tt
traced_inside g d at (s ∷ ss) e =
    let here = stroke_segments d at s in
    let next = after_segments at here in
    let parts = neither (list_any (cycle.ends_outside g) here) (list_any (cycle.ends_outside g) (traced d next ss))
    (sym (list_any-append (cycle.ends_outside g) here (traced d next ss)) ∙ e) in
    inside_on g here (traced d next ss) (stroke_inside g d at s parts.0) (traced_inside g d next ss parts.1)

-- a valid cycle stays within the travel
valid_stays : (w : CycleWords) (s : CycleContext) (g : Geometry) → first_fault (cycle.causes w s g) ≡ None → cycle.leaves_travel g (cycle.drill_of w s) ≡ false
valid_stays w s g e = (none_holds (cycle.causes w s g) e).1.1.1.1.1.1.1.1.1.1.0

no_drill_goes : (pace : Option Pace) (start end : Point) (d : Drill) → moving_at pace start end ≡ path.Cycle d → ⊥
no_drill_goes None start end d e = cc e
no_drill_goes (Some pace) start end d e = cc e

no_drill_turns : (pace : Option Pace) (shape : ArcShape) (d : Drill) → round_path_at pace shape ≡ path.Cycle d → ⊥
no_drill_turns None shape d e = cc e
no_drill_turns (Some pace) shape d e = cc e

drilled : (start : Point) (g : Geometry) (move : Move) (d : Drill) → path_by start g move ≡ Ok (path.Cycle d) → cycle.leaves_travel g d ≡ false
unfolding path_by
drilled start g Stays d e = absurd (cc e)
drilled start g (Goes pace end) d e = absurd (no_drill_goes pace start end d (same_ok (moving_at pace start end) (path.Cycle d) e))
drilled start g (GoesHome between home) d e = absurd (cc e)
drilled start g (Turns pace asked) d e =
    let found = then_ok (arc.checked asked) (λ shape. Ok (round_path_at pace shape)) (path.Cycle d) e in
    absurd (no_drill_turns pace found.0 d (same_ok (round_path_at pace found.0) (path.Cycle d) found.2))
drilled start g (Drills w s) d e =
    let found = then_ok (cycle.canned_of w s g) (λ x. Ok (path.Cycle x)) (path.Cycle d) e in
    let is = unless_ok (first_fault (cycle.causes w s g)) (cycle.drill_of w s) found.0 found.1 in
    let same : found.0 ≡ d = cc (found.2) in
    subst (λ (x : Drill). cycle.leaves_travel g x ≡ false) (is.1 ∙ same) (valid_stays w s g is.0)

path_inside : (g : Geometry) (p : Path) → first_fault (path_faults p g) ≡ None
    → ((d : Drill) → p ≡ path.Cycle d → cycle.leaves_travel g d ≡ false) → AreInside g (path_segments p)
unfolding stays_inside
path_inside g path.Still e h = tt
path_inside g path.WithoutFeed e h = tt
path_inside g (path.Straight line) e h =
    (not_false (is_inside g line.end) (none_holds (path_faults (path.Straight line) g) e).1.0, tt)
path_inside g (path.Round a) e h =
    let inside = both (is_inside g a.end) (extremes_inside a g) (not_false (stays_inside a g) (none_holds (path_faults (path.Round a) g) e).1.0) in
    (inside, tt)
path_inside g (path.Homing way) e h =
    let inside = both (is_inside g way.between) (is_inside g way.home)
    (not_false (is_inside g way.between && is_inside g way.home)
    (none_holds (path_faults (path.Homing way) g) e).1.0) in
    (inside.0, (inside.1, tt))
path_inside g (path.Cycle d) e h = traced_inside g d (begin d) (strokes d) (h d refl)

pub inside : (s : StateModel) (tools : List ℤ) (geometry : Geometry) (text : List ℕ) (done : Done)
    → executed s tools geometry text ≡ Ok done → All (StaysInside geometry) done.segments
inside s tools geometry text done e =
    let a = accepted s tools geometry text done e in
    let g = reached a.block a.values.assignments s tools geometry a.goal a.goal_is in
    let h = path_inside geometry a.goal.path a.none (λ d is. drilled s.modal.point geometry g.move d (g.path_found_by ∙ ap {B = Result Path Fault} Ok is)) in
    let plan = plan_of a.block a.goal (remark_of (last_comment a.line.pieces)) s.modal in
    subst (λ (d : Done). All (StaysInside geometry) d.segments) a.done_is
    (all_inside geometry (segments_of plan) (of_path (AreInside geometry) (λ xs ys still k. inside_on geometry xs ys (still_inside geometry xs still) k) plan
    (λ ys still. inside_on geometry (path_segments a.goal.path) ys h (still_inside geometry ys still))))
