-- The segments of a canned cycle: each begins where the one before it ended.
use Rattle.std.specs.Prelude.{ℕ, List, [], ◌∷◌, ◌++◌, take, drop, fold, if◌then◌else◌}
use Rattle.std.specs.Ordering.{int_eq}
use Rattle.ng_num.specs.declared.point.Point.{Point}
use Rattle.ng_canon.specs.declared.pace.Pace.{Pace}
use Rattle.ng_canon.specs.declared.pace.Pace.TheVariants as pace
use Rattle.ng_canon.specs.declared.segment.Segment.{Segment}
use Rattle.ng_canon.specs.declared.segment.Segment.TheVariants as segment
use Rattle.ng_cycles.specs.declared.drill.Drill.{Drill}
use Rattle.ng_cycles.specs.declared.motion_state.MotionState.{MotionState}
use Rattle.ng_cycles.specs.Strokes.{Stroke, Across, ToR, TraverseTo, FeedTo, Wait, SetSpindle, coordinate, strokes}

-- the machine's position and outputs after a segment
abbrev pub after_segment : MotionState → Segment → MotionState
after_segment at (segment.Line line) = record at { point = line.end }
after_segment at (segment.Arc arc) = record at { point = arc.end }
after_segment at (segment.Dwell seconds) = at
after_segment at (segment.Switch outputs) = record at { outputs = outputs }

-- the machine's position and outputs after some segments
abbrev pub after_segments : MotionState → List Segment → MotionState
after_segments at segments = fold after_segment at segments

abbrev pub line_to : Pace → Point → Point → Segment
line_to pace start end = segment.Line (record { start = start; end = end; pace = pace })

-- a stroke is one segment; but a stroke to R is no segment if Z is there
abbrev pub segments_of : Drill → MotionState → Stroke → List Segment
segments_of d at (Across r) = line_to pace.Traverse at.point (record at.point { x = coordinate d.x r; y = coordinate d.y r }) ∷ []
segments_of d at ToR = if int_eq at.point.z d.r then [] else line_to pace.Traverse at.point (record at.point { z = d.r }) ∷ []
segments_of d at (TraverseTo z) = line_to pace.Traverse at.point (record at.point { z = z }) ∷ []
segments_of d at (FeedTo z) = line_to (pace.Feed d.rate) at.point (record at.point { z = z }) ∷ []
segments_of d at (Wait seconds) = segment.Dwell seconds ∷ []
segments_of d at (SetSpindle spindle) = segment.Switch (record d.outputs { spindle = spindle }) ∷ []

abbrev pub traced : Drill → MotionState → List Stroke → List Segment
traced d at [] = []
traced d at (s ∷ rest) = segments_of d at s ++ traced d (after_segments at (segments_of d at s)) rest

abbrev pub begin : Drill → MotionState
begin d = record { point = d.start; outputs = d.outputs }

-- all segments of a cycle
abbrev pub cycle_segments : Drill → List Segment
cycle_segments d = traced d (begin d) (strokes d)

-- the remaining segments, and the machine's position and outputs before them
pub record CycleModel : Type 0 where
  pub motion_state : MotionState
  pub segments : List Segment

abbrev pub whole : Drill → CycleModel
whole d = record { motion_state = begin d; segments = cycle_segments d }

-- the model after the first n of them
abbrev pub later : ℕ → CycleModel → CycleModel
later n a = record { motion_state = after_segments a.motion_state (take n a.segments); segments = drop n a.segments }
