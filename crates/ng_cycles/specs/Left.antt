-- The remaining part of a cycle, as a cursor over its segments has it.
use Rattle.std.specs.Prelude.{◌≡◌, ℕ, suc, ◌+◌, ◌-◌, ◌*◌, if◌then◌else◌, ℤ, pos, ◌+ℤ◌, Option, MatchOption, List, [], ◌∷◌, ◌++◌, flat_map}
use Rattle.std.specs.Int.{int_min}
use Rattle.std.specs.Ordering.{int_eq}
use Rattle.ng_canon.specs.declared.outputs.Spindle.TheVariants.{Stopped}
use Rattle.ng_canon.specs.declared.segment.Segment.{Segment}
use Rattle.ng_cycles.specs.declared.drill.Drill.{Drill}
use Rattle.ng_cycles.specs.declared.drill.Work.{Work}
use Rattle.ng_cycles.specs.declared.drill.Work.TheVariants.{Drilling, DrillingWithDwell, PeckDrilling, Boring, BoringWithStop, BoringWithDwell}
use Rattle.ng_cycles.specs.declared.left.CycleLeft.{CycleLeft}
use Rattle.ng_cycles.specs.declared.phase.Phase.{Phase}
use Rattle.ng_cycles.specs.declared.phase.Phase.TheVariants as phase
use Rattle.ng_cycles.specs.Strokes.{Stroke, TraverseTo, FeedTo, Wait, SetSpindle, numbers_from, bottom, pecks, clearance, again, strokes_of, repeat}
use Rattle.ng_cycles.specs.Segments.{traced, after_segment, CycleModel}

-- how long it dwells at the bottom
abbrev pub seconds_of : Work → ℤ
seconds_of (DrillingWithDwell seconds) = seconds
seconds_of (BoringWithStop seconds) = seconds
seconds_of (BoringWithDwell seconds) = seconds
seconds_of _ = pos 0

-- how the tool comes out of a hole
abbrev pub way_out : Drill → Work → List Stroke
way_out d Drilling = TraverseTo d.clear ∷ []
way_out d (DrillingWithDwell seconds) = TraverseTo d.clear ∷ []
way_out d (PeckDrilling peck) = TraverseTo d.clear ∷ []
way_out d Boring = FeedTo d.clear ∷ []
way_out d (BoringWithStop seconds) = SetSpindle Stopped ∷ TraverseTo d.clear ∷ SetSpindle d.outputs.spindle ∷ []
way_out d (BoringWithDwell seconds) = FeedTo d.clear ∷ []

-- how many segments there are at a hole, from R on
abbrev pub work_length : Drill → Work → ℕ
work_length d Drilling = 2
work_length d (DrillingWithDwell seconds) = 3
work_length d (PeckDrilling peck) = 3 * (pecks d peck - 1) + 2
work_length d Boring = 2
work_length d (BoringWithStop seconds) = 5
work_length d (BoringWithDwell seconds) = 3

-- how many segments a repeat has that begins at the height at which repeats end
abbrev pub repeat_length : Drill → ℕ
repeat_length d = 1 + ((if int_eq d.clear d.r then 0 else 1) + work_length d d.work)

-- some pecks after peck k, and out
abbrev pub pecks_after : Drill → ℕ → ℕ → ℕ → List Stroke
pecks_after d peck k n = flat_map (again d peck) (numbers_from k n) ++ TraverseTo d.clear ∷ []

-- the remaining part of a repeat
abbrev pub strokes_in : Drill → Phase → List Stroke
strokes_in d phase.Rise = TraverseTo d.r ∷ []
strokes_in d phase.Across = []
strokes_in d phase.ToR = TraverseTo d.r ∷ strokes_of d d.work
strokes_in d phase.Down = strokes_of d d.work
strokes_in d phase.Dwell = Wait (seconds_of d.work) ∷ way_out d d.work
strokes_in d phase.Stop = SetSpindle Stopped ∷ TraverseTo d.clear ∷ SetSpindle d.outputs.spindle ∷ []
strokes_in d phase.OutStopped = TraverseTo d.clear ∷ SetSpindle d.outputs.spindle ∷ []
strokes_in d phase.Start = SetSpindle d.outputs.spindle ∷ []
strokes_in d phase.Out = TraverseTo d.clear ∷ []
strokes_in d phase.FeedOut = FeedTo d.clear ∷ []
strokes_in d (phase.PeckOut p) = TraverseTo d.r ∷ TraverseTo (int_min d.r (bottom d p.peck p.done +ℤ clearance)) ∷
    FeedTo (bottom d p.peck (suc p.done)) ∷ pecks_after d p.peck (suc p.done) p.left
strokes_in d (phase.PeckBack p) = TraverseTo (int_min d.r (bottom d p.peck p.done +ℤ clearance)) ∷ FeedTo
    (bottom d p.peck (suc p.done)) ∷ pecks_after d p.peck (suc p.done) p.left
strokes_in d (phase.PeckDown p) = FeedTo (bottom d p.peck (suc p.done)) ∷ pecks_after d p.peck (suc p.done) p.left

-- the remaining part of a cycle
abbrev pub strokes_left : Drill → CycleLeft → List Stroke
strokes_left d c = strokes_in d c.phase ++ flat_map (repeat d) (numbers_from (suc c.begun) c.repeats_left)

abbrev pub ahead_of : CycleLeft → CycleModel
ahead_of c = record { motion_state = c.motion_state; segments = traced c.canned c.motion_state (strokes_left c.canned c) }

-- the next of the remaining segments, if there is one
abbrev pub IsNextSegment : CycleModel → CycleModel → Option Segment → Type 0
IsNextSegment old new result = MatchOption result ((old.segments ≡ []) × (new ≡ old))
    (λ segment. (old.segments ≡ segment ∷ new.segments) × (new.motion_state ≡ after_segment old.motion_state segment))

-- a segment is the next one, and the repeat stays
pub record NextSegmentSpec (old new : CycleLeft) (segment : Segment) : Type 0 where
  pub segments : (ahead_of old).segments ≡ segment ∷ (ahead_of new).segments
  pub motion_state : new.motion_state ≡ after_segment old.motion_state segment
  pub canned : new.canned ≡ old.canned
  pub begun : new.begun ≡ old.begun
  pub repeats : new.repeats_left ≡ old.repeats_left
