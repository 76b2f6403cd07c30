-- What a cycle's line does, or the first cause for refusing it (NISTIR 6556, 3.5.16; numbers own).
use Rattle.std.specs.Prelude.{ℤ, pos, int_lt, Bool, true, false, not, ◌&&◌, ◌||◌, Option, Some, None, unwrap_or, List, [], ◌∷◌, ◌++◌, Result, if◌then◌else◌}
use Rattle.std.specs.Int.{int_max}
use Rattle.std.specs.List.{list_any}
use Rattle.std.specs.Option.{is_some, is_none, option_and_then}
use Rattle.ng_num.specs.Causes.{first_fault, unless}
use Rattle.ng_num.specs.declared.fault.Fault.{Fault}
use Rattle.ng_num.specs.declared.fault.Fault.TheVariants.{OutOfRange, CycleNoAxis, NoZ, NoR, RBelowZ, InverseTime}
use Rattle.ng_num.specs.declared.fault.Fault.TheVariants.{NegativeP, BadQ, SpindleStopped, NoFeed, OutsideTravel}
use Rattle.ng_canon.specs.Geometry.{is_inside}
use Rattle.ng_canon.specs.Pace.{above_zero}
use Rattle.ng_canon.specs.declared.geometry.Geometry.{Geometry}
use Rattle.ng_canon.specs.declared.outputs.Spindle.{Spindle}
use Rattle.ng_canon.specs.declared.outputs.Spindle.TheVariants.{Stopped, Clockwise, Counterclockwise}
use Rattle.ng_canon.specs.declared.segment.Segment.{Segment}
use Rattle.ng_canon.specs.declared.segment.Segment.TheVariants as segment
use Rattle.ng_offsets.specs.Offsets.{shift_x, shift_y, shift_z}
use Rattle.ng_cycles.specs.declared.drill.Drill.{Drill}
use Rattle.ng_cycles.specs.declared.drill.Work.{Work}
use Rattle.ng_cycles.specs.declared.drill.Work.TheVariants as work
use Rattle.ng_cycles.specs.declared.heights.Lengths.{Lengths}
use Rattle.ng_cycles.specs.declared.words.CycleWords.{CycleWords}
use Rattle.ng_state.specs.declared.kept_words.KeptWords.{KeptWords}
use Rattle.ng_cycles.specs.declared.words.CycleKind.{CycleKind}
use Rattle.ng_cycles.specs.declared.words.CycleKind.TheVariants.{Drilling, DrillingWithDwell, PeckDrilling, Boring, BoringWithStop, BoringWithDwell}
use Rattle.ng_cycles.specs.declared.words.CycleContext.{CycleContext}
use Rattle.ng_cycles.specs.Heights.{hole_axis_of, r_of, z_of, lengths, is_far}
use Rattle.ng_cycles.specs.Segments.{cycle_segments}
use Rattle.ng_state.specs.KeptWords.{in_force}

-- ---- what is done, if the line is valid

-- the P of a line without P is 0 (own)
abbrev pub work_of : CycleKind → KeptWords → Work
work_of Drilling words = work.Drilling
work_of DrillingWithDwell words = work.DrillingWithDwell (unwrap_or words.p (pos 0))
work_of PeckDrilling words = work.PeckDrilling (unwrap_or (option_and_then above_zero words.q) 1)
work_of Boring words = work.Boring
work_of BoringWithStop words = work.BoringWithStop (unwrap_or words.p (pos 0))
work_of BoringWithDwell words = work.BoringWithDwell (unwrap_or words.p (pos 0))

-- a cycle, given its lengths
abbrev pub drill_by : CycleWords → CycleContext → KeptWords → Lengths → Drill
drill_by w s words l = record {
  work = work_of w.kind words;
  start = s.point;
  x = l.x;
  y = l.y;
  r = l.r;
  z = l.z;
  clear = if s.keeps_old_z then int_max s.point.z l.r else l.r;
  repeats = w.repeats;
  rate = unwrap_or (above_zero s.feed_per_min) 1;
  outputs = s.outputs;
}

-- the lengths of words; that of a missing word is that of 0
abbrev pub lengths_of : CycleWords → CycleContext → KeptWords → Lengths
lengths_of w s words =
    let r' = r_of s.is_incremental (unwrap_or words.r (pos 0)) (shift_z s.offsets) s.point.z in
    record {
      x = hole_axis_of s.is_incremental w.x (shift_x s.offsets) s.point.x;
      y = hole_axis_of s.is_incremental w.y (shift_y s.offsets) s.point.y;
      r = r';
      z = z_of s.is_incremental (unwrap_or words.z (pos 0)) (shift_z s.offsets) r';
    }

abbrev pub drill_of : CycleWords → CycleContext → Drill
drill_of w s = let words = in_force w.own s.kept in drill_by w s words (lengths_of w s words)

-- ---- the causes

-- Y1: the line has no X, Y or Z
abbrev pub names_no_axis : CycleWords → Bool
names_no_axis w = not (is_some w.x || (is_some w.y || is_some w.own.z))

abbrev pub dwells : CycleKind → Bool
dwells DrillingWithDwell = true
dwells BoringWithStop = true
dwells BoringWithDwell = true
dwells _ = false

abbrev pub is_negative : Option ℤ → Bool
is_negative None = false
is_negative (Some n) = int_lt n (pos 0)

-- Y6: the P in force of G82, G86 or G89 is negative
abbrev pub has_negative_p : CycleKind → KeptWords → Bool
has_negative_p kind words = dwells kind && is_negative words.p

abbrev pub pecks_down : CycleKind → Bool
pecks_down PeckDrilling = true
pecks_down _ = false

-- Y7: G83 with no Q in force, or with one that isn't above 0
abbrev pub has_bad_q : CycleKind → KeptWords → Bool
has_bad_q kind words = pecks_down kind && is_none (option_and_then above_zero words.q)

abbrev pub stops_spindle : CycleKind → Bool
stops_spindle BoringWithStop = true
stops_spindle _ = false

abbrev pub is_stopped : Spindle → Bool
is_stopped Stopped = true
is_stopped Clockwise = false
is_stopped Counterclockwise = false

-- Y8: G86 while the spindle doesn't turn
abbrev pub finds_spindle_stopped : CycleKind → Spindle → Bool
finds_spindle_stopped kind spindle = stops_spindle kind && is_stopped spindle

-- X2: a move ends outside the travel
abbrev pub ends_outside : Geometry → Segment → Bool
ends_outside g (segment.Line line) = not (is_inside g line.end)
ends_outside g _ = false

abbrev pub leaves_travel : Geometry → Drill → Bool
leaves_travel g d = list_any (ends_outside g) (cycle_segments d)

-- Y6 to Y8
abbrev pub work_causes : CycleKind → KeptWords → Spindle → List (Bool × Fault)
work_causes kind words spindle =
    (has_negative_p kind words, NegativeP)
    ∷ ((has_bad_q kind words, BadQ)
    ∷ ((finds_spindle_stopped kind spindle, SpindleStopped)
    ∷ []))

-- Y4 to Y8 and X1 of a cycle that has its words
abbrev pub hole_causes : CycleWords → CycleContext → KeptWords → Bool → List (Bool × Fault)
hole_causes w s words below =
    (below, RBelowZ)
    ∷ ((s.is_inverse_time, InverseTime)
    ∷ (work_causes w.kind words s.outputs.spindle
    ++ ((is_none (above_zero s.feed_per_min), NoFeed)
    ∷ [])))

-- the faults in order, each with its cause: E3, Y1 to Y8, X1, X2
abbrev pub causes : CycleWords → CycleContext → Geometry → List (Bool × Fault)
causes w s g =
    let words = in_force w.own s.kept in
    let d = drill_of w s in
    (list_any is_far (lengths w words s), OutOfRange)
    ∷ ((names_no_axis w, CycleNoAxis)
    ∷ ((is_none words.z, NoZ)
    ∷ ((is_none words.r, NoR)
    ∷ (hole_causes w s words (int_lt d.r d.z) ++ ((leaves_travel g d, OutsideTravel) ∷ [])))))

abbrev pub canned_of : CycleWords → CycleContext → Geometry → Result Drill Fault
canned_of w s g = unless (first_fault (causes w s g)) (drill_of w s)
