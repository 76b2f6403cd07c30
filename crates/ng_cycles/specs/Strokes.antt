-- What the tool does in a canned cycle, stroke by stroke (NISTIR 6556, 3.5.16; the pecks of G83 own).
use Rattle.std.specs.Prelude.{ℕ, zero, suc, ◌+◌, ◌-◌, ◌*◌, ◌/◌, max, ℤ, pos, ◌+ℤ◌, ◌-ℤ◌, ◌*ℤ◌, unsigned_abs, int_lt}
use Rattle.std.specs.Prelude.{List, [], ◌∷◌, ◌++◌, flat_map, if◌then◌else◌}
use Rattle.std.specs.Int.{int_min, int_max}
use Rattle.ng_canon.specs.declared.outputs.Spindle.{Spindle}
use Rattle.ng_canon.specs.declared.outputs.Spindle.TheVariants.{Stopped}
use Rattle.ng_cycles.specs.declared.drill.HoleAxis.{HoleAxis}
use Rattle.ng_cycles.specs.declared.drill.Drill.{Drill}
use Rattle.ng_cycles.specs.declared.drill.Work.{Work}
use Rattle.ng_cycles.specs.declared.drill.Work.TheVariants.{Drilling, DrillingWithDwell, PeckDrilling, Boring, BoringWithStop, BoringWithDwell}

pub data Stroke : Type 0 where
  Across : ℕ → Stroke  -- a traverse in X and Y to the hole of a repeat; Z stays
  ToR : Stroke  -- a traverse in Z to R, unless Z is there
  TraverseTo : ℤ → Stroke  -- a traverse in Z alone
  FeedTo : ℤ → Stroke  -- a feed in Z alone
  Wait : ℤ → Stroke  -- a dwell
  SetSpindle : Spindle → Stroke  -- a switch of the spindle

-- n numbers, from the first one on
abbrev pub numbers_from : ℕ → ℕ → List ℕ
numbers_from first zero = []
numbers_from first (suc n) = first ∷ numbers_from (suc first) n

-- an axis's coordinate at the hole of a repeat: the start, plus the step for each repeat
abbrev pub coordinate : HoleAxis → ℕ → ℤ
coordinate c r = c.from +ℤ pos r *ℤ c.step

-- the bottom of peck k: one peck below the previous bottom, but not below Z (own)
abbrev pub bottom : Drill → ℕ → ℕ → ℤ
bottom d peck k = int_max d.z (d.r -ℤ pos (k * peck))

-- how many pecks it takes from R to Z; the last may be shorter; at least one (own)
abbrev pub pecks : Drill → ℕ → ℕ
pecks d peck = max 1 ((unsigned_abs (d.r -ℤ d.z) + (peck - 1)) / peck)

-- a hundredth of an inch (NISTIR 6556, 3.5.16.4)
abbrev pub clearance : ℤ
clearance = pos 254_000

-- the peck after peck k: out to R, back down to the clearance above the bottom, and on to the next bottom
abbrev pub again : Drill → ℕ → ℕ → List Stroke
again d peck k = TraverseTo d.r ∷ TraverseTo (int_min d.r (bottom d peck k +ℤ clearance)) ∷ FeedTo (bottom d peck (suc k)) ∷ []

-- what each kind of cycle does at a hole, from R on
abbrev pub strokes_of : Drill → Work → List Stroke
strokes_of d Drilling = FeedTo d.z ∷ TraverseTo d.clear ∷ []
strokes_of d (DrillingWithDwell seconds) = FeedTo d.z ∷ Wait seconds ∷ TraverseTo d.clear ∷ []
strokes_of d (PeckDrilling peck) = FeedTo (bottom d peck 1) ∷ (flat_map (again d peck) (numbers_from 1 (pecks d peck - 1)) ++ TraverseTo d.clear ∷ [])
strokes_of d Boring = FeedTo d.z ∷ FeedTo d.clear ∷ []
strokes_of d (BoringWithStop seconds) = FeedTo d.z ∷ Wait seconds ∷ SetSpindle Stopped ∷ TraverseTo d.clear ∷ SetSpindle d.outputs.spindle ∷ []
strokes_of d (BoringWithDwell seconds) = FeedTo d.z ∷ Wait seconds ∷ FeedTo d.clear ∷ []

abbrev pub repeat : Drill → ℕ → List Stroke
repeat d r = Across r ∷ ToR ∷ strokes_of d d.work

-- the whole cycle: if Z is below R, first to R; then each repeat
abbrev pub strokes : Drill → List Stroke
strokes d = (if int_lt d.start.z d.r then TraverseTo d.r ∷ [] else []) ++ flat_map (repeat d) (numbers_from 1 d.repeats)
