-- What is true of the segments of a valid block, in a machinist's words: they join, and they stay inside the travel
-- (own; NISTIR 6556, 3.5.1 to 3.5.3, 3.5.16).
use Rattle.std.specs.Prelude.{◌≡◌, List, [], ◌∷◌, IsTrue}
use Rattle.ng_num.specs.declared.point.Point.{Point}
use Rattle.ng_arc.specs.Extremes.{extremes_inside}
use Rattle.ng_canon.specs.Geometry.{is_inside}
use Rattle.ng_canon.specs.declared.geometry.Geometry.{Geometry}
use Rattle.ng_canon.specs.declared.segment.Segment.{Segment}
use Rattle.ng_canon.specs.declared.segment.Segment.TheVariants as segment

-- from a point to an end: the first segment that moves begins at the point, each later one at the end of the one before
-- it, and the end is that of the last; if none moves, it is the point
abbrev pub Joins : Point → List Segment → Point → Type 0
Joins point [] end = end ≡ point
Joins point (segment.Line line ∷ rest) end = (line.start ≡ point) × Joins line.end rest end
Joins point (segment.Arc arc ∷ rest) end = (arc.start ≡ point) × Joins arc.end rest end
Joins point (segment.Dwell seconds ∷ rest) end = Joins point rest end
Joins point (segment.Switch outputs ∷ rest) end = Joins point rest end

-- none is a line or an arc
abbrev pub NoneMoves : List Segment → Type 0
NoneMoves [] = Unit {0}
NoneMoves (segment.Line line ∷ rest) = ⊥
NoneMoves (segment.Arc arc ∷ rest) = ⊥
NoneMoves (segment.Dwell seconds ∷ rest) = NoneMoves rest
NoneMoves (segment.Switch outputs ∷ rest) = NoneMoves rest

-- a line and an arc end inside the travel, and an arc passes no extreme outside it
abbrev pub StaysInside : Geometry → Segment → Type 0
StaysInside geometry (segment.Line line) = IsTrue (is_inside geometry line.end)
StaysInside geometry (segment.Arc arc) = IsTrue (is_inside geometry arc.end) × IsTrue (extremes_inside arc geometry)
StaysInside geometry (segment.Dwell seconds) = Unit {0}
StaysInside geometry (segment.Switch outputs) = Unit {0}
