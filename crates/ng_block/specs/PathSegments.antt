-- What a cursor over a path has left.
use Rattle.std.specs.Prelude.{List, [], ◌∷◌, Option, Some, None}
use Rattle.ng_canon.specs.declared.segment.Segment.{Segment}
use Rattle.ng_canon.specs.declared.segment.Segment.TheVariants as segment
use Rattle.ng_canon.specs.declared.segment.StraightMove.{StraightMove}
use Rattle.ng_cycles.specs.Segments.{CycleModel}

-- its next segment, and the straight move after that
abbrev pub left_of : Option Segment → Option StraightMove → List Segment
left_of None None = []
left_of None (Some line) = segment.Line line ∷ []
left_of (Some next) None = next ∷ []
left_of (Some next) (Some line) = next ∷ segment.Line line ∷ []

-- those of a cycle
abbrev pub left_in : Option CycleModel → List Segment
left_in None = []
left_in (Some cycle) = cycle.segments
