-- The faults of a move (own numbers; NISTIR 6556, 3.5.2, 3.5.19), in the order in which they are checked.
use Rattle.std.specs.Prelude.{Bool, true, false, not, ◌&&◌, List, [], ◌∷◌}
use Rattle.ng_num.specs.declared.fault.Fault.{Fault}
use Rattle.ng_num.specs.declared.point.Point.{Point}
use Rattle.ng_num.specs.declared.fault.Fault.TheVariants.{NoFeed, OutsideTravel}
use Rattle.ng_arc.specs.Extremes.{extremes_inside}
use Rattle.ng_canon.specs.Geometry.{is_inside}
use Rattle.ng_canon.specs.declared.geometry.Geometry.{Geometry}
use Rattle.ng_canon.specs.declared.segment.Arc.{Arc}
use Rattle.ng_block.specs.declared.path.Path.{Path}
use Rattle.ng_block.specs.declared.path.Path.TheVariants.{WithoutFeed, Straight, Round, Homing}

-- an arc ends within the travel, and passes no extreme outside it
unfoldable pub stays_inside : Arc → Geometry → Bool
stays_inside arc geometry = is_inside geometry arc.end && extremes_inside arc geometry

-- X2 of a straight move: it ends outside the travel
abbrev pub ends_outside : Geometry → Point → Bool
ends_outside geometry end = not (is_inside geometry end)

-- X2 of an arc: it ends outside the travel, or passes an extreme there
abbrev pub turns_outside : Geometry → Arc → Bool
turns_outside geometry arc = not (stays_inside arc geometry)

-- X2 of a way home: one of its two moves ends outside the travel
abbrev pub homes_outside : Geometry → (between home : Point) → Bool
homes_outside geometry between home = not (is_inside geometry between && is_inside geometry home)

-- X1 of a path: the path has no feed if its move has none (`has_no_feed` of specs/Causes.antt). A cycle is found only
-- if it has a feed and stays within the travel
abbrev pub is_without_feed : Path → Bool
is_without_feed WithoutFeed = true
is_without_feed _ = false

-- X2 of a path
abbrev pub path_outside : Path → Geometry → Bool
path_outside (Straight line) geometry = ends_outside geometry line.end
path_outside (Round arc) geometry = turns_outside geometry arc
path_outside (Homing way) geometry = homes_outside geometry way.between way.home
path_outside _ geometry = false

abbrev pub path_faults : Path → Geometry → List (Bool × Fault)
path_faults p geometry = (is_without_feed p, NoFeed) ∷ (path_outside p geometry, OutsideTravel) ∷ []
