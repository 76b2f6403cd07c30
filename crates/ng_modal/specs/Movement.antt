-- What the motion modes move (NISTIR 6556, 3.5.1 to 3.5.3, 3.5.15 and 3.5.16).
use Rattle.std.specs.Prelude.{Bool, true, false, Option, Some, None}
use Rattle.ng_canon.specs.declared.plane.ArcDirection.TheVariants.{Clockwise, Counterclockwise}
use Rattle.ng_cycles.specs.Faults.{dwells as dwells_in, pecks_down}
use Rattle.ng_cycles.specs.declared.words.CycleKind.TheVariants as kind
use Rattle.ng_state.specs.declared.modes.Motion.{Motion}
use Rattle.ng_state.specs.declared.modes.Motion.TheVariants as motion
use Rattle.ng_modal.specs.declared.movement.Movement.{Movement}
use Rattle.ng_modal.specs.declared.movement.Movement.TheVariants.{Straight, Arc, Cycle}
use Rattle.ng_modal.specs.declared.movement.StraightKind.TheVariants.{Traverse, Feed}

-- every motion mode except G80 moves
abbrev pub movement_of : Motion → Option Movement
movement_of motion.Off = None
movement_of motion.Traverse = Some (Straight Traverse)
movement_of motion.Feed = Some (Straight Feed)
movement_of motion.ClockwiseArc = Some (Arc Clockwise)
movement_of motion.CounterclockwiseArc = Some (Arc Counterclockwise)
movement_of motion.Drilling = Some (Cycle kind.Drilling)
movement_of motion.DrillingWithDwell = Some (Cycle kind.DrillingWithDwell)
movement_of motion.PeckDrilling = Some (Cycle kind.PeckDrilling)
movement_of motion.Boring = Some (Cycle kind.Boring)
movement_of motion.BoringWithStop = Some (Cycle kind.BoringWithStop)
movement_of motion.BoringWithDwell = Some (Cycle kind.BoringWithDwell)

-- G0 and G1
abbrev pub is_straight : Option Movement → Bool
is_straight (Some (Straight kind)) = true
is_straight _ = false

-- G2 and G3
abbrev pub is_arc : Option Movement → Bool
is_arc (Some (Arc turn)) = true
is_arc _ = false

-- G81 to G89
abbrev pub is_cycle : Option Movement → Bool
is_cycle (Some (Cycle kind)) = true
is_cycle _ = false

-- G82, G86 and G89
abbrev pub dwells : Option Movement → Bool
dwells (Some (Cycle kind)) = dwells_in kind
dwells _ = false

-- G83
abbrev pub pecks : Option Movement → Bool
pecks (Some (Cycle kind)) = pecks_down kind
pecks _ = false
