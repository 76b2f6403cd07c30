-- The actions that a block's words give it, in the order in which a block is executed (NISTIR 6556, 3.8, table 8).
use Rattle.std.specs.Prelude.{ℕ, ℤ, Bool, not, ◌||◌, List, [], ◌∷◌, flat_map, Option, Some, None, unwrap_or, if◌then◌else◌}
use Rattle.std.specs.Option.{is_some, option_map, option_to_list}
use Rattle.ng_canon.specs.declared.outputs.Outputs.{Outputs}
use Rattle.ng_modal.specs.WholeNumbers.{slot_on}
use Rattle.ng_modal.specs.Causes.{is_dwell}
use Rattle.ng_modal.specs.declared.block.Block.{Block}
use Rattle.ng_state.specs.declared.modes.FeedMode.{FeedMode}
use Rattle.ng_block.specs.declared.action.Action.{Action}
use Rattle.ng_block.specs.declared.action.Action.TheVariants as action
use Rattle.ng_block.specs.declared.shifts.Shown.{Shown}
use Rattle.ng_block.specs.Motion.{is_inverse, time_word}

-- the steps of a block
pub data BlockStep : Type 0 where
  Remark : BlockStep  -- the last comment of the line, or the message in it
  SetFeedMode : BlockStep
  Feed : BlockStep
  SpindleSpeed : BlockStep
  SelectTool : BlockStep
  ChangeTool : BlockStep
  Spindle : BlockStep
  Coolant : BlockStep
  Overrides : BlockStep
  Dwell : BlockStep
  Plane : BlockStep
  Units : BlockStep
  CutterRadius : BlockStep
  ToolLength : BlockStep
  CoordinateSystem : BlockStep
  PathMode : BlockStep
  DistanceMode : BlockStep
  RetractMode : BlockStep
  AxisData : BlockStep
  Motion : BlockStep
  Stop : BlockStep

abbrev pub order : List BlockStep
order =
    Remark ∷ SetFeedMode ∷ Feed ∷ SpindleSpeed ∷ SelectTool ∷ ChangeTool ∷ Spindle ∷ Coolant ∷ Overrides ∷ Dwell
    ∷ Plane ∷ Units ∷ CutterRadius ∷ ToolLength ∷ CoordinateSystem ∷ PathMode ∷ DistanceMode ∷ RetractMode
    ∷ AxisData ∷ Motion ∷ Stop ∷ []

-- M6 takes the slot that is selected after the line's own T
abbrev pub slot_changed : Block → Outputs → Option ℕ
slot_changed b before =
    if b.m.tool_change then Some (unwrap_or (slot_on b.values.t) before.selected_slot) else None

-- the seconds of G4
abbrev pub dwell_on : Block → Option ℤ
dwell_on b = if is_dwell b.g.non_modal then b.values.p else None

-- an action, if there is a value for it
abbrev pub with_value : {X : Type 0} → (X → Action) → Option X → List Action
with_value to value = option_to_list (option_map to value)

-- the action of a step; the remark, the feed, the move and the stop are none. The time of a move comes right before it
abbrev pub actions_at : Block → FeedMode → Outputs → Shown → BlockStep → List Action
actions_at b mode before shown SpindleSpeed = with_value action.SpindleSpeed b.values.s
actions_at b mode before shown SelectTool = with_value action.SelectTool (slot_on b.values.t)
actions_at b mode before shown ChangeTool = with_value action.ChangeTool (slot_changed b before)
actions_at b mode before shown Spindle = with_value action.Spindle b.m.spindle
actions_at b mode before shown Coolant = with_value action.Coolant b.m.coolant
actions_at b mode before shown Dwell = with_value action.Dwell (dwell_on b)
actions_at b mode before shown Plane = with_value action.SelectPlane b.g.plane
actions_at b mode before shown Units = with_value action.LengthUnits b.g.unit
actions_at b mode before shown ToolLength = with_value action.ToolLength shown.tool_length
actions_at b mode before shown CoordinateSystem = with_value action.OriginOffsets shown.system
actions_at b mode before shown AxisData = with_value action.OriginOffsets shown.axis_data
actions_at b mode before shown Motion = with_value action.InverseTime (time_word mode b.movement b.values.f)
actions_at b mode before shown _ = []

-- the actions of a block, given the outputs before it and what it prints of offsets
abbrev pub actions_of : Block → FeedMode → Outputs → Shown → List Action
actions_of b mode before shown = flat_map (actions_at b mode before shown) order

-- a block without a word that asks for an action, and without an F that is a time; what it prints of offsets is left
-- out
abbrev pub gives_nothing : Block → FeedMode → Bool
gives_nothing b mode =
    not (is_inverse mode || is_some b.values.s || is_some b.values.t || b.m.tool_change || is_some b.m.spindle
    || is_some b.m.coolant || is_some b.g.non_modal || is_some b.g.plane || is_some b.g.unit)
