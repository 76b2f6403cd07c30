-- What a line does in a state (NISTIR 6556, 3.8).
use Rattle.std.specs.Prelude.{ℕ, ℤ, List, length, Option, Some, None, Result, Ok, Err}
use Rattle.ng_num.specs.declared.fault.Fault.{Fault}
use Rattle.ng_canon.specs.Printing.{CanonModel}
use Rattle.ng_canon.specs.declared.outputs.Outputs.{Outputs}
use Rattle.ng_canon.specs.declared.segment.Segment.{Segment}
use Rattle.ng_canon.specs.declared.geometry.Geometry.{Geometry}
use Rattle.ng_words.specs.Reading.{read}
use Rattle.ng_words.specs.Grammar.{Piece}
use Rattle.ng_words.specs.Line.{last_comment}
use Rattle.ng_num.specs.Results.{and_then}
use Rattle.ng_expr.specs.Settle.{Settled, settled_pieces}
use Rattle.ng_num.specs.Causes.{first_fault}
use Rattle.ng_modal.specs.Checking.{checked}
use Rattle.ng_modal.specs.declared.block.Block.{Block}
use Rattle.ng_block.specs.declared.effect.Effect.{Effect}
use Rattle.ng_block.specs.declared.effect.ProgramFlow.{ProgramFlow}
use Rattle.ng_state.specs.declared.modal_state.ModalState.{ModalState}
use Rattle.ng_state.specs.State.{StateModel, changed}
use Rattle.ng_block.specs.Remarks.{remark_of, said_by}
use Rattle.ng_block.specs.Actions.{actions_of}
use Rattle.ng_block.specs.Motion.{feed_mode_after, feed_set}
use Rattle.ng_block.specs.Ends.{stop_of}
use Rattle.ng_block.specs.Goal.{Goal, goal_of}
use Rattle.ng_block.specs.Faults.{path_faults}
use Rattle.ng_block.specs.After.{modal_state_after}
use Rattle.ng_block.specs.Plan.{Plan, commands_of, segments_of}

-- what a line has done: the new state, the outputs that it began with, its segments and commands in their order, and
-- how the program goes on
pub record Done : Type 0 where
  pub setup : StateModel
  pub before : Outputs
  pub segments : List Segment
  pub commands : List CanonModel
  pub stop : ProgramFlow

-- what is kept of a line
abbrev pub plan_by : Effect → Plan
plan_by e = record {
  remark = said_by e.plan.remark;
  feed = e.plan.feed;
  actions = e.plan.actions.items;
  path = e.plan.path;
  stop = e.plan.stop;
  origin = e.modal.offsets.origin;
  before = e.plan.before;
}

abbrev pub commands_by : Effect → List CanonModel
commands_by e = commands_of (plan_by e)

abbrev pub segments_by : Effect → List Segment
segments_by e = segments_of (plan_by e)

-- an effect, in the state that it was found in
abbrev pub in_state : StateModel → Effect → Done
in_state s e = record { setup = changed s e.modal e.changes.items; before = e.plan.before; segments = segments_by e; commands = commands_by e; stop = e.stop }

-- ---- what a line does

-- a result, unless there is a fault
abbrev pub unless_refused : {X : Type 0} → Option Fault → Result X Fault → Result X Fault
unless_refused None answer = answer
unless_refused (Some fault) answer = Err fault

-- the plan of a valid block
abbrev pub plan_of : Block → Goal → List CanonModel → ModalState → Plan
plan_of b goal remark m =
    let mode = feed_mode_after b m.modes in
    record {
      remark = remark;
      feed = feed_set b mode goal.feed_per_min;
      actions = actions_of b mode m.outputs goal.shown;
      path = goal.path;
      stop = b.m.stop;
      origin = goal.offsets.origin;
      before = m.outputs;
    }

-- what a valid block does
abbrev pub block_done : Block → Goal → List CanonModel → StateModel → Done
block_done b goal remark s =
    let plan = plan_of b goal remark s.modal in
    record {
      setup = changed s (modal_state_after b goal plan s.modal) goal.changes;
      before = plan.before;
      segments = segments_of plan;
      commands = commands_of plan;
      stop = stop_of b.m.stop;
    }

-- what a block with a goal does, or why its move is refused (X1, X2)
abbrev pub finished : Block → Goal → List CanonModel → StateModel → Geometry → Result Done Fault
finished b goal remark s geometry = unless_refused (first_fault (path_faults goal.path geometry)) (Ok (block_done b goal remark s))

-- what the values of a line do. It is refused by B1 to B19 of its words, then for a computed length or offset (E3),
-- then for the shape of its arc (C1 to C4) or for its cycle (Y1 to Y8), then for its move (X1, X2); of each of these by
-- the first whose cause holds
unfoldable pub executed_values : StateModel → List CanonModel → Settled → List ℤ → Geometry → Result Done Fault
executed_values s remark values tools geometry =
    and_then (checked values.words s.modal.modes (length tools)) (λ b.
    and_then (goal_of b values.assignments s tools geometry) (λ goal. finished b goal remark s geometry))

-- what the pieces of a line do: the faults of their values come first
unfoldable pub executed_pieces : StateModel → List Piece → List ℤ → Geometry → Result Done Fault
executed_pieces s pieces tools geometry = and_then (settled_pieces pieces s.params)
    (λ values. executed_values s (remark_of (last_comment pieces)) values tools geometry)

-- what a line does, or why it is refused
unfoldable pub executed : StateModel → List ℤ → Geometry → List ℕ → Result Done Fault
executed s tools geometry text = and_then (read text) (λ line. executed_pieces s line.pieces tools geometry)
