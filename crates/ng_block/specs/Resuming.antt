-- A block that goes on at one of its segments, and the machine's position and outputs before that (own).
use Rattle.std.specs.Prelude.{◌≡◌, ℕ, ◌-◌, List, length, take, drop}
use Rattle.ng_num.specs.declared.point.Point.{Point}
use Rattle.ng_canon.specs.declared.segment.Segment.{Segment}
use Rattle.ng_cycles.specs.declared.motion_state.MotionState.{MotionState}
use Rattle.ng_cycles.specs.Segments.{after_segments}
use Rattle.ng_block.specs.declared.effect.Effect.{Effect}
use Rattle.ng_block.specs.declared.block_segments.resuming.Passing.{Passing}
use Rattle.ng_block.specs.BlockSegments.{rest_of}
use Rattle.ng_block.specs.Effects.{segments_by}

-- the position and outputs before the block, which begins at a point
abbrev pub motion_state_before : Effect → Point → MotionState
motion_state_before e start = record { point = start; outputs = e.plan.before }

-- the position and outputs before segment n, counted from 0. The position is the end of the segments before it, and the
-- outputs are those of the last switch before it
abbrev pub motion_state_at : Effect → Point → ℕ → MotionState
motion_state_at e start n = after_segments (motion_state_before e start) (take n (segments_by e))

-- ---- a cursor that skips segments

-- what is left of a block once all that is to be skipped is, and the position and outputs before that, are the same
-- for two cursors
pub record Stays (old new : Passing) : Type 0 where
  pub rest : drop new.left (rest_of new.rest) ≡ drop old.left (rest_of old.rest)
  pub motion_state :
      after_segments new.motion_state (take new.left (rest_of new.rest))
      ≡ after_segments old.motion_state (take old.left (rest_of old.rest))
