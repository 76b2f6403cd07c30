-- Where a line takes the machine: all its lengths, computed before any of its commands (NISTIR 6556, 3.5). Its
-- assignments act first, so origins, homes and stored offsets are those of the table that they leave.
use Rattle.std.specs.Prelude.{ℕ, ℤ, List, [], ◌∷◌, ◌++◌, Option, Some, None, Result, Ok, if◌then◌else◌}
use Rattle.ng_num.specs.Point.{zero_point}
use Rattle.ng_num.specs.declared.fault.Fault.{Fault}
use Rattle.ng_params.specs.Points.{origin_of, selection}
use Rattle.ng_params.specs.Change.{with_changes}
use Rattle.ng_params.specs.declared.change.Change.{Change}
use Rattle.ng_num.specs.Results.{and_then}
use Rattle.ng_canon.specs.declared.geometry.Geometry.{Geometry}
use Rattle.ng_modal.specs.declared.movement.Movement.{Movement}
use Rattle.ng_modal.specs.declared.movement.Movement.TheVariants.{Straight, Arc, Cycle}
use Rattle.ng_modal.specs.declared.movement.StraightKind.{StraightKind}
use Rattle.ng_modal.specs.declared.block.Block.{Block}
use Rattle.ng_offsets.specs.declared.offsets.Offsets.{Offsets}
use Rattle.ng_state.specs.declared.kept_words.KeptWords.{KeptWords}
use Rattle.ng_block.specs.declared.effect.Effect.{Effect}
use Rattle.ng_state.specs.declared.modal_state.ModalState.{ModalState}
use Rattle.ng_block.specs.declared.path.Path.{Path}
use Rattle.ng_block.specs.declared.shifts.Shown.{Shown}
use Rattle.ng_block.specs.Arcs.{path_along_arc}
use Rattle.ng_block.specs.Cycles.{kept_of, cycle_path}
use Rattle.ng_block.specs.Motion.{feed_of, straight_pace, straight_end_of}
use Rattle.ng_block.specs.Ends.{ends}
use Rattle.ng_block.specs.Homes.{home_on, home_path}
use Rattle.ng_block.specs.Path.{moving_at}
use Rattle.ng_state.specs.State.{StateModel}
use Rattle.ng_block.specs.Shifts.{shift_of, shown_in}

-- ---- offsets, and the parameters that are set

-- the offsets in force, what the steps print of them, and the changes of parameters so far
pub record Bearings : Type 0 where
  pub offsets : Offsets
  pub shown : Shown
  pub changes : List Change

-- a word of group 12 stores the number of its system, axis data an origin or an offset
abbrev pub selecting : Option ℕ → List Change → List Change
selecting None before = before
selecting (Some system) before = before ++ selection system ∷ []

abbrev pub storing : Option (List Change) → List Change → List Change
storing None before = before
storing (Some changes) before = before ++ changes

-- after the axis data
abbrev pub bearings_of : Block → List Change → StateModel → List ℤ → Result Bearings Fault
bearings_of b assignments s lengths =
    and_then (shift_of b s.modal (with_changes s.params assignments) lengths) (λ at.
    Ok (record { offsets = at.offsets; shown = at.shown; changes = storing at.stored (selecting b.g.system assignments) }))

-- the program's end puts system 1 in force, with the origin that the line leaves it, and drops the G92 offset; the tool
-- length stays
abbrev pub ended : List ℤ → Bearings → Bearings
ended params at = record {
  offsets = record at.offsets { origin = origin_of (with_changes params at.changes) 1; g92 = zero_point };
  shown = at.shown;
  changes = at.changes ++ selection 1 ∷ [];
}

abbrev pub bearings_after : Block → List ℤ → Bearings → Bearings
bearings_after b params at = if ends b.m.stop then ended params at else at

-- ---- the motion

-- straight to the line's end, with the feed after the line; or E3 if a coordinate of the end is out of range
abbrev pub straight_path : StraightKind → Block → ModalState → Offsets → ℤ → Result Path Fault
straight_path kind b m o feed = and_then (straight_end_of b m o) (λ end. Ok (moving_at (straight_pace kind b m feed) m.point end))

-- the path of a movement under these offsets; without one, the way home, if the line asks for it
abbrev pub path_for : Option Movement → Block → ModalState → Offsets → List ℤ → ℤ → Geometry → Result Path Fault
path_for (Some (Straight kind)) b m o table feed geometry = straight_path kind b m o feed
path_for (Some (Arc turn)) b m o table feed geometry = path_along_arc turn b m o feed
path_for (Some (Cycle kind)) b m o table feed geometry = cycle_path kind b m o feed geometry
path_for None b m o table feed geometry = home_path b m o (home_on b.g.non_modal table)

abbrev pub path_of : Block → ModalState → Offsets → List ℤ → ℤ → Geometry → Result Path Fault
path_of b m o table feed geometry = path_for b.movement b m o table feed geometry

-- ---- all of it

-- the feed and the offsets after the line, what it prints of them, the parameters that it sets, its path, and the words
-- that a cycle keeps after it
pub record Goal : Type 0 where
  pub feed_per_min : ℤ
  pub offsets : Offsets
  pub shown : Shown
  pub changes : List Change
  pub path : Path
  pub kept : KeptWords

abbrev pub goal_with : ℤ → Bearings → Path → KeptWords → Goal
goal_with feed at path kept = record { feed_per_min = feed; offsets = at.offsets; shown = at.shown; changes = at.changes; path = path; kept = kept }

-- the path, under the offsets after the axis data
abbrev pub path_after_bearings : Block → List Change → StateModel → List ℤ → ℤ → Geometry → Result (Bearings × Path) Fault
path_after_bearings b assignments s lengths feed geometry =
    and_then (bearings_of b assignments s lengths) (λ at.
    and_then (path_of b s.modal at.offsets (with_changes s.params assignments) feed geometry) (λ path.
    Ok (at, path)))

-- all of it, or E3 if a computed length is out of range, or else why its arc (C1 to C4) or its cycle (Y1 to Y8, X1, X2)
-- is refused
abbrev pub goal_of : Block → List Change → StateModel → List ℤ → Geometry → Result Goal Fault
goal_of b assignments s lengths geometry =
    and_then (feed_of b s.modal) (λ feed.
    and_then (path_after_bearings b assignments s lengths feed geometry) (λ way.
    and_then (kept_of b s.modal) (λ kept.
    Ok (goal_with feed (bearings_after b s.params way.0) way.1 kept))))

-- the bearings and the goal in an effect
abbrev pub bearings_by : Effect → Bearings
bearings_by e = record { offsets = e.modal.offsets; shown = shown_in e.shown; changes = e.changes.items }

abbrev pub path_with_bearings : Effect → Bearings × Path
path_with_bearings e = (bearings_by e, e.plan.path)

abbrev pub goal_by : Effect → Goal
goal_by e = goal_with e.modal.feed_per_min (bearings_by e) e.plan.path e.modal.kept
