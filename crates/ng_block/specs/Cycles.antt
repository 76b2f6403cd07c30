-- G81 to G89: the canned cycle that a line asks for, and the words that it keeps (NISTIR 6556, 3.5.16).
use Rattle.std.specs.Prelude.{ℤ, Bool, true, false, ◌||◌, Option, Some, unwrap_or, Result, Ok, if◌then◌else◌}
use Rattle.std.specs.Option.{is_some}
use Rattle.ng_num.specs.Results.{and_then}
use Rattle.ng_num.specs.declared.fault.Fault.{Fault}
use Rattle.ng_canon.specs.declared.geometry.Geometry.{Geometry}
use Rattle.ng_canon.specs.declared.outputs.Outputs.{Outputs}
use Rattle.ng_modal.specs.WholeNumbers.{repeats_on}
use Rattle.ng_modal.specs.declared.block.Block.{Block}
use Rattle.ng_state.specs.declared.modes.Modes.{Modes}
use Rattle.ng_modal.specs.Movement.{movement_of}
use Rattle.ng_modal.specs.declared.movement.Movement.{Movement}
use Rattle.ng_modal.specs.declared.movement.Movement.TheVariants as movement
use Rattle.ng_state.specs.declared.modes.Distance.{Distance}
use Rattle.ng_state.specs.declared.modes.Distance.TheVariants.{Absolute, Incremental}
use Rattle.ng_state.specs.declared.modes.Retract.{Retract}
use Rattle.ng_state.specs.declared.modes.Retract.TheVariants.{OldZ, ToR}
use Rattle.ng_offsets.specs.Named.{length_by}
use Rattle.ng_offsets.specs.declared.offsets.Offsets.{Offsets}
use Rattle.ng_cycles.specs.Faults.{canned_of}
use Rattle.ng_state.specs.KeptWords.{no_words, in_force}
use Rattle.ng_cycles.specs.declared.words.CycleWords.{CycleWords}
use Rattle.ng_state.specs.declared.kept_words.KeptWords.{KeptWords}
use Rattle.ng_cycles.specs.declared.words.CycleKind.{CycleKind}
use Rattle.ng_cycles.specs.declared.words.CycleKind.TheVariants.{Drilling, DrillingWithDwell, PeckDrilling, Boring, BoringWithStop, BoringWithDwell}
use Rattle.ng_cycles.specs.declared.words.CycleContext.{CycleContext}
use Rattle.ng_state.specs.declared.modal_state.ModalState.{ModalState}
use Rattle.ng_block.specs.declared.path.Path.{Path}
use Rattle.ng_block.specs.declared.path.Path.TheVariants.{Cycle}
use Rattle.ng_block.specs.Action.{outputs_after}
use Rattle.ng_block.specs.Actions.{actions_of}
use Rattle.ng_block.specs.AxisData.{unit_after, named_on}
use Rattle.ng_block.specs.Motion.{feed_mode_after, is_inverse}
use Rattle.ng_block.specs.Ends.{ends}
use Rattle.ng_block.specs.Shifts.{nothing_shown}

-- one kind of cycle is the other
abbrev pub is_same : CycleKind → CycleKind → Bool
is_same Drilling Drilling = true
is_same DrillingWithDwell DrillingWithDwell = true
is_same PeckDrilling PeckDrilling = true
is_same Boring Boring = true
is_same BoringWithStop BoringWithStop = true
is_same BoringWithDwell BoringWithDwell = true
is_same _ _ = false

-- ---- the words

-- R, Z, P and Q of the line: lengths in the unit after it, and a time
abbrev pub own_words : Block → Modes → Result KeptWords Fault
own_words b m =
    and_then (length_by b.values.r (unit_after b m)) (λ r.
    and_then (length_by b.values.z (unit_after b m)) (λ z.
    and_then (length_by b.values.q (unit_after b m)) (λ q.
    Ok (record { r = r; z = z; p = b.values.p; q = q }))))

-- the words that were kept for a cycle; there are none if the motion mode before the line was another
abbrev pub kept_by : CycleKind → Option Movement → KeptWords → KeptWords
kept_by kind (Some (movement.Cycle before)) kept = if is_same kind before then kept else no_words
kept_by kind _ kept = no_words

abbrev pub kept_for : CycleKind → ModalState → KeptWords
kept_for kind m = kept_by kind (movement_of m.modes.motion) m.kept

-- another motion, G80 and the program's end drop the words that were kept
abbrev pub kept_beside : Block → ModalState → KeptWords
kept_beside b m = if is_some b.g.motion || ends b.m.stop then no_words else m.kept

-- a cycle keeps its own words and, for those that the line doesn't have, the words that were kept for it
abbrev pub kept_in : CycleKind → Block → ModalState → Result KeptWords Fault
kept_in kind b m = and_then (own_words b m.modes) (λ own. Ok (if ends b.m.stop then no_words else in_force own (kept_for kind m)))

-- the words kept after the line
abbrev pub kept_after : Option Movement → Block → ModalState → Result KeptWords Fault
kept_after (Some (movement.Cycle kind)) b m = kept_in kind b m
kept_after _ b m = Ok (kept_beside b m)

abbrev pub kept_of : Block → ModalState → Result KeptWords Fault
kept_of b m = kept_after b.movement b m

-- ---- the cycle

abbrev pub cycle_words : Block → Modes → CycleKind → KeptWords → Result CycleWords Fault
cycle_words b m kind own =
    and_then (named_on b m) (λ named.
    Ok (record { kind = kind; x = named.x; y = named.y; own = own; repeats = repeats_on b.values.l }))

abbrev pub is_incremental : Distance → Bool
is_incremental Absolute = false
is_incremental Incremental = true

abbrev pub is_old_z : Retract → Bool
is_old_z OldZ = true
is_old_z ToR = false

-- the outputs at the motion: after the line's spindle, tool and coolant words; what it prints of offsets switches none
abbrev pub outputs_at_motion : Block → ModalState → Outputs
outputs_at_motion b m = outputs_after m.outputs (actions_of b (feed_mode_after b m.modes) m.outputs nothing_shown)

-- the state in which the cycle is executed: the offsets, the feed, the modes and the outputs after the line's other
-- words
abbrev pub context_of : Block → ModalState → Offsets → ℤ → KeptWords → CycleContext
context_of b m o feed kept = record {
  point = m.point;
  offsets = o;
  is_incremental = is_incremental (unwrap_or b.g.distance m.modes.distance);
  keeps_old_z = is_old_z (unwrap_or b.g.retract m.modes.retract);
  is_inverse_time = is_inverse (feed_mode_after b m.modes);
  feed_per_min = feed;
  outputs = outputs_at_motion b m;
  kept = kept;
}

-- the path in the cycle; or E3 if a computed length is out of range, or else the first of Y1 to Y8, X1 and X2
unfoldable pub cycle_path : CycleKind → Block → ModalState → Offsets → ℤ → Geometry → Result Path Fault
cycle_path kind b m o feed geometry =
    and_then (own_words b m.modes) (λ own.
    and_then (cycle_words b m.modes kind own) (λ words.
    and_then (canned_of words (context_of b m o feed (kept_for kind m)) geometry) (λ drill.
    Ok (Cycle drill))))
