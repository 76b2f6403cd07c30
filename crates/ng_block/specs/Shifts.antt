-- The offsets that a line puts in force, in the order of its steps: tool length, coordinate system, axis data (NISTIR
-- 6556, 3.8). None of them moves the machine. Origins and stored offsets are those of the table after the line's
-- assignments.
use Rattle.std.specs.Prelude.{ℤ, Bool, not, ◌||◌, List, Option, Some, None, Result, Ok}
use Rattle.std.specs.Option.{is_some}
use Rattle.ng_num.specs.Results.{and_then}
use Rattle.ng_num.specs.declared.fault.Fault.{Fault}
use Rattle.ng_modal.specs.declared.block.Block.{Block}
use Rattle.ng_state.specs.declared.modal_state.ModalState.{ModalState}
use Rattle.ng_block.specs.declared.shifts.Shown.{Shown}
use Rattle.ng_block.specs.declared.shifts.Shifted.{Shifted}
use Rattle.ng_block.specs.ToolLength.{offsets_after_length, length_shown}
use Rattle.ng_block.specs.AxisData.{with_system, axis_data_of, offsets_after, offsets_shown}

-- the offsets, what each step prints of them, and the changes that store them; or E3 if an offset is out of range
abbrev pub shift_of : Block → ModalState → List ℤ → List ℤ → Result Shifted Fault
shift_of b m table lengths =
    let o = offsets_after_length b.g.tool_length b.values.h lengths m.offsets in
    and_then (with_system b.g.system o table) (λ system.
    and_then (axis_data_of b m.modes m.point (offsets_after system o) table) (λ axis.
    Ok (record {
      offsets = offsets_after axis.new (offsets_after system o);
      shown = record { tool_length = length_shown b.g.tool_length o; system = offsets_shown system; axis_data = offsets_shown axis.new };
      stored = axis.stored;
    })))

abbrev pub nothing_shown : Shown
nothing_shown = record { tool_length = None; system = None; axis_data = None }

-- if a line shows nothing of its offsets, nothing is stored
abbrev pub shown_in : Option Shown → Shown
shown_in None = nothing_shown
shown_in (Some shown) = shown

-- no word of a line changes an offset or stores one
abbrev pub keeps_offsets : Block → Bool
keeps_offsets b = not (is_some b.g.tool_length || is_some b.g.system || is_some b.g.non_modal)
