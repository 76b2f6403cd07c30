-- The fresh state (own): G80 G17 G21 G90 G94 G40 G49 G54 G64 G98 M5 M9 M48, all else 0 or none.
use Rattle.std.specs.Prelude.{pos, true}
use Rattle.ng_num.specs.Point.{zero_point}
use Rattle.ng_num.specs.declared.unit.Unit.TheVariants.{Millimetres}
use Rattle.ng_canon.specs.Outputs.{fresh_outputs}
use Rattle.ng_canon.specs.declared.plane.Plane.TheVariants.{Xy}
use Rattle.ng_offsets.specs.Offsets.{no_offsets}
use Rattle.ng_state.specs.KeptWords.{no_words}
use Rattle.ng_state.specs.declared.modal_state.ModalState.{ModalState}
use Rattle.ng_state.specs.declared.modes.Modes.{Modes}
use Rattle.ng_state.specs.declared.modes.Motion.TheVariants.{Off}
use Rattle.ng_state.specs.declared.modes.Distance.TheVariants.{Absolute}
use Rattle.ng_state.specs.declared.modes.FeedMode.TheVariants.{PerMinute}
use Rattle.ng_state.specs.declared.modes.Retract.TheVariants.{OldZ}
use Rattle.ng_state.specs.declared.modes.PathMode.TheVariants.{Continuous}

abbrev pub fresh_modes : Modes
fresh_modes = record {
  motion = Off;
  plane = Xy;
  distance = Absolute;
  feed_mode = PerMinute;
  unit = Millimetres;
  retract = OldZ;
  system = 1;
  path = Continuous;
  overrides = true;
}

abbrev pub fresh_modal_state : ModalState
fresh_modal_state = record {
  modes = fresh_modes;
  feed_per_min = pos 0;
  outputs = fresh_outputs;
  offsets =
      no_offsets;
  kept = no_words;
  point = zero_point;
  point_known = true;
}
