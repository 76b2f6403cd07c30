-- The state after M2 and M30 (NISTIR 6556, 3.6.1).
use Rattle.std.specs.Prelude.{◌≡◌, pos, true, false}
use Rattle.ng_num.specs.Point.{zero_point}
use Rattle.ng_params.specs.Numbers.{system_in_force}
use Rattle.ng_params.specs.Points.{origin_of}
use Rattle.ng_params.specs.Params.{at}
use Rattle.ng_canon.specs.declared.outputs.Spindle.TheVariants.{Stopped}
use Rattle.ng_canon.specs.declared.plane.Plane.TheVariants.{Xy}
use Rattle.ng_state.specs.declared.modes.Motion.TheVariants.{Feed}
use Rattle.ng_state.specs.declared.modes.Distance.TheVariants.{Absolute}
use Rattle.ng_state.specs.declared.modes.FeedMode.TheVariants.{PerMinute}
use Rattle.ng_state.specs.KeptWords.{no_words}
use Rattle.ng_state.specs.State.{StateModel}

-- for G40 there is nothing to say: there is no cutter radius compensation
pub record IsEnded (s : StateModel) : Type 0 where
  pub g92_2 : s.modal.offsets.g92 ≡ zero_point
  pub g54 : s.modal.modes.system ≡ 1
  pub g54_stored : at s.params system_in_force ≡ pos 1_000_000
  pub g54_origin : s.modal.offsets.origin ≡ origin_of s.params 1
  pub g17 : s.modal.modes.plane ≡ Xy
  pub g90 : s.modal.modes.distance ≡ Absolute
  pub g94 : s.modal.modes.feed_mode ≡ PerMinute
  pub m48 : s.modal.modes.overrides ≡ true
  pub m5 : s.modal.outputs.spindle ≡ Stopped
  pub m9_mist : s.modal.outputs.mist ≡ false
  pub m9_flood : s.modal.outputs.flood ≡ false
  pub g1 : s.modal.modes.motion ≡ Feed
  pub no_cycle : s.modal.kept ≡ no_words  -- own
