-- A block whose words change no mode but the motion.
use Rattle.std.proofs.Common.{◌≡◌, ℕ, Bool, true, Option, Some, None, refl}
use Rattle.std.specs.Prelude.{not, ◌||◌}
use Rattle.std.specs.Option.{is_some}
use Rattle.ng_num.specs.declared.unit.Unit.{Unit as LengthUnit}
use Rattle.ng_canon.specs.declared.plane.Plane.{Plane}
use Rattle.ng_modal.specs.Block.{motion_after}
use Rattle.ng_modal.specs.declared.requests.StopWord.{StopWord}
use Rattle.ng_modal.specs.declared.block.Block.{Block}
use Rattle.ng_state.specs.declared.modes.Modes.{Modes}
use Rattle.ng_state.specs.declared.modes.Distance.{Distance}
use Rattle.ng_state.specs.declared.modes.FeedMode.{FeedMode}
use Rattle.ng_state.specs.declared.modes.Retract.{Retract}
use Rattle.ng_state.specs.declared.modes.PathMode.{PathMode}
use Rattle.ng_block.specs.After.{keeps_modes, modes_after}

-- none of nine words is there
pub record NoModes (plane : Option Plane) (distance : Option Distance) (mode : Option FeedMode)
    (unit : Option LengthUnit) (retract : Option Retract) (path : Option PathMode) (system : Option ℕ)
    (overrides : Option Bool) (stop : Option StopWord) : Type 0 where
  pub plane_is : plane ≡ None
  pub distance_is : distance ≡ None
  pub mode_is : mode ≡ None
  pub unit_is : unit ≡ None
  pub retract_is : retract ≡ None
  pub path_is : path ≡ None
  pub system_is : system ≡ None
  pub overrides_is : overrides ≡ None
  pub stop_is : stop ≡ None

missing : (plane : Option Plane) (distance : Option Distance) (mode : Option FeedMode) (unit : Option LengthUnit)
    (retract : Option Retract) (path : Option PathMode) (system : Option ℕ) (overrides : Option Bool)
    (stop : Option StopWord) →
    not (is_some plane || is_some distance || is_some mode || is_some unit || is_some retract || is_some path ||
    is_some system || is_some overrides || is_some stop) ≡ true →
    NoModes plane distance mode unit retract path system overrides stop
missing None None None None None None None None None h =
    record {
      plane_is = refl;
      distance_is = refl;
      mode_is = refl;
      unit_is = refl;
      retract_is = refl;
      path_is = refl;
      system_is = refl;
      overrides_is = refl;
      stop_is = refl;
    }
missing (Some _) distance mode unit retract path system overrides stop h = absurd (cc h)
missing None (Some _) mode unit retract path system overrides stop h = absurd (cc h)
missing None None (Some _) unit retract path system overrides stop h = absurd (cc h)
missing None None None (Some _) retract path system overrides stop h = absurd (cc h)
missing None None None None (Some _) path system overrides stop h = absurd (cc h)
missing None None None None None (Some _) system overrides stop h = absurd (cc h)
missing None None None None None None (Some _) overrides stop h = absurd (cc h)
missing None None None None None None None (Some _) stop h = absurd (cc h)
missing None None None None None None None None (Some _) h = absurd (cc h)

pub modes_after-same : (b : Block) (m : Modes) → keeps_modes b ≡ true → record m { motion = motion_after b m } ≡ modes_after b m
modes_after-same b m h =
    let n = missing b.g.plane b.g.distance b.g.feed_mode b.g.unit b.g.retract b.g.path b.g.system b.m.overrides b.m.stop h in
    rw (n.plane_is, n.distance_is, n.mode_is, n.unit_is, n.retract_is, n.path_is, n.system_is, n.overrides_is, n.stop_is) refl
