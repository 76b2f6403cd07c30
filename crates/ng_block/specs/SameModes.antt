-- Lines that ask for the same modes (NISTIR 6556, 3.4; own).
use Rattle.std.specs.Prelude.{◌≡◌}
use Rattle.ng_modal.specs.declared.block.Block.{Block}

-- two lines have the same words of the groups of modes: each group's word or none; M48 or M49; and the word that stops
-- or ends the program
pub record HasSameModes (one other : Block) : Type 0 where
  pub motion : other.g.motion ≡ one.g.motion
  pub plane : other.g.plane ≡ one.g.plane
  pub distance : other.g.distance ≡ one.g.distance
  pub feed_mode : other.g.feed_mode ≡ one.g.feed_mode
  pub unit : other.g.unit ≡ one.g.unit
  pub retract : other.g.retract ≡ one.g.retract
  pub system : other.g.system ≡ one.g.system
  pub path : other.g.path ≡ one.g.path
  pub overrides : other.m.overrides ≡ one.m.overrides
  pub stop : other.m.stop ≡ one.m.stop
