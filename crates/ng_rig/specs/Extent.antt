-- How many sectors a device has (own).
use Rattle.std.specs.Prelude.{◌≡◌, ◌<◌, ◌≤◌, ℕ, [], length}
use Rattle.ng_rig.specs.Trace.{Image}

-- Each sector below the size has a content, and no sector past it has.
pub record HasExtent (size : ℕ) (image : Image) : Type 0 where
  pub within : (n : ℕ) → n < size → 0 < length (image n)
  pub past : (n : ℕ) → size ≤ n → image n ≡ []
