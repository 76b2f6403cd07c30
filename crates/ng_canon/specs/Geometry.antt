-- What is within the travel (own), and the default machine (own).
use Rattle.std.specs.Prelude.{◌≡◌, ℤ, pos, negsuc, Bool, ◌&&◌, int_le}
use Rattle.ng_num.specs.declared.point.Point.{Point}
use Rattle.ng_canon.specs.declared.geometry.Axis.{Axis}
use Rattle.ng_canon.specs.declared.geometry.Geometry.{Geometry}

-- a coordinate is on the axis, ends included
abbrev pub is_on : Axis → ℤ → Bool
is_on axis coordinate = int_le axis.low coordinate && int_le coordinate axis.high

abbrev pub is_inside : Geometry → Point → Bool
is_inside machine point = is_on machine.x point.x && is_on machine.y point.y && is_on machine.z point.z

-- a step of a micrometre, and a travel of a metre to either side
pub record IsStandardAxis (axis : Axis) : Type 0 where
  pub step : axis.step_nm ≡ 1_000
  pub low : axis.low ≡ negsuc 999_999_999
  pub high : axis.high ≡ pos 1_000_000_000

-- a traverse rate of six metres a minute, and a least period of 50 microseconds
pub record IsStandard (machine : Geometry) : Type 0 where
  pub x : IsStandardAxis machine.x
  pub y : IsStandardAxis machine.y
  pub z : IsStandardAxis machine.z
  pub traverse : machine.traverse ≡ 6_000_000_000
  pub period : machine.least_period_us ≡ 50
