-- What is found under the keys: values, then whole numbers, then settings.
use Rattle.std.specs.Prelude.{◌≡◌, ℤ, pos, negsuc, ◌≤ℤ◌, not, Bool, ◌||◌, List, [], ◌∷◌, Some}
use Rattle.std.specs.List.{filter_map}
use Rattle.toml.specs.Data.{Members, get_member, as_integer}
use Rattle.toml.specs.View.{view, array_view}
use Rattle.ng_canon.specs.declared.geometry.Axis.{Axis}
use Rattle.ng_canon.specs.declared.geometry.Geometry.{Geometry}
use Rattle.ng_settings.specs.KeyValues.{step_nm, low_nm, high_nm, traverse_nm_per_min, period_us, tools_nm}
use Rattle.ng_settings.specs.Numbers.{is_whole, is_triple, is_list, listed, numbers_of, Numbers}
use Rattle.ng_settings.specs.declared.key_values.KeyValues.{KeyValues}
use Rattle.ng_settings.specs.declared.numbers.PerAxis.{PerAxis}
use Rattle.ng_settings.specs.declared.setting_numbers.SettingNumbers.{SettingNumbers}
use Rattle.ng_settings.specs.declared.standard.Settings.{Settings}

-- these are the values of the keys
pub record AreFound (table : Members) (found : KeyValues) : Type 0 where
  pub steps : get_member step_nm table ≡ Some (view found.steps.now)
  pub lows : get_member low_nm table ≡ Some (view found.lows.now)
  pub highs : get_member high_nm table ≡ Some (view found.highs.now)
  pub traverse : get_member traverse_nm_per_min table ≡ Some (view found.traverse.now)
  pub period : get_member period_us table ≡ Some (view found.period.now)
  pub tools : get_member tools_nm table ≡ Some (view found.tools.now)

-- a value that was found has the wrong type
unfoldable pub has_other_type : KeyValues → Bool
has_other_type found =
    not (is_triple (view found.steps.now))
    || not (is_triple (view found.lows.now))
    || not (is_triple (view found.highs.now))
    || not (is_whole (view found.traverse.now))
    || not (is_whole (view found.period.now))
    || not (is_list (view found.tools.now))

-- the whole numbers of the values that were found
abbrev pub numbers_found : KeyValues → Numbers
numbers_found found = record {
  steps = numbers_of (view found.steps.now);
  lows = numbers_of (view found.lows.now);
  highs = numbers_of (view found.highs.now);
  traverse = numbers_of (view found.traverse.now);
  period =
      numbers_of (view found.period.now);
  tools = numbers_of (view found.tools.now);
}

abbrev pub three : PerAxis → List ℤ
three triple = triple.x ∷ triple.y ∷ triple.z ∷ []

abbrev pub numbers_given : SettingNumbers → Numbers
numbers_given given = record {
  steps = three given.steps;
  lows = three given.lows;
  highs = three given.highs;
  traverse = given.traverse ∷ [];
  period = given.period ∷ [];
  tools =
      filter_map as_integer (listed (array_view given.tools.now));
}

-- the numbers of settings
abbrev pub numbers_set : Settings → Numbers
numbers_set settings =
    let machine = settings.geometry in
    record {
      steps = pos machine.x.step_nm ∷ pos machine.y.step_nm ∷ pos machine.z.step_nm ∷ [];
      lows = machine.x.low ∷ machine.y.low ∷ machine.z.low ∷ [];
      highs = machine.x.high ∷ machine.y.high ∷ machine.z.high ∷ [];
      traverse = pos machine.traverse ∷ [];
      period = pos machine.least_period_us ∷ [];
      tools = settings.tools;
    }

pub record IsInLimits (least greatest n : ℤ) : Type 0 where
  pub low : least ≤ℤ n
  pub high : n ≤ℤ greatest

pub record AreInLimits (least greatest : ℤ) (triple : PerAxis) : Type 0 where
  pub x : IsInLimits least greatest triple.x
  pub y : IsInLimits least greatest triple.y
  pub z : IsInLimits least greatest triple.z

-- the numbers of a machine are within their limits
pub record IsMachine (given : SettingNumbers) : Type 0 where
  pub steps : AreInLimits (pos 10) (pos 1_000_000) given.steps
  pub lows : AreInLimits (negsuc 9_999_999_999) (pos 0) given.lows
  pub highs : AreInLimits (pos 0) (pos 10_000_000_000) given.highs
  pub traverse : IsInLimits (pos 1) (pos 100_000_000_000) given.traverse
  pub period : IsInLimits (pos 1) (pos 1_000_000) given.period

-- the axis with a step and a travel
pub record IsAxisOf (axis : Axis) (nm least greatest : ℤ) : Type 0 where
  pub step : pos axis.step_nm ≡ nm
  pub low : axis.low ≡ least
  pub high : axis.high ≡ greatest

pub record IsMachineOf (machine : Geometry) (given : SettingNumbers) : Type 0 where
  pub x : IsAxisOf machine.x given.steps.x given.lows.x given.highs.x
  pub y : IsAxisOf machine.y given.steps.y given.lows.y given.highs.y
  pub z : IsAxisOf machine.z given.steps.z given.lows.z given.highs.z
  pub traverse : pos machine.traverse ≡ given.traverse
  pub period : pos machine.least_period_us ≡ given.period
