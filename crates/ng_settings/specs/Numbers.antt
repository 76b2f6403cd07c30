-- The whole numbers that a table gives under each key (own).
use Rattle.std.specs.Prelude.{ℕ, Bool, false, ◌&&◌, ◌==◌, List, [], ◌∷◌, length, ℤ, is_some}
use Rattle.std.specs.List.{list_all, filter_map}
use Rattle.std.specs.Option.{option_map_or}
use Rattle.toml.specs.Data.{Data, integer, array, Items, no_items, item, Members, as_integer, get_member}
use Rattle.ng_settings.specs.KeyValues.{step_nm, low_nm, high_nm, traverse_nm_per_min, period_us, tools_nm}

-- the items of an array
abbrev pub listed : Items → List Data
listed no_items = []
listed (item value items) = value ∷ listed items

-- the whole numbers of a value: itself, or those of an array
unfoldable pub numbers_of : Data → List ℤ
numbers_of (integer n) = n ∷ []
numbers_of (array items) = filter_map as_integer (listed items)
numbers_of _ = []

unfoldable pub is_whole : Data → Bool
is_whole value = is_some (as_integer value)

-- an array of whole numbers
unfoldable pub is_list : Data → Bool
is_list (array items) = list_all is_whole (listed items)
is_list _ = false

-- an array of three whole numbers
unfoldable pub is_triple : Data → Bool
is_triple value = is_list value && (length (numbers_of value) == 3)

-- the whole numbers under a key
abbrev pub numbers_at : List ℕ → Members → List ℤ
numbers_at key table = option_map_or numbers_of (get_member key table) []

-- the whole numbers under each key
pub record Numbers : Type 0 where
  pub steps : List ℤ
  pub lows : List ℤ
  pub highs : List ℤ
  pub traverse : List ℤ
  pub period : List ℤ
  pub tools : List ℤ

abbrev pub numbers_in : Members → Numbers
numbers_in table = record {
  steps = numbers_at step_nm table;
  lows = numbers_at low_nm table;
  highs =
      numbers_at high_nm table;
  traverse = numbers_at traverse_nm_per_min table;
  period = numbers_at period_us table;
  tools = numbers_at tools_nm table;
}
