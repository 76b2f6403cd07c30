-- Why settings are refused: the causes of S2 to S6 (own). Each is checked for all keys.
use Rattle.std.specs.Prelude.{ℕ, Bool, false, not, ◌||◌, List, [], ◌∷◌, length, ℤ, pos, negsuc, int_lt, nat_lt, Option, Some, None, is_none}
use Rattle.std.specs.List.{list_any}
use Rattle.toml.specs.Data.{Data, Members, no_members, member, get_member}
use Rattle.ng_settings.specs.KeyValues.{step_nm, low_nm, high_nm, traverse_nm_per_min, period_us, tools_nm, keys, is_key}
use Rattle.ng_settings.specs.Numbers.{is_whole, is_triple, is_list, Numbers}

-- S2: a key is missing
unfoldable pub has_missing_key : Members → Bool
has_missing_key table = list_any (λ key. is_none (get_member key table)) keys

-- the names that a table has
abbrev pub names : Members → List (List ℕ)
names no_members = []
names (member name value members) = name ∷ names members

-- S3: there is a name that isn't a key
unfoldable pub has_unknown_key : Members → Bool
has_unknown_key table = list_any (λ name. not (is_key name)) (names table)

-- there is a value of the wrong type
abbrev pub is_other : (Data → Bool) → Option Data → Bool
is_other is_type None = false
is_other is_type (Some value) = not (is_type value)

-- S4: steps and travel are triples, tools a list, the others whole numbers
unfoldable pub has_wrong_type : Members → Bool
has_wrong_type table =
    is_other is_triple (get_member step_nm table)
    || is_other is_triple (get_member low_nm table)
    || is_other is_triple (get_member high_nm table)
    || is_other is_whole (get_member traverse_nm_per_min table)
    || is_other is_whole (get_member period_us table)
    || is_other is_list (get_member tools_nm table)

-- a number is below the least or above the greatest
abbrev pub is_beyond : ℤ → ℤ → ℤ → Bool
is_beyond least greatest n = int_lt n least || int_lt greatest n

-- one of these numbers is below the least or above the greatest
unfoldable pub are_beyond : ℤ → ℤ → List ℤ → Bool
are_beyond least greatest numbers = list_any (λ n. is_beyond least greatest n) numbers

-- S5: steps from 10 to 1,000,000 nm; a travel that contains 0 and reaches at most 10 m to either side; traverses of 1
-- to 100,000,000,000 nm a minute; a least period of 1 to 1,000,000 us; tool lengths from 0 to 1 m
unfoldable pub is_beyond_limits : Numbers → Bool
is_beyond_limits numbers =
    are_beyond (pos 10) (pos 1_000_000) numbers.steps
    || are_beyond (negsuc 9_999_999_999) (pos 0) numbers.lows
    || are_beyond (pos 0) (pos 10_000_000_000) numbers.highs
    || are_beyond (pos 1) (pos 100_000_000_000) numbers.traverse
    || are_beyond (pos 1) (pos 1_000_000) numbers.period
    || are_beyond (pos 0) (pos 1_000_000_000) numbers.tools

-- S6: more than 128 tool lengths
unfoldable pub has_many_tools : Numbers → Bool
has_many_tools numbers = nat_lt 128 (length numbers.tools)
