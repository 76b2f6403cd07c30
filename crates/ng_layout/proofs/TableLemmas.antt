-- A table that was read from a snapshot in part.
use Rattle.std.specs.Prelude.{◌≡◌, ◌+◌, ◌*◌, ◌/◌, ◌%◌, ◌<◌, ℕ, List, length, get_or, ℤ, pos}
use Rattle.ng_num.specs.Range.{IsCount}
use Rattle.ng_params.specs.Numbers.{parameter_count}
use Rattle.ng_layout.specs.Limits.{sector_values}
use Rattle.ng_layout.specs.Fields.{signed_at}

-- The table has the values of the first n sectors of parameters, all within the range.
pub record TableTo (table : List ℤ) (n : ℕ) (row : ℕ → List ℕ) : Type 0 where
  pub here : (p : ℕ) → p < sector_values * n → p < parameter_count → get_or table p (pos 0) ≡ signed_at (8 * (p % sector_values)) (row (1 + p / sector_values))
  pub counts : (p : ℕ) → p < sector_values * n → p < parameter_count → IsCount (signed_at (8 * (p % sector_values)) (row (1 + p / sector_values)))
  pub long : length table ≡ parameter_count
