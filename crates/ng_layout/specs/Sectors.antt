-- Parameters and a program in sequences of sectors (own).
use Rattle.std.specs.Prelude.{◌≡◌, ℕ, ◌+◌, ◌-◌, ◌*◌, ◌/◌, ◌%◌, ◌<◌, ◌≤◌, List, map, length, get_or, slice_index, ℤ, pos}
use Rattle.std.specs.List.{range_with_len}
use Rattle.ng_num.specs.Range.{IsCount}
use Rattle.ng_params.specs.Numbers.{parameter_count}
use Rattle.ng_layout.specs.Limits.{sector_size, sector_values}
use Rattle.ng_layout.specs.Fields.{signed_at, AreZero}

-- the values of parameters 1 to n in sectors 1, 2 and so on of a sequence, 64 in each
unfoldable pub values : ℕ → (ℕ → List ℕ) → List ℤ
values n row = map (λ p. signed_at (8 * (p % sector_values)) (row (1 + p / sector_values))) (range_with_len 0 n)

-- the first n bytes of a sequence of sectors
unfoldable pub program_text : ℕ → (ℕ → List ℕ) → List ℕ
program_text n row = map (λ i. get_or (row (i / sector_size)) (i % sector_size) 0) (range_with_len 0 n)

-- The sector is written with the 64 values from this index on; past the last parameter all its bytes are 0.
pub record HoldsValues (table : List ℤ) (first : ℕ) (sector : List ℕ) : Type 0 where
  pub each : (k : ℕ) → k < sector_values → first + k < parameter_count → signed_at (8 * k) sector ≡ get_or table (first + k) (pos 0)
  pub past : (k : ℕ) → k < sector_values → parameter_count ≤ first + k → AreZero (sector_size - 8 * k) (8 * k) sector
  pub counts : (k : ℕ) → k < sector_values → first + k < parameter_count → IsCount (signed_at (8 * k) sector)

-- The table takes over the 64 values of a sector from this index on, all within the range; all else stays.
pub record TakesValues (old new : List ℤ) (first : ℕ) (sector : List ℕ) : Type 0 where
  pub here : (k : ℕ) → k < sector_values → first + k < parameter_count → first + k < length old → get_or new (first + k) (pos 0) ≡ signed_at (8 * k) sector
  pub counts : (k : ℕ) → k < sector_values → first + k < parameter_count → IsCount (signed_at (8 * k) sector)
  pub before : (p : ℕ) → p < first → get_or new p (pos 0) ≡ get_or old p (pos 0)
  pub long : length new ≡ length old

-- one of those values is out of range
pub record IsBeyond (first : ℕ) (sector : List ℕ) : Type 0 where
  pub k : ℕ
  pub within : k < sector_values
  pub there : first + k < parameter_count
  pub beyond : ¬ IsCount (signed_at (8 * k) sector)

-- the sector holds the 512 bytes from this index on, and 0 past the end
pub record HoldsText (text : List ℕ) (first : ℕ) (sector : List ℕ) : Type 0 where
  pub whole : length sector ≡ sector_size
  pub each : (k : ℕ) → k < sector_size → slice_index sector k ≡ slice_index text (first + k)
