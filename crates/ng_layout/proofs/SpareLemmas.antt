-- The sectors on which the meaning of an image doesn't depend.
use Rattle.std.specs.Prelude.{◌≡◌, ◌≢◌, ◌≤◌, ◌⊎◌, ℕ, ◌+◌, List}
use Rattle.ng_layout.specs.declared.header.Format.TheVariants.{Two}
use Rattle.ng_layout.specs.declared.header.Header.{Header}
use Rattle.ng_layout.specs.Areas.{snapshot_first, snapshot_size, program_first, program_size, log_first, shortest_log, tools_first, tools_size}
use Rattle.ng_layout.specs.Spare.{IsAmong}
use Rattle.ng_layout.specs.Stands.{is_large}

-- the sector belongs to another program area than this one
pub record IsOfOther (area n : ℕ) : Type 0 where
  pub other : ℕ
  pub most : other ≤ 3
  pub apart : other ≢ area
  pub among : IsAmong (program_first other) (program_size other) n

-- the snapshot area and the program areas that a header doesn't name, and in format 2 the tool area that it doesn't
-- name
abbrev pub IsSpare : Header → ℕ → Type 0
IsSpare h n = IsAmong (snapshot_first (h.epoch + 1)) snapshot_size n
    ⊎ (IsOfOther h.area n ⊎ ((h.format ≡ Two) × IsAmong (tools_first (h.epoch + 1)) tools_size n))

-- the images agree on all other sectors
pub record SameButSpare (h : Header) (image base : ℕ → List ℕ) : Type 0 where
  pub each : (n : ℕ) → IsSpare h n ⊎ (image n ≡ base n)
  pub large : is_large image ≡ is_large base

-- the last sectors of the log of format 1, which are the tool areas in format 2
abbrev pub IsInTail : ℕ → Type 0
IsInTail n = IsAmong (log_first + shortest_log) 4 n

-- the images agree on all but those and the spare ones
pub record SameButTail (h : Header) (image base : ℕ → List ℕ) : Type 0 where
  pub each : (n : ℕ) → IsSpare h n ⊎ (IsInTail n ⊎ (image n ≡ base n))
  pub large : is_large image ≡ is_large base
