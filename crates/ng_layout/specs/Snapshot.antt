-- What the sectors of a snapshot hold (own).
use Rattle.std.specs.Prelude.{◌≡◌, ◌+◌, ◌-◌, ◌*◌, ◌<◌, ◌≤◌, ℕ, ℤ, pos, List, length, get_or}
use Rattle.ng_layout.specs.Limits.{sector_size, sector_values, sector_lengths, slots_at}
use Rattle.ng_layout.specs.Fields.{number_at, signed_at, AreZero}
use Rattle.ng_layout.specs.Encoding.{HoldsDecodedState}
use Rattle.ng_layout.specs.Sectors.{HoldsValues}
use Rattle.ng_layout.specs.Stored.{DecodedStateModel, StoredModel}

-- what the state field says
abbrev pub decoded_state_in : StoredModel → DecodedStateModel
decoded_state_in s = record { entries = s.entries; place = s.place; modal = s.setup.modal; half = s.half }

-- The sector is written with this part of the snapshot: the state field and the number of slots first, then the
-- parameters.
pub record HoldsPart (saved : StoredModel) (part : ℕ) (sector : List ℕ) : Type 0 where
  pub state : part ≡ 0 → HoldsDecodedState saved.length (decoded_state_in saved) sector
  pub slots : part ≡ 0 → number_at 2 slots_at sector ≡ length saved.tools
  pub rest : part ≡ 0 → AreZero (sector_size - (slots_at + 2)) (slots_at + 2) sector
  pub values : (i : ℕ) → part ≡ 1 + i → HoldsValues saved.setup.params (sector_values * i) sector

-- The sector is written with these tool lengths from this index on; past the last one all its bytes are 0.
pub record HoldsLengths (tools : List ℤ) (first : ℕ) (sector : List ℕ) : Type 0 where
  pub each : (k : ℕ) → k < sector_lengths → first + k < length tools → signed_at (8 * k) sector ≡ get_or tools (first + k) (pos 0)
  pub past : (k : ℕ) → k < sector_lengths → length tools ≤ first + k → AreZero (sector_size - 8 * k) (8 * k) sector

-- the sector is written with this part of the tool area
abbrev pub HoldsToolPart : StoredModel → ℕ → List ℕ → Type 0
HoldsToolPart saved part sector = HoldsLengths saved.tools (sector_lengths * part) sector
