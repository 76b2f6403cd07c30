-- The header of an epoch, if a sector holds a valid one (own).
use Rattle.std.specs.Prelude.{◌≡◌, ℕ, ◌≤◌, ◌*◌, ◌%◌, ◌==◌, ◌&&◌, Bool, true, nat_le, List, Option, Some, None, if◌then◌else◌, codes}
use Rattle.ng_layout.specs.Areas.{greatest_area, program_size}
use Rattle.ng_layout.specs.Codes.{format_of, code_of_format}
use Rattle.ng_layout.specs.Decoding.{and_then}
use Rattle.ng_layout.specs.declared.header.Format.{Format}
use Rattle.ng_layout.specs.Fields.{number_at, AreZero}
use Rattle.ng_layout.specs.declared.header.Header.{Header}
use Rattle.ng_layout.specs.Limits.{greatest_count, sector_size}

-- its fields in this format, whether it is valid or not
unfoldable pub header_at : Format → List ℕ → Header
header_at format sector = record { format = format; epoch = number_at 8 16 sector; area = number_at 8 24 sector; length = number_at 8 32 sector }

-- the text that it begins with
unfoldable pub is_marked : List ℕ → Bool
is_marked sector = number_at 8 0 sector == number_at 8 0 (codes "RS274NGC")

-- the most bytes of a program in the area of this number
abbrev pub longest_in : ℕ → ℕ
longest_in area = sector_size * program_size area

-- the most bytes of a program on a large device, or on a small one
abbrev pub program_limit_of : Bool → ℕ
program_limit_of large = longest_in (greatest_area large)

abbrev pub is_valid_header : Bool → Header → Bool
is_valid_header large h = nat_le 1 h.epoch && nat_le h.epoch greatest_count && nat_le h.area (greatest_area large) && nat_le h.length (longest_in h.area)

-- this header, if the sector begins with that text, each number is within its limits, and the sector is the one of its
-- epoch
abbrev pub header_by : Bool → ℕ → List ℕ → Header → Option Header
header_by large k sector h = if is_marked sector && is_valid_header large h && h.epoch % 2 == k then Some h else None

-- the valid header of sector k, on a large device or on a small one
unfoldable pub header_in : Bool → ℕ → List ℕ → Option Header
header_in large k sector = and_then (format_of (number_at 4 8 sector)) (λ format. header_by large k sector (header_at format sector))

-- its numbers are within their limits on such a device
pub record IsValidHeader (large : Bool) (h : Header) : Type 0 where
  pub counted : 1 ≤ h.epoch
  pub few : h.epoch ≤ greatest_count
  pub area : h.area ≤ greatest_area large
  pub length : h.length ≤ longest_in h.area

-- The sector is written with this header: its text, its format, its fields, and 0 in all other bytes.
pub record HoldsHeader (h : Header) (sector : List ℕ) : Type 0 where
  pub marked : is_marked sector ≡ true
  pub format : number_at 4 8 sector ≡ code_of_format h.format
  pub header : header_at h.format sector ≡ h
  pub gap : AreZero 4 12 sector
  pub rest : AreZero 472 40 sector
