-- What is written pins each byte: bytes that hold the same are the same (own).
use Rattle.std.specs.Prelude.{◌≡◌, ◌<◌, ◌≤◌, ℕ, List, length, take, Option}
use Rattle.std.specs.List.{All}
use Rattle.ng_params.specs.declared.change.Change.{Change}
use Rattle.ng_offsets.specs.declared.tools.SlotChange.{SlotChange}
use Rattle.ng_layout.specs.Encoding.{HoldsDecodedState}
use Rattle.ng_layout.specs.Header.{HoldsHeader}
use Rattle.ng_layout.specs.Limits.{field_size, sector_size}
use Rattle.ng_layout.specs.Log.{PartHeader}
use Rattle.ng_layout.specs.Part.{HoldsRecordPart}
use Rattle.ng_layout.specs.Sectors.{HoldsText}
use Rattle.ng_layout.specs.Snapshot.{HoldsPart, HoldsToolPart}
use Rattle.ng_layout.specs.Stored.{DecodedStateModel, StoredModel}
use Rattle.ng_layout.specs.declared.header.Header.{Header}

-- each number is below 256
abbrev pub AreBytes : List ℕ → Type 0
AreBytes numbers = All (λ number. number < 256) numbers

-- at least as many bytes as a state field has
pub record HasField (row : List ℕ) : Type 0 where
  pub long : field_size ≤ length row
  pub bytes : AreBytes row

-- as many bytes as a sector has
pub record IsSector (sector : List ℕ) : Type 0 where
  pub whole : length sector ≡ sector_size
  pub bytes : AreBytes sector

-- two sectors that hold this are the same
abbrev Pins : (List ℕ → Type 0) → Type 0
Pins Holds = (one other : List ℕ) → IsSector one → IsSector other → Holds one → Holds other → one ≡ other

-- a state field
abbrev pub PinsField : Type 0
PinsField = (program : ℕ) (state : DecodedStateModel) (one other : List ℕ) → HasField one → HasField other
    → HoldsDecodedState program state one → HoldsDecodedState program state other
    → take field_size one ≡ take field_size other

-- a header's sector
abbrev pub PinsHeader : Type 0
PinsHeader = (header : Header) → Pins (HoldsHeader header)

-- a sector of a snapshot
abbrev pub PinsPart : Type 0
PinsPart = (saved : StoredModel) (part : ℕ) → Pins (HoldsPart saved part)

-- a sector of a tool area
abbrev pub PinsToolPart : Type 0
PinsToolPart = (saved : StoredModel) (part : ℕ) → Pins (HoldsToolPart saved part)

-- a sector of a program
abbrev pub PinsText : Type 0
PinsText = (text : List ℕ) (first : ℕ) → Pins (HoldsText text first)

-- a part of a record
abbrev pub PinsRecordPart : Type 0
PinsRecordPart = (label : PartHeader) (saved : StoredModel) (changes : List Change) (slot : Option SlotChange)
    → Pins (HoldsRecordPart label saved changes slot)
