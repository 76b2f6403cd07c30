-- What a part of a record holds, as it is written and as it is read (own).
use Rattle.std.specs.Prelude.{◌≡◌, ◌+◌, ◌-◌, ◌*◌, ℕ, zero, suc, Bool, true, List, [], ◌∷◌, ◌++◌, length, take, drop, ℤ, pos, Option, Some, None, MatchBool}
use Rattle.ng_params.specs.Change.{with_changes}
use Rattle.ng_params.specs.declared.change.Change.{Change}
use Rattle.ng_offsets.specs.declared.tools.SlotChange.{SlotChange}
use Rattle.ng_layout.specs.Limits.{sector_size, label_size, content_first, content_size, change_size, part_changes, slot_at, slot_length_at}
use Rattle.ng_layout.specs.Fields.{number_at, signed_at, AreZero}
use Rattle.ng_layout.specs.Decoding.{and_then}
use Rattle.ng_layout.specs.Log.{PartHeader, is_part, change_at}
use Rattle.ng_layout.specs.Encoding.{HoldsDecodedState}
use Rattle.ng_layout.specs.Snapshot.{decoded_state_in}
use Rattle.ng_layout.specs.Stored.{StoredModel}
use Rattle.ng_layout.specs.declared.part.PartLabel.{PartLabel}

-- the label of a part
abbrev pub label_of : PartLabel → PartHeader
label_of l = record { epoch = l.epoch; number = l.number; part = l.part; parts = l.parts; changes = l.changes }

-- the numbers where the label of a part would be, whether the sector is a part or not
abbrev pub label_at : List ℕ → PartLabel
label_at sector = record {
  epoch = number_at 8 0 sector;
  number = number_at 8 8 sector;
  part =
      number_at 2 16 sector;
  parts = number_at 2 18 sector;
  changes = number_at 2 20 sector;
}

-- the first n changes of a part; None if one of them is out of range
unfoldable pub changes_in : List ℕ → ℕ → Option (List Change)
changes_in sector zero = Some []
changes_in sector (suc n) =
    and_then (changes_in sector n) (λ earlier. and_then (change_at sector (content_first + change_size * n))
    (λ change. Some (earlier ++ change ∷ [])))

-- the changes that part i + 1 of a record has: 48, or as many as are left
abbrev pub piece : ℕ → List Change → List Change
piece i changes = take part_changes (drop (part_changes * i) changes)

-- The sector is written with this label, and 0 in each byte between it and the content.
pub record HoldsLabel (l : PartHeader) (sector : List ℕ) : Type 0 where
  pub is : is_part l sector ≡ true
  pub gap : AreZero (content_first - label_size) label_size sector

-- the number of the slot that changes, and its new length; both 0 if none changes
abbrev pub slot_number : Option SlotChange → ℕ
slot_number None = 0
slot_number (Some change) = change.slot

abbrev pub slot_length : Option SlotChange → ℤ
slot_length None = pos 0
slot_length (Some change) = change.length

-- The content is the state field of what is stored, and the slot that changes, with 0 in all other bytes.
pub record HoldsState (saved : StoredModel) (change : Option SlotChange) (sector : List ℕ) : Type 0 where
  pub state : HoldsDecodedState saved.length (decoded_state_in saved) (drop content_first sector)
  pub slot : number_at 2 slot_at sector ≡ slot_number change
  pub tool : signed_at slot_length_at sector ≡ slot_length change
  pub between : AreZero (slot_length_at - (slot_at + 2)) (slot_at + 2) sector
  pub rest : AreZero (sector_size - (slot_length_at + 8)) (slot_length_at + 8) sector

-- The content is these changes, which read back, and 0 in each byte after the last one.
pub record HoldsChanges (changes : List Change) (sector : List ℕ) : Type 0 where
  pub made : changes_in sector (length changes) ≡ Some changes
  pub rest : AreZero (content_size - change_size * length changes) (content_first + change_size * length changes) sector

-- The sector is written with this part of a record: the state field in the first part, and a piece of all changes in
-- each other part.
pub record HoldsRecordPart (l : PartHeader) (saved : StoredModel) (all : List Change) (change : Option SlotChange) (sector : List ℕ) : Type 0 where
  pub label : HoldsLabel l sector
  pub state : l.part ≡ 0 → HoldsState saved change sector
  pub changes : (i : ℕ) → l.part ≡ 1 + i → HoldsChanges (piece i all) sector

-- the first n changes of a part are applied to a table
pub record Makes (sector : List ℕ) (n : ℕ) (old new : List ℤ) : Type 0 where
  pub changes : List Change
  pub there : changes_in sector n ≡ Some changes
  pub is : new ≡ with_changes old changes

-- they are applied, or one of them is out of range
abbrev pub MakesOrDamaged : Bool → List ℕ → ℕ → List ℤ → List ℤ → Type 0
MakesOrDamaged whole sector n old new = MatchBool whole (Makes sector n old new) (changes_in sector n ≡ None)
