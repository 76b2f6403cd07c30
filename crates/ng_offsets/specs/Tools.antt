-- The tool table: the lengths of slots 1, 2 and so on (NISTIR 6556, 3.2.3, in this project's profile).
use Rattle.std.specs.Prelude.{◌≡◌, ◌≤◌, ◌≤ℤ◌, ◌&&◌, ℕ, Bool, int_le, ◌+◌, ◌-◌, ◌==◌, if◌then◌else◌, List, [], ◌∷◌}
use Rattle.std.specs.Prelude.{◌++◌, set, length, ℤ, pos, get_or, Option, Some, None, IfSome}
use Rattle.std.specs.Ordering.{int_eq}
use Rattle.std.specs.List.{All}
use Rattle.ng_offsets.specs.declared.tools.SlotChange.{SlotChange}

-- the greatest tool length, 1 m; the least is 0
abbrev pub longest_tool : ℤ
longest_tool = pos 1_000_000_000

-- whether a length is within these limits
abbrev pub is_tool_length : ℤ → Bool
is_tool_length n = int_le (pos 0) n && int_le n longest_tool

pub record IsToolLength (n : ℤ) : Type 0 where
  pub least : pos 0 ≤ℤ n
  pub most : n ≤ℤ longest_tool

-- at most 128 slots, each with a length within its limits
pub record AreTools (lengths : List ℤ) : Type 0 where
  pub few : length lengths ≤ 128
  pub each : All IsToolLength lengths

-- the length of a slot; slot 0 is no tool, and its length is 0 (NISTIR 6556, 3.5.11)
abbrev pub length_of_slot : List ℤ → ℕ → ℤ
length_of_slot lengths slot = get_or (pos 0 ∷ lengths) slot (pos 0)

-- the table with another length in a slot; if the slot is the one after the last, it is added
abbrev pub with_slot : SlotChange → List ℤ → List ℤ
with_slot change lengths = if change.slot == length lengths + 1 then lengths ++ change.length ∷ [] else set lengths (change.slot - 1) change.length

abbrev pub with_change : Option SlotChange → List ℤ → List ℤ
with_change None lengths = lengths
with_change (Some change) lengths = with_slot change lengths

-- the slot is in the table, or is the one after its last
pub record IsSlotChange (lengths : List ℤ) (change : SlotChange) : Type 0 where
  pub from : 1 ≤ change.slot
  pub to : change.slot ≤ length lengths + 1

-- at most one slot is changed, or one is added at the end
pub record IsOneSlotFrom (old new : List ℤ) : Type 0 where
  pub change : Option SlotChange
  pub valid : IfSome change (IsSlotChange old)
  pub is : new ≡ with_change change old

-- the first slot, from this one on, that the new table has and the old one doesn't, or that has another length there
abbrev pub change_from : ℕ → List ℤ → List ℤ → Option SlotChange
change_from slot old [] = None
change_from slot [] (b ∷ new) = Some (record { slot = slot; length = b })
change_from slot (a ∷ old) (b ∷ new) = if int_eq a b then change_from (slot + 1) old new else Some (record { slot = slot; length = b })

abbrev pub first_change : List ℤ → List ℤ → Option SlotChange
first_change old new = change_from 1 old new
