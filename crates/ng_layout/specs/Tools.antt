-- The tool table on a device of format 2: a snapshot's table, and its changes by records (own). Format 1 has none.
use Rattle.std.specs.Prelude.{ℕ, zero, suc, ◌+◌, ◌*◌, ◌/◌, ◌%◌, ◌==◌, ◌&&◌, Bool, nat_le, List, [], ◌∷◌, ◌++◌, length, ℤ, Option, Some, None, if◌then◌else◌}
use Rattle.ng_offsets.specs.Tools.{is_tool_length, with_change}
use Rattle.ng_offsets.specs.declared.tools.SlotChange.{SlotChange}
use Rattle.ng_layout.specs.Fields.{number_at, signed_at}
use Rattle.ng_layout.specs.Limits.{greatest_slot, sector_lengths, slots_at, slot_at, slot_length_at}
use Rattle.ng_layout.specs.Decoding.{and_then, up_to}
use Rattle.ng_layout.specs.declared.header.Format.{Format}
use Rattle.ng_layout.specs.declared.header.Format.TheVariants.{One, Two}

-- a tool length within its limits
abbrev pub tool_length_of : ℤ → Option ℤ
tool_length_of n = if is_tool_length n then Some n else None

-- the lengths of the first n slots in the sectors of a tool area, 64 in each; None if one is out of range
unfoldable pub lengths_in : (ℕ → List ℕ) → ℕ → Option (List ℤ)
lengths_in area zero = Some []
lengths_in area (suc n) =
    and_then (lengths_in area n)
    (λ earlier. and_then (tool_length_of (signed_at (8 * (n % sector_lengths)) (area (n / sector_lengths))))
    (λ tool. Some (earlier ++ tool ∷ [])))

-- the table of a snapshot, from its first sector and its tool area
abbrev pub tools_in : Format → List ℕ → (ℕ → List ℕ) → Option (List ℤ)
tools_in One first area = Some []
tools_in Two first area = and_then (up_to greatest_slot (number_at 2 slots_at first)) (λ slots. lengths_in area slots)

-- the length has to be within the limits even if slot 0 says that none changes
abbrev pub slot_change_by : ℕ → ℕ → ℤ → Option (Option SlotChange)
slot_change_by slots slot tool = and_then (tool_length_of tool) (λ n.
    if slot == 0 then Some None
    else if nat_le slot (slots + 1) && nat_le slot greatest_slot then Some (Some (record { slot = slot; length = n }))
    else None)

-- the change of a table with this many slots, from the first part of a record; None if it is out of range
unfoldable pub slot_change_in : ℕ → List ℕ → Option (Option SlotChange)
slot_change_in slots sector = slot_change_by slots (number_at 2 slot_at sector) (signed_at slot_length_at sector)

-- the table after a record, from its first part
abbrev pub tools_after : Format → List ℕ → List ℤ → Option (List ℤ)
tools_after One first tools = Some tools
tools_after Two first tools = and_then (slot_change_in (length tools) first) (λ change. Some (with_change change tools))

-- a slot of the table, or the one after its last, up to the greatest
abbrev pub takes_slot : List ℤ → ℕ → Bool
takes_slot lengths slot = nat_le 1 slot && nat_le slot (length lengths + 1) && nat_le slot greatest_slot
