-- A tool's length in a slot of the table.
use Rattle.std.proofs.Common.{◌≡◌, ◌≤◌, ◌+◌, ℕ, ℤ, pos, true, List, length, Some, arith}
use Rattle.std.specs.Prelude.{negsuc}
use Rattle.std.proofs.lemmas.Bool.Decides.{nat_tests}
use Rattle.ng_offsets.specs.Tools.{with_slot, is_tool_length, IsToolLength, IsSlotChange, IsOneSlotFrom}
use Rattle.ng_offsets.specs.declared.tools.SlotChange.{SlotChange}
use Rattle.ng_layout.specs.Limits.{greatest_slot}
use Rattle.ng_layout.specs.Tools.{takes_slot}

pub slot_from : (lengths : List ℤ) (slot : ℕ) → takes_slot lengths slot ≡ true → 1 ≤ slot
slot_from lengths slot is = grind (arith, nat_tests)

pub slot_to : (lengths : List ℤ) (slot : ℕ) → takes_slot lengths slot ≡ true → slot ≤ length lengths + 1
slot_to lengths slot is = grind (arith, nat_tests)

pub slot_most : (lengths : List ℤ) (slot : ℕ) → takes_slot lengths slot ≡ true → slot ≤ greatest_slot
slot_most lengths slot is = grind (arith, nat_tests)

pub tool_within : (n : ℤ) → is_tool_length n ≡ true → IsToolLength n
tool_within (pos n) is = record { least = grind (arith, nat_tests); most = grind (arith, nat_tests) }
tool_within (negsuc n) is = cc

pub slot_valid : (lengths : List ℤ) (change : SlotChange) → takes_slot lengths change.slot ≡ true → IsSlotChange lengths change
slot_valid lengths change is = record { from = slot_from lengths change.slot is; to = slot_to lengths change.slot is }

pub one_slot : (old new : List ℤ) (change : SlotChange) → takes_slot old change.slot ≡ true → new ≡ with_slot change old → IsOneSlotFrom old new
one_slot old new change takes is = record { change = Some change; valid = slot_valid old change takes; is = is }
