-- The tool length that a line puts in force: G43, G49 (NISTIR 6556, 3.5.11).
use Rattle.std.specs.Prelude.{ℕ, ℤ, List, Option, Some, None, unwrap_or}
use Rattle.std.specs.Option.{option_map}
use Rattle.ng_modal.specs.WholeNumbers.{slot_on}
use Rattle.ng_modal.specs.declared.requests.ToolLength.{ToolLength}
use Rattle.ng_modal.specs.declared.requests.ToolLength.TheVariants.{OfSlot, Zero}
use Rattle.ng_offsets.specs.Origins.{with_tool}
use Rattle.ng_offsets.specs.declared.offsets.Offsets.{Offsets}

-- G43 takes the length of the slot that H names, and every valid line with G43 has an H; G49 takes that of slot 0,
-- which is no length
abbrev pub slot_by : ToolLength → Option ℤ → ℕ
slot_by OfSlot h = unwrap_or (slot_on h) 0
slot_by Zero h = 0

-- the offsets after the tool length
abbrev pub offsets_after_length : Option ToolLength → Option ℤ → List ℤ → Offsets → Offsets
offsets_after_length None h lengths o = o
offsets_after_length (Some word) h lengths o = with_tool o (slot_by word h) lengths

-- what the word prints: the tool length after it
abbrev pub length_shown : Option ToolLength → Offsets → Option ℤ
length_shown word after = option_map (λ _. after.tool_length) word
