-- What can be stored: the states that an interpreter reaches (own).
use Rattle.std.specs.Prelude.{◌≡◌, ◌≤◌, ◌≤ℤ◌, ℤ, pos, List, length, IsSome, IsNone, IfSome}
use Rattle.ng_state.specs.declared.modal_state.ModalState.{ModalState}
use Rattle.ng_layout.specs.Limits.{greatest_slot, longest_text, longest_program}
use Rattle.ng_params.specs.Numbers.{parameter_count}
use Rattle.ng_offsets.specs.Tools.{AreTools, IsSlotChange, IsToolLength}
use Rattle.ng_offsets.specs.declared.tools.SlotChange.{SlotChange}
use Rattle.ng_layout.specs.Stored.{HalfModel, StoredModel}

-- feed and speed aren't negative, and the slots' numbers are valid
pub record IsStorableModalState (modal : ModalState) : Type 0 where
  pub feed : pos 0 ≤ℤ modal.feed_per_min
  pub speed : pos 0 ≤ℤ modal.outputs.speed
  pub selected : modal.outputs.selected_slot ≤ greatest_slot
  pub held : modal.outputs.spindle_slot ≤ greatest_slot

-- while something is open, the machine's position isn't known
pub record IsStorableHalf (half : HalfModel) : Type 0 where
  pub unknown : IsSome half.opened → IsNone half.at
  pub text : length half.text ≤ longest_text

-- at most as many slots as there may be, each with a length within its limits
abbrev pub IsStorableTools : List ℤ → Type 0
IsStorableTools tools = AreTools tools

-- a change of a table that can be stored
pub record IsStorableChange (tools : List ℤ) (change : SlotChange) : Type 0 where
  pub slot : IsSlotChange tools change
  pub most : change.slot ≤ greatest_slot
  pub tool : IsToolLength change.length

pub record IsStorable (saved : StoredModel) : Type 0 where
  pub table : length saved.setup.params ≡ parameter_count
  pub tools : IsStorableTools saved.tools
  pub modal : IsStorableModalState saved.setup.modal
  pub half : IfSome saved.half IsStorableHalf
  pub place : saved.place ≤ saved.length
  pub program : saved.length ≤ saved.program_limit
  pub program_limit : saved.program_limit ≤ longest_program
