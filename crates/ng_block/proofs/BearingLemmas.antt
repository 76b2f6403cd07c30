-- A block without a word for offsets or of group 0 leaves the offsets as they are, and sets what its assignments set.
use Rattle.std.proofs.Common.{◌≡◌, ℕ, ℤ, true, Option, Some, None, Ok, List, refl}
use Rattle.std.specs.Prelude.{not, ◌||◌}
use Rattle.std.specs.Option.{is_some}
use Rattle.ng_params.specs.declared.change.Change.{Change}
use Rattle.ng_modal.specs.declared.requests.NonModal.{NonModal}
use Rattle.ng_modal.specs.declared.requests.ToolLength.{ToolLength}
use Rattle.ng_modal.specs.declared.block.Block.{Block}
use Rattle.ng_offsets.specs.declared.offsets.Offsets.{Offsets}
use Rattle.ng_state.specs.declared.modal_state.ModalState.{ModalState}
use Rattle.ng_block.specs.Motion.{end_of, straight_end_of}
use Rattle.ng_block.specs.Goal.{bearings_of}
use Rattle.ng_state.specs.State.{StateModel}
use Rattle.ng_block.specs.Shifts.{keeps_offsets, nothing_shown}

-- none of three words is there
pub record NoShift (length : Option ToolLength) (system : Option ℕ) (word : Option NonModal) : Type 0 where
  pub length_is : length ≡ None
  pub system_is : system ≡ None
  pub word_is : word ≡ None

missing : (length : Option ToolLength) (system : Option ℕ) (word : Option NonModal)
    → not (is_some length || is_some system || is_some word) ≡ true → NoShift length system word
missing None None None h = record { length_is = refl; system_is = refl; word_is = refl }
missing (Some _) system word h = absurd (cc h)
missing None (Some _) word h = absurd (cc h)
missing None None (Some _) h = absurd (cc h)

pub bearings_same : (b : Block) (assignments : List Change) (s : StateModel) (lengths : List ℤ) → keeps_offsets b ≡ true →
    bearings_of b assignments s lengths ≡ Ok (record { offsets = s.modal.offsets; shown = nothing_shown; changes = assignments })
bearings_same b assignments s lengths h =
    let n = missing b.g.tool_length b.g.system b.g.non_modal h in
    rw (n.length_is, n.system_is, n.word_is) refl

-- and it isn't under G53
pub end_same : (b : Block) (m : ModalState) (o : Offsets) → keeps_offsets b ≡ true → straight_end_of b m o ≡ end_of b m o
end_same b m o h = let n = missing b.g.tool_length b.g.system b.g.non_modal h in rw (n.word_is) refl
