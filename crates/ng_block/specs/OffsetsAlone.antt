-- Lines that only set offsets (NISTIR 6556, 3.5.5, 3.5.11, 3.5.13, 3.5.18).
use Rattle.std.specs.Prelude.{◌≡◌, ℕ, List, Bool, true, false, not, ◌&&◌, Option, Some, None, Ok}
use Rattle.ng_words.specs.Grammar.{ParsedLine, IsLineOf}
use Rattle.ng_expr.specs.Settle.{Settled, settled_pieces}
use Rattle.ng_modal.specs.BlockOfWords.{block_of}
use Rattle.ng_modal.specs.ByLetter.{has_axis}
use Rattle.ng_modal.specs.Block.{takes_axes}
use Rattle.ng_modal.specs.declared.requests.NonModal.{NonModal}
use Rattle.ng_modal.specs.declared.requests.NonModal.TheVariants.{SetOrigin, SetOffset, CancelOffsetAndParameters, CancelOffset, RestoreOffset}
use Rattle.ng_modal.specs.declared.block.Block.{Block}
use Rattle.ng_state.specs.State.{StateModel}

-- a text is a line whose words have values, and in a state these ask for this block
pub record AsksFor (s : StateModel) (text : List ℕ) (b : Block) : Type 0 where
  pub line : ParsedLine
  pub is_line : IsLineOf text line
  pub values : Settled
  pub have_values : settled_pieces line.pieces s.params ≡ Ok values
  pub block_is : b ≡ block_of values.words s.modal.modes

-- there is no word of group 0 but G10 and G92 to G92.3
abbrev pub sets_at_most : Option NonModal → Bool
sets_at_most None = true
sets_at_most (Some SetOrigin) = true
sets_at_most (Some SetOffset) = true
sets_at_most (Some CancelOffsetAndParameters) = true
sets_at_most (Some CancelOffset) = true
sets_at_most (Some RestoreOffset) = true
sets_at_most _ = false

-- G54 to G59.3, G10, G92 to G92.3, G43, G49, and nothing that moves: no word of group 1, and X, Y and Z only as words
-- of G10 and G92
pub record SetsOffsetsAlone (b : Block) : Type 0 where
  pub no_motion : b.g.motion ≡ None
  pub no_way_home : sets_at_most b.g.non_modal ≡ true
  pub no_axis : (has_axis b.values && not (takes_axes b.g.non_modal)) ≡ false
