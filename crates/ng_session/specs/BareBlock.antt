-- The current block without a table of parameters (own): with what it changes in place of the state after it.
use Rattle.std.specs.Prelude.{◌≡◌, ◌≤◌, ℕ, ℤ, Bool, List, [], ◌∷◌, Option, Some, None, length}
use Rattle.ng_canon.specs.declared.item.Item.{Item}
use Rattle.ng_canon.specs.declared.segment.Segment.{Segment}
use Rattle.ng_params.specs.Change.{with_changes}
use Rattle.ng_params.specs.Differences.{differences}
use Rattle.ng_params.specs.declared.change.Change.{Change}
use Rattle.ng_state.specs.declared.modal_state.ModalState.{ModalState}
use Rattle.ng_block.specs.declared.effect.ProgramFlow.{ProgramFlow}
use Rattle.ng_layout.specs.Limits.{longest_text}
use Rattle.ng_layout.specs.Storable.{IsStorableModalState}
use Rattle.ng_layout.specs.Stored.{StoredModel}
use Rattle.ng_layout.specs.declared.half.Source.{Source}
use Rattle.ng_session.specs.Session.{CurrentBlockModel}
use Rattle.ng_session.specs.declared.stage.Stage.{Stage}

-- what comes next, and what comes after it
abbrev pub left_of : {T : Type 0} → Option T → List T → List T
left_of None rest = []
left_of (Some first) rest = first ∷ rest

-- what comes first if there is anything, and what comes after it
abbrev pub onto : {T : Type 0} → Option T → List T → List T
onto None rest = rest
onto (Some first) rest = first ∷ rest

pub record BareBlock : Type 0 where
  pub source : Source
  pub text : List ℕ
  pub block_delete : Bool
  pub stage : Stage
  pub index : ℕ
  pub left : List Segment
  pub items : List Item
  -- the parameters that it changes, and the modal state after it
  pub changes : List Change
  pub modal : ModalState
  pub place : ℕ
  pub stop : ProgramFlow

-- the block over a table of parameters
abbrev pub block_on : List ℤ → BareBlock → CurrentBlockModel
block_on params b = record {
  source = b.source;
  text = b.text;
  block_delete = b.block_delete;
  stage = b.stage;
  index = b.index;
  left = b.left;
  items = b.items;
  setup = record { params = with_changes params b.changes; modal = b.modal };
  place = b.place;
  stop = b.stop;
}

-- The block can be stored in its turn: its changes are the differences that they make, each parameter once, and what is
-- stored with it is within its limits.
pub record IsReady (x : StoredModel) (b : BareBlock) : Type 0 where
  pub settled : b.changes ≡ differences x.setup.params (with_changes x.setup.params b.changes)
  pub modal : IsStorableModalState b.modal
  pub place : b.place ≤ x.length
  pub text : length b.text ≤ longest_text
