-- The state of the interpreter, wherever its table is stored (own).
use Rattle.std.specs.Prelude.{ℤ, List}
use Rattle.ng_params.specs.declared.change.Change.{Change}
use Rattle.ng_params.specs.Params.{defaults}
use Rattle.ng_params.specs.Change.{with_changes}
use Rattle.ng_state.specs.declared.modal_state.ModalState.{ModalState}
use Rattle.ng_state.specs.Fresh.{fresh_modal_state}

-- the parameter table and the modal state
pub record StateModel : Type 0 where
  pub params : List ℤ
  pub modal : ModalState

abbrev pub fresh : StateModel
fresh = record { params = defaults; modal = fresh_modal_state }

-- another modal state, and the table after changes
abbrev pub changed : StateModel → ModalState → List Change → StateModel
changed s modal changes = record { params = with_changes s.params changes; modal = modal }
