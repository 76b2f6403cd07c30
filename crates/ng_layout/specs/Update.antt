-- What an entry changes of what is stored (own).
use Rattle.std.specs.Prelude.{List, Option}
use Rattle.ng_params.specs.Change.{with_changes}
use Rattle.ng_params.specs.declared.change.Change.{Change}
use Rattle.ng_offsets.specs.Tools.{with_change}
use Rattle.ng_offsets.specs.declared.tools.SlotChange.{SlotChange}
use Rattle.ng_layout.specs.Stored.{DecodedStateModel, StoredModel, with_decoded_state}

-- all that a state field says, changes of parameters, and the slot whose length changes
pub record UpdateModel : Type 0 where
  pub decoded : DecodedStateModel
  pub changes : List Change
  pub slot : Option SlotChange

-- what is stored after an update; the length of the program and the room for it stay
abbrev pub updated : StoredModel → UpdateModel → StoredModel
updated s update =
    with_decoded_state (record s {
      setup = record s.setup { params = with_changes s.setup.params update.changes };
      tools = with_change update.slot s.tools;
    }) update.decoded s.length
