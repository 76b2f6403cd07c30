-- What is stored of a controller (own).
use Rattle.std.specs.Prelude.{ℕ, ℤ, List, [], Option, None}
use Rattle.ng_num.specs.declared.point.Point.{Point}
use Rattle.ng_state.specs.State.{StateModel, fresh as fresh_setup}
use Rattle.ng_state.specs.declared.modal_state.ModalState.{ModalState}
use Rattle.ng_layout.specs.declared.half.Source.{Source}
use Rattle.ng_layout.specs.declared.half.Opened.{Opened}

-- a block that was begun and isn't finished
pub record HalfModel : Type 0 where
  pub text : List ℕ
  pub source : Source
  pub index : ℕ
  pub at : Option Point
  pub opened : Option Opened

-- what a state field says: everything but the parameters, the tools and the program
pub record DecodedStateModel : Type 0 where
  pub entries : ℕ
  pub place : ℕ
  pub modal : ModalState
  pub half : Option HalfModel

-- everything but the program's text
pub record StoredModel : Type 0 where
  pub entries : ℕ
  pub setup : StateModel
  -- the lengths of slots 1, 2 and so on
  pub tools : List ℤ
  pub place : ℕ
  pub length : ℕ
  -- the most bytes of a program that the device takes
  pub program_limit : ℕ
  pub half : Option HalfModel

-- a fresh controller on a device with this program limit
abbrev pub fresh_stored : ℕ → StoredModel
fresh_stored program_limit = record { entries = 0; setup = fresh_setup; tools = []; place = 0; length = 0; program_limit = program_limit; half = None }

-- what a state field says, with parameters, tools, the length of a program and the limit of one
abbrev pub with_decoded_state : StoredModel → DecodedStateModel → ℕ → StoredModel
with_decoded_state s r length =
    record {
      entries = r.entries;
      setup = record { params = s.setup.params; modal = r.modal };
      tools = s.tools;
      place = r.place;
      length = length;
      program_limit = s.program_limit;
      half = r.half;
    }

-- everything
pub record DurableState : Type 0 where
  pub saved : StoredModel
  pub program : List ℕ
