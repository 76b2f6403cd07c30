-- What the answer to an event needs; if that fails, an error is returned instead (own).
use Rattle.std.specs.Prelude.{◌≡◌, true}
use Rattle.ng_canon.specs.declared.geometry.Geometry.{Geometry}
use Rattle.ng_session.specs.Session.{SessionModel}
use Rattle.ng_session.specs.Step.{IsBetweenLines, has_work, TakesMemory, AsksDevice, NeedsProgramLine}
use Rattle.ng_session.specs.declared.event.Event.{Event}

-- when it needs memory, when it calls the device, and when it reads a line of the program
pub record Needs : Type 1 where
  pub memory : Type 0
  pub device : Type 0
  pub reads : Type 0

abbrev pub needs : (memory device reads : Type 0) → Needs
needs memory device reads = record { memory = memory; device = device; reads = reads }

-- only the device, to store something or to hand it out
abbrev pub needs_device : Needs
needs_device = needs ⊥ (Unit {0}) ⊥

-- the device, to read a line of the program and begin it
abbrev pub needs_line : Needs
needs_line = needs ⊥ (Unit {0}) (Unit {0})

-- what a Tick needs if nothing is held and no item is left
abbrev pub needs_of_work : SessionModel → Needs
needs_of_work s = needs ⊥ (has_work s ≡ true) (IsBetweenLines s)

-- what each event needs
abbrev pub needs_of : {A : Type 0} → Geometry → SessionModel → Event A → Needs
needs_of geometry s event = needs (TakesMemory geometry s event) (AsksDevice geometry s event) (NeedsProgramLine geometry s event)
