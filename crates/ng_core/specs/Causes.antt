-- Why an event isn't answered as the session would answer it: memory, a counter, or the device (own).
use Rattle.std.specs.Prelude.{◌≡◌, ◌⊎◌, ℕ, List, [], ◌∷◌, Option, Some, None, IsSomeAnd}
use Rattle.std.specs.Option.{option_map}
use Rattle.ng_num.specs.declared.fault.Fault.{Fault}
use Rattle.ng_num.specs.declared.fault.Fault.TheVariants.{DeviceFailed, CountersUsed, OutOfMemory}
use Rattle.ng_layout.specs.Stored.{StoredModel}
use Rattle.ng_journal.specs.Storing.{Ledger, Storing, Commit, Open, Load, UsesUp}
use Rattle.ng_session.specs.Entries.{Entry, Block, Loaded, Referenced, Approached, Abandoned, Tooled}
use Rattle.ng_session.specs.Session.{Transition}
use Rattle.ng_session.specs.Step.{step}
use Rattle.ng_session.specs.declared.event.Event.{Event}
use Rattle.ng_session.specs.declared.reply.Reply.{Reply}
use Rattle.ng_session.specs.declared.reply.Reply.TheVariants as reply
use Rattle.ng_core.specs.Model.{ControllerModel}

-- what an event leads to
abbrev pub transition_of : {A R : Type 0} → ControllerModel R → List ℕ → Event A → Transition
transition_of c program event = step c.geometry program c.session event

-- what is stored with an entry: a program is loaded, any other entry is committed
abbrev pub with_entry : StoredModel → Entry → Storing
with_entry saved (Block source text block_delete) = Commit saved
with_entry saved (Loaded text) = Load saved
with_entry saved (Referenced point) = Commit saved
with_entry saved Approached = Commit saved
with_entry saved Abandoned = Commit saved
with_entry saved (Tooled slot nm) = Commit saved

-- what is stored with the entry, if there is one
abbrev pub with_entries : StoredModel → List Entry → Option Storing
with_entries saved [] = None
with_entries saved (entry ∷ more) = Some (with_entry saved entry)

-- what has to be stored before an outcome is reported, depending on its reply
abbrev pub stored_for : Transition → Reply → Option Storing
stored_for out (reply.Done n) = with_entries out.next.stored out.entries
stored_for out (reply.Opened index) = option_map Open out.next.stored.half
stored_for out reply.Approaching = option_map Open out.next.stored.half
stored_for out reply.Moved = None
stored_for out reply.Begun = None
stored_for out reply.Going = None
stored_for out reply.Held = None
stored_for out reply.Idle = None
stored_for out reply.Stopped = None
stored_for out reply.Taken = None
stored_for out (reply.Status status) = None
stored_for out (reply.Refused fault) = None

-- an outcome uses up a counter of the journal
abbrev pub UsesUpCounter : Ledger → Transition → Type 0
UsesUpCounter ledger out = IsSomeAnd (stored_for out out.reply) (UsesUp ledger)

-- There is no memory, if some is needed; or a counter that the outcome needs is used up; or the device failed, if it is
-- called and no counter is used up. The outcome is that for the program on the device.
abbrev pub IsCausedBy : (memory device : Type 0) → Ledger → (List ℕ → Transition) → Fault → Type 0
IsCausedBy memory device ledger told fault =
    ((fault ≡ OutOfMemory) × memory)
    ⊎ (((fault ≡ CountersUsed) × ((program : List ℕ) → UsesUpCounter ledger (told program)))
    ⊎ ((fault ≡ DeviceFailed) × device × ((program : List ℕ) → UsesUpCounter ledger (told program) → ⊥)))
