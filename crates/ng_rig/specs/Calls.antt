-- What each call of a device does to its trace (own).
use Rattle.std.specs.Prelude.{◌≡◌, ◌⊎◌, ℕ, ◌+◌, ◌%◌, ◌^◌, List, Result, Ok, Err}
use Rattle.ng_canon.specs.declared.item.Item.{Item}
use Rattle.ng_rig.specs.Rig.{Device}
use Rattle.ng_rig.specs.Trace.{Trace, Wrote, Perhaps, Synced, Handed}

-- A call preserves honesty in both directions, and the fact holds if the device is honest.
pub record IfHonest (before after : Device) (fact : Type 0) : Type 0 where
  pub keeps : before.honest → after.honest
  pub back : after.honest → before.honest
  pub holds : before.honest → fact

-- A failed write may have happened: then a read returns it or the old content.
abbrev pub WriteSpec : {T E : Type 0} → Result T E → ℕ → List ℕ → Trace → Trace → Type 0
WriteSpec (Ok _) n bytes old new = new ≡ Wrote n bytes old
WriteSpec (Err _) n bytes old new = (new ≡ old) ⊎ ((new ≡ Wrote n bytes old) ⊎ (new ≡ Perhaps n bytes old))

-- a failed sync counts as none
abbrev pub SyncSpec : {T E : Type 0} → Result T E → Trace → Trace → Type 0
SyncSpec (Ok _) old new = new ≡ Synced old
SyncSpec (Err _) old new = new ≡ old

-- a failed hand-out handed out its item or nothing
abbrev pub HandOutSpec : {T E : Type 0} → Result T E → Item → Trace → Trace → Type 0
HandOutSpec (Ok _) item old new = new ≡ Handed item old
HandOutSpec (Err _) item old new = (new ≡ old) ⊎ (new ≡ Handed item old)

-- the count of failures rises by one exactly in a call that fails
abbrev pub FailureCountSpec : {T E : Type 0} → Result T E → ℕ → ℕ → Type 0
FailureCountSpec (Ok _) old new = new ≡ old
FailureCountSpec (Err _) old new = new ≡ (old + 1) % 2 ^ 64

-- No call changes the size, and each one that fails is counted.
pub record IsCall {T E : Type 0} (result : Result T E) (old new : Device) : Type 0 where
  pub size : new.sectors ≡ old.sectors
  pub failures : FailureCountSpec result old.failed new.failed

-- the trace with the call, or without it if it failed
abbrev pub KeepsOrNot : {T E : Type 0} → Result T E → Trace → Trace → Trace → Type 0
KeepsOrNot (Ok _) with_it without new = new ≡ with_it
KeepsOrNot (Err _) with_it without new = new ≡ without
