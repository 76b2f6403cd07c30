-- What a journal has stored, and what two of its calls leave.
use Rattle.std.proofs.Common.{◌≡◌, ◌⊎◌, inl, inr, ℕ, true, false, Result, Ok, Err, sym, ◌∙◌, ap, subst}
use Rattle.ng_num.specs.declared.fault.Fault.{Fault}
use Rattle.ng_num.specs.declared.fault.Fault.TheVariants.{DeviceFailed, CountersUsed}
use Rattle.ng_rig.specs.Rig.{Device}
use Rattle.ng_layout.specs.Storable.{IsStorable}
use Rattle.ng_layout.specs.Stored.{StoredModel}
use Rattle.ng_layout.specs.Update.{UpdateModel, updated}
use Rattle.ng_journal.specs.Journal.{JournalModel, JournalCall, CountsFailure, IsBrokenBy, with_own_limit}
use Rattle.ng_journal.specs.Storing.{IsSettled}
use Rattle.ng_session.specs.SessionInvariant.{IsNextEntry}

-- A journal keeps the whole of a state if its program limit is that of the state stored before.
pub limit_is_own : {R : Type 0} (journal : JournalModel R) (stored was : StoredModel) → was ≡ journal.saved
    → stored.program_limit ≡ was.program_limit → with_own_limit journal stored ≡ stored
limit_is_own journal stored was saved most = let same : journal.saved.program_limit ≡ stored.program_limit =
    sym (most ∙ ap (λ (x : StoredModel). x.program_limit) saved) in λ i. record stored { program_limit = same i }

-- What comes next in a session comes next in its journal, which has the same stored.
pub settled_next : (x saved : StoredModel) (update : UpdateModel) → x ≡ saved → IsNextEntry x update → IsSettled saved update
settled_next x saved update same next =
    subst (λ (y : StoredModel). IsSettled y update) same (record { changes = next.settled; slot = next.slot })

pub storable_next : (x saved : StoredModel) (update : UpdateModel) → x ≡ saved → IsNextEntry x update → IsStorable (updated saved update)
storable_next x saved update same next = subst (λ (y : StoredModel). IsStorable (updated y update)) same next.storable

-- after a call that failed, a journal has what it had before, unless its device failed
pub after_failure : {R : Type 0} (T : Type 0) (e : Fault) (before after : JournalModel R) (x : StoredModel)
    → (e ≡ CountersUsed) ⊎ (e ≡ DeviceFailed) → IsBrokenBy {T = T} (Err e) after.broken
    → (e ≡ CountersUsed → after ≡ before) → x ≡ before.saved → after.broken ≡ false → x ≡ after.saved
after_failure {R} T e before after x (inl used) broken unchanged own whole = own ∙ sym (ap (λ (j : JournalModel R). j.saved) (unchanged used))
after_failure {R} T e before after x (inr lost) broken unchanged own whole =
    let failed : after.broken ≡ true = subst (λ (f : Fault). IsBrokenBy {T = T} (Err f) after.broken) lost broken in
    absurd (let b : true ≡ false = sym failed ∙ whole in cc)

-- a call after one that succeeded
pub call_after : {R T U : Type 0} (seen : R → Device) (v : T) (result : Result U Fault) (first second third : JournalModel R)
    → JournalCall seen (Ok v) first second → JournalCall seen result second third → JournalCall seen result first third
call_after seen v result first second third earlier later = record {
  size = later.size ∙ earlier.size;
  failures = subst (λ (n : ℕ). CountsFailure result n (seen third.rig).failed) earlier.failures later.failures;
  broken = later.broken;
}
