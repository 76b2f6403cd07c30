-- What power on over a copy of a device finds is what it would find on the device.
use Rattle.std.proofs.Common.{◌≡◌, ◌⊎◌, ◌<◌, ◌≤◌, ℕ, ℤ, List, Option, Some, None, IfSome, Ok, Err, inl, inr, refl, sym, subst, arith}
use Rattle.ng_num.specs.declared.fault.Fault.{Fault}
use Rattle.ng_num.specs.declared.fault.Fault.TheVariants.{CountersUsed, Damaged, NotFormatted, OutOfMemory}
use Rattle.ng_rig.specs.Calls.{IfHonest}
use Rattle.ng_rig.specs.Memory.{device_of, sector_count, trace_of}
use Rattle.ng_rig.specs.Trace.{Image, reads}
use Rattle.ng_rig.specs.declared.memory.MemoryRig.{MemoryRig}
use Rattle.ng_layout.specs.Areas.{large_size, least_size}
use Rattle.ng_layout.specs.Stored.{StoredModel}
use Rattle.ng_journal.specs.Journal.{JournalModel}
use Rattle.ng_journal.specs.Recover.{FoundByRecover, IsRecoveryFault, RecoverResult, RecoverSpec, recover_rig}
use Rattle.ng_journal.specs.Recovery.{HasCause, IsTableOver}
use Rattle.ng_file.specs.Copying.{IsCopy}
use Rattle.ng_console.specs.DryRuns.{Finds, FindsStored}

pub on_held : (content : Option (List ℕ)) (P Q : List ℕ → Type 0) → IfSome content P → ((held : List ℕ) → P held → Q held) → IfSome content Q
on_held None P Q p implies = tt
on_held (Some held) P Q p implies = implies held p

cases_lt : (m n : ℕ) → (m < n) ⊎ (n ≤ m)
cases_lt m n = grind arith

-- what `recover` says of a copy that has enough sectors
abbrev pub Recovers : {A : Type 0} → List ℤ → MemoryRig A → RecoverResult (MemoryRig A) → Type 0
Recovers tools copy r = least_size ≤ sector_count copy → (table : List ℤ) → IsTableOver tools table (reads (trace_of copy))
    → IfHonest (device_of copy) (device_of (recover_rig r)) (RecoverSpec table r (trace_of copy) (trace_of (recover_rig r)))

found_by : {A : Type 0} (tools : List ℤ) (copy : MemoryRig A) (r : RecoverResult (MemoryRig A)) → Recovers tools copy r → least_size ≤ sector_count copy
    → FoundByRecover tools r (reads (trace_of copy))
found_by tools copy r says enough = ((says enough tools (λ header force one. refl)).holds tt).finds

pub finds_stored : {A : Type 0} (tools : List ℤ) (held : List ℕ) (copy : MemoryRig A) (journal : JournalModel (MemoryRig A)) (saved : StoredModel)
    → IsCopy large_size held copy → Recovers tools copy (Ok (journal, saved)) → (sector_count copy < least_size → ⊥) → FindsStored tools held saved
finds_stored tools held copy journal saved is says never = elim (cases_lt (sector_count copy) least_size) [
  | inl few ↦ absurd (never few)
  | inr enough ↦ record {
    enough = subst (λ (n : ℕ). least_size ≤ n) is.size enough;
    image = reads (trace_of copy);
    sectors = is.image;
    found = (found_by tools copy (Ok (journal, saved)) says enough).0;
  }
]

-- why nothing is found where there are enough sectors
abbrev pub IsOfImage : Fault → Type 0
IsOfImage fault = (fault ≡ NotFormatted) ⊎ ((fault ≡ Damaged) ⊎ (fault ≡ CountersUsed))

caused : {R : Type 0} (tools : List ℤ) (fault : Fault) (rig : R) (image : Image) → IsOfImage fault
    → FoundByRecover tools (Err (fault, rig)) image → HasCause fault image
caused {R} tools fault rig image (inl is) found =
    subst (λ (f : Fault). (let r : RecoverResult R = Err (f, rig) in FoundByRecover tools r image) → HasCause f image) (sym is) (λ h. h) found
caused {R} tools fault rig image (inr (inl is)) found =
    subst (λ (f : Fault). (let r : RecoverResult R = Err (f, rig) in FoundByRecover tools r image) → HasCause f image) (sym is) (λ h. h) found
caused {R} tools fault rig image (inr (inr is)) found =
    subst (λ (f : Fault). (let r : RecoverResult R = Err (f, rig) in FoundByRecover tools r image) → HasCause f image) (sym is) (λ h. h) found

finds_cause : {A : Type 0} (tools : List ℤ) (held : List ℕ) (copy : MemoryRig A) (fault : Fault) (rig : MemoryRig A)
    → IsCopy large_size held copy → Recovers tools copy (Err (fault, rig))
    → (sector_count copy < least_size → fault ≡ NotFormatted) → IsOfImage fault → Finds tools held (Err fault)
finds_cause tools held copy fault rig is says small of = elim (cases_lt (sector_count copy) least_size) [
  | inl few ↦ inl (small few, subst (λ (n : ℕ). n < least_size) is.size few)
  | inr enough ↦ inr (inl (record {
    image = reads (trace_of copy);
    sectors = is.image;
    cause = caused tools fault rig (reads (trace_of copy)) of (found_by tools copy (Err (fault, rig)) says enough);
  }))
]

pub finds_nothing : {A : Type 0} (tools : List ℤ) (held : List ℕ) (copy : MemoryRig A) (fault : Fault) (rig : MemoryRig A)
    → IsCopy large_size held copy → Recovers tools copy (Err (fault, rig))
    → (sector_count copy < least_size → fault ≡ NotFormatted) → IsRecoveryFault fault
    → Finds tools held (Err fault)
finds_nothing tools held copy fault rig is says small (inl memory) = inr (inr (inr memory))
finds_nothing tools held copy fault rig is says small (inr (inl failed)) = inr (inr (inl failed))
finds_nothing tools held copy fault rig is says small (inr (inr of)) = finds_cause tools held copy fault rig is says small of

-- lack of memory may stand for it
pub finds_otherwise : (tools : List ℤ) (held : List ℕ) (fault told : Fault) → (told ≡ fault) ⊎ (told ≡ OutOfMemory)
    → Finds tools held (Err fault) → Finds tools held (Err told)
finds_otherwise tools held fault told (inl same) found = subst (λ (f : Fault). Finds tools held (Err f)) (sym same) found
finds_otherwise tools held fault told (inr memory) found = inr (inr (inr memory))
