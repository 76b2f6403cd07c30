-- What was read, and what it says about the state that the image stands for.
use Rattle.std.proofs.Common.{◌≡◌, ◌≤◌, inl, inr, ◌⊎◌, ℕ, zero, suc, Bool, true, false, Option, Some, None, Ok, Err, refl, sym, ◌∙◌, ap, subst}
use Rattle.ng_num.specs.declared.fault.Fault.TheVariants.{NotFormatted, Damaged}
use Rattle.ng_rig.specs.Trace.{Image}
use Rattle.ng_layout.specs.declared.header.Header.{Header}
use Rattle.ng_layout.specs.Areas.{log_size_of, log_first, program_first, program_size, snapshot_first, snapshot_size, tools_first, tools_size}
use Rattle.ng_layout.specs.declared.header.Format.{Format}
use Rattle.ng_layout.proofs.ImageLemmas.{under}
use Rattle.ng_layout.specs.Log.{LogPosition, after_step, next, run, with_record}
use Rattle.ng_layout.specs.Decoding.{and_then}
use Rattle.ng_layout.specs.Sectors.{program_text}
use Rattle.ng_layout.specs.Header.{program_limit_of}
use Rattle.ng_layout.specs.Stands.{is_large, by_header, in_force, snapshot, standing, durable_state_under, stands, stretch}
use Rattle.ng_layout.specs.Stored.{StoredModel}
use Rattle.ng_log.specs.declared.log_end.LogEnd.{LogEnd}
use Rattle.ng_log.specs.Reading.{IsRunOf}
use Rattle.ng_log.proofs.EpochLemmas.{run-stands, run-damaged}
use Rattle.ng_log.proofs.RecordRunLemmas.{step-from}
use Rattle.ng_journal.specs.Private.SnapshotRead.{IsSnapshotOf}
use Rattle.ng_journal.specs.Recovery.{HasCause}
use Rattle.ng_journal.specs.Private.RecoverySteps.{StandsUnder}

-- no header is in force
pub none_found : (image : Image) (h : Option Header) → h ≡ in_force image → h ≡ None → stands image ≡ Err NotFormatted
unfolding stands
none_found image h is none =
    let e : in_force image ≡ None = sym is ∙ none in
    λ i. by_header (e i) (λ x. durable_state_under (program_limit_of (is_large image)) x
    (stretch (snapshot_first x.epoch) snapshot_size image) (stretch (tools_first x.epoch) tools_size image)
    (stretch (program_first x.area) (program_size x.area) image) (stretch log_first (log_size_of x) image))

-- the snapshot is damaged, and so is the result with each record after it
by_cases : (o : Option LogPosition) → (o ≡ None) ⊎ ((m : LogPosition) × (o ≡ Some m))
by_cases None = inl refl
by_cases (Some m) = inr (m, refl)

run_none : (fuel : ℕ) (format : Format) (length : ℕ) (log : Image) (epoch : ℕ) (p : LogPosition) → p.found ≡ None
    → (run fuel format length log epoch p).found ≡ None
unfolding run
run_none zero format length log epoch p none = none
run_none (suc n) format length log epoch p none = elim (by_cases (next format length log epoch p)) [
  | inl last ↦ ap (λ (o : Option LogPosition). (after_step o (λ q. run n format length log epoch q) p).found) last ∙ none
  | inr on ↦
      let s = step-from format length log epoch p on.0 on.1 in
      let none_on : on.0.found ≡ None = ap (λ (x : LogPosition). x.found) s.is
      ∙ (λ i. and_then (none i) (λ before. with_record format length log p.at s.changes before)) in
      ap (λ (o : Option LogPosition). (after_step o (λ q. run n format length log epoch q) p).found) on.1 ∙ run_none n format length log epoch on.0 none_on
]

pub damage_found : (image : Image) (h : Option Header) (header : Header) (whole : Bool) (saved : StoredModel)
    → h ≡ in_force image → h ≡ Some header → IsSnapshotOf header saved image whole → whole ≡ false
    → HasCause Damaged image
unfolding durable_state_under
damage_found image h header whole saved is some read broken =
    let damaged : snapshot header.format header.length (stretch (snapshot_first header.epoch) snapshot_size image)
    (stretch (tools_first header.epoch) tools_size image) ≡ None =
    subst (λ (b : Bool). IsSnapshotOf header saved image b) broken read in
    let force : in_force image ≡ Some header = sym is ∙ some in
    let log = stretch log_first (log_size_of header) image in
    let text = program_text header.length (stretch (program_first header.area) (program_size header.area) image) in
    under image header force
    ∙ (λ i. standing (program_limit_of (is_large image))
    (run (log_size_of header) header.format header.length log header.epoch
    (record { at = 0; number = 0; found = damaged i })).found text header.length)
    ∙ (λ i. standing (program_limit_of (is_large image))
    (run_none (log_size_of header) header.format header.length log header.epoch
    (record { at = 0; number = 0; found = None }) refl i) text header.length)

-- What a whole snapshot says.
pub record Snapped (image : Image) (header : Header) (snap : StoredModel) : Type 0 where
  pub force : in_force image ≡ Some header
  pub is : IsSnapshotOf header snap image true

pub snapped : (image : Image) (h : Option Header) (header : Header) (whole : Bool) (snap : StoredModel)
    → h ≡ in_force image → h ≡ Some header → IsSnapshotOf header snap image whole → whole ≡ true
    → Snapped image header snap
snapped image h header whole snap is some read sound = record {
  force = sym is ∙ some;
  is = subst (λ (b : Bool). IsSnapshotOf header snap image b) sound read;
}

-- the log after it is damaged
pub log_damaged : (image : Image) (header : Header) (snap saved : StoredModel) (found : Option LogEnd)
    → Snapped image header snap → found ≡ None → IsRunOf header snap saved image found → HasCause Damaged image
log_damaged image header snap saved found s none r = run-damaged image header snap saved s.force s.is.0
    (subst (λ (o : Option LogEnd). IsRunOf header snap saved image o) none r)

-- everything is found
pub all_found : (image : Image) (header : Header) (snap saved : StoredModel) (found : Option LogEnd) (end : LogEnd)
    → Snapped image header snap → found ≡ Some end → end.sector ≤ log_size_of header
    → IsRunOf header snap saved image found → saved.program_limit ≡ program_limit_of (is_large image)
    → StandsUnder header saved image
all_found image header snap saved found end s some room r program_limit =
    let run : IsRunOf header snap saved image (Some end) = subst (λ (o : Option LogEnd). IsRunOf header snap saved image o) some r in
    record {
      force = s.force;
      state = run-stands image header snap saved end s.force s.is.0 room run program_limit
          ∙ (λ i. Ok (record { saved = saved; program = program_text (sym run.1 i) (stretch (program_first header.area) (program_size header.area) image) }));
      long = run.1;
      program_limit = program_limit;
    }
