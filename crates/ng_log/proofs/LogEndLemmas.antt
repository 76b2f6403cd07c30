-- What an image stands for if its log ends somewhere, and what it stands for if some parts of a record are kept.
use Rattle.std.proofs.Common.{◌≡◌, ◌⊎◌, inl, inr, ⊎_elim, ℕ, ◌+◌, ◌-◌, ◌<◌, ◌≤◌, List, length, nat_lt, Option, Some, Ok, sym, ◌∙◌, ap, subst, arith}
use Rattle.std.specs.Prelude.{IfSome}
use Rattle.ng_params.specs.Change.{with_changes}
use Rattle.ng_params.specs.declared.change.Change.{Change}
use Rattle.ng_rig.specs.Trace.{Image, Trace, reads}
use Rattle.ng_rig.specs.Continuation.{IsSynced}
use Rattle.ng_layout.specs.declared.header.Header.{Header}
use Rattle.ng_layout.specs.Fields.{number_at}
use Rattle.ng_layout.specs.Areas.{shortest_log, log_size, log_size_of, log_first, program_first, program_size}
use Rattle.ng_layout.specs.Areas.{snapshot_first, snapshot_size, tools_first, tools_size}
use Rattle.ng_layout.specs.Log.{LogPosition}
use Rattle.ng_layout.specs.Sectors.{program_text}
use Rattle.ng_layout.specs.Header.{program_limit_of}
use Rattle.ng_layout.specs.Stands.{is_large, by_header, epoch_in_force, in_force, IsWritten, snapshot, standing, durable_state_under, stands, stretch}
use Rattle.ng_layout.specs.Stored.{StoredModel, DurableState}
use Rattle.ng_layout.proofs.ImageLemmas.{area-where, area-most, under, force-same, force-within, stretch-at, stretch-same}
use Rattle.ng_layout.specs.Storable.{IsStorableChange}
use Rattle.ng_layout.specs.declared.header.Format.TheVariants.{Two}
use Rattle.ng_offsets.specs.Tools.{with_change}
use Rattle.ng_offsets.specs.declared.tools.SlotChange.{SlotChange}
use Rattle.ng_log.specs.declared.log_end.LogEnd.{LogEnd}
use Rattle.ng_log.specs.AtEnd.{replay_state_in, position_of, end_after, EndsIn, IsAtEnd}
use Rattle.ng_log.specs.Records.{LogRecord, size_of, IsPartOf, BelongsToRecord, record_at}
use Rattle.ng_log.specs.Runs.{log_of, beginning, IsLongest, EndsAt}
use Rattle.ng_log.proofs.PartSubsetLemmas.{Mixture, place_before, position_after_record, mixture-ends, mixture-longest}
use Rattle.ng_log.proofs.RecordRunLemmas.{ends-longest, part-says, run-longest}

-- only the longest run matters
pub stands-longest : (image : Image) (header : Header) (last : LogPosition) → in_force image ≡ Some header
    → IsLongest header.format header.length (log_of header image) header.epoch (beginning image header) last
    → last.at ≤ log_size_of header
    → stands image ≡ standing (program_limit_of (is_large image)) last.found
    (program_text header.length (stretch (program_first header.area) (program_size header.area) image))
    header.length
unfolding durable_state_under
stands-longest image header last force l room =
    under image header force
    ∙ ap (λ (p : LogPosition). standing (program_limit_of (is_large image)) p.found
    (program_text header.length (stretch (program_first header.area) (program_size header.area) image))
    header.length) (run-longest header.format header.length (log_of header image) header.epoch
    (beginning image header) last l room)

-- a run that leads to what is stored
pub stands-saved : (image : Image) (header : Header) (saved : StoredModel) (program : List ℕ) (end : LogEnd)
    → in_force image ≡ Some header → IsLongest header.format header.length (log_of header image) header.epoch
    (beginning image header) (position_of end saved) → end.sector ≤ log_size_of header
    → program_text header.length (stretch (program_first header.area) (program_size header.area) image) ≡ program
    → saved.length ≡ header.length → saved.program_limit ≡ program_limit_of (is_large image)
    → stands image ≡ Ok (record { saved = saved; program = program })
stands-saved image header saved program end force l room text long program_limit =
    stands-longest image header (position_of end saved) force l room
    ∙ (λ i. Ok (record { saved = record saved { length = sym long i; program_limit = sym program_limit i }; program = text i }))

pub ends-stand : (image : Image) (header : Header) (standing : DurableState) (end : LogEnd) → EndsIn image header standing end → stands image ≡ Ok standing
ends-stand image header standing end e = stands-saved image header standing.saved standing.program end e.force
    (ends-longest header.format header.length (log_of header image) header.epoch (beginning image header)
    (position_of end standing.saved) e.ends) e.ends.room e.program e.long e.program_limit

-- a device whose log ends somewhere is at rest, and stands only for that
pub at-end : (trace : Trace) (header : Header) (standing : DurableState) (end : LogEnd)
    → IsAtEnd trace header standing end → IsSynced trace × (in_force (reads trace) ≡ Some header)
    × (stands (reads trace) ≡ Ok standing) × IsWritten (reads trace)
at-end trace header standing end at = (at.synced, at.image.force, ends-stand (reads trace) header standing end at.image, at.image.written)

-- Each sector is as in another image, or holds its part of a record after the end of the other's log.
pub record IsBlend (base image : Image) (e : LogRecord) : Type 0 where
  pub each : (n : ℕ) → (image n ≡ base n) ⊎ BelongsToRecord e n (image n)

-- a record to be written after the end of a log
pub record IsNext (base : Image) (header : Header) (before : DurableState) (end : LogEnd) (saved : StoredModel)
    (changes : List Change) (slot : Option SlotChange) : Type 0 where
  pub was : EndsIn base header before end
  pub two : header.format ≡ Two
  pub valid : IfSome slot (IsStorableChange before.saved.tools)
  pub slot_is : with_change slot before.saved.tools ≡ saved.tools
  pub room : end.sector + size_of (record_at header.epoch end saved changes slot) ≤ log_size_of header
  pub long : saved.length ≡ header.length
  pub same_limit : before.saved.program_limit ≡ saved.program_limit
  pub restored : with_changes before.saved.setup.params changes ≡ saved.setup.params

module _ (base image : Image) (header : Header) (before : DurableState) (end : LogEnd) (saved : StoredModel)
    (changes : List Change) (slot : Option SlotChange) (n : IsNext base header before end saved changes slot)
    (b : IsBlend base image (record_at header.epoch end saved changes slot)) where
  abbrev e : LogRecord
  e = record_at header.epoch end saved changes slot

  outside : (m : ℕ) → (m < log_first) ⊎ (log_first + shortest_log ≤ m) → image m ≡ base m
  outside m out = ⊎_elim (λ same. same)
      (λ there. absurd (let room = n.room in let short : log_size_of header ≡ shortest_log =
      ap log_size n.two in ⊎_elim (λ low. omega (arith, there.log))
      (λ high. omega (arith, there.log, there.part.to)) out)) (b.each m)

  same_size : is_large image ≡ is_large base
  same_size = ap (λ (s : List ℕ). nat_lt 0 (length s)) (outside 5805 (inr (omega arith)))

  pub blend-force : in_force image ≡ Some header
  blend-force = force-same image base same_size (outside 0 (inl (omega arith))) (outside 1 (inl (omega arith))) ∙ n.was.force

  old_limit : before.saved.program_limit ≡ program_limit_of (is_large image)
  old_limit = n.was.program_limit ∙ ap program_limit_of (sym same_size)

  new_limit : saved.program_limit ≡ program_limit_of (is_large image)
  new_limit = sym n.same_limit ∙ old_limit

  start : beginning image header ≡ beginning base header
  start =
      let area = stretch-same (snapshot_first header.epoch) snapshot_size image base (λ j lt. outside (snapshot_first header.epoch + j) (inl (omega arith))) in
      let tools = stretch-same (tools_first header.epoch) tools_size image base (λ j lt. outside (tools_first header.epoch + j) (inr (omega arith))) in
      λ i. record { at = 0; number = 0; found = snapshot header.format header.length (area i) (tools i) }

  text : program_text header.length (stretch (program_first header.area) (program_size header.area) image) ≡ before.program
  text =
      let most : header.area ≤ 3 = omega (arith, (force-within base header n.was.force).area, area-most (is_large base)) in
      ap (program_text header.length) (stretch-same (program_first header.area) (program_size header.area) image
      base (λ j lt. outside (program_first header.area + j)
      (elim (area-where header.area j most lt) [ inl w ↦ inl w.1 | inr w ↦ inr (omega (arith, w.0)) ])))
      ∙ n.was.program

  in_log : (m : ℕ) → m < log_size_of header → (log_of header image m ≡ log_of header base m) ⊎ IsPartOf e m (log_of header image m)
  in_log m lt =
      let there = stretch-at log_first (log_size_of header) image m lt in
      let back : log_first + m - log_first ≡ m = omega arith in
      ⊎_elim
      (λ same. inl (there ∙ same ∙ sym (stretch-at log_first (log_size_of header) base m lt)))
      (λ p. inr (subst (IsPartOf e m) (sym there) (subst (λ (k : ℕ). IsPartOf e k (image (log_first + m))) back p.part)))
      (b.each (log_first + m))

  was_at : EndsAt header.format saved.length (log_of header base) header.epoch (beginning base header) (place_before e (replay_state_in before.saved))
  was_at = subst (λ (k : ℕ). EndsAt header.format k (log_of header base) header.epoch (beginning base header)
      (place_before e (replay_state_in before.saved))) (sym n.long) n.was.ends

  mixture : Mixture header.format (log_of header base) (log_of header image) (beginning base header) e (replay_state_in before.saved)
  mixture = record { ends = was_at; room = n.room; two = n.two; valid = n.valid; each = in_log }

  after_is : position_after_record e (replay_state_in before.saved) ≡ position_of (end_after end (length changes)) saved
  after_is = let restored = n.restored in let slot_is = n.slot_is in λ i.
      record {
        at = end.sector + size_of e;
        number = end.number + 1;
        found =
            Some (record { decoded = (replay_state_in saved).decoded; params = restored i; tools = slot_is i });
      }

  -- an image with some of the record's parts but not others stands for the old or for the new state
  pub blend-stands : (stands image ≡ Ok before) ⊎ (stands image ≡ Ok (record before { saved = saved }))
  blend-stands = ⊎_elim
      (λ old. inl (stands-saved image header before.saved before.program end blend-force
      (subst (λ (k : ℕ). IsLongest header.format k (log_of header image) header.epoch (beginning image header)
      (position_of end before.saved)) n.long
      (subst (λ (p : LogPosition). IsLongest header.format saved.length (log_of header image) header.epoch p
      (position_of end before.saved)) (sym start) old))
      n.was.ends.room text n.was.long old_limit))
      (λ new. inr (stands-saved image header saved before.program (end_after end (length changes)) blend-force
      (subst (λ (k : ℕ). IsLongest header.format k (log_of header image) header.epoch (beginning image header)
      (position_of (end_after end (length changes)) saved)) n.long
      (subst (λ (p : LogPosition). IsLongest header.format saved.length (log_of header image) header.epoch p
      (position_of (end_after end (length changes)) saved)) (sym start)
      (subst (IsLongest header.format saved.length (log_of header image) header.epoch (beginning base header))
      after_is new)))
      n.room text n.long new_limit))
      (mixture-longest header.format (log_of header base) (log_of header image) (beginning base header) e (replay_state_in before.saved) mixture)

  -- and has no part of an epoch to come
  pub blend-written : IsWritten image
  blend-written = record {
    past = λ m lt.
        let in_time : epoch_in_force (in_force base) ≡ header.epoch = ap epoch_in_force n.was.force in
        subst (λ (k : ℕ). number_at 8 0 (image (log_first + m)) ≤ k) (sym (ap epoch_in_force blend-force)) (⊎_elim
        (λ same. omega (arith, ap (number_at 8 0) same, n.was.written.past m lt, in_time))
        (λ p. omega (arith, (part-says _ (image (log_first + m)) p.part.holds.label.is).epoch))
        (b.each (log_first + m)));
  }

  -- with all of them, its log ends after the record
  pub blend-ends : ((j : ℕ) → j < size_of e → IsPartOf e (end.sector + j) (image (log_first + (end.sector + j))))
      → EndsIn image header (record before { saved = saved }) (end_after end (length changes))
  blend-ends all = record {
    force = blend-force;
    format = n.two;
    written = blend-written;
    ends =
        let ends = mixture-ends header.format (log_of header base) (log_of header image) (beginning base header) e
        (replay_state_in before.saved) mixture
        (λ j lt. let room = n.room in subst (IsPartOf e (end.sector + j))
        (sym (stretch-at log_first (log_size_of header) image (end.sector + j) (omega arith))) (all j lt)) in
        subst (λ (k : ℕ). EndsAt header.format k (log_of header image) header.epoch (beginning image header)
        (position_of (end_after end (length changes)) saved)) n.long
        (subst (λ (p : LogPosition). EndsAt header.format saved.length (log_of header image) header.epoch p
        (position_of (end_after end (length changes)) saved)) (sym start)
        (subst (EndsAt header.format saved.length (log_of header image) header.epoch (beginning base header))
        after_is ends));
    program = text;
    long = n.long;
    program_limit = new_limit;
  }
