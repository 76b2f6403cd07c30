-- A new header ends the log of the epoch before; and what doesn't change the end of a log.
use Rattle.std.proofs.Common.{◌≡◌, inl, inr, ⊎_elim, ℕ, ◌+◌, ◌%◌, ◌<◌, ◌≤◌, List, Option, Some, None, Ok, Err, sym, ◌∙◌, ap, subst, arith}
use Rattle.std.proofs.lemmas.Bool.{cases_eq}
use Rattle.ng_num.specs.declared.fault.Fault.TheVariants.{Damaged}
use Rattle.ng_rig.specs.Trace.{Image}
use Rattle.ng_layout.specs.declared.header.Header.{Header}
use Rattle.ng_layout.specs.Fields.{number_at}
use Rattle.ng_layout.specs.Areas.{log_size, log_size_of, shortest_log, log_first, program_first, program_size}
use Rattle.ng_layout.specs.Areas.{snapshot_first, snapshot_size, tools_first, tools_size}
use Rattle.ng_layout.specs.Log.{ReplayState, LogPosition, run}
use Rattle.ng_layout.specs.Sectors.{program_text}
use Rattle.ng_layout.proofs.SpareLemmas.{IsSpare, SameButSpare}
use Rattle.ng_layout.specs.Header.{program_limit_of}
use Rattle.ng_layout.specs.Stands.{is_large, by_header, in_force, IsWritten, snapshot, standing, durable_state_under, stands, stretch}
use Rattle.ng_layout.specs.Stored.{StoredModel, DurableState}
use Rattle.ng_layout.proofs.ImageLemmas.{area-most, under, force-frame, force-within, log-frame, none-of-new}
use Rattle.ng_layout.proofs.ImageLemmas.{program-frame, same-at, snapshot_decides, tools_decide, stretch-at}
use Rattle.ng_layout.proofs.ImageLemmas.{stretch-same, written-frame, written-new}
use Rattle.ng_layout.specs.declared.header.Format.TheVariants.{Two}
use Rattle.ng_log.specs.declared.log_end.LogEnd.{LogEnd}
use Rattle.ng_log.specs.AtEnd.{replay_state_in, position_of, no_records, EndsIn}
use Rattle.ng_log.specs.Runs.{log_of, beginning, IsLongest, EndsAt}
use Rattle.ng_log.specs.Reading.{IsRunOf}
use Rattle.ng_log.proofs.LogEndLemmas.{stands-longest}

-- under a newer header, over an image with no part of an epoch to come, the log is empty
pub ends-new : (image base : Image) (old new : Header) (saved : StoredModel) (program : List ℕ)
    → in_force base ≡ Some old → IsWritten base → in_force image ≡ Some new → old.epoch < new.epoch
    → ((m : ℕ) → m < shortest_log → image (log_first + m) ≡ base (log_first + m))
    → snapshot new.format new.length (stretch (snapshot_first new.epoch) snapshot_size image)
    (stretch (tools_first new.epoch) tools_size image) ≡ Some (replay_state_in saved)
    → program_text new.length (stretch (program_first new.area) (program_size new.area) image) ≡ program
    → saved.length ≡ new.length → saved.program_limit ≡ program_limit_of (is_large image)
    → new.format ≡ Two → EndsIn image new (record { saved = saved; program = program }) no_records
ends-new image base old new saved program was written now later same snap text long most two = record {
  force = now;
  format = two;
  written = written-new image base old new was now (omega arith) written same;
  ends = record {
    records = 0;
    reached = λ i. record { at = 0; number = 0; found = snap i };
    room = omega arith;
    clean = record {
      none = λ m ge lt is.
          let short : log_size_of new ≡ shortest_log = ap log_size two in
          let low : m < shortest_log = omega arith in
          omega (arith, none-of-new base old was written m low, later, is, ap (number_at 8 0) (stretch-at log_first (log_size_of new) image m lt ∙ same m low));
    };
  };
  program = text;
  long = long;
  program_limit = most;
}

-- what a run of complete records finds is what the image stands for
pub run-stands : (image : Image) (header : Header) (old new : StoredModel) (end : LogEnd)
    → in_force image ≡ Some header
    → snapshot header.format header.length (stretch (snapshot_first header.epoch) snapshot_size image)
    (stretch (tools_first header.epoch) tools_size image) ≡ Some (replay_state_in old)
    → end.sector ≤ log_size_of header → IsRunOf header old new image (Some end)
    → new.program_limit ≡ program_limit_of (is_large image)
    → stands image ≡ Ok (record { saved = new; program = program_text header.length (stretch (program_first header.area) (program_size header.area) image) })
run-stands image header old new end force snap room r program_limit =
    let l : IsLongest header.format header.length (log_of header image) header.epoch (beginning image header)
    (position_of end new) =
    subst (λ (f : Option ReplayState). IsLongest header.format header.length (log_of header image) header.epoch
    (record { at = 0; number = 0; found = f }) (position_of end new)) (sym snap) r.0 in
    stands-longest image header (position_of end new) force l room
    ∙ (λ i. Ok (record {
      saved = record new { length = sym r.1 i; program_limit = sym program_limit i };
      program =
          program_text header.length (stretch (program_first header.area) (program_size header.area) image);
    }))

-- or it is damaged
pub run-damaged : (image : Image) (header : Header) (old new : StoredModel) → in_force image ≡ Some header
    → snapshot header.format header.length (stretch (snapshot_first header.epoch) snapshot_size image)
    (stretch (tools_first header.epoch) tools_size image) ≡ Some (replay_state_in old)
    → IsRunOf header old new image None → stands image ≡ Err Damaged
unfolding durable_state_under
run-damaged image header old new force snap r =
    under image header force
    ∙ (λ i. standing (program_limit_of (is_large image))
    (run (log_size_of header) header.format header.length (log_of header image) header.epoch
    (record { at = 0; number = 0; found = snap i })).found
    (program_text header.length (stretch (program_first header.area) (program_size header.area) image))
    header.length)
    ∙ ap (λ (f : Option ReplayState). standing (program_limit_of (is_large image)) f
    (program_text header.length (stretch (program_first header.area) (program_size header.area) image))
    header.length) r

decides : (h : Header) (j : ℕ) → j < 86 → IsSpare h (snapshot_first h.epoch + j) → ⊥
decides h j lt spare = snapshot_decides h j lt spare

-- If images agree on all sectors but the spare ones, their logs end at the same place.
pub ends-frame : (image base : Image) (header : Header) (standing : DurableState) (end : LogEnd)
    → SameButSpare header image base → EndsIn base header standing end → EndsIn image header standing end
ends-frame image base header standing end same e =
    let most : header.area ≤ 3 = omega (arith, (force-within base header e.force).area, area-most (is_large base)) in
    let area = stretch-same (snapshot_first header.epoch) snapshot_size image base
    (λ j lt. same-at header image base same (snapshot_first header.epoch + j) (decides header j lt)) in
    let tools = stretch-same (tools_first header.epoch) tools_size image base
    (λ j lt. same-at header image base same (tools_first header.epoch + j) (tools_decide header j lt)) in
    let text = stretch-same (program_first header.area) (program_size header.area) image base (program-frame header image base most same) in
    let log = stretch-same log_first (log_size_of header) image base (log-frame header image base same) in
    record {
      force = force-frame header image base same ∙ e.force;
      format = e.format;
      written = written-frame header image base same e.written;
      ends = subst (λ (row : Image). EndsAt header.format header.length row header.epoch (beginning image header)
          (position_of end standing.saved)) (sym log)
          (subst (λ (p : LogPosition). EndsAt header.format header.length (log_of header base) header.epoch p
          (position_of end standing.saved))
          (sym (λ i. record {
            at = 0;
            number = 0;
            found = snapshot header.format header.length (area i) (tools i);
          })) e.ends);
      program = ap (program_text header.length) text ∙ e.program;
      long = e.long;
      program_limit = e.program_limit ∙ ap program_limit_of (sym same.large);
    }
