-- What a journal keeps after each call is steady again.
use Rattle.std.proofs.Common.{◌≡◌, ◌⊎◌, inl, inr, ℕ, ◌<◌, ◌≤◌, ◌↔◌, Bool, true, false, refl, sym, ◌∙◌, ap, subst, arith}
use Rattle.std.proofs.lemmas.Bool.{cases_lt}
use Rattle.ng_rig.specs.Trace.{Trace, reads}
use Rattle.ng_layout.specs.declared.header.Header.{Header}
use Rattle.ng_layout.specs.Areas.{greatest_area, is_large_size}
use Rattle.ng_layout.specs.Header.{longest_in, program_limit_of, IsValidHeader}
use Rattle.ng_layout.specs.Limits.{greatest_count}
use Rattle.ng_layout.specs.Stands.{is_large}
use Rattle.ng_layout.specs.Storable.{IsStorable}
use Rattle.ng_layout.specs.Stored.{StoredModel, DurableState}
use Rattle.ng_log.specs.declared.log_end.LogEnd.{LogEnd}
use Rattle.ng_log.specs.AtEnd.{no_records, IsAtEnd}
use Rattle.ng_journal.specs.AtRest.{next_header}
use Rattle.ng_journal.specs.Journal.{IsSteady}
use Rattle.ng_journal.specs.Private.CheckpointSteps.{FitsDevice}

-- the header of the next epoch, with a program that fits its area, is valid if the device has that area
pub next_valid : (large : Bool) (header : Header) (area length : ℕ) → header.epoch < greatest_count
    → area ≤ greatest_area large → length ≤ longest_in area → IsValidHeader large (next_header header area length)
next_valid large header area length more has fits = record { counted = omega arith; few = omega arith; area = has; length = fits }

-- a state that can be stored can be stored with the limit of another
pub storable_limited : (was saved : StoredModel) → IsStorable was → IsStorable saved → saved.length ≤ was.program_limit
    → IsStorable (record saved { program_limit = was.program_limit })
storable_limited was saved w s fits = record {
  table = s.table;
  tools = s.tools;
  modal = s.modal;
  half = s.half;
  place = s.place;
  program = fits;
  program_limit = w.program_limit;
}

-- the program limit shows whether a device is large
limit_tells : (a b : Bool) → program_limit_of a ≡ program_limit_of b → a ≡ b
limit_tells true true is = refl
limit_tells false false is = refl
limit_tells true false is = absurd (omega (arith, is))
limit_tells false true is = absurd (omega (arith, is))

-- What is loaded into one of the device's areas fits the device.
pub fits_load : {trace : Trace} {header : Header} {before : DurableState} {end : LogEnd} (sectors area : ℕ)
    (was saved : StoredModel) → IsAtEnd trace header before end → before.saved ≡ was
    → IsSteady sectors header end was → header.epoch < greatest_count → area ≤ greatest_area (is_large_size sectors)
    → longest_in area ≡ program_limit_of (is_large_size sectors) → saved.length ≤ was.program_limit → saved.program_limit ≡ was.program_limit
    → FitsDevice (reads trace) (next_header header area saved.length) saved
fits_load {trace = trace} {header = header} sectors area was saved at is s more has longest fits most =
    let tells : is_large (reads trace) ≡ is_large_size sectors = limit_tells (is_large (reads trace))
    (is_large_size sectors) (sym at.image.program_limit ∙ ap (λ (x : StoredModel). x.program_limit) is ∙ s.program_limit) in
    record {
      valid = subst (λ (large : Bool). IsValidHeader large (next_header header area saved.length)) (sym tells)
          (next_valid (is_large_size sectors) header area saved.length more has
          (omega (arith, longest, s.program_limit, fits)));
      program_limit = most ∙ s.program_limit ∙ ap program_limit_of (sym tells);
    }

-- and the journal is steady with it
pub steady_loaded : (sectors now area : ℕ) (header next : Header) (end : LogEnd) (was saved : StoredModel)
    → IsSteady sectors header end was → now ≡ sectors → header.epoch < greatest_count
    → area ≤ greatest_area (is_large_size sectors) → longest_in area ≡ program_limit_of (is_large_size sectors)
    → saved.length ≤ was.program_limit → saved.program_limit ≡ was.program_limit → IsStorable saved → saved.entries ≤ greatest_count
    → next ≡ next_header header area saved.length → IsSteady now next no_records saved
steady_loaded sectors now area header next end was saved s same more has longest fits most storable count is =
    subst (λ (n : ℕ). IsSteady n next no_records saved) (sym same)
    (subst (λ (h : Header). IsSteady sectors h no_records saved) (sym is) (record {
      least = s.least;
      valid = next_valid (is_large_size sectors) header area saved.length more has (omega (arith, longest, s.program_limit, fits));
      program_limit = most ∙ s.program_limit;
      tip = record { long = refl; format = s.tip.format; within = omega arith; number = omega arith };
      storable = storable;
      count = count;
    }))

-- the header has a next one if the epochs aren't used up
pub more_epochs : (used : Bool) (entries : ℕ) (header : Header)
    → ((used ≡ true) ↔ ((greatest_count < entries) ⊎ (greatest_count ≤ header.epoch))) → used ≡ false
    → (header.epoch < greatest_count) × (entries ≤ greatest_count)
more_epochs used entries header iff free = (
  elim (cases_lt header.epoch greatest_count) [ inl lt ↦ lt | inr ge ↦ absurd (let yes = iff.1 (inr ge) in cc) ],
  elim (cases_lt greatest_count entries) [ inl lt ↦ absurd (let yes = iff.1 (inl lt) in cc) | inr ge ↦ ge ],
)
