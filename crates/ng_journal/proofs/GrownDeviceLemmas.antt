-- A device that was lengthened to a large one stands for the same, but for the program limit.
use Rattle.std.proofs.Common.{◌≡◌, ℕ, zero, suc, ◌+◌, ◌<◌, ◌≤◌, Bool, List, ℤ, Option, Some, None, Result, Ok, Err, refl, sym, ◌∙◌, ap, subst, arith}
use Rattle.ng_num.specs.declared.fault.Fault.{Fault}
use Rattle.ng_rig.specs.Trace.{Image}
use Rattle.ng_layout.specs.declared.header.Format.{Format}
use Rattle.ng_layout.specs.declared.header.Format.TheVariants.{One, Two}
use Rattle.ng_layout.specs.declared.header.Header.{Header}
use Rattle.ng_layout.specs.Areas.{greatest_area, program_first, program_size, snapshot_first, snapshot_size, tools_first, tools_size, log_first, log_size_of}
use Rattle.ng_layout.specs.Fields.{number_at}
use Rattle.ng_layout.specs.Header.{header_in, program_limit_of}
use Rattle.ng_layout.specs.Log.{LogPosition, ReplayState, run}
use Rattle.ng_layout.specs.Sectors.{program_text}
use Rattle.ng_layout.specs.Stands.{is_large, newer, in_force, stretch, snapshot, standing, durable_state_under}
use Rattle.ng_layout.specs.Stands.{stands, stands_beside, beside_header, beside_format, epoch_in_force, IsWritten}
use Rattle.ng_layout.specs.Stored.{DurableState}
use Rattle.ng_layout.proofs.ImageLemmas.{force-within, log-long, stretch-same, under}
use Rattle.ng_journal.proofs.FoundStateLemmas.{none_found}
use Rattle.ng_journal.specs.Growth.{IsGrown, StandsGrown, with_limit_of, grown_of}

module _ (old new : Image) (g : IsGrown old new) where
  header_same : (k : ℕ) → k < 2 → header_in (is_large new) k (new k) ≡ header_in (is_large old) k (old k)
  header_same k lt =
      (λ i. header_in (is_large new) k (g.same k (omega arith) i))
      ∙ g.headers k lt
      ∙ (λ i. header_in (sym g.small i) k (old k))

  force_same : in_force new ≡ in_force old
  unfolding in_force
  force_same = λ i. newer (header_same 0 (omega arith) i) (header_same 1 (omega arith) i)

  -- ---- each row that matters lies below the end of a small device

  row_same : (first size : ℕ) → first + size ≤ 1710 → stretch first size new ≡ stretch first size old
  row_same first size within = stretch-same first size new old (λ j lt. g.same (first + j) (omega arith))

  program_same : (area : ℕ) → area ≤ 1 → stretch (program_first area) (program_size area) new ≡ stretch (program_first area) (program_size area) old
  program_same zero few = row_same (program_first 0) (program_size 0) (omega arith)
  program_same (suc zero) few = row_same (program_first 1) (program_size 1) (omega arith)
  program_same (suc (suc n)) few = absurd (omega arith)

  -- ---- the state

  more_limit : (most : ℕ) (f : Option ReplayState) (text : List ℕ) (length : ℕ)
      → standing (program_limit_of (is_large new)) f text length ≡ grown_of new (standing most f text length)
  more_limit most None text length = refl
  more_limit most (Some f) text length = refl

  under_more_limit : (most : ℕ) (h : Header) (area tools text log : ℕ → List ℕ)
      → durable_state_under (program_limit_of (is_large new)) h area tools text log ≡ grown_of new (durable_state_under most h area tools text log)
  unfolding durable_state_under
  under_more_limit most h area tools text log =
      let first : LogPosition = record { at = 0; number = 0; found = snapshot h.format h.length area tools } in
      more_limit most (run (log_size_of h) h.format h.length log h.epoch first).found (program_text h.length text) h.length

  few_areas : (h : Header) → in_force old ≡ Some h → h.area ≤ 1
  few_areas h is = subst (λ (large : Bool). h.area ≤ greatest_area large) g.small (force-within old h is).area

  stands_more : (h : Header) → in_force old ≡ Some h → stands new ≡ grown_of new (stands old)
  stands_more h is =
      let area = row_same (snapshot_first h.epoch) snapshot_size (omega arith) in
      let tools = row_same (tools_first h.epoch) tools_size (omega arith) in
      let text = program_same h.area (few_areas h is) in
      let log = row_same log_first (log_size_of h) (omega (arith, log-long h.format)) in
      let base = λ (first size : ℕ). stretch first size old in
      under new h (force_same ∙ is)
      ∙ (λ i. durable_state_under (program_limit_of (is_large new)) h (area i) (tools i) (text i) (log i))
      ∙ under_more_limit (program_limit_of (is_large old)) h (base (snapshot_first h.epoch) snapshot_size) (base (tools_first h.epoch) tools_size)
      (base (program_first h.area) (program_size h.area)) (base log_first (log_size_of h))
      ∙ ap (grown_of new) (sym (under old h is))

  -- without a header both stand for nothing
  stands_same : (o : Option Header) → in_force old ≡ o → stands new ≡ grown_of new (stands old)
  stands_same None none = none_found new None (sym (force_same ∙ none)) refl ∙ ap (grown_of new) (sym (none_found old None (sym none) refl))
  stands_same (Some h) some = stands_more h some

  -- with any table
  format_more : (tools : List ℤ) (format : Format) (s : DurableState)
      → beside_format tools format (with_limit_of new s) ≡ with_limit_of new (beside_format tools format s)
  format_more tools One s = refl
  format_more tools Two s = refl

  beside_more : (tools : List ℤ) (o : Option Header) (r : Result DurableState Fault)
      → beside_header tools o (grown_of new r) ≡ grown_of new (beside_header tools o r)
  beside_more tools None r = refl
  beside_more tools (Some h) (Ok s) = ap (λ (x : DurableState). Ok x) (format_more tools h.format s)
  beside_more tools (Some h) (Err e) = refl

  beside_same : (tools : List ℤ) → stands_beside tools new ≡ grown_of new (stands_beside tools old)
  unfolding stands_beside
  beside_same tools = (λ i. beside_header tools (force_same i) (stands_same (in_force old) refl i)) ∙ beside_more tools (in_force old) (stands old)

  still_written : IsWritten old → IsWritten new
  still_written written = record {
    past = λ m lt.
        subst (λ (s : List ℕ). number_at 8 0 s ≤ epoch_in_force (in_force new)) (sym (g.same (log_first + m) (omega arith)))
        (subst (λ (o : Option Header). number_at 8 0 (old (log_first + m)) ≤ epoch_in_force o) (sym force_same) (written.past m lt));
  }

pub grown_stands : (old new : Image) → IsGrown old new → StandsGrown old new
grown_stands old new g = record { force = force_same old new g; state = beside_same old new g; written = still_written old new g }
