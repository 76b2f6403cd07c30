-- The state under a header of format 1 whose log has no record, stored in format 2 with a table.
use Rattle.std.proofs.Common.{◌≡◌, inr, ⊎_elim, ℕ, ◌<◌, List, ℤ, Some, Result, Ok, Err, refl, sym, ◌∙◌, ap, subst, arith}
use Rattle.ng_rig.specs.Trace.{Trace, reads, items}
use Rattle.ng_rig.specs.Continuation.{IsContinuation}
use Rattle.ng_rig.specs.Only.{WritesOnly}
use Rattle.ng_rig.proofs.ContinuationLemmas.{stays, weaker}
use Rattle.ng_rig.proofs.WritesOnlyLemmas.{only_none, only_wider}
use Rattle.ng_layout.specs.declared.header.Format.{Format}
use Rattle.ng_layout.specs.declared.header.Format.TheVariants.{One, Two}
use Rattle.ng_layout.specs.declared.header.Header.{Header}
use Rattle.ng_layout.specs.Areas.{program_first, program_size}
use Rattle.ng_layout.specs.Sectors.{program_text}
use Rattle.ng_layout.specs.Header.{IsValidHeader}
use Rattle.ng_layout.specs.Limits.{greatest_count}
use Rattle.ng_layout.proofs.ImageLemmas.{force-within}
use Rattle.ng_layout.specs.Stands.{is_large, stretch, stands, beside_header, beside_format, saved_beside}
use Rattle.ng_layout.specs.Stored.{StoredModel, DurableState}
use Rattle.ng_log.specs.AtEnd.{no_records, IsAtEnd}
use Rattle.ng_journal.specs.Private.CheckpointSteps.{FitsDevice, IsOwnImage, IsBegun, IsEitherUnder, WritesState, StoresState, beside, CheckpointSpec}
use Rattle.ng_journal.specs.AtRest.{BelongsTo, IsLaidOut, migrated}
use Rattle.ng_journal.specs.Journal.{StandsBeside}
use Rattle.ng_journal.specs.Private.RecoverySteps.{ModernizeSpec, StoresModern, BelongsToModern}
use Rattle.ng_journal.proofs.SnapshotAloneLemmas.{begins-empty, begins-stand, begun-end}
use Rattle.ng_journal.proofs.RestoreLemmas.{beside-under, Promised}

-- with format 2, nothing changes
pub modern_already : {E : Type 0} (tools : List ℤ) (header : Header) (standing : DurableState) (trace : Trace)
    → header.format ≡ Two → IsBegun trace header standing → ModernizeSpec {E = E} tools (Ok header) header standing
    trace trace
modern_already tools header standing trace two b = record {
  stops = stays trace (StandsBeside tools (beside_format tools header.format standing) (items trace));
  items_are = refl;
  at = subst (λ (f : Format). IsAtEnd trace header (beside_format tools f standing) no_records) (sym two) (begun-end trace header standing two b);
}

pub nothing_modern : {E : Type 0} (tools : List ℤ) (header : Header) (saved : StoredModel) (trace : Trace)
    → header.format ≡ Two → StoresModern {E = E} tools (Ok header) header saved trace trace
nothing_modern tools header saved trace two = record {
  writes = only_none (λ n bytes. BelongsToModern tools header saved n bytes) trace;
  laid = λ laid. subst (λ (f : Format). IsLaidOut header (saved_beside tools f saved) (reads trace)) (sym two) laid;
  synced = λ synced. synced;
}

-- with format 1, there is a checkpoint
modern_written : (tools : List ℤ) (header last : Header) (saved with : StoredModel) (old new : Trace)
    → header.format ≡ One → last ≡ migrated header → with ≡ record saved { tools = tools }
    → WritesState last with old new → WritesOnly (λ n bytes. BelongsToModern tools header saved n bytes) old new
modern_written tools header last saved with old new one last_is with_is w =
    only_wider (λ n bytes. BelongsTo last with n bytes) (λ n bytes. BelongsToModern tools header saved n bytes) old new
    (λ n bytes own. (
      one,
      subst (λ (s : StoredModel). BelongsTo (migrated header) s n bytes) with_is
          (subst (λ (h : Header). BelongsTo h with n bytes) last_is own),
    )) w

pub modern_not_stored : {T E F : Type 0} (e : E) (result : Result T F) (tools : List ℤ) (header last : Header)
    (saved with : StoredModel) (old new : Trace) → header.format ≡ One → last ≡ migrated header
    → with ≡ record saved { tools = tools } → StoresState result last with old new
    → StoresModern tools (Err e) header saved old new
modern_not_stored e result tools header last saved with old new one last_is with_is s = record {
  writes = modern_written tools header last saved with old new one last_is with_is s.writes;
  laid = λ _. tt;
  synced = λ _. tt;
}

pub modern_stored : {T E F : Type 0} (v : T) (tools : List ℤ) (header last : Header) (saved with : StoredModel)
    (old new : Trace) → header.format ≡ One → last ≡ migrated header → with ≡ record saved { tools = tools }
    → StoresState {E = F} (Ok v) last with old new → StoresModern {E = E} tools (Ok last) header saved old new
modern_stored v tools header last saved with old new one last_is with_is s = record {
  writes = modern_written tools header last saved with old new one last_is with_is s.writes;
  laid = λ _. subst (λ (x : StoredModel). IsLaidOut last x (reads new)) (with_is ∙ ap (λ (f : Format). saved_beside tools f saved) (sym one)) s.laid;
  synced = λ _. s.synced;
}

module _ (tools : List ℤ) (header last : Header) (saved with : StoredModel) (standing : DurableState)
    (old new : Trace) (one : header.format ≡ One) (last_is : last ≡ migrated header)
    (with_is : with ≡ record saved { tools = tools }) (b : IsBegun old header standing)
    (saved_is : standing.saved ≡ saved) (more : header.epoch < greatest_count) where
  own : IsOwnImage old header
  own = record { synced = b.synced; force = b.image.force; written = b.image.written }

  target : DurableState
  target = beside_format tools header.format standing

  -- what is stored with the table is the state that is read with it
  made_is : beside with last.area (reads old) ≡ beside_format tools header.format standing
  made_is =
      let area : last.area ≡ header.area = ap (λ (h : Header). h.area) last_is in
      let is : with ≡ record standing.saved { tools = tools } = with_is ∙ ap (λ (s : StoredModel). record s { tools = tools }) (sym saved_is) in
      (λ i. beside (is i) (area i) (reads old))
      ∙ (λ i. record {
        saved = record standing.saved { tools = tools };
        program =
            (ap (λ (n : ℕ). program_text n
            (stretch (program_first header.area) (program_size header.area) (reads old))) b.image.long
            ∙ b.image.program) i;
      })
      ∙ ap (λ (f : Format). beside_format tools f standing) (sym one)

  before_is : stands (reads old) ≡ Ok standing
  before_is = begins-stand (reads old) header standing b.image

  each_stop : {T E : Type 0} (result : Result T E) → CheckpointSpec result header last with old new
      → IsContinuation old new (StandsBeside tools (beside_format tools header.format standing) (items old))
  each_stop result c = weaker old new
      (IsEitherUnder header last (stands (reads old)) (Ok (beside with last.area (reads old))) (items old))
      (StandsBeside tools (beside_format tools header.format standing) (items old)) c.stops
      (λ image handed p. record {
        state = ⊎_elim
            (λ x. beside-under tools image header x.0 ∙ ap (beside_header tools (Some header)) (x.1 ∙ before_is))
            (λ x. beside-under tools image last x.0 ∙ ap (beside_header tools (Some last)) x.1
            ∙ (λ i. Ok (beside_format tools (last_is i).format (beside with last.area (reads old))))
            ∙ ap (λ (s : DurableState). Ok s) made_is)
            p.state;
        written = p.written;
        handed_is = p.handed_is;
      })

  fits : FitsDevice (reads old) last with
  fits =
      let w = force-within (reads old) header b.image.force in
      record {
        valid = subst (λ (h : Header). IsValidHeader (is_large (reads old)) h) (sym last_is)
            (record { counted = omega arith; few = omega arith; area = w.area; length = w.length });
        program_limit = ap (λ (s : StoredModel). s.program_limit) with_is ∙ sym (ap (λ (s : StoredModel). s.program_limit) saved_is) ∙ b.image.program_limit;
      }

  spec : {T E : Type 0} (result : Result T E) → Promised result last with old new → CheckpointSpec result header last with old new
  spec result c = c header own (ap (λ (h : Header). h.epoch) last_is) (inr (one, begins-empty (reads old) header standing b.image)) fits

  pub modern_failed : {T E F : Type 0} (e : E) (result : Result T F) → Promised result last with old new → ModernizeSpec tools (Err e) header standing old new
  modern_failed e result c = let d = spec result c in record { stops = each_stop result d; items_are = d.items_are; at = tt }

  pub modern_made : {T E F : Type 0} (v : T) → Promised {E = F} (Ok v) last with old new → ModernizeSpec {E = E} tools (Ok last) header standing old new
  modern_made {T = T} {F = F} v c =
      let ok : Result T F = Ok v in
      let d = spec ok c in
      record {
        stops = each_stop ok d;
        items_are = d.items_are;
        at = subst (λ (s : DurableState). IsAtEnd new last s no_records) made_is
            (begun-end new last (beside with last.area (reads old)) (ap (λ (h : Header). h.format) last_is) d.at);
      }

-- if the table is the given one
pub modern_over : {E : Type 0} (given table : List ℤ) (result : Result Header E) (header : Header)
    (standing : DurableState) (old new : Trace) → table ≡ given → ModernizeSpec given result header standing old new
    → ModernizeSpec table result header standing old new
modern_over given table result header standing old new same m = subst (λ (t : List ℤ). ModernizeSpec t result header standing old new) (sym same) m

pub stored_over : {E : Type 0} (given table : List ℤ) (result : Result Header E) (header : Header)
    (saved : StoredModel) (old new : Trace) → table ≡ given → StoresModern given result header saved old new
    → StoresModern table result header saved old new
stored_over given table result header saved old new same s = subst (λ (t : List ℤ). StoresModern t result header saved old new) (sym same) s
