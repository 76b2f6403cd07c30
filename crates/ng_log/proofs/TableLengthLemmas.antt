-- The table of what an image stands for has as many parameters as there are.
use Rattle.std.proofs.Common.{◌≡◌, ℕ, zero, suc, Bool, true, false, if◌then◌else◌, List, [], ◌∷◌, length, ℤ}
use Rattle.std.proofs.Common.{Option, Some, None, refl, sym, ◌∙◌, ap, subst, nat_le, drop}
use Rattle.std.specs.List.{list_all}
use Rattle.std.specs.Prelude.{unsigned_abs}
use Rattle.std.proofs.lemmas.List.{length-set}
use Rattle.std.proofs.lemmas.List.FromFn.{length-map-range_with_len}
use Rattle.ng_num.specs.Range.{greatest}
use Rattle.ng_params.specs.Params.{with_value}
use Rattle.ng_params.specs.Change.{with_changes}
use Rattle.ng_params.specs.declared.change.Change.{Change}
use Rattle.ng_rig.specs.Trace.{Image}
use Rattle.ng_layout.specs.Areas.{snapshot_first, snapshot_size, tools_first, tools_size}
use Rattle.ng_layout.specs.Decoding.{and_then, decoded_state_of}
use Rattle.ng_layout.specs.Log.{ReplayState, LogPosition, changes_of, with_record}
use Rattle.ng_layout.specs.Sectors.{values}
use Rattle.ng_layout.specs.Stands.{snapshot, stretch}
use Rattle.ng_layout.specs.Stored.{DecodedStateModel, DurableState}
use Rattle.ng_layout.specs.Tools.{tools_after, tools_in}
use Rattle.ng_layout.specs.declared.header.Format.{Format}
use Rattle.ng_layout.specs.declared.header.Header.{Header}
use Rattle.ng_log.specs.declared.log_end.LogEnd.{LogEnd}
use Rattle.ng_log.specs.AtEnd.{replay_state_in, EndsIn}
use Rattle.ng_log.specs.Runs.{log_of, Reaches}
use Rattle.ng_log.proofs.RecordRunLemmas.{Step, step-from}

length-changed : (table : List ℤ) (changes : List Change) → length (with_changes table changes) ≡ length table
length-changed table [] = refl
length-changed table (c ∷ changes) = length-changed (with_value table c.index c.value) changes ∙ length-set table _ c.value

length-values : (n : ℕ) (row : ℕ → List ℕ) → length (values n row) ≡ n
unfolding values
length-values n row = length-map-range_with_len _ 0 n

-- what is found has a whole table
abbrev IsWhole : Option ReplayState → Type 0
IsWhole found = (f : ReplayState) → found ≡ Some f → length f.params ≡ 5399

-- a snapshot's table has all its values
by_snapshot : (o : Option DecodedStateModel) (table : List ℤ) (inside : Bool) (t : Option (List ℤ)) (f : ReplayState)
    → and_then o (λ decoded. and_then (if inside then Some table else None) (λ params. and_then t
    (λ tools. Some (record { decoded = decoded; params = params; tools = tools })))) ≡ Some f
    → length f.params ≡ length table
by_snapshot None table inside t f e = absurd (cc)
by_snapshot (Some d) table false t f e = absurd (cc)
by_snapshot (Some d) table true None f e = absurd (cc)
by_snapshot (Some d) table true (Some tools) f e =
    let made : ReplayState = record { decoded = d; params = table; tools = tools } in
    let same : f ≡ made = cc in
    ap (λ (x : ReplayState). length x.params) same

snapshot_whole : (format : Format) (size : ℕ) (row area : ℕ → List ℕ) → IsWhole (snapshot format size row area)
unfolding snapshot
snapshot_whole format size row area f e =
    by_snapshot (decoded_state_of size (row 0)) (values 5399 row)
    (list_all (λ n. nat_le (unsigned_abs n) greatest) (values 5399 row)) (tools_in format (row 0) area) f e
    ∙ length-values 5399 row

-- a record keeps its length
by_record : (o : Option DecodedStateModel) (m : Option (List Change)) (t : Option (List ℤ)) (table : List ℤ)
    (f : ReplayState) → and_then o (λ decoded. and_then m (λ made. and_then t
    (λ tools. Some (record { decoded = decoded; params = with_changes table made; tools = tools })))) ≡ Some f
    → length f.params ≡ length table
by_record None m t table f e = absurd (cc)
by_record (Some d) None t table f e = absurd (cc)
by_record (Some d) (Some made) None table f e = absurd (cc)
by_record (Some d) (Some made) (Some tools) table f e =
    let found : ReplayState = record { decoded = d; params = with_changes table made; tools = tools } in
    let same : f ≡ found = cc in
    ap (λ (x : ReplayState). length x.params) same ∙ length-changed table made

found_whole : (o : Option ReplayState) (go : ReplayState → Option ReplayState)
    → ((b f : ReplayState) → go b ≡ Some f → length f.params ≡ length b.params) → IsWhole o → IsWhole (and_then o go)
found_whole None go same whole f e = absurd (cc)
found_whole (Some b) go same whole f e = same b f e ∙ whole b refl

module _ (format : Format) (size : ℕ) (log : Image) (epoch : ℕ) where
  step_whole : (p q : LogPosition) → Step format size log epoch p q → IsWhole p.found → IsWhole q.found
  step_whole p q s whole =
      subst (λ (x : LogPosition). IsWhole x.found) (sym s.is)
      (found_whole p.found (λ before. with_record format size log p.at s.changes before)
      (λ b f e. by_record (decoded_state_of size (drop 32 (log p.at))) (changes_of log p.at s.changes)
      (tools_after format (log p.at) b.tools) b.params f e) whole)

  reaches_whole : (n : ℕ) (p q : LogPosition) → Reaches n format size log epoch p q → IsWhole p.found → IsWhole q.found
  reaches_whole zero p q is whole = subst (λ (x : LogPosition). IsWhole x.found) is whole
  reaches_whole (suc n) p q r whole =
      reaches_whole n r.0 q r.2 (step_whole p r.0 (step-from format size log epoch p r.0 r.1) whole)

pub ends-whole : (image : Image) (header : Header) (standing : DurableState) (end : LogEnd)
    → EndsIn image header standing end → length standing.saved.setup.params ≡ 5399
ends-whole image header standing end e =
    reaches_whole header.format header.length (log_of header image) header.epoch e.ends.records _ _ e.ends.reached
    (snapshot_whole header.format header.length (stretch (snapshot_first header.epoch) snapshot_size image)
    (stretch (tools_first header.epoch) tools_size image)) (replay_state_in standing.saved) refl
