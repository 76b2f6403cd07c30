-- Any subset of a record's parts.
use Rattle.std.proofs.Common.{◌≡◌, ◌≢◌, ◌⊎◌, inl, inr, ⊎_elim, ℕ, zero, suc, ◌+◌, ◌-◌, ◌<◌, ◌≤◌, length, Some, None, refl, sym, ◌∙◌, ap, subst, arith, add-zero}
use Rattle.std.specs.Prelude.{IfSome}
use Rattle.std.proofs.lemmas.Bool.{cases_eq}
use Rattle.ng_params.specs.Change.{with_changes}
use Rattle.ng_rig.specs.Trace.{Image}
use Rattle.ng_layout.specs.Fields.{number_at}
use Rattle.ng_layout.specs.Log.{changes_of, ReplayState, LogPosition, next}
use Rattle.ng_layout.specs.Part.{piece, changes_in, HoldsRecordPart}
use Rattle.ng_layout.specs.Areas.{log_size}
use Rattle.ng_layout.specs.Storable.{IsStorableChange}
use Rattle.ng_layout.specs.declared.header.Format.{Format}
use Rattle.ng_layout.specs.declared.header.Format.TheVariants.{Two}
use Rattle.ng_layout.proofs.ToolTableLemmas.{tools-made}
use Rattle.ng_offsets.specs.Tools.{with_change}
use Rattle.ng_layout.specs.Decoding.{and_then}
use Rattle.ng_layout.specs.Snapshot.{decoded_state_in}
use Rattle.ng_log.specs.Runs.{Reaches, IsLongest, EndsAt}
use Rattle.ng_log.specs.Records.{LogRecord, size_of, label, IsPartOf}
use Rattle.ng_log.proofs.RecordChangeLemmas.{changes-whole}
use Rattle.ng_log.proofs.RecordRunLemmas.{step-to, reaches-frame, reaches-step, parts-all, part-says, torn-first, torn-next, clean-next}

-- what is found with it, given what was found before
abbrev pub found_with : LogRecord → ReplayState → ReplayState
found_with e before = record { decoded = decoded_state_in e.saved; params = with_changes before.params e.changes; tools = with_change e.slot before.tools }

-- the position where it begins, with what was found before
abbrev pub place_before : LogRecord → ReplayState → LogPosition
place_before e before = record { at = e.at; number = e.number; found = Some before }

-- the position after it
abbrev pub position_after_record : LogRecord → ReplayState → LogPosition
position_after_record e before = record { at = e.at + size_of e; number = e.number + 1; found = Some (found_with e before) }

-- all of them, or one of the others
all_or_one : (k : ℕ) (A B : ℕ → Type 0) → ((j : ℕ) → j < k → A j ⊎ B j) → ((j : ℕ) → j < k → B j) ⊎ ((j : ℕ) × (j < k) × A j)
all_or_one zero A B each = inl (λ j lt. absurd (omega arith))
all_or_one (suc k) A B each = elim (all_or_one k A B (λ j lt. each j (omega arith))) [
  | inr one ↦ inr (one.0, omega (arith, one.1), one.2)
  | inl all ↦ elim (each k (omega arith)) [
    | inl a ↦ inr (k, omega arith, a)
    | inr b ↦ inl (λ j lt. elim (cases_eq j k) [ inl same ↦ subst B (sym same) b | inr other ↦ all j (omega arith) ])
  ]
]

-- Each sector of a log is as in another log that ends where a record begins, or holds its part of that record.
pub record Mixture (format : Format) (base log : Image) (first : LogPosition) (e : LogRecord) (before : ReplayState) : Type 0 where
  pub ends : EndsAt format e.saved.length base e.epoch first (place_before e before)
  pub room : e.at + size_of e ≤ log_size format
  pub two : format ≡ Two
  pub valid : IfSome e.slot (IsStorableChange before.tools)
  pub each : (m : ℕ) → m < log_size format → (log m ≡ base m) ⊎ IsPartOf e m (log m)

module _ (format : Format) (base log : Image) (first : LogPosition) (e : LogRecord) (before : ReplayState) (m : Mixture format base log first e before) where
  long : ℕ
  long = e.saved.length

  below : (n : ℕ) → n < e.at → log n ≡ base n
  below n lt = let room = m.room in ⊎_elim (λ same. same) (λ p. absurd (omega (arith, p.from))) (m.each n (omega arith))

  beyond : (n : ℕ) → e.at + size_of e ≤ n → n < log_size format → log n ≡ base n
  beyond n ge lt = ⊎_elim (λ same. same) (λ p. absurd (omega (arith, p.to))) (m.each n lt)

  reached : Reaches m.ends.records format e.saved.length log e.epoch first (place_before e before)
  reached = reaches-frame format e.saved.length m.ends.records log base e.epoch first (place_before e before) m.ends.reached (λ n ge lt. below n lt)

  torn : (j : ℕ) → j < size_of e → log (e.at + j) ≡ base (e.at + j) → next format e.saved.length log e.epoch (place_before e before) ≡ None
  torn j lt same =
      let room = m.room in
      let other : number_at 8 0 (log (e.at + j)) ≢ e.epoch = λ is. m.ends.clean.none (e.at + j) (omega arith)
      (omega arith) (sym (ap (number_at 8 0) same) ∙ is) in
      let zero_is : e.at + 0 ≡ e.at = omega arith in
      ⊎_elim
      (λ head. torn-first format e.saved.length log e.epoch (place_before e before)
      (λ low is. m.ends.clean.none e.at (omega arith) low (sym (ap (number_at 8 0) head)
      ∙ ap (λ (n : ℕ). number_at 8 0 (log n)) (sym zero_is) ∙ is)))
      (λ p. torn-next format e.saved.length log e.epoch (place_before e before) (size_of e) j
      (part-says (label e (e.at - e.at)) (log e.at) p.holds.label.is).parts lt other)
      (m.each e.at (omega arith))

  -- if all parts are there, the record is complete
  module _ (all : (j : ℕ) → j < size_of e → IsPartOf e (e.at + j) (log (e.at + j))) where
    holds : (j : ℕ) → j < size_of e → HoldsRecordPart (label e j) e.saved e.changes e.slot (log (e.at + j))
    holds j lt = let back : e.at + j - e.at ≡ j =
        omega arith in subst (λ (k : ℕ). HoldsRecordPart (label e k) e.saved e.changes e.slot (log (e.at + j))) back
        (all j lt).holds

    head : HoldsRecordPart (label e 0) e.saved e.changes e.slot (log e.at)
    head = subst (λ (n : ℕ). HoldsRecordPart (label e 0) e.saved e.changes e.slot (log n)) (add-zero e.at) (holds 0 (omega arith))

    made : changes_of log e.at (length e.changes) ≡ Some e.changes
    made = changes-whole log e.at e.changes (λ i lt.
        let place : e.at + (1 + i) ≡ e.at + 1 + i = omega arith in
        subst (λ (n : ℕ). changes_in (log n) (length (piece i e.changes)) ≡ Some (piece i e.changes)) place ((holds (1 + i) (omega arith)).changes i refl).made)

    whole : next format e.saved.length log e.epoch (place_before e before) ≡ Some (position_after_record e before)
    whole =
        let decoded = (head.state refl).state.read in
        let table = tools-made format (log e.at) before.tools e.slot m.two (head.state refl).slot (head.state refl).tool m.valid in
        step-to format e.saved.length log e.epoch (place_before e before) (position_after_record e before) (record {
          parts = size_of e;
          changes = length e.changes;
          parts_are = (part-says (label e 0) (log e.at) head.label.is).parts;
          changes_are = (part-says (label e 0) (log e.at) head.label.is).changes;
          counted = refl;
          room = m.room;
          stand = parts-all log e.at (label e 0) (size_of e) (λ j lt. (holds j lt).label.is);
          is = sym (λ i. record {
            at = e.at + size_of e;
            number = e.number + 1;
            found =
                and_then (decoded i) (λ r.
                and_then (made i) (λ made_are.
                and_then (table i) (λ tools.
                Some (record { decoded = r; params = with_changes before.params made_are; tools = tools }))));
          });
        })

    -- the log ends after it
    pub mixture-ends : EndsAt format e.saved.length log e.epoch first (position_after_record e before)
    mixture-ends = record {
      records = suc m.ends.records;
      reached = reaches-step format e.saved.length m.ends.records log e.epoch first (place_before e before) (position_after_record e before) reached whole;
      room = m.room;
      clean = record { none = λ n ge lt is. m.ends.clean.none n (omega arith) lt (sym (ap (number_at 8 0) (beyond n ge lt)) ∙ is) };
    }

  -- The longest run ends where it did, or after the record.
  pub mixture-longest : IsLongest format e.saved.length log e.epoch first (place_before e before)
      ⊎ IsLongest format e.saved.length log e.epoch first (position_after_record e before)
  mixture-longest = ⊎_elim
      (λ all. let ends = mixture-ends all in inr
      (record {
        records = ends.records;
        reached = ends.reached;
        none = clean-next format e.saved.length log
            e.epoch (position_after_record e before) ends.clean;
      }))
      (λ one. inl (record { records = m.ends.records; reached = reached; none = torn one.0 one.1 one.2 }))
      (all_or_one (size_of e) (λ j. log (e.at + j) ≡ base (e.at + j)) (λ j. IsPartOf e (e.at + j) (log (e.at + j)))
      (λ j lt. let room = m.room in m.each (e.at + j) (omega arith)))
