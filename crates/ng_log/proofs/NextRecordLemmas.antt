-- Whether a record is there, from what was read of it, and runs of such records.
use Rattle.std.proofs.Common.{◌≡◌, ◌⊎◌, inl, inr, ℕ, zero, suc, ◌+◌, ◌<◌, ◌≤◌, ◌==◌, nat_le, Bool, true, false}
use Rattle.std.proofs.Common.{List, length, Option, Some, None, refl, sym, ◌∙◌, ap, subst, arith}
use Rattle.std.proofs.lemmas.Bool.{cases_eq}
use Rattle.std.proofs.lemmas.Bool.Decides.{nat_tests}
use Rattle.ng_rig.specs.Trace.{Trace, Image, reads}
use Rattle.ng_layout.specs.declared.header.Format.{Format}
use Rattle.ng_layout.specs.declared.header.Header.{Header}
use Rattle.ng_layout.specs.declared.part.PartLabel.{PartLabel}
use Rattle.ng_layout.specs.Fields.{number_at}
use Rattle.ng_layout.specs.Areas.{log_size, log_size_of, log_first}
use Rattle.ng_layout.specs.Log.{PartHeader, is_part, LogPosition, after_step, parts_stand, parts_for, with_record, next, run}
use Rattle.ng_layout.specs.Part.{label_of, label_at}
use Rattle.ng_layout.specs.Decoding.{and_then}
use Rattle.ng_layout.specs.Stored.{StoredModel}
use Rattle.ng_layout.proofs.ImageLemmas.{stretch-at}
use Rattle.ng_log.specs.declared.log_end.LogEnd.{LogEnd}
use Rattle.ng_log.specs.declared.scanning.Next.{Next}
use Rattle.ng_log.specs.declared.scanning.Next.TheVariants.{After}
use Rattle.ng_log.specs.AtEnd.{replay_state_in, position_of}
use Rattle.ng_log.specs.Runs.{log_of, Reaches, IsLongest}
use Rattle.ng_log.specs.Private.ReadSteps.{from_log, begins, LaterPartsStand, FindsRecord, TakesRecord, IsDamaged, IsNextOf, IsOn, Goes}
use Rattle.ng_log.proofs.RecordRunLemmas.{RunsTo, Says, part-says, says-part, part_label, position_after, Step}
use Rattle.ng_log.proofs.RecordRunLemmas.{step-from, step-to, step-at, reaches-at, reaches-step, not_some}
use Rattle.ng_log.proofs.RecordRunLemmas.{torn-first, parts-part, parts-all, parts-frame, record-frame, all_five}
use Rattle.ng_log.proofs.RecordRunLemmas.{five_true, equal, equals}
use Rattle.ng_log.proofs.LogScanLemmas.{StandTo}

-- The label of a part that begins a record at the end of a log.
pub record Begins (first : PartHeader) (header : Header) (end : LogEnd) : Type 0 where
  pub epoch : first.epoch ≡ header.epoch
  pub number : first.number ≡ end.number
  pub part : first.part ≡ 0
  pub counted : first.parts ≡ parts_for first.changes
  pub room : end.sector + first.parts ≤ log_size_of header

below : (m n : ℕ) → nat_le m n ≡ true → m ≤ n
below m n e = grind (arith, nat_tests)

is_below : (m n : ℕ) → m ≤ n → nat_le m n ≡ true
is_below m n e = grind (arith, nat_tests)

pub begun : (first : PartHeader) (header : Header) (end : LogEnd) → begins first header end ≡ true → Begins first header end
begun first header end is =
    let each = all_five (first.epoch == header.epoch) (first.number == end.number) (first.part == 0)
    (first.parts == parts_for first.changes) (nat_le (end.sector + first.parts) (log_size_of header)) is in
    record {
      epoch = equal _ header.epoch each.0;
      number = equal _ end.number each.1;
      part = equal _ 0 each.2;
      counted = equal _ (parts_for first.changes) each.3;
      room = below _ (log_size_of header) each.4;
    }

begins_true : (first : PartHeader) (header : Header) (end : LogEnd) → Begins first header end → begins first header end ≡ true
begins_true first header end b = five_true _ _ _ _ _ (equals _ header.epoch b.epoch) (equals _ end.number b.number)
    (equals _ 0 b.part) (equals _ (parts_for first.changes) b.counted) (is_below _ (log_size_of header) b.room)

-- a label that was read from a sector
pub says_read : (first : PartLabel) (sector : List ℕ) → first ≡ label_at sector → Says (label_of first) sector
says_read first sector is = record {
  epoch = sym (ap (λ (l : PartLabel). l.epoch) is);
  number = sym (ap (λ (l : PartLabel). l.number) is);
  part = sym (ap (λ (l : PartLabel). l.part) is);
  parts = sym (ap (λ (l : PartLabel). l.parts) is);
  changes = sym (ap (λ (l : PartLabel). l.changes) is);
}

module _ (header : Header) (end : LogEnd) (old : StoredModel) (image : Image) where
  abbrev log : Image
  log = log_of header image

  abbrev here : LogPosition
  here = position_of end old

  abbrev after : Option LogPosition
  after = next header.format header.length log header.epoch here

  in_log : (m : ℕ) → m < log_size_of header → log m ≡ from_log image m
  in_log m lt = stretch-at log_first (log_size_of header) image m lt

  pub none_at_end : end.sector ≡ log_size_of header → after ≡ None
  none_at_end is = torn-first header.format header.length log header.epoch here (λ lt. absurd (omega arith))

  -- from the sector there, and its label
  module _ (first : PartHeader) (sector : List ℕ) (lt : end.sector < log_size_of header)
      (is : sector ≡ from_log image end.sector) (says : Says first sector) where
    head : log end.sector ≡ sector
    head = in_log end.sector lt ∙ sym is

    module _ (m : LogPosition) (s : Step header.format header.length log header.epoch here m) where
      same_parts : first.parts ≡ s.parts
      same_parts = sym says.parts ∙ ap (number_at 2 18) (sym head) ∙ s.parts_are

      same_changes : first.changes ≡ s.changes
      same_changes = sym says.changes ∙ ap (number_at 2 20) (sym head) ∙ s.changes_are

      step_begins : Begins first header end
      step_begins =
          let zero_is : end.sector + 0 ≡ end.sector = omega arith in
          let there : log (end.sector + 0) ≡ sector = ap log zero_is ∙ head in
          let one = part-says _ (log (end.sector + 0))
          (parts-part log end.sector (part_label header.epoch end.number 0 s.parts s.changes) s.parts 0 s.stand
          (omega (arith, s.counted))) in
          record {
            epoch = sym says.epoch ∙ ap (number_at 8 0) (sym there) ∙ one.epoch;
            number = sym says.number ∙ ap (number_at 8 8) (sym there) ∙ one.number;
            part = sym says.part ∙ ap (number_at 2 16) (sym there) ∙ one.part;
            counted = same_parts ∙ s.counted ∙ ap parts_for (sym same_changes);
            room = omega (arith, s.room, same_parts);
          }

    pub none_of_first : begins first header end ≡ false → after ≡ None
    none_of_first off = not_some after (λ m e.
        let s = step-from header.format header.length log header.epoch here m e in
        let never : true ≡ false = sym (begins_true first header end (step_begins m s)) ∙ off in
        cc)

    module _ (b : Begins first header end) where
      first_is : first ≡ part_label header.epoch end.number 0 first.parts first.changes
      first_is = λ i. record { epoch = b.epoch i; number = b.number i; part = b.part i; parts = first.parts; changes = first.changes }

      framed : parts_stand log end.sector first first.parts ≡ parts_stand (from_log image) end.sector first first.parts
      framed = parts-frame log (from_log image) end.sector first first.parts (λ j before. let room = b.room in in_log (end.sector + j) (omega arith))

      pub none_of_parts : parts_stand (from_log image) end.sector first first.parts ≡ false → after ≡ None
      none_of_parts off = not_some after (λ m e.
          let s = step-from header.format header.length log header.epoch here m e in
          let found : parts_stand log end.sector (part_label header.epoch end.number 0 first.parts first.changes)
          first.parts ≡ true = subst
          (λ (k : ℕ). parts_stand log end.sector (part_label header.epoch end.number 0 first.parts k)
          first.parts ≡ true) (sym (same_changes m s))
          (subst (λ (n : ℕ). parts_stand log end.sector (part_label header.epoch end.number 0 n s.changes)
          n ≡ true) (sym (same_parts m s)) s.stand) in
          let stand : parts_stand log end.sector first first.parts ≡ true =
          subst (λ (l : PartHeader). parts_stand log end.sector l first.parts ≡ true) (sym first_is) found in
          let never : true ≡ false = sym stand ∙ framed ∙ off in
          cc)

      module _ (later : StandTo first.parts end.sector first image) where
        all_stand : parts_stand log end.sector first first.parts ≡ true
        all_stand = framed ∙ parts-all (from_log image) end.sector first first.parts (λ j before. elim (cases_eq j 0) [
          | inl none ↦
              let zero_is : end.sector + 0 ≡ end.sector = omega arith in
              let one : Says (record first { part = 0 }) (from_log image (end.sector + 0)) =
              subst (λ (bytes : List ℕ). Says (record first { part = 0 }) bytes)
              (is ∙ ap (from_log image) (sym zero_is))
              (record {
                epoch = says.epoch;
                number = says.number;
                part = says.part ∙ b.part;
                parts = says.parts;
                changes = says.changes;
              }) in
              subst (λ (k : ℕ). is_part (record first { part = k }) (from_log image (end.sector + k)) ≡ true)
              (sym none) (says-part (record first { part = 0 }) (from_log image (end.sector + 0)) one)
          | inr some ↦ later j (omega arith) before
        ])

        step_on : after ≡ Some (position_after header.format header.length log here first.parts first.changes)
        step_on = step-to header.format header.length log header.epoch here
            (position_after header.format header.length log here first.parts first.changes) (record {
              parts = first.parts;
              changes = first.changes;
              parts_are = ap (number_at 2 18) head ∙ says.parts;
              changes_are = ap (number_at 2 20) head ∙ says.changes;
              counted = b.counted;
              room = b.room;
              stand = subst (λ (l : PartHeader). parts_stand log end.sector l first.parts ≡ true) first_is all_stand;
              is = refl;
            })

        found_is : with_record header.format header.length log end.sector first.changes (replay_state_in old)
            ≡ with_record header.format header.length (from_log image) end.sector first.changes
            (replay_state_in old)
        found_is = record-frame header.format header.length log (from_log image) end.sector first.changes
            (replay_state_in old) (λ j before. let room = b.room in let counted =
            b.counted in in_log (end.sector + j) (omega arith))

        pub damaged_record : (new : StoredModel) → FindsRecord header.format header.length end.sector first.changes
            old new image false → IsDamaged header.format header.length log header.epoch here
        damaged_record new none =
            record {
              place = position_after header.format header.length log here first.parts first.changes;
              step =
                  step_on;
              damaged = found_is ∙ none;
            }

        pub one_record : (new : StoredModel) → FindsRecord header.format header.length end.sector first.changes old
            new image true → after ≡ Some
            (position_of (record { sector = end.sector + first.parts; number = end.number + 1 }) new)
        one_record new found = let made = found_is ∙ found.0 in step_on
            ∙ (λ i. Some (record { at = end.sector + first.parts; number = end.number + 1; found = made i }))

-- what was read of the later parts, if the device hasn't changed
pub parts_at : (at : ℕ) (first : PartHeader) (begun mid : Trace) (b v : Bool) → mid ≡ begun → b ≡ v
    → LaterPartsStand at first (reads mid) b → LaterPartsStand at first (reads begun) v
parts_at at first begun mid b v same is t = subst (λ (x : Bool). LaterPartsStand at first (reads begun) x) is
    (subst (λ (l : Trace). LaterPartsStand at first (reads l) b) same t)

-- a record that was taken over, or not, if the device hasn't changed
pub taken_at : (format : Format) (length : ℕ) (first : List ℕ) (at changes : ℕ) (old new : StoredModel)
    (begun mid : Trace) (b v : Bool) → mid ≡ begun → b ≡ v → TakesRecord format length first at changes old new
    (reads mid) b → first ≡ from_log (reads begun) at → FindsRecord format length at changes old new (reads begun) v
taken_at format length first at changes old new begun mid b v same is t =
    subst (λ (x : Bool). TakesRecord format length first at changes old new (reads begun) x) is
    (subst (λ (l : Trace). TakesRecord format length first at changes old new (reads l) b) same t)

-- Runs of records, perhaps followed by one that is damaged.

by_cases : (o : Option LogPosition) → (o ≡ None) ⊎ ((m : LogPosition) × (o ≡ Some m))
by_cases None = inl refl
by_cases (Some m) = inr (m, refl)

module _ (format : Format) (length : ℕ) (log : Image) (epoch : ℕ) where
  next_none : (p m : LogPosition) → next format length log epoch p ≡ Some m → p.found ≡ None → m.found ≡ None
  next_none p m is none =
      let s = step-from format length log epoch p m is in
      ap (λ (x : LogPosition). x.found) s.is ∙ (λ i. and_then (none i) (λ before. with_record format length log p.at s.changes before))

  run_none : (fuel : ℕ) (p : LogPosition) → p.found ≡ None → (run fuel format length log epoch p).found ≡ None
  unfolding run
  run_none zero p none = none
  run_none (suc n) p none = elim (by_cases (next format length log epoch p)) [
    | inl last ↦ ap (λ (o : Option LogPosition). (after_step o (λ q. run n format length log epoch q) p).found) last ∙ none
    | inr on ↦ ap (λ (o : Option LogPosition). (after_step o (λ q. run n format length log epoch q) p).found) on.1
        ∙ run_none n on.0 (next_none p on.0 on.1 none)
  ]

  run_damaged : (fuel n : ℕ) (p q m : LogPosition) → Reaches n format length log epoch p q
      → next format length log epoch q ≡ Some m → m.found ≡ None → n < fuel
      → (run fuel format length log epoch p).found ≡ None
  unfolding run
  run_damaged zero n p q m r is none lt = absurd (omega arith)
  run_damaged (suc fuel) zero p q m same is none lt =
      ap (λ (o : Option LogPosition). (after_step o (λ x. run fuel format length log epoch x) p).found)
      (ap (next format length log epoch) same ∙ is) ∙ run_none fuel m none
  run_damaged (suc fuel) (suc n) p q m r is none lt =
      ap (λ (o : Option LogPosition). (after_step o (λ x. run fuel format length log epoch x) p).found) r.1
      ∙ run_damaged fuel n r.0 q m r.2 is none (omega arith)

  pub runs_damaged : (p q : LogPosition) → RunsTo format length log epoch p q → IsDamaged format length log epoch q
      → (run (log_size format) format length log epoch p).found ≡ None
  runs_damaged p q r d =
      let far = reaches-at format length r.records log epoch p q r.reached in
      let on = step-at format length log epoch q d.place (step-from format length log epoch q d.place d.step) in
      run_damaged (log_size format) r.records p q d.place r.reached d.step d.damaged (omega (arith, far, on.0, on.1))

  pub runs_none : (p : LogPosition) → RunsTo format length log epoch p p
  runs_none p = record { records = 0; reached = refl }

  pub runs_more : (p q m : LogPosition) → RunsTo format length log epoch p q → next format length log epoch q ≡ Some m → RunsTo format length log epoch p m
  runs_more p q m r is = record { records = suc r.records; reached = reaches-step format length r.records log epoch p q m r.reached is }

  pub runs_end : (p q : LogPosition) → RunsTo format length log epoch p q → next format length log epoch q ≡ None → IsLongest format length log epoch p q
  runs_end p q r none = record { records = r.records; reached = r.reached; none = none }

-- what was read, by the variant that it is
pub next_is : (header : Header) (end : LogEnd) (old new : StoredModel) (begun mid : Trace) (x v : Next)
    → mid ≡ begun → x ≡ v → IsNextOf header end old new (reads mid) x → IsNextOf header end old new (reads begun) v
next_is header end old new begun mid x v same is n =
    subst (λ (y : Next). IsNextOf header end old new (reads begun) y) is
    (subst (λ (l : Trace). IsNextOf header end old new (reads l) x) same n)

pub on_is : (header : Header) (from : LogEnd) (x v : Next) → x ≡ v → IsOn header from x → IsOn header from v
on_is header from x v is on = subst (IsOn header from) is on

pub goes_on : (x : Next) (end : LogEnd) (fact : Type 0) → x ≡ After end → Goes x fact → fact
goes_on x end fact is goes = subst (λ (n : Next). Goes n fact) is goes
