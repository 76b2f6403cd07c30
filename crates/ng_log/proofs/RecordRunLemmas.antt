-- Runs of complete records.
use Rattle.std.proofs.Common.{◌≡◌, ◌≢◌, inl, inr, ℕ, zero, suc, ◌+◌, ◌*◌, ◌/◌, ◌%◌, ◌<◌, ◌≤◌, ◌==◌, ◌&&◌, Bool}
use Rattle.std.proofs.Common.{true, false, nat_le, if◌then◌else◌, List, [], ◌∷◌, ◌++◌, drop, Option, Some, None}
use Rattle.std.proofs.Common.{refl, sym, ◌∙◌, ap, subst, arith}
use Rattle.std.proofs.lemmas.Bool.{cases_eq}
use Rattle.std.proofs.lemmas.Bool.Decides.{nat_tests}
use Rattle.ng_params.specs.Change.{with_changes}
use Rattle.ng_rig.specs.Trace.{Image}
use Rattle.ng_layout.specs.Fields.{number_at}
use Rattle.ng_layout.specs.Log.{PartHeader, is_part, parts_stand, change_at, changes_of, ReplayState, LogPosition}
use Rattle.ng_layout.specs.Log.{with_record, parts_for, next, after_step, run}
use Rattle.ng_layout.specs.Areas.{log_size}
use Rattle.ng_layout.specs.Tools.{tools_after}
use Rattle.ng_layout.specs.declared.header.Format.{Format}
use Rattle.ng_layout.specs.Decoding.{and_then, decoded_state_of}
use Rattle.ng_log.specs.Runs.{Reaches, IsClean, IsLongest, EndsAt}

if_some : {A : Type 0} (b : Bool) (x y : A) → (if b then Some x else None) ≡ Some y → (b ≡ true) × (x ≡ y)
if_some true x y e = (refl, cc)
if_some false x y e = absurd (cc)

both : (a b : Bool) → (a && b) ≡ true → (a ≡ true) × (b ≡ true)
both true b e = (refl, e)
both false b e = absurd (cc)

-- the label of a part
abbrev pub part_label : ℕ → ℕ → ℕ → ℕ → ℕ → PartHeader
part_label epoch number part parts changes = record { epoch = epoch; number = number; part = part; parts = parts; changes = changes }

pub parts-frame : (log base : Image) (at : ℕ) (l : PartHeader) (n : ℕ)
    → ((j : ℕ) → j < n → log (at + j) ≡ base (at + j)) → parts_stand log at l n ≡ parts_stand base at l n
unfolding parts_stand
parts-frame log base at l zero same = refl
parts-frame log base at l (suc n) same =
    let one = same n (omega arith) in
    let rest = parts-frame log base at l n (λ j h. same j (omega arith)) in
    λ i. is_part (record l { part = n }) (one i) && rest i

pub parts-part : (log : Image) (at : ℕ) (l : PartHeader) (n j : ℕ) → parts_stand log at l n ≡ true → j < n
    → is_part (record l { part = j }) (log (at + j)) ≡ true
unfolding parts_stand
parts-part log at l zero j stand lt = absurd (omega arith)
parts-part log at l (suc n) j stand lt =
    let b = both (is_part (record l { part = n }) (log (at + n))) (parts_stand log at l n) stand in
    elim (cases_eq j n) [
      | inl same ↦ subst (λ (k : ℕ). is_part (record l { part = k }) (log (at + k)) ≡ true) (sym same) b.0
      | inr other ↦ parts-part log at l n j b.1 (omega arith)
    ]

pub parts-all : (log : Image) (at : ℕ) (l : PartHeader) (n : ℕ)
    → ((j : ℕ) → j < n → is_part (record l { part = j }) (log (at + j)) ≡ true) → parts_stand log at l n ≡ true
unfolding parts_stand
parts-all log at l zero each = refl
parts-all log at l (suc n) each =
    let one = each n (omega arith) in let rest = parts-all log at l n (λ j h. each j (omega arith)) in
    λ i. one i && rest i

pub equal : (m n : ℕ) → (m == n) ≡ true → m ≡ n
equal m n e = grind (arith, nat_tests)

pub all_five : (a b c d e : Bool) → (a && b && c && d && e) ≡ true → (a ≡ true) × (b ≡ true) × (c ≡ true) × (d ≡ true) × (e ≡ true)
all_five true true true true true is = (refl, refl, refl, refl, refl)
all_five true true true true false is = absurd (cc)
all_five true true true false e is = absurd (cc)
all_five true true false d e is = absurd (cc)
all_five true false c d e is = absurd (cc)
all_five false b c d e is = absurd (cc)

-- The numbers of a label are in a part.
pub record Says (l : PartHeader) (sector : List ℕ) : Type 0 where
  pub epoch : number_at 8 0 sector ≡ l.epoch
  pub number : number_at 8 8 sector ≡ l.number
  pub part : number_at 2 16 sector ≡ l.part
  pub parts : number_at 2 18 sector ≡ l.parts
  pub changes : number_at 2 20 sector ≡ l.changes

pub five_true : (a b c d e : Bool) → a ≡ true → b ≡ true → c ≡ true → d ≡ true → e ≡ true → (a && b && c && d && e) ≡ true
five_true a b c d e p q r s t = λ i. p i && q i && r i && s i && t i

pub equals : (m n : ℕ) → m ≡ n → (m == n) ≡ true
equals m n e = grind (arith, nat_tests)

pub says-part : (l : PartHeader) (sector : List ℕ) → Says l sector → is_part l sector ≡ true
unfolding is_part
says-part l sector s = five_true _ _ _ _ _ (equals _ l.epoch s.epoch) (equals _ l.number s.number)
    (equals _ l.part s.part) (equals _ l.parts s.parts) (equals _ l.changes s.changes)

pub part-says : (l : PartHeader) (sector : List ℕ) → is_part l sector ≡ true → Says l sector
unfolding is_part
part-says l sector is =
    let each = all_five (number_at 8 0 sector == l.epoch) (number_at 8 8 sector == l.number)
    (number_at 2 16 sector == l.part) (number_at 2 18 sector == l.parts) (number_at 2 20 sector == l.changes)
    is in
    record {
      epoch = equal _ l.epoch each.0;
      number = equal _ l.number each.1;
      part = equal _ l.part each.2;
      parts =
          equal _ l.parts each.3;
      changes = equal _ l.changes each.4;
    }

-- only the sectors of a record's changes matter
pub changes-frame : (log base : Image) (at n : ℕ)
    → ((j : ℕ) → j < (n + 47) / 48 → log (at + 1 + j) ≡ base (at + 1 + j))
    → changes_of log at n ≡ changes_of base at n
unfolding changes_of
changes-frame log base at zero same = refl
changes-frame log base at (suc n) same =
    let rest = changes-frame log base at n (λ j h. same j (omega arith)) in
    let one = same (n / 48) (omega arith) in
    λ i. and_then (rest i) (λ earlier. and_then (change_at (one i) (32 + 10 * (n % 48))) (λ change. Some (earlier ++ change ∷ [])))

pub record-frame : (format : Format) (length : ℕ) (log base : Image) (at changes : ℕ) (before : ReplayState)
    → ((j : ℕ) → j < parts_for changes → log (at + j) ≡ base (at + j))
    → with_record format length log at changes before ≡ with_record format length base at changes before
record-frame format length log base at changes before same =
    let zero_is : at + 0 ≡ at = omega arith in
    let head : log at ≡ base at = subst (λ (n : ℕ). log n ≡ base n) zero_is (same 0 (omega arith)) in
    let tail : changes_of log at changes ≡ changes_of base at changes = changes-frame log base at changes
    (λ j lt. let e : at + 1 + j ≡ at + (1 + j) = omega arith in subst (λ (n : ℕ). log n ≡ base n) (sym e)
    (same (1 + j) (omega arith))) in
    λ i. and_then (decoded_state_of length (drop 32 (head i)))
    (λ decoded. and_then (tail i)
    (λ made. and_then (tools_after format (head i) before.tools)
    (λ tools. Some (record { decoded = decoded; params = with_changes before.params made; tools = tools }))))

-- the position after a record with this many parts and changes
abbrev pub position_after : Format → ℕ → Image → LogPosition → ℕ → ℕ → LogPosition
position_after format length log p parts changes =
    record {
      at = p.at + parts;
      number = p.number + 1;
      found =
          and_then p.found (λ before. with_record format length log p.at changes before);
    }

-- A complete record leads from one position to another.
pub record Step (format : Format) (length : ℕ) (log : Image) (epoch : ℕ) (p q : LogPosition) : Type 0 where
  pub parts : ℕ
  pub changes : ℕ
  pub parts_are : number_at 2 18 (log p.at) ≡ parts
  pub changes_are : number_at 2 20 (log p.at) ≡ changes
  pub counted : parts ≡ parts_for changes
  pub room : p.at + parts ≤ log_size format
  pub stand : parts_stand log p.at (part_label epoch p.number 0 parts changes) parts ≡ true
  pub is : q ≡ position_after format length log p parts changes

tests : (parts changes at size : ℕ) (b : Bool) → ((parts == parts_for changes) && nat_le (at + parts) size && b)
    ≡ true → (parts ≡ parts_for changes) × (at + parts ≤ size) × (b ≡ true)
tests parts changes at size true e = (grind (arith, nat_tests), grind (arith, nat_tests), refl)
tests parts changes at size false e = absurd (grind (arith, nat_tests))

pub step-from : (format : Format) (length : ℕ) (log : Image) (epoch : ℕ) (p q : LogPosition)
    → next format length log epoch p ≡ Some q → Step format length log epoch p q
unfolding next
step-from format length log epoch p q e =
    let parts = number_at 2 18 (log p.at) in
    let changes = number_at 2 20 (log p.at) in
    let stand = parts_stand log p.at (part_label epoch p.number 0 parts changes) parts in
    let c = if_some ((parts == parts_for changes) && nat_le (p.at + parts) (log_size format) && stand) (position_after format length log p parts changes) q e in
    let t = tests parts changes p.at (log_size format) stand c.0 in
    record { parts = parts; changes = changes; parts_are = refl; changes_are = refl; counted = t.0; room = t.1; stand = t.2; is = sym c.1 }

tested : (parts changes at size : ℕ) (b : Bool) → parts ≡ parts_for changes → at + parts ≤ size → b ≡ true
    → ((parts == parts_for changes) && nat_le (at + parts) size && b) ≡ true
tested parts changes at size b p q r = grind (arith, nat_tests)

if_true : {A : Type 0} (b : Bool) (x : A) → b ≡ true → (if b then Some x else None) ≡ Some x
if_true b x p = λ i. if p i then Some x else None

pub step-to : (format : Format) (length : ℕ) (log : Image) (epoch : ℕ) (p q : LogPosition)
    → Step format length log epoch p q → next format length log epoch p ≡ Some q
unfolding next
step-to format length log epoch p q s =
    subst (λ (n : ℕ). (if (n == parts_for (number_at 2 20 (log p.at))) && nat_le (p.at + n) (log_size format) &&
    parts_stand log p.at (part_label epoch p.number 0 n (number_at 2 20 (log p.at))) n then Some
    (position_after format length log p n (number_at 2 20 (log p.at))) else None) ≡ Some q) (sym s.parts_are)
    (subst (λ (c : ℕ). (if (s.parts == parts_for c) && nat_le (p.at + s.parts) (log_size format) && parts_stand log
    p.at (part_label epoch p.number 0 s.parts c) s.parts then Some
    (position_after format length log p s.parts c) else None) ≡ Some q) (sym s.changes_are)
    (if_true _ (position_after format length log p s.parts s.changes)
    (tested s.parts s.changes p.at (log_size format) _ s.counted s.room s.stand)
    ∙ ap (λ (x : LogPosition). Some x) (sym s.is)))

pub step-frame : (format : Format) (length : ℕ) (log base : Image) (epoch : ℕ) (p q : LogPosition)
    → Step format length base epoch p q → ((m : ℕ) → p.at ≤ m → m < q.at → log m ≡ base m)
    → Step format length log epoch p q
step-frame format length log base epoch p q s same =
    let end : q.at ≡ p.at + s.parts = ap (λ (x : LogPosition). x.at) s.is in
    let there : (j : ℕ) → j < s.parts → log (p.at + j) ≡ base (p.at + j) = λ j h. same (p.at + j) (omega arith) (omega (arith, end)) in
    let some : 0 < s.parts = omega (arith, s.counted) in
    let head : log p.at ≡ base p.at = same p.at (omega arith) (omega (arith, end, some)) in
    let inside : (before : ReplayState) → with_record format length base p.at s.changes before ≡ with_record format
    length log p.at s.changes before = λ before.
    sym (record-frame format length log base p.at s.changes before
    (λ j lt. there j (omega (arith, s.counted, lt)))) in
    record {
      parts = s.parts;
      changes = s.changes;
      parts_are = ap (number_at 2 18) head ∙ s.parts_are;
      changes_are = ap (number_at 2 20) head ∙ s.changes_are;
      counted = s.counted;
      room = s.room;
      stand = parts-frame log base p.at (part_label epoch p.number 0 s.parts s.changes) s.parts there ∙ s.stand;
      is = s.is ∙ (λ i. record { at = p.at + s.parts; number = p.number + 1; found = and_then p.found (λ before. inside before i) });
    }

pub step-at : (format : Format) (length : ℕ) (log : Image) (epoch : ℕ) (p q : LogPosition)
    → Step format length log epoch p q → (p.at + 1 ≤ q.at) × (q.at ≤ log_size format)
step-at format length log epoch p q s = let end : q.at ≡ p.at + s.parts = ap (λ (x : LogPosition). x.at) s.is in
    (omega (arith, s.counted, end), omega (arith, s.room, end))

pub step-number : (format : Format) (length : ℕ) (log : Image) (epoch : ℕ) (p q : LogPosition) → Step format length log epoch p q → q.number ≡ p.number + 1
step-number format length log epoch p q s = ap (λ (x : LogPosition). x.number) s.is

module _ (format : Format) (length : ℕ) where
  pub reaches-at : (n : ℕ) (log : Image) (epoch : ℕ) (p q : LogPosition) → Reaches n format length log epoch p q → p.at + n ≤ q.at
  reaches-at zero log epoch p q is = let e : p.at ≡ q.at = ap (λ (x : LogPosition). x.at) is in omega arith
  reaches-at (suc n) log epoch p q r = let one = step-at format length log epoch p r.0
      (step-from format length log epoch p r.0 r.1) in omega (arith, one.0, reaches-at n log epoch r.0 q r.2)

  -- only the sectors before the end matter
  pub reaches-frame : (n : ℕ) (log base : Image) (epoch : ℕ) (p q : LogPosition)
      → Reaches n format length base epoch p q → ((m : ℕ) → p.at ≤ m → m < q.at → log m ≡ base m)
      → Reaches n format length log epoch p q
  reaches-frame zero log base epoch p q is same = is
  reaches-frame (suc n) log base epoch p q r same =
      let s = step-from format length base epoch p r.0 r.1 in
      let one = (step-at format length base epoch p r.0 s).0 in
      let rest = reaches-at n base epoch r.0 q r.2 in (
        r.0,
        step-to format length log epoch p r.0 (step-frame format length log base epoch p r.0 s (λ m ge lt. same m ge (omega (arith, rest)))),
        reaches-frame n log base epoch r.0 q r.2 (λ m ge lt. same m (omega (arith, one)) lt),
      )

  pub reaches-step : (n : ℕ) (log : Image) (epoch : ℕ) (p q last : LogPosition)
      → Reaches n format length log epoch p q → next format length log epoch q ≡ Some last
      → Reaches (suc n) format length log epoch p last
  reaches-step zero log epoch p q last is step = (last, ap (next format length log epoch) is ∙ step, refl)
  reaches-step (suc n) log epoch p q last r step = (r.0, r.1, reaches-step n log epoch r.0 q last r.2 step)

  pub run-reaches : (fuel n : ℕ) (log : Image) (epoch : ℕ) (p q : LogPosition)
      → Reaches n format length log epoch p q → next format length log epoch q ≡ None → n ≤ fuel
      → run fuel format length log epoch p ≡ q
  unfolding run
  run-reaches zero zero log epoch p q is none le = is
  run-reaches zero (suc n) log epoch p q r none le = absurd (omega arith)
  run-reaches (suc fuel) zero log epoch p q is none le =
      ap (λ (o : Option LogPosition). after_step o (λ m. run fuel format length log epoch m) p)
      (ap (next format length log epoch) is ∙ none) ∙ is
  run-reaches (suc fuel) (suc n) log epoch p q r none le =
      ap (λ (o : Option LogPosition). after_step o (λ m. run fuel format length log epoch m) p) r.1
      ∙ run-reaches fuel n log epoch r.0 q r.2 none (omega arith)

  -- the longest run is what the definition finds
  pub run-longest : (log : Image) (epoch : ℕ) (p q : LogPosition) → IsLongest format length log epoch p q
      → q.at ≤ log_size format → run (log_size format) format length log epoch p ≡ q
  run-longest log epoch p q l room = let far = reaches-at l.records log epoch p q l.reached in run-reaches
      (log_size format) l.records log epoch p q l.reached l.none (omega (arith, far, room))

pub not_some : (o : Option LogPosition) → ((m : LogPosition) → o ≡ Some m → ⊥) → o ≡ None
not_some None never = refl
not_some (Some m) never = absurd (never m refl)

module _ (format : Format) (length : ℕ) (log : Image) (epoch : ℕ) (p : LogPosition) where
  -- a part is missing
  pub torn-first : (p.at < log_size format → number_at 8 0 (log (p.at + 0)) ≢ epoch) → next format length log epoch p ≡ None
  torn-first other = not_some (next format length log epoch p) (λ m is.
      let s = step-from format length log epoch p m is in
      other (omega (arith, s.counted, s.room))
      (part-says _ (log (p.at + 0)) (parts-part log p.at (part_label epoch p.number 0 s.parts s.changes) s.parts
      0 s.stand (omega (arith, s.counted)))).epoch)

  pub torn-next : (parts j : ℕ) → number_at 2 18 (log p.at) ≡ parts → j < parts → number_at 8 0 (log (p.at + j)) ≢ epoch → next format length log epoch p ≡ None
  torn-next parts j is lt other = not_some (next format length log epoch p) (λ m e.
      let s = step-from format length log epoch p m e in
      let same : s.parts ≡ parts = sym s.parts_are ∙ is in
      other (part-says _ (log (p.at + j)) (parts-part log p.at (part_label epoch p.number 0 s.parts s.changes) s.parts j s.stand (omega (arith, same)))).epoch)

  -- after a clean end there is nothing more
  pub clean-next : IsClean (log_size format) log epoch p.at → next format length log epoch p ≡ None
  clean-next clean = torn-first (λ lt. clean.none (p.at + 0) (omega arith) (omega arith))

pub ends-longest : (format : Format) (length : ℕ) (log : Image) (epoch : ℕ) (first last : LogPosition)
    → EndsAt format length log epoch first last → IsLongest format length log epoch first last
ends-longest format length log epoch first last e = record { records = e.records; reached = e.reached; none = clean-next format length log epoch last e.clean }

-- this many complete records lead from one position to another
pub record RunsTo (format : Format) (length : ℕ) (log : Image) (epoch : ℕ) (first last : LogPosition) : Type 0 where
  pub records : ℕ
  pub reached : Reaches records format length log epoch first last
