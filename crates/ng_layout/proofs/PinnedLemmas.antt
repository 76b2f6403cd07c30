-- Sectors that hold the same are the same.
use Rattle.std.proofs.Common.{◌≡◌, inl, inr, ◌==◌, ◌&&◌, ℕ, zero, suc, ◌+◌, ◌-◌, ◌*◌, ◌/◌, ◌<◌, ◌≤◌, Bool, true, List}
use Rattle.std.proofs.Common.{[], ◌∷◌, ◌++◌, length, drop, get_or, ℤ, pos, Option, Some, refl, sym, ◌∙◌, ap, subst}
use Rattle.std.proofs.Common.{arith}
use Rattle.std.proofs.lemmas.Bool.Decides.{nat_tests}
use Rattle.std.proofs.lemmas.List.{length-take}
use Rattle.std.proofs.lemmas.List.Elements.{All-drop}
use Rattle.std.proofs.lemmas.Option.{same_Some}
use Rattle.ng_num.specs.declared.point.Point.{Point}
use Rattle.ng_params.specs.Numbers.{index_of}
use Rattle.ng_params.specs.declared.change.Change.{Change}
use Rattle.ng_offsets.specs.declared.tools.SlotChange.{SlotChange}
use Rattle.ng_layout.specs.Decoding.{point_at, count_of}
use Rattle.ng_layout.specs.Encoding.{HoldsDecodedState}
use Rattle.ng_layout.specs.Fields.{number_at, signed_at, AreZero}
use Rattle.ng_layout.specs.Header.{is_marked, header_at}
use Rattle.ng_layout.specs.Log.{PartHeader, is_part, change_at}
use Rattle.ng_layout.specs.Part.{changes_in, piece, HoldsLabel, HoldsState, HoldsChanges}
use Rattle.ng_layout.specs.Pinned.{AreBytes, IsSector, PinsField, PinsHeader, PinsPart, PinsToolPart, PinsText, PinsRecordPart}
use Rattle.ng_layout.specs.Sectors.{HoldsValues}
use Rattle.ng_layout.specs.Snapshot.{HoldsLengths}
use Rattle.ng_layout.specs.Stored.{DecodedStateModel, StoredModel}
use Rattle.ng_layout.specs.declared.header.Header.{Header}
use Rattle.ng_layout.proofs.FieldLemmas.{taken, point-says, FieldSays, field-says}
use Rattle.ng_layout.proofs.SameLemmas.{lt_cases, SameBetween, join, part-of, after, number-same, signed-same, bytes-same}
use Rattle.ng_layout.proofs.SameLemmas.{zeros-same, same-take, same-whole}
use Rattle.ng_layout.proofs.ValueLemmas.{motion-one, plane-one, distance-one, feed_mode-one, unit-one, retract-one}
use Rattle.ng_layout.proofs.ValueLemmas.{path-one, spindle-one, truth-one, source-one, opened-one, most-one, count-one}
use Rattle.ng_layout.proofs.ValueLemmas.{rate-one, system-one, index-one, bits-one}

-- The state field, its numbers in the order of their places.
module _ (program : ℕ) (state : DecodedStateModel) (one other : List ℕ) (are : AreBytes one) (are' : AreBytes other)
    (held : HoldsDecodedState program state one) (held' : HoldsDecodedState program state other) where
  says : FieldSays program one state
  says = field-says program one state held.read

  says' : FieldSays program other state
  says' = field-says program other state held'.read

  number : (w at : ℕ) → number_at w at one ≡ number_at w at other → SameBetween at (at + w) one other
  number w at is = number-same one other are are' w at is

  signed : (at : ℕ) → signed_at at one ≡ signed_at at other → SameBetween at (at + 8) one other
  signed at is = signed-same one other are are' at is

  point : (at : ℕ) (p : Point) → point_at at one ≡ Some p → point_at at other ≡ Some p
      → SameBetween at (at + 24) one other
  point at p is is' =
      let a = point-says at one p is in
      let b = point-says at other p is' in
      join (signed at (a.x ∙ sym b.x)) (join (signed (at + 8) (a.y ∙ sym b.y))
      (part-of (at + 16) (at + 16 + 8) (at + 8 + 8) (at + 24) one other (signed (at + 16) (a.z ∙ sym b.z))
      (omega arith) (omega arith)))

  counts : SameBetween 0 56 one other
  counts =
      let a = says.modal in
      let b = says'.modal in
      join (number 8 0 (says.entries ∙ sym says'.entries)) (join (number 8 8 (says.place ∙ sym says'.place))
      (join (point 16 _ a.point b.point) (join (number 8 40 (rate-one _ _ _ a.feed b.feed))
      (number 8 48 (rate-one _ _ _ a.outputs.speed b.outputs.speed)))))

  offsets : SameBetween 56 112 one other
  offsets =
      let a = says.modal.offsets in
      let b = says'.modal.offsets in
      join (point 56 _ a.g92 b.g92) (join (point 80 _ a.origin b.origin) (signed 104 (a.tool_length ∙ sym b.tool_length)))

  words : SameBetween 112 144 one other
  words =
      let a = held.words in
      let b = held'.words in
      join (signed 112 (a.r ∙ sym b.r)) (join (signed 120 (a.z ∙ sym b.z)) (join (signed 128 (a.p ∙ sym b.p))
      (signed 136 (a.q ∙ sym b.q))))

  modes : SameBetween 144 152 one other
  modes =
      let a = says.modal.modes in
      let b = says'.modal.modes in
      join (number 1 144 (motion-one _ _ _ a.motion b.motion)) (join (number 1 145 (plane-one _ _ _ a.plane b.plane))
      (join (number 1 146 (distance-one _ _ _ a.distance b.distance))
      (join (number 1 147 (feed_mode-one _ _ _ a.feed_mode b.feed_mode))
      (join (number 1 148 (unit-one _ _ _ a.unit b.unit)) (join (number 1 149 (retract-one _ _ _ a.retract b.retract))
      (join (number 1 150 (system-one _ _ _ a.system b.system)) (number 1 151 (path-one _ _ _ a.path b.path))))))))

  switches : SameBetween 152 162 one other
  switches =
      let a = says.modal in
      let b = says'.modal in
      join (number 1 152 (spindle-one _ _ _ a.outputs.spindle b.outputs.spindle))
      (join (number 1 153 (truth-one _ _ _ a.outputs.mist b.outputs.mist))
      (join (number 1 154 (truth-one _ _ _ a.outputs.flood b.outputs.flood))
      (join (number 1 155 (truth-one _ _ _ a.modes.overrides b.modes.overrides))
      (join (number 1 156 (truth-one _ _ _ a.point_known b.point_known))
      (join (number 1 157 (bits-one _ _ state.modal.kept a.kept b.kept))
      (join (number 2 158 (most-one _ _ _ a.outputs.selected_slot ∙ sym (most-one _ _ _ b.outputs.selected_slot)))
      (number 2 160 (most-one _ _ _ a.outputs.spindle_slot ∙ sym (most-one _ _ _ b.outputs.spindle_slot)))))))))

  half : SameBetween 162 456 one other
  half =
      let a = says.half in
      let b = says'.half in
      let c = held.half in
      let d = held'.half in
      join (number 1 162 (source-one _ _ _ a.source b.source)) (join (number 1 163 (opened-one _ _ _ a.opened b.opened))
      (join (number 1 164 (truth-one _ _ _ a.known b.known)) (join (number 1 165 (c.unused ∙ sym d.unused))
      (join (number 2 166 (c.text_length ∙ sym d.text_length)) (join (number 8 168 (c.index ∙ sym d.index))
      (join (point 176 _ c.point d.point) (bytes-same 256 200 one other (c.text ∙ sym d.text))))))))

  field-same : SameBetween 0 456 one other
  field-same = join counts (join offsets (join words (join modes (join switches half))))

pub field-pinned : PinsField
field-pinned program state one other has has' held held' = same-take 456 one other has.long has'.long
    (field-same program state one other has.bytes has'.bytes held held')

told : (m n : ℕ) → (m == n) ≡ true → m ≡ n
told m n same = grind (arith, nat_tests)

pub header-pinned : PinsHeader
unfolding is_marked header_at
header-pinned header one other is is' held held' =
    let number : (w at : ℕ) → number_at w at one ≡ number_at w at other → SameBetween at (at + w) one other =
    λ w at same. number-same one other is.bytes is'.bytes w at same in
    let a = held.header in
    let b = held'.header in
    same-whole 512 one other is.whole is'.whole
    (join (number 8 0 (told _ _ held.marked ∙ sym (told _ _ held'.marked)))
    (join (number 4 8 (held.format ∙ sym held'.format)) (join (zeros-same 4 12 one other held.gap held'.gap)
    (join (number 8 16 (ap (λ (h : Header). h.epoch) a ∙ sym (ap (λ (h : Header). h.epoch) b)))
    (join (number 8 24 (ap (λ (h : Header). h.area) a ∙ sym (ap (λ (h : Header). h.area) b)))
    (join (number 8 32 (ap (λ (h : Header). h.length) a ∙ sym (ap (λ (h : Header). h.length) b)))
    (zeros-same 472 40 one other held.rest held'.rest)))))))

-- 64 values of 8 bytes from an index on, and 0 past the last one
record HoldsEights (value : ℕ → ℤ) (first end : ℕ) (sector : List ℕ) : Type 0 where
  each : (k : ℕ) → k < 64 → first + k < end → signed_at (8 * k) sector ≡ value (first + k)
  past : (k : ℕ) → k < 64 → end ≤ first + k → AreZero (512 - 8 * k) (8 * k) sector

eights-same : (value : ℕ → ℤ) (first end : ℕ) (one other : List ℕ) → AreBytes one → AreBytes other
    → HoldsEights value first end one → HoldsEights value first end other → SameBetween 0 512 one other
eights-same value first end one other are are' held held' =
    record { each = λ k low high. (eight (k / 8) (omega arith)).each k (omega arith) (omega arith) }
  where
    eight : (k : ℕ) → k < 64 → SameBetween (8 * k) (8 * k + 8) one other
    eight k lt = elim (lt_cases (first + k) end) [
      | inl here ↦ signed-same one other are are' (8 * k) (held.each k lt here ∙ sym (held'.each k lt here))
      | inr past ↦ part-of (8 * k) (8 * k + (512 - 8 * k)) (8 * k) (8 * k + 8) one other
          (zeros-same (512 - 8 * k) (8 * k) one other (held.past k lt past) (held'.past k lt past))
          (omega arith) (omega arith)
    ]

values-eights : (table : List ℤ) (first : ℕ) (sector : List ℕ) → HoldsValues table first sector
    → HoldsEights (λ p. get_or table p (pos 0)) first 5399 sector
values-eights table first sector held = record { each = held.each; past = held.past }

lengths-eights : (tools : List ℤ) (first : ℕ) (sector : List ℕ) → HoldsLengths tools first sector
    → HoldsEights (λ p. get_or tools p (pos 0)) first (length tools) sector
lengths-eights tools first sector held = record { each = held.each; past = held.past }

pub part-pinned : PinsPart
part-pinned saved zero one other is is' held held' =
    same-whole 512 one other is.whole is'.whole
    (join (field-same saved.length _ one other is.bytes is'.bytes (held.state refl) (held'.state refl))
    (join (number-same one other is.bytes is'.bytes 2 456 (held.slots refl ∙ sym (held'.slots refl)))
    (zeros-same 54 458 one other (held.rest refl) (held'.rest refl))))
part-pinned saved (suc i) one other is is' held held' =
    let table = saved.setup.params in
    let nth : suc i ≡ 1 + i = omega arith in
    same-whole 512 one other is.whole is'.whole (eights-same _ (64 * i) 5399 one other is.bytes is'.bytes
    (values-eights table (64 * i) one (held.values i nth)) (values-eights table (64 * i) other (held'.values i nth)))

pub tool_part-pinned : PinsToolPart
tool_part-pinned saved part one other is is' held held' =
    let tools = saved.tools in
    same-whole 512 one other is.whole is'.whole
    (eights-same _ (64 * part) (length tools) one other is.bytes is'.bytes
    (lengths-eights tools (64 * part) one held) (lengths-eights tools (64 * part) other held'))

pub text-pinned : PinsText
text-pinned text first one other is is' held held' = same-whole 512 one other is.whole is'.whole
    (record { each = λ k low high. held.each k high ∙ sym (held'.each k high) })

-- the numbers of a part's label
record LabelSays (l : PartHeader) (sector : List ℕ) : Type 0 where
  epoch : number_at 8 0 sector ≡ l.epoch
  number : number_at 8 8 sector ≡ l.number
  part : number_at 2 16 sector ≡ l.part
  parts : number_at 2 18 sector ≡ l.parts
  changes : number_at 2 20 sector ≡ l.changes

both : (rest : Bool) (m n : ℕ) → (rest && (m == n)) ≡ true → (rest ≡ true) × (m ≡ n)
both rest m n same = (grind (arith, nat_tests), grind (arith, nat_tests))

label-says : (l : PartHeader) (sector : List ℕ) → is_part l sector ≡ true → LabelSays l sector
unfolding is_part
label-says l sector is =
    let e = both _ _ l.changes is in
    let d = both _ _ l.parts e.0 in
    let c = both _ _ l.part d.0 in
    let b = both _ _ l.number c.0 in
    record { epoch = told _ l.epoch b.0; number = b.1; part = c.1; parts = d.1; changes = e.1 }

no-last : {A : Type 0} (xs : List A) (x : A) → [] ≡ xs ++ x ∷ [] → ⊥
no-last [] x same = cc
no-last (a ∷ xs) x same = cc

-- Lists with one element more are the same if they are without it, and it is the same.
last-same : {A : Type 0} (xs ys : List A) (x y : A) → xs ++ x ∷ [] ≡ ys ++ y ∷ [] → (xs ≡ ys) × (x ≡ y)
last-same [] [] x y same = (refl, cc)
last-same [] (b ∷ ys) x y same = let rest : [] ≡ ys ++ y ∷ [] = cc in absurd (no-last ys y rest)
last-same (a ∷ xs) [] x y same = let rest : [] ≡ xs ++ x ∷ [] = cc in absurd (no-last xs x rest)
last-same (a ∷ xs) (b ∷ ys) x y same =
    let rest : xs ++ x ∷ [] ≡ ys ++ y ∷ [] = cc in
    let front : a ≡ b = cc in
    let parts = last-same xs ys x y rest in
    ((λ i. front i ∷ parts.0 i), parts.1)

record ChangeSays (at : ℕ) (sector : List ℕ) (change : Change) : Type 0 where
  index : index_of (pos (number_at 2 at sector)) ≡ Some change.index
  value : signed_at (at + 2) sector ≡ change.value

change-says : (at : ℕ) (sector : List ℕ) (change : Change) → change_at sector at ≡ Some change
    → ChangeSays at sector change
change-says at sector change is =
    taken (index_of (pos (number_at 2 at sector))) _ change is (λ index a a'.
    taken (count_of (signed_at (at + 2) sector)) _ change a' (λ value b b'.
    subst (λ (c : Change). ChangeSays at sector c) (same_Some _ change b')
    (record { index = a; value = count-one _ value b })))

-- A part of a record.
module _ (one other : List ℕ) (is : IsSector one) (is' : IsSector other) where
  at-number : (w at : ℕ) → number_at w at one ≡ number_at w at other → SameBetween at (at + w) one other
  at-number w at same = number-same one other is.bytes is'.bytes w at same

  at-signed : (at : ℕ) → signed_at at one ≡ signed_at at other → SameBetween at (at + 8) one other
  at-signed at same = signed-same one other is.bytes is'.bytes at same

  label-same : (l : PartHeader) → HoldsLabel l one → HoldsLabel l other → SameBetween 0 32 one other
  label-same l held held' =
      let a = label-says l one held.is in
      let b = label-says l other held'.is in
      join (at-number 8 0 (a.epoch ∙ sym b.epoch)) (join (at-number 8 8 (a.number ∙ sym b.number))
      (join (at-number 2 16 (a.part ∙ sym b.part)) (join (at-number 2 18 (a.parts ∙ sym b.parts))
      (join (at-number 2 20 (a.changes ∙ sym b.changes)) (zeros-same 10 22 one other held.gap held'.gap)))))

  state-same : (saved : StoredModel) (change : Option SlotChange) → HoldsState saved change one
      → HoldsState saved change other → SameBetween 32 512 one other
  state-same saved change held held' =
      join (after 32 456 one other (field-same saved.length _ (drop 32 one) (drop 32 other)
      (All-drop (λ byte. byte < 256) 32 one is.bytes) (All-drop (λ byte. byte < 256) 32 other is'.bytes)
      held.state held'.state))
      (join (at-number 2 488 (held.slot ∙ sym held'.slot)) (join (zeros-same 6 490 one other held.between held'.between)
      (join (at-signed 496 (held.tool ∙ sym held'.tool)) (zeros-same 8 504 one other held.rest held'.rest))))

  change-same : (at : ℕ) (change : Change) → change_at one at ≡ Some change → change_at other at ≡ Some change
      → SameBetween at (at + 10) one other
  change-same at change there there' =
      let a = change-says at one change there in
      let b = change-says at other change there' in
      join (at-number 2 at (index-one _ _ _ a.index b.index)) (part-of (at + 2) (at + 2 + 8) (at + 2) (at + 10) one other
      (at-signed (at + 2) (a.value ∙ sym b.value)) (omega arith) (omega arith))

  changes-same : (n : ℕ) (changes : List Change) → changes_in one n ≡ Some changes → changes_in other n ≡ Some changes
      → SameBetween 32 (32 + 10 * n) one other
  unfolding changes_in
  changes-same zero changes made made' = record { each = λ k low high. absurd (omega arith) }
  changes-same (suc n) changes made made' =
      taken (changes_in one n) _ changes made (λ before a a'.
      taken (change_at one (32 + 10 * n)) _ changes a' (λ change b b'.
      taken (changes_in other n) _ changes made' (λ before' c c'.
      taken (change_at other (32 + 10 * n)) _ changes c' (λ change' d d'.
      let same = last-same before before' change change' (same_Some _ changes b' ∙ sym (same_Some _ changes d')) in
      let first = changes-same n before a (c ∙ ap (λ (xs : List Change). Some xs) (sym same.0)) in
      let last = change-same (32 + 10 * n) change b (d ∙ ap (λ (x : Change). Some x) (sym same.1)) in
      join first (part-of _ _ (32 + 10 * n) (32 + 10 * suc n) one other last (omega arith) (omega arith))))))

  all-changes-same : (changes : List Change) → length changes ≤ 48 → HoldsChanges changes one
      → HoldsChanges changes other → SameBetween 32 512 one other
  all-changes-same changes few held held' =
      let n = length changes in
      join (changes-same n changes held.made held'.made) (part-of _ _ (32 + 10 * n) 512 one other
      (zeros-same (480 - 10 * n) (32 + 10 * n) one other held.rest held'.rest) (omega arith) (omega arith))

few-changes : (i : ℕ) (all : List Change) → length (piece i all) ≤ 48
few-changes i all = omega (arith, length-take 48 (drop (48 * i) all))

pub record_part-pinned : PinsRecordPart
record_part-pinned label saved all slot one other is is' held held' =
    same-whole 512 one other is.whole is'.whole
    (join (label-same one other is is' label held.label held'.label) (content label.part refl))
  where
    content : (part : ℕ) → label.part ≡ part → SameBetween 32 512 one other
    content zero first = state-same one other is is' saved slot (held.state first) (held'.state first)
    content (suc i) later =
        let nth : label.part ≡ 1 + i = omega arith in
        all-changes-same one other is is' (piece i all) (few-changes i all) (held.changes i nth) (held'.changes i nth)
