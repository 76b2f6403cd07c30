-- Tool tables: a change that was written reads back.
use Rattle.std.proofs.Common.{◌≡◌, ◌≢◌, ◌≤◌, ◌<◌, ◌⊎◌, inl, inr, ℕ, zero, suc, ◌+◌, ◌-◌, ◌*◌, ◌/◌, ◌%◌, ◌==◌, ◌&&◌}
use Rattle.std.proofs.Common.{nat_le, if◌then◌else◌, Bool, true, false, List, [], ◌∷◌, ◌++◌, length, get_or}
use Rattle.std.proofs.Common.{replicate, set, ℤ, pos, Option, Some, None, refl, sym, ◌∙◌, ap, subst, arith}
use Rattle.std.proofs.Common.{length-append, add-one}
use Rattle.std.proofs.lemmas.Bool.{cases_eq, cases_lt}
use Rattle.std.proofs.lemmas.List.{get_or_append_left, get_or-append_right}
use Rattle.ng_layout.proofs.ByteLemmas.{signed-below, from-more, from-further}
use Rattle.ng_layout.proofs.SectorLemmas.{zeros-from}
use Rattle.std.specs.Prelude.{MatchBool, IfSome, negsuc}
use Rattle.std.proofs.lemmas.Bool.Decides.{nat_tests, Decides-int_eq}
use Rattle.std.specs.Ordering.{int_eq}
use Rattle.ng_offsets.specs.Tools.{length_of_slot, with_slot, with_change, change_from, first_change, IsSlotChange, IsOneSlotFrom, IsToolLength}
use Rattle.ng_offsets.specs.declared.tools.SlotChange.{SlotChange}
use Rattle.ng_layout.specs.Fields.{number_at, signed_at, AreZero, SameFrom, Puts}
use Rattle.ng_layout.specs.Part.{slot_number, slot_length}
use Rattle.ng_layout.specs.Decoding.{and_then, up_to}
use Rattle.ng_layout.specs.Storable.{IsStorableChange, IsStorableTools}
use Rattle.ng_layout.specs.Tools.{tools_in, tool_length_of, lengths_in, slot_change_by, slot_change_in, tools_after}
use Rattle.ng_layout.specs.declared.header.Format.{Format}
use Rattle.ng_layout.specs.declared.header.Format.TheVariants.{One, Two}

pub length-back : (n : ℤ) → IsToolLength n → tool_length_of n ≡ Some n
length-back (pos n) small = let b = small.most in grind (arith, nat_tests)
length-back (negsuc n) small = absurd (let a = small.least in omega arith)

by-slot : (slots slot : ℕ) (tool : ℤ) → 1 ≤ slot → slot ≤ slots + 1 → slot ≤ 128 → tool_length_of tool ≡ Some tool
    → slot_change_by slots slot tool ≡ Some (Some (record { slot = slot; length = tool }))
by-slot slots slot tool low next most back =
    let a : (slot == 0) ≡ false = grind (arith, nat_tests) in
    let b : (nat_le slot (slots + 1) && nat_le slot 128) ≡ true = grind (arith, nat_tests) in
    (λ i. and_then (back i) (λ n. if a i then Some None else if b i then Some (Some (record { slot = slot; length = n })) else None))

change-back : (slots : List ℤ) (change : Option SlotChange) → IfSome change (IsStorableChange slots)
    → slot_change_by (length slots) (slot_number change) (slot_length change) ≡ Some change
change-back slots None valid = refl
change-back slots (Some change) valid = by-slot (length slots) change.slot change.length valid.slot.from
    valid.slot.to valid.most (length-back change.length valid.tool)

pub tools-made : (format : Format) (sector : List ℕ) (tools : List ℤ) (change : Option SlotChange) → format ≡ Two
    → number_at 2 488 sector ≡ slot_number change → signed_at 496 sector ≡ slot_length change
    → IfSome change (IsStorableChange tools) → tools_after format sector tools ≡ Some (with_change change tools)
unfolding slot_change_in
tools-made One sector tools change is slot tool valid = absurd (cc)
tools-made Two sector tools change is slot tool valid =
    let back : slot_change_in (length tools) sector ≡ Some change = (λ i. slot_change_by (length tools) (slot i) (tool i)) ∙ change-back tools change valid in
    λ i. and_then (back i) (λ c. Some (with_change c tools))

-- ---- what is read from a tool area

module _ (area : ℕ → List ℕ) where
  abbrev one_at : ℕ → Option ℤ
  one_at n = tool_length_of (signed_at (8 * (n % 64)) (area (n / 64)))

  suc-more : (n : ℕ) (xs : List ℤ) (o : Option ℤ) → lengths_in area n ≡ Some xs → one_at n ≡ o
      → lengths_in area (suc n) ≡ and_then o (λ tool. Some (xs ++ tool ∷ []))
  unfolding lengths_in
  suc-more n xs o before one = λ i. and_then (before i) (λ earlier. and_then (one i) (λ tool. Some (earlier ++ tool ∷ [])))

  none-suc : (n : ℕ) → lengths_in area n ≡ None → lengths_in area (suc n) ≡ None
  unfolding lengths_in
  none-suc n none = λ i. and_then (none i) (λ earlier. and_then (one_at n) (λ tool. Some (earlier ++ tool ∷ [])))

  none-later : (k n : ℕ) → lengths_in area k ≡ None → lengths_in area (k + n) ≡ None
  none-later k zero none = let e : k + 0 ≡ k = omega arith in ap (lengths_in area) e ∙ none
  none-later k (suc n) none = let e : k + suc n ≡ suc (k + n) = omega arith in ap (lengths_in area) e ∙ none-suc (k + n) (none-later k n none)

  module _ (part k : ℕ) (sector : List ℕ) (there : area part ≡ sector) (lt : k < 64) where
    here : one_at (64 * part + k) ≡ tool_length_of (signed_at (8 * k) sector)
    here =
        let place : (64 * part + k) % 64 ≡ k = omega arith in
        let sect : (64 * part + k) / 64 ≡ part = omega arith in
        (λ i. tool_length_of (signed_at (8 * place i) (area (sect i)))) ∙ ap (λ (s : List ℕ). tool_length_of (signed_at (8 * k) s)) there

    pub lengths-more : (xs : List ℤ) (tool : ℤ) → lengths_in area (64 * part + k) ≡ Some xs
        → tool_length_of (signed_at (8 * k) sector) ≡ Some tool
        → lengths_in area (64 * part + (k + 1)) ≡ Some (xs ++ tool ∷ [])
    lengths-more xs tool before one =
        let e : 64 * part + (k + 1) ≡ suc (64 * part + k) = omega arith in
        ap (lengths_in area) e ∙ suc-more (64 * part + k) xs (Some tool) before (here ∙ one)

    pub lengths-damaged : (n : ℕ) (xs : List ℤ) → k < n → lengths_in area (64 * part + k) ≡ Some xs
        → tool_length_of (signed_at (8 * k) sector) ≡ None → lengths_in area (64 * part + n) ≡ None
    lengths-damaged n xs before_n before none =
        let e : 64 * part + n ≡ suc (64 * part + k) + (n - suc k) = omega arith in
        ap (lengths_in area) e ∙ none-later (suc (64 * part + k)) (n - suc k) (suc-more (64 * part + k) xs None before (here ∙ none))

-- the table of an area, from its two sectors
module _ (first : List ℕ) (area : ℕ → List ℕ) (slots : ℕ) (o : Option ℕ) (some : o ≡ Some slots) (is : o ≡ up_to 128 (number_at 2 456 first)) where
  table-is : tools_in Two first area ≡ lengths_in area slots
  table-is = ap (λ (x : Option ℕ). and_then x (λ n. lengths_in area n)) (sym is ∙ some)

  pub as-table : (b : Bool) (new : List ℤ)
      → MatchBool b (lengths_in area slots ≡ Some new) (lengths_in area slots ≡ None)
      → MatchBool b (tools_in Two first area ≡ Some new) (tools_in Two first area ≡ None)
  as-table true new found = table-is ∙ found
  as-table false new none = table-is ∙ none

pub at-length : (area : ℕ → List ℕ) (m n : ℕ) (b : Bool) (new : List ℤ) → m ≡ n
    → MatchBool b (lengths_in area m ≡ Some new) (lengths_in area m ≡ None)
    → MatchBool b (lengths_in area n ≡ Some new) (lengths_in area n ≡ None)
at-length area m n b new is found = subst (λ (k : ℕ). MatchBool b (lengths_in area k ≡ Some new) (lengths_in area k ≡ None)) is found

pub lengths-begin : (area : ℕ → List ℕ) (tools : List ℤ) → tools ≡ [] → lengths_in area (64 * 0) ≡ Some tools
unfolding lengths_in
lengths-begin area tools none = ap (λ (l : List ℤ). Some l) (sym none)

pub whole-part : (area : ℕ → List ℕ) (b : Bool) (new : List ℤ) → b ≡ true
    → MatchBool b (lengths_in area (64 * 0 + 64) ≡ Some new) (lengths_in area (64 * 0 + 64) ≡ None)
    → lengths_in area (64 * 1) ≡ Some new
whole-part area b new is found = subst (λ (x : Bool). MatchBool x (lengths_in area (64 * 0 + 64) ≡ Some new) (lengths_in area (64 * 0 + 64) ≡ None)) is found

pub no-part : (area : ℕ → List ℕ) (b : Bool) (new other : List ℤ) (slots : ℕ) → b ≡ false → 64 < slots
    → MatchBool b (lengths_in area (64 * 0 + 64) ≡ Some new) (lengths_in area (64 * 0 + 64) ≡ None)
    → MatchBool b (lengths_in area slots ≡ Some other) (lengths_in area slots ≡ None)
no-part area b new other slots is lt found =
    let none : lengths_in area 64 ≡ None =
    subst (λ (x : Bool). MatchBool x (lengths_in area (64 * 0 + 64) ≡ Some new)
    (lengths_in area (64 * 0 + 64) ≡ None)) is found in
    let e : slots ≡ 64 + (slots - 64) = omega arith in
    let all : lengths_in area slots ≡ None = ap (lengths_in area) e ∙ none-later area 64 (slots - 64) none in
    subst (λ (x : Bool). MatchBool x (lengths_in area slots ≡ Some other) (lengths_in area slots ≡ None)) (sym is) all

pub storable-more : (xs : List ℤ) (tool : ℤ) → length xs < 128 → IsToolLength tool → IsStorableTools xs → IsStorableTools (xs ++ tool ∷ [])
storable-more xs tool lt small s = record {
  few = omega (arith, length-append xs (tool ∷ []));
  each = λ k d within. elim (cases_lt k (length xs)) [
    | inl before ↦ subst IsToolLength (sym (get_or_append_left xs (tool ∷ []) d k before)) (s.each k d before)
    | inr after ↦
        let last : k - length xs ≡ 0 = omega (arith, within, length-append xs (tool ∷ [])) in
        subst IsToolLength (sym (get_or-append_right xs (tool ∷ []) (length xs) k d refl after ∙ ap (λ (n : ℕ). get_or (tool ∷ []) n d) last)) small
  ];
}

-- the first k lengths are in a sector, followed by zeros
pub record LengthsTo (tools : List ℤ) (first k : ℕ) (sector : List ℕ) : Type 0 where
  pub each : (j : ℕ) → j < k → first + j < length tools → signed_at (8 * j) sector ≡ get_or tools (first + j) (pos 0)
  pub past : (j : ℕ) → j < k → j < 64 → length tools ≤ first + j → AreZero (512 - 8 * j) (8 * j) sector
  pub rest : SameFrom (8 * k) (replicate 512 0) sector

pub lengths-put : (tools : List ℤ) (first k : ℕ) (old new : List ℕ) (value : ℤ) → LengthsTo tools first k old
    → first + k < length tools → Puts (signed_at (8 * k)) (8 * k) (8 * k + 8) value old new
    → value ≡ get_or tools (first + k) (pos 0) → LengthsTo tools first (k + 1) new
lengths-put tools first k old new value so_far here put is = record {
  each = λ j lt within. elim (cases_eq j k) [
    | inl same ↦ subst (λ (x : ℕ). signed_at (8 * x) new ≡ get_or tools (first + x) (pos 0)) (sym same) (put.written ∙ is)
    | inr other ↦ signed-below (8 * j) (8 * k) old new put.below (omega arith) ∙ so_far.each j (omega arith) within
  ];
  past = λ j lt within beyond. absurd (omega arith);
  rest = from-further (8 * k + 8) (8 * (k + 1)) (replicate 512 0) new
      (from-more (8 * k) (8 * k + 8) (replicate 512 0) old new so_far.rest put.beyond (omega arith)) (omega arith);
}

pub lengths-past : (tools : List ℤ) (first k : ℕ) (sector : List ℕ) → LengthsTo tools first k sector
    → length tools ≤ first + k → LengthsTo tools first (k + 1) sector
lengths-past tools first k sector so_far beyond = record {
  each = λ j lt within. so_far.each j (omega arith) within;
  past = λ j lt within later. elim (cases_eq j k) [
    | inl same ↦ zeros-from (8 * k) (8 * j) sector so_far.rest (omega arith) (omega arith)
    | inr other ↦ so_far.past j (omega arith) within later
  ];
  rest = from-further (8 * k) (8 * (k + 1)) (replicate 512 0) sector so_far.rest (omega arith);
}

-- the length of the slot after this many
pub slot-after : (tools : List ℤ) (n : ℕ) → length_of_slot tools (n + 1) ≡ get_or tools n (pos 0)
slot-after tools n = ap (λ (m : ℕ). get_or (pos 0 ∷ tools) m (pos 0)) (add-one n)

-- ---- the change that makes one table of another

abbrev put_at : ℕ → ℤ → List ℤ → List ℤ
put_at zero b [] = b ∷ []
put_at zero b (a ∷ xs) = b ∷ xs
put_at (suc k) b [] = []
put_at (suc k) b (a ∷ xs) = a ∷ put_at k b xs

put-set : (k : ℕ) (b : ℤ) (xs : List ℤ) → k < length xs → set xs k b ≡ put_at k b xs
put-set zero b [] lt = absurd (omega arith)
put-set zero b (a ∷ xs) lt = refl
put-set (suc k) b [] lt = absurd (omega arith)
put-set (suc k) b (a ∷ xs) lt = ap (λ (l : List ℤ). a ∷ l) (put-set k b xs (omega arith))

put-last : (b : ℤ) (xs : List ℤ) → xs ++ b ∷ [] ≡ put_at (length xs) b xs
put-last b [] = refl
put-last b (a ∷ xs) = ap (λ (l : List ℤ). a ∷ l) (put-last b xs)

slot-put : (change : SlotChange) (xs : List ℤ) → IsSlotChange xs change → with_slot change xs ≡ put_at (change.slot - 1) change.length xs
slot-put change xs valid =
    let from = valid.from in
    let to = valid.to in
    elim (cases_eq change.slot (length xs + 1)) [
      | inl last ↦
          let e : (change.slot == length xs + 1) ≡ true = grind (arith, nat_tests) in
          let place : length xs ≡ change.slot - 1 = omega arith in
          (λ i. if e i then xs ++ change.length ∷ [] else set xs (change.slot - 1) change.length)
          ∙ put-last change.length xs ∙ ap (λ (k : ℕ). put_at k change.length xs) place
      | inr inside ↦
          let e : (change.slot == length xs + 1) ≡ false = grind (arith, nat_tests) in
          (λ i. if e i then xs ++ change.length ∷ [] else set xs (change.slot - 1) change.length) ∙ put-set (change.slot - 1) change.length xs (omega arith)
    ]

same-none : (s : ℕ) (xs : List ℤ) → change_from s xs xs ≡ None
same-none s [] = refl
same-none s (a ∷ xs) =
    let e : int_eq a a ≡ true = (Decides-int_eq a a).1 refl in
    (λ i. if e i then change_from (s + 1) xs xs else Some (record { slot = s; length = a })) ∙ same-none (s + 1) xs

pub no-change : (tools : List ℤ) → None ≡ first_change tools tools
no-change tools = sym (same-none 1 tools)

-- if one element is put in, it is the first that differs, or none differs
pub record Finds (s : ℕ) (old new : List ℤ) : Type 0 where
  pub found : ((change_from s old new ≡ None) × (new ≡ old))
      ⊎ ((j : ℕ) × (b : ℤ) × (j ≤ length old) × (j < length new)
      × (change_from s old new ≡ Some (record { slot = s + j; length = b })) × (new ≡ put_at j b old)
      × (get_or new j (pos 0) ≡ b))

finds : (s k : ℕ) (b : ℤ) (old : List ℤ) → k ≤ length old → Finds s old (put_at k b old)
finds s zero b [] le =
    record {
      found = inr (
        0,
        b,
        omega arith,
        omega arith,
        (let e : s ≡ s + 0 = omega arith in λ i. Some (record { slot = e i; length = b })),
        refl,
        refl,
      );
    }
finds s zero b (a ∷ old) le = go (int_eq a b) refl
  where
    go : (t : Bool) → int_eq a b ≡ t → Finds s (a ∷ old) (b ∷ old)
    go true is =
        let same : a ≡ b = (Decides-int_eq a b).0 is in
        record {
          found = inl (
            (λ i. if is i then change_from (s + 1) old old else Some
                (record { slot = s; length = b })) ∙ same-none (s + 1) old,
            ap (λ (x : ℤ). x ∷ old) (sym same),
          );
        }
    go false is =
        let e : s ≡ s + 0 = omega arith in
        record {
          found = inr (
            0,
            b,
            omega arith,
            omega arith,
            (λ i. if is i then change_from (s + 1) old old else Some (record { slot = e i; length = b })),
            refl,
            refl,
          );
        }
finds s (suc k) b [] le = absurd (omega arith)
finds s (suc k) b (a ∷ old) le =
    let e : int_eq a a ≡ true = (Decides-int_eq a a).1 refl in
    let step : change_from s (a ∷ old) (a ∷ put_at k b old) ≡ change_from (s + 1) old (put_at k b old) = λ i.
    if e i then change_from (s + 1) old (put_at k b old) else Some (record { slot = s; length = a }) in
    let f = finds (s + 1) k b old (omega arith) in
    elim f.found [
      | inl none ↦ record { found = inl (step ∙ none.0, ap (λ (l : List ℤ). a ∷ l) none.1) }
      | inr some ↦
          let on : s + 1 + some.0 ≡ s + suc some.0 = omega arith in
          let within = some.2 in
          let there = some.3 in
          record {
            found = inr (
              suc some.0,
              some.1,
              omega arith,
              omega arith,
              step ∙ some.4
                  ∙ (λ i. Some (record { slot = on i; length = some.1 })),
              ap (λ (l : List ℤ). a ∷ l) some.5,
              some.6,
            );
          }
    ]

one-finds : (old new : List ℤ) → IsOneSlotFrom old new → Finds 1 old new
one-finds old new one = go one.change one.valid one.is
  where
    go : (change : Option SlotChange) → IfSome change (IsSlotChange old) → new ≡ with_change change old → Finds 1 old new
    go None valid is = subst (Finds 1 old) (sym is) (record { found = inl (same-none 1 old, refl) })
    go (Some change) valid is = let from = valid.from in let to =
        valid.to in subst (Finds 1 old) (sym (is ∙ slot-put change old valid))
        (finds 1 (change.slot - 1) change.length old (omega arith))

pub valid : (old new was : List ℤ) (slot : Option SlotChange) → was ≡ old → slot ≡ first_change old new
    → IsOneSlotFrom old new → IsStorableTools new → IfSome slot (IsStorableChange was)
valid old new was slot was_is slot_is one small = subst (λ (w : List ℤ). IfSome slot (IsStorableChange w))
    (sym was_is) (subst (λ (o : Option SlotChange). IfSome o (IsStorableChange old)) (sym slot_is)
    (elim (one-finds old new one).found [
      | inl none ↦ subst (λ (o : Option SlotChange). IfSome o (IsStorableChange old)) (sym none.0) tt
      | inr some ↦
          let within = some.2 in
          let there = some.3 in
          let few = small.few in
          subst (λ (o : Option SlotChange). IfSome o (IsStorableChange old)) (sym some.4) (record {
            slot = record { from = omega arith; to = omega arith };
            most = omega arith;
            tool = subst IsToolLength some.6 (small.each some.0 (pos 0) there);
          })
    ]))

pub restored : (old new was : List ℤ) (slot : Option SlotChange) → was ≡ old → slot ≡ first_change old new → IsOneSlotFrom old new → with_change slot was ≡ new
restored old new was slot was_is slot_is one = (λ i. with_change (slot_is i) (was_is i)) ∙ (elim (one-finds old new one).found [
  | inl none ↦ ap (λ (o : Option SlotChange). with_change o old) none.0 ∙ sym none.1
  | inr some ↦
      let within = some.2 in
      let change : SlotChange = record { slot = 1 + some.0; length = some.1 } in
      let place : 1 + some.0 - 1 ≡ some.0 = omega arith in
      ap (λ (o : Option SlotChange). with_change o old) some.4
      ∙ slot-put change old (record { from = omega arith; to = omega arith })
      ∙ ap (λ (k : ℕ). put_at k some.1 old) place ∙ sym some.5
])

-- ---- a change that is made or not

put-same : (k : ℕ) (b : ℤ) (xs : List ℤ) → k < length xs → get_or xs k (pos 0) ≡ b → put_at k b xs ≡ xs
put-same zero b [] lt is = absurd (omega arith)
put-same zero b (a ∷ xs) lt is = ap (λ (x : ℤ). x ∷ xs) (sym is)
put-same (suc k) b [] lt is = absurd (omega arith)
put-same (suc k) b (a ∷ xs) lt is = ap (λ (l : List ℤ). a ∷ l) (put-same k b xs (omega arith) is)

put-differs : (s k : ℕ) (b : ℤ) (old : List ℤ) → k ≤ length old → (k < length old → get_or old k (pos 0) ≢ b)
    → change_from s old (put_at k b old) ≡ Some (record { slot = s + k; length = b })
put-differs s zero b [] le differs = let e : s ≡ s + 0 = omega arith in λ i. Some (record { slot = e i; length = b })
put-differs s zero b (a ∷ old) le differs = go (int_eq a b) refl
  where
    go : (t : Bool) → int_eq a b ≡ t → change_from s (a ∷ old) (b ∷ old) ≡ Some (record { slot = s + 0; length = b })
    go true is = absurd (differs (omega arith) ((Decides-int_eq a b).0 is))
    go false is =
        let e : s ≡ s + 0 = omega arith in
        λ i. if is i then change_from (s + 1) old old else Some (record { slot = e i; length = b })
put-differs s (suc k) b [] le differs = absurd (omega arith)
put-differs s (suc k) b (a ∷ old) le differs =
    let e : int_eq a a ≡ true = (Decides-int_eq a a).1 refl in
    let on : s + 1 + k ≡ s + suc k = omega arith in
    (λ i. if e i then change_from (s + 1) old (put_at k b old) else Some (record { slot = s; length = a }))
    ∙ put-differs (s + 1) k b old (omega arith) (λ lt. differs (omega arith))
    ∙ (λ i. Some (record { slot = on i; length = b }))

slot-at : (tools : List ℤ) (change : SlotChange) → 1 ≤ change.slot → length_of_slot tools change.slot ≡ get_or tools (change.slot - 1) (pos 0)
slot-at tools change from =
    let back : change.slot ≡ change.slot - 1 + 1 = omega arith in
    ap (length_of_slot tools) back ∙ slot-after tools (change.slot - 1)

-- the slot has that length already
pub slot-there : (tools : List ℤ) (change : SlotChange) → IsSlotChange tools change → change.slot ≤ length tools
    → length_of_slot tools change.slot ≡ change.length → None ≡ first_change tools (with_change (Some change) tools)
slot-there tools change valid within is =
    let from = valid.from in
    no-change tools ∙ ap (first_change tools) (sym (slot-put change tools valid
    ∙ put-same (change.slot - 1) change.length tools (omega arith) (sym (slot-at tools change from) ∙ is)))

-- or it gets it
pub slot-changes : (tools : List ℤ) (change : SlotChange) → IsSlotChange tools change
    → ¬ ((change.slot ≤ length tools) × (length_of_slot tools change.slot ≡ change.length))
    → Some change ≡ first_change tools (with_change (Some change) tools)
slot-changes tools change valid other =
    let from = valid.from in
    let to = valid.to in
    let back : 1 + (change.slot - 1) ≡ change.slot = omega arith in
    sym (ap (first_change tools) (slot-put change tools valid)
    ∙ put-differs 1 (change.slot - 1) change.length tools (omega arith)
    (λ lt is. other (omega arith, slot-at tools change from ∙ is))
    ∙ (λ i. Some (record { slot = back i; length = change.length })))
