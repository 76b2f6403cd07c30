-- A device in memory can be stopped in each way that its trace allows, and in no other.
use Rattle.std.proofs.Common.{◌≡◌, ◌⊎◌, inl, inr, ℕ, ◌+◌, ◌<◌, ◌≤◌, ◌==◌, nat_lt, if◌then◌else◌, List, [], ◌∷◌, map}
use Rattle.std.proofs.Common.{length, take, slice_index, refl, sym, ◌∙◌, ap, subst, arith, true}
use Rattle.std.proofs.lemmas.Bool.Decides.{nat_tests}
use Rattle.std.specs.List.{range_with_len, AllPass}
use Rattle.std.proofs.lemmas.List.Sums.{AllPass-from_list_all}
use Rattle.std.proofs.lemmas.List.{get_or_past}
use Rattle.std.proofs.lemmas.List.Elements.{All-head, All-tail}
use Rattle.std.proofs.lemmas.List.FromFn.{get_or-map-range_with_len, length-map-range_with_len}
use Rattle.ng_rig.specs.Trace.{Trace, Began, Wrote, Perhaps, Synced, Handed, MayHold, IsStop, items, moment, trace_at}
use Rattle.ng_canon.specs.declared.item.Item.{Item}
use Rattle.std.proofs.lemmas.Bool.{and_parts}
use Rattle.ng_rig.specs.RecordedCalls.{trace_after, trace_of_calls, contents, is_call_within, AllWithin}
use Rattle.ng_rig.specs.Stops.{unsynced, durable, durable_image, IsReached}
use Rattle.ng_rig.proofs.TraceLemmas.{trace_at-trace_of_calls}
use Rattle.ng_rig.proofs.ReplayLemmas.{within_take}
use Rattle.ng_rig.specs.declared.call.Call.{Call}
use Rattle.ng_rig.specs.declared.call.Call.TheVariants.{Write, Sync, Hand}

-- what a choice between two contents results in
choice : (n m u k : ℕ) (bytes old : List ℕ)
    → ((n ≡ m) × ((if n == m then (if nat_lt u k then bytes else old) else old) ≡ bytes))
    ⊎ ((if n == m then (if nat_lt u k then bytes else old) else old) ≡ old)
choice n m u k bytes old = grind (arith, nat_tests)

-- in no other way
pub may_hold-durable : (trace : Trace) (n k : ℕ) → MayHold trace n (durable trace n k)
may_hold-durable (Began image) n k = refl
may_hold-durable (Wrote m bytes trace) n k = elim (choice n m (unsynced trace n) k bytes (durable trace n k)) [
  | inl new ↦ inl new
  | inr old ↦ inr (subst (λ (c : List ℕ). MayHold trace n c) (sym old) (may_hold-durable trace n k))
]
may_hold-durable (Perhaps m bytes trace) n k = elim (choice n m (unsynced trace n) k bytes (durable trace n k)) [
  | inl new ↦ inl new
  | inr old ↦ inr (subst (λ (c : List ℕ). MayHold trace n c) (sym old) (may_hold-durable trace n k))
]
may_hold-durable (Synced trace) n k = refl
may_hold-durable (Handed item trace) n k = may_hold-durable trace n k

-- the number of a content
pub record Number (trace : Trace) (n : ℕ) (c : List ℕ) : Type 0 where
  pub k : ℕ
  pub below : k ≤ unsynced trace n
  pub is : durable trace n k ≡ c

newest : (n m u : ℕ) (bytes old : List ℕ) → n ≡ m → ((if n == m then u + 1 else u) ≡ u + 1)
    × ((if n == m then (if nat_lt u (u + 1) then bytes else old) else old) ≡ bytes)
newest n m u bytes old same = (grind (arith, nat_tests), grind (arith, nat_tests))

older : (n m u k : ℕ) (bytes old : List ℕ) → k ≤ u → (k ≤ (if n == m then u + 1 else u)) × ((if n == m then (if nat_lt u k then bytes else old) else old) ≡ old)
older n m u k bytes old le = (grind (arith, nat_tests), grind (arith, nat_tests))

pub number : (trace : Trace) (n : ℕ) (c : List ℕ) → MayHold trace n c → Number trace n c
number (Began image) n c is = record { k = 0; below = omega arith; is = sym is }
number (Wrote m bytes trace) n c (inl new) =
    let e = newest n m (unsynced trace n) bytes (durable trace n (unsynced trace n + 1)) new.0 in
    record { k = unsynced trace n + 1; below = omega (arith, e.0); is = e.1 ∙ sym new.1 }
number (Wrote m bytes trace) n c (inr before) =
    let x = number trace n c before in
    let e = older n m (unsynced trace n) x.k bytes (durable trace n x.k) x.below in
    record { k = x.k; below = e.0; is = e.1 ∙ x.is }
number (Perhaps m bytes trace) n c (inl new) =
    let e = newest n m (unsynced trace n) bytes (durable trace n (unsynced trace n + 1)) new.0 in
    record { k = unsynced trace n + 1; below = omega (arith, e.0); is = e.1 ∙ sym new.1 }
number (Perhaps m bytes trace) n c (inr before) =
    let x = number trace n c before in
    let e = older n m (unsynced trace n) x.k bytes (durable trace n x.k) x.below in
    record { k = x.k; below = e.0; is = e.1 ∙ x.is }
number (Synced trace) n c is = record { k = 0; below = omega arith; is = sym is }
number (Handed item trace) n c h = let x = number trace n c h in record { k = x.k; below = x.below; is = x.is }

one_more : (n m u : ℕ) → (if n == m then u + 1 else u) ≤ u + 1
one_more n m u = grind (arith, nat_tests)

unsynced-moment : (trace : Trace) (n : ℕ) → unsynced trace n ≤ moment trace
unsynced-moment (Began image) n = omega arith
unsynced-moment (Wrote m bytes trace) n = omega (arith, unsynced-moment trace n, one_more n m (unsynced trace n))
unsynced-moment (Perhaps m bytes trace) n = omega (arith, unsynced-moment trace n, one_more n m (unsynced trace n))
unsynced-moment (Synced trace) n = omega arith
unsynced-moment (Handed item trace) n = omega (arith, unsynced-moment trace n)

side : (i n : ℕ) → (i < n) ⊎ (n ≤ i)
side i n = grind arith

other_sector : (n m u size : ℕ) → nat_lt m size ≡ true → size ≤ n → (if n == m then u + 1 else u) ≡ u
other_sector n m u size within past = grind (arith, nat_tests)

module _ (size n : ℕ) (past : size ≤ n) where
  -- nothing is written past the size
  unsynced_past : (trace : Trace) (calls : List Call) → AllPass (is_call_within size) calls → unsynced trace n ≡ 0 → unsynced (trace_after trace calls) n ≡ 0
  unsynced_past trace [] all none = none
  unsynced_past trace (Write m bytes ∷ calls) all none =
      let here = All-head (λ c. is_call_within size c ≡ true) (Write m bytes) calls all in
      unsynced_past (Wrote m bytes trace) calls (All-tail (λ c. is_call_within size c ≡ true) (Write m bytes) calls
      all) (other_sector n m (unsynced trace n) size
      (and_parts (nat_lt m size) (nat_lt 0 (length bytes)) here).0 past ∙ none)
  unsynced_past trace (Sync ∷ calls) all none = unsynced_past (Synced trace) calls (All-tail (λ c. is_call_within size c ≡ true) Sync calls all) refl
  unsynced_past trace (Hand item ∷ calls) all none = unsynced_past (Handed item trace) calls
      (All-tail (λ c. is_call_within size c ≡ true) (Hand item) calls all) none

-- in every way
pub reached : (first : List (List ℕ)) (calls : List Call) (image : ℕ → List ℕ) → AllWithin (length first) calls
    → ((i : ℕ) → MayHold (trace_of_calls first calls) i (image i))
    → IsReached (length first) (trace_of_calls first calls) image
reached first calls image within may =
    let trace = trace_of_calls first calls in
    let f = λ (i : ℕ). (number trace i (image i) (may i)).k in
    let keep = map f (range_with_len 0 (length first)) in
    let all = AllPass-from_list_all (is_call_within (length first)) calls within in
    let at : (i : ℕ) → slice_index keep i ≡ f i = λ i. elim (side i (length first)) [
      | inl h ↦ get_or-map-range_with_len f 0 (length first) i i 0 h (omega arith)
      | inr past ↦
          let none = unsynced_past (length first) i past (Began (contents first)) calls all refl in
          let low = (number trace i (image i) (may i)).below in
          let k_is : 0 ≡ f i = omega arith in
          get_or_past keep i 0 (omega (arith, length-map-range_with_len f 0 (length first))) ∙ k_is
    ] in
    record {
      keep = keep;
      short = omega (arith, length-map-range_with_len f 0 (length first));
      is = λ j i. (ap (λ (k : ℕ). durable trace i k) (at i) ∙ (number trace i (image i) (may i)).is) j;
      small = λ i. omega (arith, at i, (number trace i (image i) (may i)).below, unsynced-moment trace i);
    }

-- in every way, at a moment
pub reached_at : (t : ℕ) (first : List (List ℕ)) (calls : List Call) → AllWithin (length first) calls
    → (image : ℕ → List ℕ) (handed : List Item) → IsStop (trace_at t (trace_of_calls first calls)) image handed
    → IsReached (length first) (trace_at t (trace_of_calls first calls)) image
reached_at t first calls within image handed stop =
    let at = trace_at-trace_of_calls t first calls in
    subst (λ (l : Trace). IsReached (length first) l image) (sym at)
    (reached first (take t calls) image (within_take (length first) calls t within)
    (λ n. subst (λ (l : Trace). MayHold l n (image n)) at (stop.0 n)))

-- in no other, at a moment
pub stop-durable_image : (trace : Trace) (keep : List ℕ) → IsStop trace (durable_image trace keep) (items trace)
stop-durable_image trace keep = (λ n. may_hold-durable trace n (slice_index keep n), refl)
