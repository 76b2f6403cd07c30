-- How a sequence of calls continues.
use Rattle.std.proofs.Common.{◌≡◌, ◌⊎◌, inl, inr, ⊎_elim, ℕ, ◌+◌, ◌<◌, ◌≤◌, ◌==◌, nat_lt, if◌then◌else◌, List}
use Rattle.std.proofs.Common.{Result, Ok, Err, refl, sym, ◌∙◌, ap, subst, arith}
use Rattle.std.proofs.lemmas.Bool.{cases_eq}
use Rattle.std.proofs.lemmas.Bool.Decides.{nat_tests}
use Rattle.ng_canon.specs.declared.item.Item.{Item}
use Rattle.ng_rig.specs.Trace.{Image, Trace, Began, Wrote, Perhaps, Synced, Handed, MayHold, reads, moment, trace_at, IsStop, StopSince}
use Rattle.ng_rig.specs.Calls.{HandOutSpec}
use Rattle.ng_rig.specs.Continuation.{IsContinuation, IsSynced, HasBesides, HandsOne}

-- the image that a device reads as is one of its stops
pub may_hold-reads : (trace : Trace) (n : ℕ) → MayHold trace n (reads trace n)
may_hold-reads (Began image) n = refl
may_hold-reads (Wrote m bytes trace) n = elim (cases_eq n m) [
  | inl same ↦ let e : (if n == m then bytes else reads trace n) ≡ bytes = grind (arith, nat_tests) in inl (same, e)
  | inr other ↦ let e : (if n == m then bytes else reads trace n) ≡ reads trace n =
      grind (arith, nat_tests) in inr (subst (λ (c : List ℕ). MayHold trace n c) (sym e) (may_hold-reads trace n))
]
may_hold-reads (Perhaps m bytes trace) n = inr (may_hold-reads trace n)
may_hold-reads (Synced trace) n = refl
may_hold-reads (Handed item trace) n = may_hold-reads trace n

-- since this moment there is no other
pub stop_now : (trace : Trace) (image : Image) (handed : List Item) → StopSince trace (moment trace) image handed → IsStop trace image handed
stop_now (Began first) image handed s = s
stop_now (Wrote m bytes trace) image handed (inl now) = now
stop_now (Wrote m bytes trace) image handed (inr before) = absurd (omega (arith, before.0))
stop_now (Perhaps m bytes trace) image handed (inl now) = now
stop_now (Perhaps m bytes trace) image handed (inr before) = absurd (omega (arith, before.0))
stop_now (Synced trace) image handed (inl now) = now
stop_now (Synced trace) image handed (inr before) = absurd (omega (arith, before.0))
stop_now (Handed item trace) image handed (inl now) = now
stop_now (Handed item trace) image handed (inr before) = absurd (omega (arith, before.0))

-- ---- the trace at a moment

not_later : (t m : ℕ) (new old : Trace) → t ≤ m → (if nat_lt m t then new else old) ≡ old
not_later t m new old le = grind (arith, nat_tests)

is_later : (t m : ℕ) (new old : Trace) → m < t → (if nat_lt m t then new else old) ≡ new
is_later t m new old lt = grind (arith, nat_tests)

-- at its own moment
pub trace_now : (trace : Trace) → trace_at (moment trace) trace ≡ trace
trace_now (Began image) = refl
trace_now (Wrote n bytes trace) = is_later (moment trace + 1) (moment trace) (Wrote n bytes trace) (trace_at (moment trace + 1) trace) (omega arith)
trace_now (Perhaps n bytes trace) = is_later (moment trace + 1) (moment trace) (Perhaps n bytes trace) (trace_at (moment trace + 1) trace) (omega arith)
trace_now (Synced trace) = is_later (moment trace + 1) (moment trace) (Synced trace) (trace_at (moment trace + 1) trace) (omega arith)
trace_now (Handed item trace) = is_later (moment trace + 1) (moment trace) (Handed item trace) (trace_at (moment trace + 1) trace) (omega arith)

sides : (a b : ℕ) → (a ≤ b) ⊎ (b < a)
sides a b = grind arith

-- one more call doesn't change what is seen at a moment up to its own
through : (t s : ℕ) (whole trace : Trace) → t ≤ s
    → ((u : ℕ) → trace_at u whole ≡ (if nat_lt (moment trace) u then whole else trace_at u trace))
    → trace_at t (trace_at s trace) ≡ trace_at t trace
    → trace_at t (trace_at s whole) ≡ trace_at t whole
through t s whole trace le at rest = elim (sides s (moment trace)) [
  | inl early ↦
      ap (λ (l : Trace). trace_at t l) (at s ∙ not_later s (moment trace) whole (trace_at s trace) early) ∙ rest
      ∙ sym (at t ∙ not_later t (moment trace) whole (trace_at t trace) (omega (arith, le, early)))
  | inr late ↦ ap (λ (l : Trace). trace_at t l) (at s ∙ is_later s (moment trace) whole (trace_at s trace) late)
]

-- at an earlier moment than another
pub trace_earlier : (t s : ℕ) (trace : Trace) → t ≤ s → trace_at t (trace_at s trace) ≡ trace_at t trace
trace_earlier t s (Began image) le = refl
trace_earlier t s (Wrote n bytes trace) le = through t s (Wrote n bytes trace) trace le (λ u. refl) (trace_earlier t s trace le)
trace_earlier t s (Perhaps n bytes trace) le = through t s (Perhaps n bytes trace) trace le (λ u. refl) (trace_earlier t s trace le)
trace_earlier t s (Synced trace) le = through t s (Synced trace) trace le (λ u. refl) (trace_earlier t s trace le)
trace_earlier t s (Handed item trace) le = through t s (Handed item trace) trace le (λ u. refl) (trace_earlier t s trace le)

-- one more call
after_one : (whole trace : Trace)
    → trace_at (moment trace) whole ≡ (if nat_lt (moment trace) (moment trace) then whole else trace_at
    (moment trace) trace) → trace_at (moment trace) whole ≡ trace
after_one whole trace at = at ∙ not_later (moment trace) (moment trace) whole (trace_at (moment trace) trace) (omega arith) ∙ trace_now trace

-- ---- sequences of calls

-- a sequence begins at the trace of that moment
pub was_then : (old new : Trace) (P : Image → List Item → Type 0) → IsContinuation old new P → trace_at (moment old) new ≡ old
was_then old new P a = ⊎_elim (λ same. ap (λ (l : Trace). trace_at (moment old) l) same ∙ trace_now old) (λ was. was) a.was

-- before the first call
pub stays : (trace : Trace) (P : Image → List Item → Type 0) → IsContinuation trace trace P
stays trace P = record { later = omega arith; was = inl refl; each = λ t image handed le s. inl s }

-- one sequence and then another
pub joined : (old mid new : Trace) (P : Image → List Item → Type 0) → IsContinuation old mid P → IsContinuation mid new P → IsContinuation old new P
joined old mid new P a b = record {
  later = omega (arith, a.later, b.later);
  was = inr (sym (trace_earlier (moment old) (moment mid) new a.later)
      ∙ ap (λ (l : Trace). trace_at (moment old) l) (was_then mid new P b) ∙ was_then old mid P a);
  each = λ t image handed le s. ⊎_elim (λ m. a.each t image handed le m) (λ p. inr p) (b.each t image handed (omega (arith, le, a.later)) s);
}

pub weaker : (old new : Trace) (P Q : Image → List Item → Type 0) → IsContinuation old new P
    → ((image : Image) (handed : List Item) → P image handed → Q image handed) → IsContinuation old new Q
weaker old new P Q a imply = record {
  later = a.later;
  was = a.was;
  each = λ t image handed le s.
      ⊎_elim (λ m. inl m) (λ p. inr (imply image handed p)) (a.each t image handed le s);
}

-- one call
pub on_write : (trace : Trace) (n : ℕ) (bytes : List ℕ) (P : Image → List Item → Type 0)
    → ((image : Image) (handed : List Item) → IsStop (Wrote n bytes trace) image handed → P image handed)
    → IsContinuation trace (Wrote n bytes trace) P
on_write trace n bytes P now = record {
  later = omega arith;
  was = inr (after_one (Wrote n bytes trace) trace refl);
  each = λ t image handed le s. ⊎_elim (λ here. inr (now image handed here)) (λ before. inl before.1) s;
}

pub on_perhaps : (trace : Trace) (n : ℕ) (bytes : List ℕ) (P : Image → List Item → Type 0)
    → ((image : Image) (handed : List Item) → IsStop (Perhaps n bytes trace) image handed → P image handed)
    → IsContinuation trace (Perhaps n bytes trace) P
on_perhaps trace n bytes P now =
    record {
      later = omega arith;
      was = inr (after_one (Perhaps n bytes trace) trace refl);
      each =
          λ t image handed le s. ⊎_elim (λ here. inr (now image handed here)) (λ before. inl before.1) s;
    }

pub on_sync : (trace : Trace) (P : Image → List Item → Type 0)
    → ((image : Image) (handed : List Item) → IsStop (Synced trace) image handed → P image handed)
    → IsContinuation trace (Synced trace) P
on_sync trace P now = record {
  later = omega arith;
  was = inr (after_one (Synced trace) trace refl);
  each =
      λ t image handed le s. ⊎_elim (λ here. inr (now image handed here)) (λ before. inl before.1) s;
}

pub on_hand : (trace : Trace) (item : Item) (P : Image → List Item → Type 0)
    → ((image : Image) (handed : List Item) → IsStop (Handed item trace) image handed → P image handed)
    → IsContinuation trace (Handed item trace) P
on_hand trace item P now = record {
  later = omega arith;
  was = inr (after_one (Handed item trace) trace refl);
  each = λ t image handed le s. ⊎_elim (λ here. inr (now image handed here)) (λ before. inl before.1) s;
}

-- after a good sync each sector has one content, also after hand-outs
pub is_synced : (trace : Trace) → IsSynced (Synced trace)
is_synced trace = record { one = λ n c may. may }

pub handed_synced : (item : Item) (trace : Trace) → IsSynced trace → IsSynced (Handed item trace)
handed_synced item trace synced = record { one = synced.one }

-- so the image of each stop is what reads return
pub one_image : (trace : Trace) (image : Image) (handed : List Item) → IsSynced trace → IsStop trace image handed → image ≡ reads trace
one_image trace image handed synced stop = λ i n. synced.one n (image n) (stop.0 n) i

hands_none : (item : Item) (trace : Trace) → IsSynced trace → HandsOne item trace trace
hands_none item trace synced = record { stops = stays trace (HasBesides trace item); synced = synced; reads_are = refl; items_are = inl refl }

hands_one : (item : Item) (trace : Trace) → IsSynced trace → HandsOne item trace (Handed item trace)
hands_one item trace synced = record {
  stops = on_hand trace item (HasBesides trace item)
      (λ image handed s. record {
        image_is = one_image (Handed item trace) image handed (handed_synced item trace synced) s;
        handed_is =
            s.1;
      });
  synced = handed_synced item trace synced;
  reads_are = refl;
  items_are = inr refl;
}

-- a hand-out after a good sync, also one that fails
pub hands : {T E : Type 0} (result : Result T E) (item : Item) (old new : Trace) → IsSynced old → HandOutSpec result item old new → HandsOne item old new
hands (Ok _) item old new synced is = subst (λ (l : Trace). HandsOne item old l) (sym is) (hands_one item old synced)
hands (Err _) item old new synced (inl is) = subst (λ (l : Trace). HandsOne item old l) (sym is) (hands_none item old synced)
hands (Err _) item old new synced (inr is) = subst (λ (l : Trace). HandsOne item old l) (sym is) (hands_one item old synced)
