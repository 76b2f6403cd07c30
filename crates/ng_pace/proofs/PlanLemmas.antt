-- One write of the plan, and the plan that is made.
use Rattle.std.proofs.Common.{arith, ℕ, zero, suc, ◌+◌, ◌-◌, ◌^◌, ◌<◌, ◌≤◌, ◌≡◌, ◌∙◌, min, refl, ap, sym, Bool}
use Rattle.std.proofs.Common.{true, false, List, [], ◌∷◌, length, drop, slice_index_or, slice_set}
use Rattle.std.specs.Prelude.{if◌then◌else◌}
use Rattle.ng_pace.specs.declared.line.Line.{Line}
use Rattle.ng_pace.specs.declared.planning.Slot.{Slot}
use Rattle.ng_pace.specs.Planning.{IsPlan, IsWhole, ahead, most_now, lines_of}

more_by : (last : Bool) (ramp most a b : ℕ) → a ≤ b
    → min (min ((if last then 0 else a) + ramp) (2 ^ 64 - 1)) most ≤ min (min ((if last then 0 else b) + ramp) (2 ^ 64 - 1)) most
more_by true ramp most a b h = omega arith
more_by false ramp most a b h = omega arith

-- more after a line is more at it
pub more : (line : Line) (a b : ℕ) → a ≤ b → most_now line a ≤ most_now line b
more line a b h = more_by line.last line.ramp.down line.most a b h

-- while xs is planned anew, backwards: ys is what it has become; its first k lines are as they were
abbrev pub IsReplanned : ℕ → List Slot → List Slot → Type 0
IsReplanned k [] [] = Unit {0}
IsReplanned k [] (y ∷ ys) = ⊥
IsReplanned k (x ∷ xs) [] = ⊥
IsReplanned zero (x ∷ xs) (y ∷ ys) = (y.line ≡ x.line) × ((x.plan ≤ y.plan) × ((y.plan ≡ most_now y.line (ahead ys)) × IsReplanned zero xs ys))
IsReplanned (suc k) (x ∷ xs) (y ∷ ys) = (y ≡ x) × IsReplanned k xs ys

-- nothing is planned anew yet
pub untouched : (xs : List Slot) (k : ℕ) → length xs ≤ k → IsReplanned k xs xs
untouched [] k h = tt
untouched (x ∷ xs) zero h = absurd (omega arith)
untouched (x ∷ xs) (suc k) h = (refl, untouched xs k (omega arith))

pub same_lines : (k : ℕ) (xs ys : List Slot) → IsReplanned k xs ys → lines_of ys ≡ lines_of xs
same_lines k [] [] h = refl
same_lines k [] (y ∷ ys) h = absurd h
same_lines k (x ∷ xs) [] h = absurd h
same_lines zero (x ∷ xs) (y ∷ ys) h = let rest = same_lines zero xs ys h.1.1.1 in let line = h.0 in cc
same_lines (suc k) (x ∷ xs) (y ∷ ys) h = let rest = same_lines k xs ys h.1 in let slot = ap (λ t. t.line) h.0 in cc

pub same_length : (k : ℕ) (xs ys : List Slot) → IsReplanned k xs ys → length ys ≡ length xs
same_length k [] [] h = refl
same_length k [] (y ∷ ys) h = absurd h
same_length k (x ∷ xs) [] h = absurd h
same_length zero (x ∷ xs) (y ∷ ys) h = omega (arith, same_length zero xs ys h.1.1.1)
same_length (suc k) (x ∷ xs) (y ∷ ys) h = omega (arith, same_length k xs ys h.1)

pub grows : (k : ℕ) (xs ys : List Slot) → IsReplanned k xs ys → ahead xs ≤ ahead ys
grows k [] [] h = omega arith
grows k [] (y ∷ ys) h = absurd h
grows k (x ∷ xs) [] h = absurd h
grows zero (x ∷ xs) (y ∷ ys) h = h.1.0
grows (suc k) (x ∷ xs) (y ∷ ys) h = let same = ap (λ t. t.plan) h.0 in omega arith

same_ahead : (k : ℕ) (xs ys : List Slot) → IsReplanned (suc k) xs ys → ahead ys ≡ ahead xs
same_ahead k [] [] h = refl
same_ahead k [] (y ∷ ys) h = absurd h
same_ahead k (x ∷ xs) [] h = absurd h
same_ahead k (x ∷ xs) (y ∷ ys) h = ap (λ t. t.plan) h.0

-- a square of the plan is no more than what may be planned now
no_less : (n : ℕ) (x : Slot) (xs : List Slot) (b : ℕ) → IsPlan n (x ∷ xs) → ahead xs ≤ b → x.plan ≤ most_now x.line b
no_less zero x xs b plan h = let none : x.plan ≡ 0 = plan.0 in omega arith
no_less (suc n) x xs b plan h = omega (arith, plan.0, more x.line (ahead xs) b h)

tail_of : (n : ℕ) (x : Slot) (xs : List Slot) → IsPlan n (x ∷ xs) → IsPlan (n - 1) xs
tail_of zero x xs plan = plan.1
tail_of (suc n) x xs plan = let e : suc n - 1 ≡ n = omega arith in rw e plan.1

-- the line before is planned anew
written : (k n : ℕ) (xs ys : List Slot) (s : Slot) (p : ℕ) → IsPlan n xs → IsReplanned (suc k) xs ys → k < length ys → s ≡ slice_index_or ys k s
    → p ≡ most_now s.line (ahead (drop (suc k) ys))
    → IsReplanned k xs (slice_set ys k (record { line = s.line; plan = p }))
written k n [] [] s p plan h within read is = absurd (omega arith)
written k n [] (y ∷ ys) s p plan h within read is = absurd h
written k n (x ∷ xs) [] s p plan h within read is = absurd h
written zero n (x ∷ xs) (y ∷ ys) s p plan h within read is =
    let line : s.line ≡ x.line = ap (λ t. t.line) read ∙ ap (λ t. t.line) h.0 in
    let at : p ≡ most_now x.line (ahead ys) = is ∙ ap (λ t. most_now t (ahead ys)) line in
    (line, (omega (arith, at, no_less n x xs (ahead ys) plan (grows zero xs ys h.1)), (is, h.1)))
written (suc k) n (x ∷ xs) (y ∷ ys) s p plan h within read is =
    (h.0, written k (n - 1) xs ys s p (tail_of n x xs plan) h.1 (omega arith) read is)

-- the same, as the loop goes: n lines are left
pub step : (k planned : ℕ) (xs ys : List Slot) (s : Slot) (after p : ℕ) → 0 < k → k ≤ length ys → IsPlan planned xs → IsReplanned k xs ys
    → s ≡ slice_index_or ys (k - 1) s → after ≡ ahead (drop k ys) → p ≡ most_now s.line after
    → IsReplanned (k - 1) xs (slice_set ys (k - 1) (record { line = s.line; plan = p }))
step zero planned xs ys s after p some within plan h read next is = absurd (omega arith)
step (suc k) planned xs ys s after p some within plan h read next is =
    let e : suc k - 1 ≡ k = omega arith in
    let read_k : s ≡ slice_index_or ys k s = rw e at read in
    rw e (written k planned xs ys s p plan h (omega arith) read_k (is ∙ ap (λ t. most_now s.line t) next))

pub next : (k : ℕ) (ys : List Slot) (s : Slot) (p : ℕ) → 0 < k → k ≤ length ys
    → p ≡ ahead (drop (k - 1) (slice_set ys (k - 1) (record { line = s.line; plan = p })))
next zero ys s p some within = absurd (omega arith)
next (suc k) ys s p some within = let e : suc k - 1 ≡ k = omega arith in rw e (at_k k ys (omega arith)) where
  at_k : (k : ℕ) (ys : List Slot) → k < length ys → p ≡ ahead (drop k (slice_set ys k (record { line = s.line; plan = p })))
  at_k k [] h = absurd (omega arith)
  at_k zero (y ∷ ys) h = refl
  at_k (suc k) (y ∷ ys) h = at_k k ys (omega arith)

-- all is planned anew
pub all_anew : (xs ys : List Slot) → IsReplanned zero xs ys → IsWhole ys
all_anew [] [] h = tt
all_anew [] (y ∷ ys) h = absurd h
all_anew (x ∷ xs) [] h = absurd h
all_anew (x ∷ xs) (y ∷ ys) h = (h.1.1.0, all_anew xs ys h.1.1.1)

-- a square that was planned stays the same: so do all before it
pub stays_planned : (k n : ℕ) (xs ys : List Slot) (s : Slot) → IsPlan n xs → k < n → IsReplanned (suc k) xs ys → k < length ys → s ≡ slice_index_or ys k s
    → s.plan ≡ most_now s.line (ahead (drop (suc k) ys))
    → IsWhole ys
stays_planned k n [] [] s plan early h within read is = absurd (omega arith)
stays_planned k n [] (y ∷ ys) s plan early h within read is = absurd h
stays_planned k n (x ∷ xs) [] s plan early h within read is = absurd h
stays_planned zero n (x ∷ xs) (y ∷ ys) s plan early h within read is = (rw read at is, all_anew xs ys h.1)
stays_planned (suc k) zero (x ∷ xs) (y ∷ ys) s plan early h within read is = absurd (omega arith)
stays_planned (suc k) (suc n) (x ∷ xs) (y ∷ ys) s plan early h within read is =
    let line = ap (λ t. t.line) h.0 in
    let square = ap (λ t. t.plan) h.0 in
    let ahead_same = same_ahead k xs ys h.1 in (
      square ∙ plan.0 ∙ sym (ap (λ t. most_now t (ahead ys)) line ∙ ap (λ t. most_now x.line t) ahead_same),
      stays_planned k n xs ys s plan.1 (omega arith) h.1
          (omega arith) read is,
    )

-- a whole plan is one of so many lines
pub whole_plan : (n : ℕ) (xs : List Slot) → n ≡ length xs → IsWhole xs → IsPlan n xs
whole_plan n [] h whole = h
whole_plan zero (x ∷ xs) h whole = absurd (omega arith)
whole_plan (suc n) (x ∷ xs) h whole = (whole.0, whole_plan n xs (omega arith) whole.1)

pub planned_within : (n : ℕ) (xs : List Slot) → IsPlan n xs → n ≤ length xs
planned_within n [] plan = let none : n ≡ 0 = plan in omega arith
planned_within zero (x ∷ xs) plan = omega arith
planned_within (suc n) (x ∷ xs) plan = omega (arith, planned_within n xs plan.1)

-- the same, as the loop goes: k lines are left
pub all_at : (k : ℕ) (xs ys : List Slot) → k ≡ 0 → IsReplanned k xs ys → IsWhole ys
all_at zero xs ys none h = all_anew xs ys h
all_at (suc k) xs ys none h = absurd (omega arith)

pub stays_planned_at : (k n : ℕ) (xs ys : List Slot) (s : Slot) (after : ℕ) → IsPlan n xs → k - 1 < n → 0 < k → k ≤ length ys → IsReplanned k xs ys
    → s ≡ slice_index_or ys (k - 1) s → after ≡ ahead (drop k ys) → s.plan ≡ most_now s.line after
    → IsWhole ys
stays_planned_at zero n xs ys s after plan early some within h read next is = absurd (omega arith)
stays_planned_at (suc k) n xs ys s after plan early some within h read next is =
    let e : suc k - 1 ≡ k = omega arith in
    let read_k : s ≡ slice_index_or ys k s = rw e at read in
    stays_planned k n xs ys s plan (omega arith) h (omega arith) read_k (is ∙ ap (λ t. most_now s.line t) next)

pub ahead-end : (xs : List Slot) → ahead (drop (length xs) xs) ≡ 0
ahead-end [] = refl
ahead-end (x ∷ xs) = ahead-end xs
