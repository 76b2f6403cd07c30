-- The machine's position and outputs after some segments of a cycle, given those before it.
use Rattle.std.proofs.Common.{arith, ℕ, zero, suc, ◌+◌, ◌-◌, ◌≡◌, ◌≤◌, ◌<◌, Bool, true, false, ℤ, List, [], ◌∷◌}
use Rattle.std.proofs.Common.{◌++◌, take, flat_map, refl, sym, ◌∙◌, ap, subst, if◌then◌else◌, int_lt, nat_lt}
use Rattle.std.proofs.lemmas.Bool.{ltb-true, ltb-false}
use Rattle.std.specs.Ordering.{int_eq}
use Rattle.ng_num.specs.declared.point.Point.{Point}
use Rattle.ng_canon.specs.declared.outputs.Outputs.{Outputs}
use Rattle.ng_canon.specs.declared.segment.Segment.{Segment}
use Rattle.ng_canon.specs.declared.segment.Segment.TheVariants as segment
use Rattle.ng_canon.specs.declared.segment.StraightMove.{StraightMove}
use Rattle.ng_cycles.specs.declared.drill.Drill.{Drill}
use Rattle.ng_cycles.specs.declared.drill.Work.{Work}
use Rattle.ng_cycles.specs.declared.drill.Work.TheVariants.{Drilling, DrillingWithDwell, PeckDrilling, Boring, BoringWithStop, BoringWithDwell}
use Rattle.ng_cycles.specs.declared.motion_state.MotionState.{MotionState}
use Rattle.ng_cycles.specs.Private.Counts.{lead_length, has_switch, stops}
use Rattle.ng_canon.specs.declared.outputs.Spindle.TheVariants.{Stopped}
use Rattle.ng_cycles.specs.Left.{seconds_of}
use Rattle.ng_cycles.specs.Strokes.{Stroke, Across, ToR, TraverseTo, FeedTo, Wait, SetSpindle, numbers_from, pecks, again, strokes_of, strokes, repeat}
use Rattle.ng_cycles.specs.Segments.{begin, cycle_segments, traced, segments_of, after_segments}
use Rattle.ng_cycles.proofs.SkipLemmas.{take-nothing}

-- ---- points and outputs separately

point-alone : (p : Point) (o o' : Outputs) (xs : List Segment)
    → (after_segments (record { point = p; outputs = o }) xs).point
    ≡ (after_segments (record { point = p; outputs = o' }) xs).point
point-alone p o o' [] = refl
point-alone p o o' (segment.Line line ∷ xs) = point-alone line.end o o' xs
point-alone p o o' (segment.Arc arc ∷ xs) = point-alone arc.end o o' xs
point-alone p o o' (segment.Dwell seconds ∷ xs) = point-alone p o o' xs
point-alone p o o' (segment.Switch q ∷ xs) = refl

outputs-alone : (p p' : Point) (o : Outputs) (xs : List Segment)
    → (after_segments (record { point = p; outputs = o }) xs).outputs
    ≡ (after_segments (record { point = p'; outputs = o }) xs).outputs
outputs-alone p p' o [] = refl
outputs-alone p p' o (segment.Line line ∷ xs) = refl
outputs-alone p p' o (segment.Arc arc ∷ xs) = refl
outputs-alone p p' o (segment.Dwell seconds ∷ xs) = outputs-alone p p' o xs
outputs-alone p p' o (segment.Switch q ∷ xs) = outputs-alone p p' q xs

outputs-same : (at : MotionState) (xs : List Segment) → has_switch xs ≡ false → (after_segments at xs).outputs ≡ at.outputs
outputs-same at [] h = refl
outputs-same at (segment.Line line ∷ xs) h = outputs-same (record at { point = line.end }) xs h
outputs-same at (segment.Arc arc ∷ xs) h = outputs-same (record at { point = arc.end }) xs h
outputs-same at (segment.Dwell seconds ∷ xs) h = outputs-same at xs h
outputs-same at (segment.Switch q ∷ xs) h = absurd (cc h)

outputs-set : (at at' : MotionState) (xs : List Segment) → has_switch xs ≡ true → (after_segments at xs).outputs ≡ (after_segments at' xs).outputs
outputs-set at at' [] h = absurd (cc h)
outputs-set at at' (segment.Line line ∷ xs) h = outputs-set (record at { point = line.end }) (record at' { point = line.end }) xs h
outputs-set at at' (segment.Arc arc ∷ xs) h = outputs-set (record at { point = arc.end }) (record at' { point = arc.end }) xs h
outputs-set at at' (segment.Dwell seconds ∷ xs) h = outputs-set at at' xs h
outputs-set at at' (segment.Switch q ∷ xs) h = outputs-alone at.point at'.point q xs

-- ---- strokes that don't set the spindle

abbrev sets_spindle : List Stroke → Bool
sets_spindle [] = false
sets_spindle (Across r ∷ rest) = sets_spindle rest
sets_spindle (ToR ∷ rest) = sets_spindle rest
sets_spindle (TraverseTo z ∷ rest) = sets_spindle rest
sets_spindle (FeedTo z ∷ rest) = sets_spindle rest
sets_spindle (Wait seconds ∷ rest) = sets_spindle rest
sets_spindle (SetSpindle spindle ∷ rest) = true

spindle-append : (xs ys : List Stroke) → sets_spindle xs ≡ false → sets_spindle ys ≡ false → sets_spindle (xs ++ ys) ≡ false
spindle-append [] ys h g = g
spindle-append (Across r ∷ xs) ys h g = spindle-append xs ys h g
spindle-append (ToR ∷ xs) ys h g = spindle-append xs ys h g
spindle-append (TraverseTo z ∷ xs) ys h g = spindle-append xs ys h g
spindle-append (FeedTo z ∷ xs) ys h g = spindle-append xs ys h g
spindle-append (Wait seconds ∷ xs) ys h g = spindle-append xs ys h g
spindle-append (SetSpindle spindle ∷ xs) ys h g = absurd (cc h)

spindle-pecks : (d : Drill) (q a n : ℕ) → sets_spindle (flat_map (again d q) (numbers_from a n)) ≡ false
spindle-pecks d q a zero = refl
spindle-pecks d q a (suc n) = spindle-pecks d q (suc a) n

spindle-work : (d : Drill) (w : Work) → stops w ≡ false → sets_spindle (strokes_of d w) ≡ false
spindle-work d Drilling h = refl
spindle-work d (DrillingWithDwell seconds) h = refl
spindle-work d (PeckDrilling q) h = spindle-append (flat_map (again d q) (numbers_from 1 (pecks d q - 1)))
    (TraverseTo d.clear ∷ []) (spindle-pecks d q 1 (pecks d q - 1)) refl
spindle-work d Boring h = refl
spindle-work d (BoringWithStop seconds) h = absurd (cc h)
spindle-work d (BoringWithDwell seconds) h = refl

spindle-repeats : (d : Drill) (b n : ℕ) → stops d.work ≡ false → sets_spindle (flat_map (repeat d) (numbers_from b n)) ≡ false
spindle-repeats d b zero h = refl
spindle-repeats d b (suc n) h = spindle-append (strokes_of d d.work) (flat_map (repeat d) (numbers_from (suc b) n))
    (spindle-work d d.work h) (spindle-repeats d (suc b) n h)

spindle-rise : (d : Drill) (rises : Bool) (ss : List Stroke) → sets_spindle ss ≡ false
    → sets_spindle ((if rises then TraverseTo d.r ∷ [] else []) ++ ss) ≡ false
spindle-rise d true ss h = h
spindle-rise d false ss h = h

spindle-strokes : (d : Drill) → stops d.work ≡ false → sets_spindle (strokes d) ≡ false
spindle-strokes d h = spindle-rise d (int_lt d.start.z d.r) (flat_map (repeat d) (numbers_from 1 d.repeats)) (spindle-repeats d 1 d.repeats h)

-- ---- where the spindle isn't set, nothing switches

to_r-none : (d : Drill) (at : MotionState) (ss : List Stroke) (there : Bool) (n : ℕ) →
    ((at : MotionState) (n : ℕ) → has_switch (take n (traced d at ss)) ≡ false) →
    has_switch (take n ((if there then [] else segments_of d at (TraverseTo d.r)) ++ traced d
    (after_segments at (if there then [] else segments_of d at (TraverseTo d.r))) ss)) ≡ false
to_r-none d at ss true n none = none at n
to_r-none d at ss false zero none = refl
to_r-none d at ss false (suc n) none = none (record at { point = record at.point { z = d.r } }) n

switch-none : (d : Drill) (at : MotionState) (ss : List Stroke) (n : ℕ) → sets_spindle ss ≡ false → has_switch (take n (traced d at ss)) ≡ false
switch-none d at [] n h = ap has_switch (take-nothing n)
switch-none d at (Across r ∷ ss) zero h = refl
switch-none d at (Across r ∷ ss) (suc n) h = switch-none d _ ss n h
switch-none d at (ToR ∷ ss) n h = to_r-none d at ss (int_eq at.point.z d.r) n (λ at' k. switch-none d at' ss k h)
switch-none d at (TraverseTo z ∷ ss) zero h = refl
switch-none d at (TraverseTo z ∷ ss) (suc n) h = switch-none d _ ss n h
switch-none d at (FeedTo z ∷ ss) zero h = refl
switch-none d at (FeedTo z ∷ ss) (suc n) h = switch-none d _ ss n h
switch-none d at (Wait seconds ∷ ss) zero h = refl
switch-none d at (Wait seconds ∷ ss) (suc n) h = switch-none d at ss n h
switch-none d at (SetSpindle spindle ∷ ss) n h = absurd (cc h)

pub none-switched : (d : Drill) (n : ℕ) → stops d.work ≡ false → has_switch (take n (cycle_segments d)) ≡ false
none-switched d n h = switch-none d (begin d) (strokes d) n (spindle-strokes d h)

-- ---- G86 switches first when it stops the spindle

stop-work : (d : Drill) (w : Work) → stops w ≡ true → strokes_of d w ≡ FeedTo d.z ∷ Wait (seconds_of w) ∷ SetSpindle
    Stopped ∷ TraverseTo d.clear ∷ SetSpindle d.outputs.spindle ∷ []
stop-work d (BoringWithStop seconds) h = refl
stop-work d Drilling h = absurd (cc h)
stop-work d (DrillingWithDwell seconds) h = absurd (cc h)
stop-work d (PeckDrilling q) h = absurd (cc h)
stop-work d Boring h = absurd (cc h)
stop-work d (BoringWithDwell seconds) h = absurd (cc h)

-- a hole of G86, from above R or from R on
to_hole : Drill → MotionState → Bool → ℤ → List Stroke → List Segment
to_hole d at there seconds ss =
    let to_r = if there then [] else segments_of d at (TraverseTo d.r) in
    to_r ++ traced d (after_segments at to_r) (FeedTo d.z ∷ Wait seconds ∷ SetSpindle Stopped ∷ ss)

hole-before : (d : Drill) (at : MotionState) (there : Bool) (seconds : ℤ) (ss : List Stroke) (n : ℕ)
    → n ≤ (if there then 0 else 1) + 2 → has_switch (take n (to_hole d at there seconds ss)) ≡ false
unfolding to_hole
hole-before d at true seconds ss zero h = refl
hole-before d at true seconds ss (suc zero) h = refl
hole-before d at true seconds ss (suc (suc zero)) h = refl
hole-before d at true seconds ss (suc (suc (suc n))) h = absurd (omega (arith, h))
hole-before d at false seconds ss zero h = refl
hole-before d at false seconds ss (suc zero) h = refl
hole-before d at false seconds ss (suc (suc zero)) h = refl
hole-before d at false seconds ss (suc (suc (suc zero))) h = refl
hole-before d at false seconds ss (suc (suc (suc (suc n)))) h = absurd (omega (arith, h))

hole-after : (d : Drill) (at : MotionState) (there : Bool) (seconds : ℤ) (ss : List Stroke) (n : ℕ)
    → (if there then 0 else 1) + 2 < n → has_switch (take n (to_hole d at there seconds ss)) ≡ true
unfolding to_hole
hole-after d at true seconds ss zero h = absurd (omega (arith, h))
hole-after d at true seconds ss (suc zero) h = absurd (omega (arith, h))
hole-after d at true seconds ss (suc (suc zero)) h = absurd (omega (arith, h))
hole-after d at true seconds ss (suc (suc (suc n))) h = refl
hole-after d at false seconds ss zero h = absurd (omega (arith, h))
hole-after d at false seconds ss (suc zero) h = absurd (omega (arith, h))
hole-after d at false seconds ss (suc (suc zero)) h = absurd (omega (arith, h))
hole-after d at false seconds ss (suc (suc (suc zero))) h = absurd (omega (arith, h))
hole-after d at false seconds ss (suc (suc (suc (suc n)))) h = refl

-- a hole of G86, from the cycle's start
first_hole : Drill → Bool → ℤ → List Stroke → List Segment
first_hole d rises seconds ss =
    traced d (begin d) ((if rises then TraverseTo d.r ∷ [] else [])
    ++ (Across 1 ∷ ToR ∷ FeedTo d.z ∷ Wait seconds ∷ SetSpindle Stopped ∷ ss))

lead : Drill → Bool → ℕ
lead d rises = (if rises then 1 else 0) + (1 + (if int_eq (if rises then d.r else d.start.z) d.r then 0 else 1))

first-before : (d : Drill) (rises : Bool) (seconds : ℤ) (ss : List Stroke) (n : ℕ) → n ≤ lead d rises + 2
    → has_switch (take n (first_hole d rises seconds ss)) ≡ false
unfolding first_hole lead to_hole
first-before d true seconds ss zero h = refl
first-before d true seconds ss (suc zero) h = refl
first-before d true seconds ss (suc (suc n)) h = hole-before d _ (int_eq d.r d.r) seconds ss n (omega (arith, h))
first-before d false seconds ss zero h = refl
first-before d false seconds ss (suc n) h = hole-before d _ (int_eq d.start.z d.r) seconds ss n (omega (arith, h))

first-after : (d : Drill) (rises : Bool) (seconds : ℤ) (ss : List Stroke) (n : ℕ) → lead d rises + 2 < n
    → has_switch (take n (first_hole d rises seconds ss)) ≡ true
unfolding first_hole lead to_hole
first-after d true seconds ss zero h = absurd (omega (arith, h))
first-after d true seconds ss (suc zero) h = absurd (omega (arith, h))
first-after d true seconds ss (suc (suc n)) h = hole-after d _ (int_eq d.r d.r) seconds ss n (omega (arith, h))
first-after d false seconds ss zero h = absurd (omega (arith, h))
first-after d false seconds ss (suc n) h = hole-after d _ (int_eq d.start.z d.r) seconds ss n (omega (arith, h))

segments-stop : (d : Drill) (n : ℕ) → 1 ≤ n → stops d.work ≡ true →
    (ss : List Stroke) × (traced d (begin d) ((if int_lt d.start.z d.r then TraverseTo d.r ∷ [] else []) ++ flat_map
    (repeat d) (numbers_from 1 n)) ≡ first_hole d (int_lt d.start.z d.r) (seconds_of d.work) ss)
unfolding first_hole
segments-stop d zero some h = absurd (omega arith)
segments-stop d (suc m) some h =
    let rest = flat_map (repeat d) (numbers_from 2 m) in
    let lead = if int_lt d.start.z d.r then TraverseTo d.r ∷ [] else [] in (
      (TraverseTo d.clear ∷ SetSpindle d.outputs.spindle ∷ []) ++ rest,
      ap (λ (hole : List Stroke). traced d (begin d) (lead ++ (Across 1 ∷ ToR ∷ (hole ++ rest)))) (stop-work d d.work h),
    )

pub before-stop : (d : Drill) (n : ℕ) → 1 ≤ d.repeats → stops d.work ≡ true → n ≤ lead_length d + 2 → has_switch (take n (cycle_segments d)) ≡ false
unfolding lead
before-stop d n some h few =
    let s = segments-stop d d.repeats some h in
    ap (λ (segments : List Segment). has_switch (take n segments)) s.1 ∙ first-before d (int_lt d.start.z d.r) (seconds_of d.work) s.0 n few

pub after-stop : (d : Drill) (n : ℕ) → 1 ≤ d.repeats → stops d.work ≡ true → lead_length d + 2 < n → has_switch (take n (cycle_segments d)) ≡ true
unfolding lead
after-stop d n some h more =
    let s = segments-stop d d.repeats some h in
    ap (λ (segments : List Segment). has_switch (take n segments)) s.1 ∙ first-after d (int_lt d.start.z d.r) (seconds_of d.work) s.0 n more

-- ---- a cycle begins with a move, so its point doesn't matter

begins : (d : Drill) (rises : Bool) (n : ℕ) → 1 ≤ n → (line : StraightMove) × (rest : List Segment)
    × (traced d (begin d) ((if rises then TraverseTo d.r ∷ [] else []) ++ flat_map (repeat d) (numbers_from 1 n))
    ≡ segment.Line line ∷ rest)
begins d rises zero some = absurd (omega arith)
begins d true (suc m) some = (_, _, refl)
begins d false (suc m) some = (_, _, refl)

point-taken : (at at' : MotionState) (segments : List Segment) (line : StraightMove) (rest : List Segment) (n : ℕ)
    → 1 ≤ n → segments ≡ segment.Line line ∷ rest
    → (after_segments at (take n segments)).point ≡ (after_segments at' (take n segments)).point
point-taken at at' segments line rest zero some e = absurd (omega arith)
point-taken at at' segments line rest (suc n) some e =
    let P : List Segment → Type 0 = λ s. (after_segments at (take (suc n) s)).point ≡ (after_segments at' (take (suc n) s)).point in
    subst P (sym e) (point-alone line.end at.outputs at'.outputs (take n rest))

pub point-cycle : (d : Drill) (at at' : MotionState) (n : ℕ) → 1 ≤ d.repeats → 1 ≤ n
    → (after_segments at (take n (cycle_segments d))).point ≡ (after_segments at' (take n (cycle_segments d))).point
point-cycle d at at' n some more =
    let b = begins d (int_lt d.start.z d.r) d.repeats some in
    point-taken at at' (cycle_segments d) b.0 b.1 n more b.2

-- ---- together

stand-same : (a b : MotionState) → a.point ≡ b.point → a.outputs ≡ b.outputs → a ≡ b
stand-same a b p o =
    let P : MotionState = record { point = b.point; outputs = a.outputs } in
    let first : a ≡ P = ap (λ (q : Point). record { point = q; outputs = a.outputs }) p in
    first ∙ ap (λ (q : Outputs). record { point = b.point; outputs = q }) o

pub switched-motion_state : (d : Drill) (before own : MotionState) (n : ℕ) → 1 ≤ d.repeats → 1 ≤ n
    → own ≡ after_segments (begin d) (take n (cycle_segments d)) → has_switch (take n (cycle_segments d)) ≡ true
    → own ≡ after_segments before (take n (cycle_segments d))
switched-motion_state d before own n some more e h =
    e ∙ stand-same _ _ (point-cycle d (begin d) before n some more) (outputs-set (begin d) before (take n (cycle_segments d)) h)

pub unswitched-motion_state : (d : Drill) (before own : MotionState) (n : ℕ) → 1 ≤ d.repeats → 1 ≤ n
    → own ≡ after_segments (begin d) (take n (cycle_segments d)) → has_switch (take n (cycle_segments d)) ≡ false
    → record { point = own.point; outputs = before.outputs } ≡ after_segments before (take n (cycle_segments d))
unswitched-motion_state d before own n some more e h =
    stand-same _ _ (ap (λ (at : MotionState). at.point) e ∙ point-cycle d (begin d) before n some more)
    (sym (outputs-same before (take n (cycle_segments d)) h))

by-case : (t b : Bool) (a n : ℕ) → nat_lt a n ≡ t → (n ≤ a → b ≡ false) → (a < n → b ≡ true) → t ≡ b
by-case true b a n e few more = sym (more (ltb-true a n e))
by-case false b a n e few more = sym (few (ltb-false a n e))

by-test : (a n : ℕ) (b : Bool) → (n ≤ a → b ≡ false) → (a < n → b ≡ true) → nat_lt a n ≡ b
by-test a n b few more = by-case (nat_lt a n) b a n refl few more

-- whether a segment switches, in the code's terms
pub has-switched : (d : Drill) (n l : ℕ) → 1 ≤ d.repeats → stops d.work ≡ true → l ≡ lead_length d → nat_lt (l + 2) n ≡ has_switch (take n (cycle_segments d))
has-switched d n l some h e = rw e (by-test (lead_length d + 2) n _ (before-stop d n some h) (after-stop d n some h))
