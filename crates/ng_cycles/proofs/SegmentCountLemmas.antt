-- How many segments a cycle has.
use Rattle.std.proofs.Common.{arith, ℕ, zero, suc, ◌+◌, ◌-◌, ◌*◌, ◌≡◌, ◌≤◌, Bool, true, false, List, [], ◌∷◌, ◌++◌}
use Rattle.std.proofs.Common.{length, flat_map, refl, sym, ◌∙◌, ap, if◌then◌else◌, int_lt}
use Rattle.std.specs.Ordering.{int_eq}
use Rattle.std.proofs.lemmas.List.{length-append}
use Rattle.ng_num.specs.declared.point.Point.{Point}
use Rattle.ng_cycles.specs.declared.drill.Drill.{Drill}
use Rattle.ng_cycles.specs.declared.motion_state.MotionState.{MotionState}
use Rattle.ng_cycles.specs.Private.Counts.{lead_length}
use Rattle.ng_cycles.specs.Left.{work_length, repeat_length}
use Rattle.ng_cycles.specs.Strokes.{Stroke, TraverseTo, numbers_from, coordinate, strokes_of, repeat}
use Rattle.ng_cycles.specs.Segments.{cycle_segments, traced, after_segments}
use Rattle.ng_cycles.proofs.SkipLemmas.{stand, hole_at, traced-append, work-length, r-length, repeat-end, repeat-length}

-- a repeat that begins at any height
first-length : (d : Drill) (p : Point) (r : ℕ) → length (traced d (stand d p) (repeat d r)) ≡ 1 + ((if int_eq p.z d.r then 0 else 1) + work_length d d.work)
first-length d p r =
    let here = if int_eq p.z d.r then 0 else 1 in
    let long : length (traced d (stand d p) (repeat d r)) ≡ suc (here + work_length d d.work) =
    ap suc (r-length d (record p { x = coordinate d.x r; y = coordinate d.y r }) (int_eq p.z d.r)
    (strokes_of d d.work) (work_length d d.work) (λ q. work-length d q d.work)) in
    let one : suc (here + work_length d d.work) ≡ 1 + (here + work_length d d.work) = omega arith in
    long ∙ one

length-repeats : (d : Drill) (p : Point) (b : ℕ) (rest : List Stroke) →
    length (traced d (stand d p) (repeat d b ++ rest)) ≡ length (traced d (stand d p) (repeat d b)) + length (traced d (stand d (hole_at d b)) rest)
length-repeats d p b rest =
    let one = traced d (stand d p) (repeat d b) in
    ap length (traced-append d (stand d p) (repeat d b) rest)
    ∙ (length-append one (traced d (after_segments (stand d p) one) rest)
    ∙ ap (λ (at : MotionState). length one + length (traced d at rest)) (repeat-end d p b))

later-length : (d : Drill) (p : Point) (b m : ℕ) → p.z ≡ d.clear → length (traced d (stand d p) (flat_map (repeat d) (numbers_from b m))) ≡ m * repeat_length d
later-length d p b zero e = omega arith
later-length d p b (suc m) e =
    let split = length-repeats d p b (flat_map (repeat d) (numbers_from (suc b) m)) in
    let first = repeat-length d p b e in
    let more = later-length d (hole_at d b) (suc b) m refl in
    omega (arith, split, first, more)

all-length : (d : Drill) (p : Point) (m : ℕ) →
    length (traced d (stand d p) (flat_map (repeat d) (numbers_from 1 (suc m))))
    ≡ (1 + ((if int_eq p.z d.r then 0 else 1) + work_length d d.work)) + m * repeat_length d
all-length d p m =
    let split = length-repeats d p 1 (flat_map (repeat d) (numbers_from 2 m)) in
    let first = first-length d p 1 in
    let more = later-length d (hole_at d 1) 2 m refl in
    omega (arith, split, first, more)

rise-length : (d : Drill) (p : Point) (rises : Bool) (m : ℕ) →
    length (traced d (stand d p) ((if rises then TraverseTo d.r ∷ [] else []) ++ flat_map (repeat d) (numbers_from 1 (suc m))))
    ≡ (((if rises then 1 else 0) + (1 + (if int_eq (if rises then d.r else p.z) d.r then 0 else 1))) + work_length d d.work) + m * repeat_length d
rise-length d p true m = let e = all-length d (record p { z = d.r }) m in omega (arith, e)
rise-length d p false m = let e = all-length d p m in omega (arith, e)

by-repeats : (d : Drill) (n : ℕ) → 1 ≤ n →
    length (traced d (stand d d.start) ((if int_lt d.start.z d.r then TraverseTo d.r ∷ [] else []) ++ flat_map (repeat d) (numbers_from 1 n)))
    ≡ (lead_length d + work_length d d.work) + (n - 1) * repeat_length d
by-repeats d zero some = absurd (omega arith)
by-repeats d (suc m) some =
    let less : suc m - 1 ≡ m = omega arith in
    rw less (rise-length d d.start (int_lt d.start.z d.r) m)

pub length-cycle : (d : Drill) → 1 ≤ d.repeats → (lead_length d + work_length d d.work) + (d.repeats - 1) * repeat_length d ≡ length (cycle_segments d)
length-cycle d some = sym (by-repeats d d.repeats some)

total : Drill → ℕ
total d = (lead_length d + work_length d d.work) + (d.repeats - 1) * repeat_length d

-- the number of segments, in the code's terms
pub counted : (d own : Drill) (lead work repeat later : ℕ) → own ≡ d → 1 ≤ d.repeats → lead ≡ lead_length own
    → work ≡ work_length own own.work → repeat ≡ repeat_length own → later ≡ (own.repeats - 1) * repeat →
    (lead + work) + later ≡ length (cycle_segments d)
unfolding total
counted d own lead work repeat later o some a b c e =
    let first : (lead + work) + later ≡ total own = rw (e, c, b, a) refl in
    first ∙ (ap total o ∙ length-cycle d some)
