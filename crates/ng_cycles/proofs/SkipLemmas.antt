-- Whole repeats and whole pecks of a cycle are skipped at once.
use Rattle.std.proofs.Common.{arith, ℕ, zero, suc, ◌+◌, ◌-◌, ◌*◌, ◌/◌, min, ◌≡◌, ◌≤◌, Bool, true, false, ℤ, List}
use Rattle.std.proofs.Common.{[], ◌∷◌, ◌++◌, length, take, drop, flat_map, refl, sym, ◌∙◌, ap, append_assoc}
use Rattle.std.proofs.Common.{if◌then◌else◌, int_lt}
use Rattle.std.specs.Ordering.{int_eq}
use Rattle.std.proofs.lemmas.List.Sums.{fold-append}
use Rattle.std.proofs.lemmas.Nat.{mul-le}
use Rattle.std.proofs.Math.Nat.{div-mul-le_self}
use Rattle.std.proofs.Math.Seq.{drop-append-add, take-append-add}
use Rattle.ng_num.specs.declared.point.Point.{Point}
use Rattle.ng_canon.specs.declared.outputs.Outputs.{Outputs}
use Rattle.ng_canon.specs.declared.segment.Segment.{Segment}
use Rattle.ng_cycles.specs.declared.drill.Drill.{Drill}
use Rattle.ng_cycles.specs.declared.drill.Work.{Work}
use Rattle.ng_cycles.specs.declared.drill.Work.TheVariants.{Drilling, DrillingWithDwell, PeckDrilling, Boring, BoringWithStop, BoringWithDwell}
use Rattle.ng_cycles.specs.declared.motion_state.MotionState.{MotionState}
use Rattle.ng_cycles.specs.Left.{pecks_after, work_length, repeat_length}
use Rattle.ng_cycles.specs.Strokes.{Stroke, TraverseTo, numbers_from, coordinate, bottom, pecks, again, strokes_of, repeat}
use Rattle.ng_cycles.specs.Segments.{begin, cycle_segments, traced, segments_of, after_segment, after_segments, CycleModel, later}

abbrev pub ahead : Drill → MotionState → List Stroke → CycleModel
ahead d at ss = record { motion_state = at; segments = traced d at ss }

pub traced-append : (d : Drill) (at : MotionState) (xs ys : List Stroke)
    → traced d at (xs ++ ys) ≡ traced d at xs ++ traced d (after_segments at (traced d at xs)) ys
traced-append d at [] ys = refl
traced-append d at (s ∷ xs) ys =
    let here = segments_of d at s in
    let after = after_segments at here in
    ap (λ (rest : List Segment). here ++ rest) (traced-append d after xs ys)
    ∙ (sym (append_assoc here (traced d after xs) (traced d (after_segments after (traced d after xs)) ys))
    ∙ ap (λ (end : MotionState). (here ++ traced d after xs) ++ traced d end ys) (sym (fold-append after_segment at here (traced d after xs))))

later-append : (at : MotionState) (xs ys : List Segment) (k : ℕ)
    → later (length xs + k) (record { motion_state = at; segments = xs ++ ys }) ≡ later k
    (record { motion_state = after_segments at xs; segments = ys })
later-append at xs ys k = rw (take-append-add xs ys k, drop-append-add xs ys k, fold-append after_segment at xs (take k ys)) refl

skip-strokes : (d : Drill) (at : MotionState) (xs ys : List Stroke) (k n : ℕ) → n ≡ length (traced d at xs)
    → later (n + k) (ahead d at (xs ++ ys)) ≡ later k (ahead d (after_segments at (traced d at xs)) ys)
skip-strokes d at xs ys k n e =
    ap (λ (m : ℕ). later (m + k) (ahead d at (xs ++ ys))) e
    ∙ (ap (λ (segments : List Segment). later (length (traced d at xs) + k) (record { motion_state = at; segments = segments })) (traced-append d at xs ys)
    ∙ later-append at (traced d at xs) (traced d (after_segments at (traced d at xs)) ys) k)

-- ---- a hole

abbrev pub stand : Drill → Point → MotionState
stand d p = record { point = p; outputs = d.outputs }

abbrev pub hole_at : Drill → ℕ → Point
hole_at d r = record { x = coordinate d.x r; y = coordinate d.y r; z = d.clear }

pecks-end : (d : Drill) (p : Point) (q k n : ℕ) → after_segments (stand d p) (traced d (stand d p) (pecks_after d q k n)) ≡ stand d (record p { z = d.clear })
pecks-end d p q k zero = refl
pecks-end d p q k (suc n) = pecks-end d (record p { z = bottom d q (suc k) }) q (suc k) n

pecks-length : (d : Drill) (p : Point) (q k n : ℕ) → length (traced d (stand d p) (pecks_after d q k n)) ≡ 3 * n + 1
pecks-length d p q k zero = refl
pecks-length d p q k (suc n) =
    let e = pecks-length d (record p { z = bottom d q (suc k) }) q (suc k) n in
    omega (arith, e)

work-end : (d : Drill) (p : Point) (w : Work) → after_segments (stand d p) (traced d (stand d p) (strokes_of d w)) ≡ stand d (record p { z = d.clear })
work-end d p Drilling = refl
work-end d p (DrillingWithDwell seconds) = refl
work-end d p (PeckDrilling q) = pecks-end d (record p { z = bottom d q 1 }) q 1 (pecks d q - 1)
work-end d p Boring = refl
work-end d p (BoringWithStop seconds) = refl
work-end d p (BoringWithDwell seconds) = refl

pub work-length : (d : Drill) (p : Point) (w : Work) → length (traced d (stand d p) (strokes_of d w)) ≡ work_length d w
work-length d p Drilling = refl
work-length d p (DrillingWithDwell seconds) = refl
work-length d p (PeckDrilling q) =
    let e = pecks-length d (record p { z = bottom d q 1 }) q 1 (pecks d q - 1) in
    omega (arith, e)
work-length d p Boring = refl
work-length d p (BoringWithStop seconds) = refl
work-length d p (BoringWithDwell seconds) = refl

-- ---- a repeat

abbrev to_r : Drill → MotionState → Bool → List Segment
to_r d at there = if there then [] else segments_of d at (TraverseTo d.r)

r-end : (d : Drill) (p : Point) (there : Bool) (ss : List Stroke)
    → ((p : Point) → after_segments (stand d p) (traced d (stand d p) ss) ≡ stand d (record p { z = d.clear })) →
    after_segments (stand d p)
    (to_r d (stand d p) there ++ traced d (after_segments (stand d p) (to_r d (stand d p) there)) ss) ≡ stand d
    (record p { z = d.clear })
r-end d p true ss ends = ends p
r-end d p false ss ends = ends (record p { z = d.r })

pub repeat-end : (d : Drill) (p : Point) (r : ℕ) → after_segments (stand d p) (traced d (stand d p) (repeat d r)) ≡ stand d (hole_at d r)
repeat-end d p r = r-end d (record p { x = coordinate d.x r; y = coordinate d.y r }) (int_eq p.z d.r) (strokes_of d d.work) (λ q. work-end d q d.work)

pub r-length : (d : Drill) (p : Point) (there : Bool) (ss : List Stroke) (n : ℕ) → ((p : Point) → length (traced d (stand d p) ss) ≡ n) →
    length (to_r d (stand d p) there ++ traced d (after_segments (stand d p) (to_r d (stand d p) there)) ss) ≡ (if there then 0 else 1) + n
r-length d p true ss n long = let e = long p in omega (arith, e)
r-length d p false ss n long = let e = long (record p { z = d.r }) in omega (arith, e)

pub repeat-length : (d : Drill) (p : Point) (r : ℕ) → p.z ≡ d.clear → repeat_length d ≡ length (traced d (stand d p) (repeat d r))
repeat-length d p r e =
    let here = if int_eq p.z d.r then 0 else 1 in
    let long : length (traced d (stand d p) (repeat d r)) ≡ suc (here + work_length d d.work) =
    ap suc (r-length d (record p { x = coordinate d.x r; y = coordinate d.y r }) (int_eq p.z d.r)
    (strokes_of d d.work) (work_length d d.work) (λ q. work-length d q d.work)) in
    let same : repeat_length d ≡ 1 + (here + work_length d d.work) = ap (λ (z : ℤ). 1 + ((if int_eq z d.r then 0 else 1) + work_length d d.work)) (sym e) in
    let one : 1 + (here + work_length d d.work) ≡ suc (here + work_length d d.work) = omega arith in
    same ∙ (one ∙ sym long)

one_repeat : (d : Drill) (p : Point) (b m k : ℕ) → p.z ≡ d.clear
    → later (repeat_length d + k) (ahead d (stand d p) (flat_map (repeat d) (numbers_from (suc b) (suc m)))) ≡ later
    k (ahead d (stand d (hole_at d (suc b))) (flat_map (repeat d) (numbers_from (suc (suc b)) m)))
one_repeat d p b m k e =
    let rest = flat_map (repeat d) (numbers_from (suc (suc b)) m) in
    skip-strokes d (stand d p) (repeat d (suc b)) rest k (repeat_length d) (repeat-length d p (suc b) e)
    ∙ ap (λ (at : MotionState). later k (ahead d at rest)) (repeat-end d p (suc b))

skips : (d : Drill) (p : Point) (b q m k : ℕ) → p.z ≡ d.clear →
    later (suc q * repeat_length d + k)
    (ahead d (stand d p) (flat_map (repeat d) (numbers_from (suc b) (suc q + m)))) ≡ later k
    (ahead d (stand d (hole_at d (b + suc q))) (flat_map (repeat d) (numbers_from (suc (b + suc q)) m)))
skips d p b zero m k e =
    let all : suc zero + m ≡ suc m = omega arith in
    let n : suc zero * repeat_length d + k ≡ repeat_length d + k = omega arith in
    let at : b + suc zero ≡ suc b = omega arith in
    rw (all, n, at) (one_repeat d p b m k e)
skips d p b (suc q) m k e =
    let all : suc (suc q) + m ≡ suc (suc q + m) = omega arith in
    let n : suc (suc q) * repeat_length d + k ≡ repeat_length d + (suc q * repeat_length d + k) = omega arith in
    let at : b + suc (suc q) ≡ suc b + suc q = omega arith in
    rw (all, n, at) (one_repeat d p b (suc q + m) (suc q * repeat_length d + k) e ∙ skips d (hole_at d (suc b)) (suc b) q m k refl)

-- skipping repeats, with equal numbers
pub skip_repeats : (d : Drill) (at : MotionState) (b n q left m b' k : ℕ) → at.point.z ≡ d.clear
    → at.outputs ≡ d.outputs → 1 ≤ q → n ≡ q * repeat_length d + k → left ≡ q + m → b' ≡ b + q →
    later k (ahead d (stand d (hole_at d b')) (flat_map (repeat d) (numbers_from (suc b') m))) ≡ later n
    (ahead d at (flat_map (repeat d) (numbers_from (suc b) left)))
skip_repeats d at b n zero left m b' k z o some e f g = absurd (omega arith)
skip_repeats d at b n (suc q) left m b' k z o some e f g = rw (e, f, g) (sym (
    ap (λ (outputs : Outputs). later (suc q * repeat_length d + k)
    (ahead d (record { point = at.point; outputs = outputs })
    (flat_map (repeat d) (numbers_from (suc b) (suc q + m))))) o
    ∙ skips d at.point b q m k z))

-- skipping repeats, in the code's terms
pub pass_repeats_later : (d : Drill) (at : MotionState) (b n q left m b' k : ℕ) (end : Point) (z : ℤ)
    → at.point.z ≡ d.clear → at.outputs ≡ d.outputs → 1 ≤ q → n ≡ q * repeat_length d + k → left ≡ q + m
    → b' ≡ b + q →
    end ≡ record { x = coordinate d.x b'; y = coordinate d.y b'; z = z } → z ≡ d.clear →
    later k (ahead d (record { point = end; outputs = at.outputs }) (flat_map (repeat d) (numbers_from (suc b') m)))
    ≡ later n (ahead d at (flat_map (repeat d) (numbers_from (suc b) left)))
pass_repeats_later d at b n q left m b' k end z e o some f g h is_end is_z =
    let rest = flat_map (repeat d) (numbers_from (suc b') m) in
    rw (is_end, is_z) (ap
    (λ (outputs : Outputs). later k (ahead d (record { point = hole_at d b'; outputs = outputs }) rest)) o
    ∙ skip_repeats d at b n q left m b' k e o some f g h)

-- ---- pecks

one_peck : (d : Drill) (at : MotionState) (q a k : ℕ) (rest : List Stroke)
    → later (3 + k) (ahead d at (again d q a ++ rest)) ≡ later k
    (ahead d (record at { point = record at.point { z = bottom d q (suc a) } }) rest)
one_peck d at q a k rest = let e : 3 + k ≡ suc (suc (suc k)) = omega arith in rw e refl

peck_skips : (d : Drill) (at : MotionState) (q a j m k : ℕ) (rest : List Stroke) →
    later (3 * suc j + k) (ahead d at (flat_map (again d q) (numbers_from a (suc j + m)) ++ rest)) ≡ later k
    (ahead d (record at { point = record at.point { z = bottom d q (a + suc j) } })
    (flat_map (again d q) (numbers_from (a + suc j) m) ++ rest))
peck_skips d at q a zero m k rest =
    let all : suc zero + m ≡ suc m = omega arith in
    let n : 3 * suc zero + k ≡ 3 + k = omega arith in
    let to : a + suc zero ≡ suc a = omega arith in
    rw (all, n, to) (one_peck d at q a k (flat_map (again d q) (numbers_from (suc a) m) ++ rest))
peck_skips d at q a (suc j) m k rest =
    let all : suc (suc j) + m ≡ suc (suc j + m) = omega arith in
    let n : 3 * suc (suc j) + k ≡ 3 + (3 * suc j + k) = omega arith in
    let to : a + suc (suc j) ≡ suc a + suc j = omega arith in
    rw (all, n, to) (one_peck d at q a (3 * suc j + k) (flat_map (again d q) (numbers_from (suc a) (suc j + m)) ++ rest)
    ∙ peck_skips d (record at { point = record at.point { z = bottom d q (suc a) } }) q (suc a) j m k rest)

pecks_at : (d : Drill) (at : MotionState) (q a j left' done k : ℕ) (rest : List Stroke) → done ≡ a + suc j →
    later k (ahead d (record at { point = record at.point { z = bottom d q done } }) (flat_map (again d q) (numbers_from done (suc left')) ++ rest))
    ≡ later (3 * suc j + k) (ahead d at (flat_map (again d q) (numbers_from a (suc j + suc left')) ++ rest))
pecks_at d at q a j left' done k rest g = rw g (sym (peck_skips d at q a j (suc left') k rest))

-- skipping pecks, with equal numbers
pub skip_pecks : (d : Drill) (at : MotionState) (q a n j left done left' k : ℕ) (out rest : List Stroke) → 1 ≤ j
    → n ≡ j * 3 + k → left ≡ j + left' → done ≡ a + j →
    later k (ahead d (record at { point = record at.point { z = bottom d q done } }) ((flat_map (again d q) (numbers_from done (suc left')) ++ out) ++ rest))
    ≡ later n (ahead d at ((flat_map (again d q) (numbers_from a (suc left)) ++ out) ++ rest))
skip_pecks d at q a n zero left done left' k out rest some e f g = absurd (omega arith)
skip_pecks d at q a n (suc j) left done left' k out rest some e f g =
    let n' : n ≡ 3 * suc j + k = omega (arith, e) in
    let all : suc left ≡ suc j + suc left' = omega (arith, f) in
    let flat : ℕ → ℕ → List Stroke = λ first count. flat_map (again d q) (numbers_from first count) in
    let after = record at { point = record at.point { z = bottom d q done } } in
    ap (λ (ss : List Stroke). later k (ahead d after ss)) (append_assoc (flat done (suc left')) out rest)
    ∙ (pecks_at d at q a j left' done k (out ++ rest) g
    ∙ (ap (λ (m : ℕ). later m (ahead d at (flat a (suc j + suc left') ++ (out ++ rest)))) (sym n')
    ∙ (ap (λ (count : ℕ). later n (ahead d at (flat a count ++ (out ++ rest)))) (sym all)
    ∙ ap (λ (ss : List Stroke). later n (ahead d at ss)) (sym (append_assoc (flat a (suc left)) out rest)))))

-- ---- one segment

pub later-next : (old new : CycleModel) (segment : Segment) (n k : ℕ) → n ≡ suc k
    → old.segments ≡ segment ∷ new.segments → new.motion_state ≡ after_segment old.motion_state segment
    → later k new ≡ later n old
later-next old new segment n k e s t = rw (e, s, t) refl

pub take-nothing : (n : ℕ) → take {A = Segment} n [] ≡ []
take-nothing zero = refl
take-nothing (suc n) = refl

drop-nothing : (n : ℕ) → drop {A = Segment} n [] ≡ []
drop-nothing zero = refl
drop-nothing (suc n) = refl

pub later-none : (old new : CycleModel) (n : ℕ) → old.segments ≡ [] → new ≡ old → later 0 new ≡ later n old
later-none old new n s e = rw (e, s, take-nothing n, drop-nothing n) refl

-- ---- whole parts of a number

pub parts_fit : (n l most : ℕ) → min (n / l) most * l ≤ n
parts_fit n l most =
    let h = mul-le (min (n / l) most) l (n / l) l (omega arith) (omega arith) in
    let g = div-mul-le_self n l in
    omega (arith, h, g)

-- ---- after the whole cycle

after_segments-append : (d : Drill) (at : MotionState) (xs ys : List Stroke)
    → after_segments at (traced d at (xs ++ ys)) ≡ after_segments (after_segments at (traced d at xs))
    (traced d (after_segments at (traced d at xs)) ys)
after_segments-append d at xs ys =
    ap (λ (segments : List Segment). after_segments at segments) (traced-append d at xs ys)
    ∙ fold-append after_segment at (traced d at xs) (traced d (after_segments at (traced d at xs)) ys)

repeats-end : (d : Drill) (p : Point) (b m : ℕ)
    → after_segments (stand d p) (traced d (stand d p) (flat_map (repeat d) (numbers_from (suc b) (suc m)))) ≡ stand
    d (hole_at d (b + suc m))
repeats-end d p b zero =
    let to : suc b ≡ b + suc zero = omega arith in
    after_segments-append d (stand d p) (repeat d (suc b)) [] ∙ (repeat-end d p (suc b) ∙ ap (λ (r : ℕ). stand d (hole_at d r)) to)
repeats-end d p b (suc m) =
    let rest = flat_map (repeat d) (numbers_from (suc (suc b)) (suc m)) in
    let to : suc b + suc m ≡ b + suc (suc m) = omega arith in
    after_segments-append d (stand d p) (repeat d (suc b)) rest
    ∙ (ap (λ (at : MotionState). after_segments at (traced d at rest)) (repeat-end d p (suc b))
    ∙ (repeats-end d (hole_at d (suc b)) (suc b) m ∙ ap (λ (r : ℕ). stand d (hole_at d r)) to))

ends-by : (d : Drill) (rises : Bool) (n : ℕ) → 1 ≤ n
    → after_segments (begin d)
    (traced d (begin d) ((if rises then TraverseTo d.r ∷ [] else []) ++ flat_map (repeat d) (numbers_from 1 n)))
    ≡ stand d (hole_at d n)
ends-by d rises zero some = absurd (omega arith)
ends-by d true (suc n) some = let to : 0 + suc n ≡ suc n = omega arith in repeats-end d (record d.start { z = d.r })
    0 n ∙ ap (λ (r : ℕ). stand d (hole_at d r)) to
ends-by d false (suc n) some = let to : 0 + suc n ≡ suc n = omega arith in repeats-end d d.start 0 n ∙ ap (λ (r : ℕ). stand d (hole_at d r)) to

pub cycle_end : (d : Drill) → 1 ≤ d.repeats → after_segments (begin d) (cycle_segments d) ≡ stand d (hole_at d d.repeats)
cycle_end d some = ends-by d (int_lt d.start.z d.r) d.repeats some
