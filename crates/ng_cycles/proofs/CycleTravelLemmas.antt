-- A cycle stays within the travel exactly if its extreme coordinates do.
use Rattle.std.proofs.Common.{arith, ℕ, zero, suc, ◌+◌, ◌-◌, ◌*◌, ◌/◌, ◌%◌, max, ◌≡◌, ◌≤◌, ◌<◌, ℤ, pos, negsuc}
use Rattle.std.proofs.Common.{◌+ℤ◌, ◌-ℤ◌, ◌*ℤ◌, ◌≤ℤ◌, ◌<ℤ◌, unsigned_abs, Bool, true, false, not, ◌||◌, ◌&&◌}
use Rattle.std.proofs.Common.{int_lt, int_le, List, [], ◌∷◌, ◌++◌, flat_map, refl, sym, ap, subst, if◌then◌else◌}
use Rattle.std.specs.Int.{int_min, int_max}
use Rattle.std.specs.List.{list_any}
use Rattle.std.specs.Ordering.{int_eq}
use Rattle.std.proofs.lemmas.Int.{ints, clamps}
use Rattle.std.proofs.lemmas.Nat.{mul-le}
use Rattle.std.proofs.Math.Nat.{div-add-mod, mod-lt, mul_comm}
use Rattle.ng_cycles.specs.Canned.{IsDeep, IsMade}
use Rattle.ng_num.specs.declared.point.Point.{Point}
use Rattle.ng_canon.specs.Geometry.{is_on, is_inside}
use Rattle.ng_canon.specs.declared.geometry.Axis.{Axis}
use Rattle.ng_canon.specs.declared.geometry.Geometry.{Geometry}
use Rattle.ng_canon.specs.declared.segment.Segment.{Segment}
use Rattle.ng_cycles.specs.declared.drill.HoleAxis.{HoleAxis}
use Rattle.ng_cycles.specs.declared.drill.Drill.{Drill}
use Rattle.ng_cycles.specs.declared.drill.Work.{Work}
use Rattle.ng_cycles.specs.declared.drill.Work.TheVariants.{Drilling, DrillingWithDwell, PeckDrilling, Boring, BoringWithStop, BoringWithDwell}
use Rattle.ng_cycles.specs.declared.motion_state.MotionState.{MotionState}
use Rattle.ng_cycles.specs.Private.Inside.{top_of, rises_inside, extremes_inside}
use Rattle.ng_cycles.specs.Faults.{ends_outside, leaves_travel}
use Rattle.ng_cycles.specs.Strokes.{Stroke, Across, ToR, TraverseTo, FeedTo, Wait, SetSpindle, numbers_from, coordinate}
use Rattle.ng_cycles.specs.Strokes.{bottom, pecks, clearance, again, strokes_of, repeat}
use Rattle.ng_cycles.specs.Segments.{traced, segments_of, after_segments, begin}

abbrev On : Axis → ℤ → Type 0
On axis n = is_on axis n ≡ true

and_true : (a b : Bool) → a ≡ true → b ≡ true → (a && b) ≡ true
and_true true b e f = f
and_true false b e f = e

and_left : (a b : Bool) → (a && b) ≡ true → a ≡ true
and_left true b e = refl
and_left false b e = e

and_right : (a b : Bool) → (a && b) ≡ true → b ≡ true
and_right true b e = e
and_right false b e = absurd (cc e)

first_none : (a b : Bool) → (not a || b) ≡ false → a ≡ true
first_none true b e = refl
first_none false b e = absurd (cc e)

rest_none : (a b : Bool) → (not a || b) ≡ false → b ≡ false
rest_none true b e = e
rest_none false b e = absurd (cc e)

both_none : (a b : Bool) → a ≡ true → b ≡ false → (not a || b) ≡ false
both_none true b e f = f
both_none false b e f = absurd (cc e)

-- ---- coordinates between two

to_le : (a b : ℤ) → int_le a b ≡ true → a ≤ℤ b
to_le a b e = grind (arith, ints)

lt_of : (a b : ℤ) → int_lt a b ≡ true → a <ℤ b
lt_of a b e = grind (arith, ints)

not_lt : (a b : ℤ) → int_lt a b ≡ false → b ≤ℤ a
not_lt a b e = grind (arith, ints)

from_le : (a b : ℤ) → a ≤ℤ b → int_le a b ≡ true
from_le a b e = grind (arith, ints)

on_between : (axis : Axis) (low high n : ℤ) → On axis low → On axis high → low ≤ℤ n → n ≤ℤ high → On axis n
on_between axis low high n l h above below =
    let a : axis.low ≤ℤ low = to_le axis.low low (and_left (int_le axis.low low) (int_le low axis.high) l) in
    let b : high ≤ℤ axis.high = to_le high axis.high (and_right (int_le axis.low high) (int_le high axis.high) h) in
    and_true (int_le axis.low n) (int_le n axis.high) (from_le axis.low n (omega (arith, ints, a, above))) (from_le n axis.high (omega (arith, ints, b, below)))

by_step : (axis : Axis) (from step : ℤ) (k n : ℕ) → 1 ≤ k → k ≤ n → On axis (from +ℤ pos 1 *ℤ step)
    → On axis (from +ℤ pos n *ℤ step) → On axis (from +ℤ pos k *ℤ step)
by_step axis from (pos s) k n some below first last =
    let a : 1 * s ≤ k * s = mul-le 1 s k s some (omega arith) in
    let b : k * s ≤ n * s = mul-le k s n s below (omega arith) in
    on_between axis (from +ℤ pos 1 *ℤ pos s) (from +ℤ pos n *ℤ pos s) (from +ℤ pos k *ℤ pos s) first last (omega (arith, ints, a)) (omega (arith, ints, b))
by_step axis from (negsuc s) k n some below first last =
    let a : 1 * suc s ≤ k * suc s = mul-le 1 (suc s) k (suc s) some (omega arith) in
    let b : k * suc s ≤ n * suc s = mul-le k (suc s) n (suc s) below (omega arith) in
    on_between axis (from +ℤ pos n *ℤ negsuc s) (from +ℤ pos 1 *ℤ negsuc s) (from +ℤ pos k *ℤ negsuc s) last first
    (omega (arith, ints, b)) (omega (arith, ints, a))

on_course : (axis : Axis) (c : HoleAxis) (k n : ℕ) → 1 ≤ k → k ≤ n → On axis (coordinate c 1) → On axis (coordinate c n) → On axis (coordinate c k)
on_course axis c k n some below first last = by_step axis c.from c.step k n some below first last

-- ---- where a stroke ends

abbrev Ends : Geometry → Drill → Stroke → Type 0
Ends g d (Across r) = On g.x (coordinate d.x r) × On g.y (coordinate d.y r)
Ends g d ToR = Unit {0}
Ends g d (TraverseTo z) = On g.z z
Ends g d (FeedTo z) = On g.z z
Ends g d (Wait seconds) = Unit {0}
Ends g d (SetSpindle spindle) = Unit {0}

abbrev AllEnd : Geometry → Drill → List Stroke → Type 0
AllEnd g d [] = Unit {0}
AllEnd g d (s ∷ rest) = Ends g d s × AllEnd g d rest

end-append : (g : Geometry) (d : Drill) (xs ys : List Stroke) → AllEnd g d xs → AllEnd g d ys → AllEnd g d (xs ++ ys)
end-append g d [] ys a b = b
end-append g d (x ∷ xs) ys a b = (a.0, end-append g d xs ys a.1 b)

end-after : (g : Geometry) (d : Drill) (xs ys : List Stroke) → AllEnd g d (xs ++ ys) → AllEnd g d ys
end-after g d [] ys a = a
end-after g d (x ∷ xs) ys a = end-after g d xs ys a.1

end-before : (g : Geometry) (d : Drill) (xs ys : List Stroke) → AllEnd g d (xs ++ ys) → AllEnd g d xs
end-before g d [] ys a = tt
end-before g d (x ∷ xs) ys a = (a.0, end-before g d xs ys a.1)

abbrev Stands : Geometry → Point → Type 0
Stands g p = On g.x p.x × On g.y p.y × On g.z p.z

stands_inside : (g : Geometry) (p : Point) → Stands g p → is_inside g p ≡ true
stands_inside g p h = and_true (is_on g.x p.x && is_on g.y p.y) (is_on g.z p.z) (and_true (is_on g.x p.x) (is_on g.y p.y) h.0 h.1) h.2

inside_stands : (g : Geometry) (p : Point) → is_inside g p ≡ true → Stands g p
inside_stands g p h =
    let across = and_left (is_on g.x p.x && is_on g.y p.y) (is_on g.z p.z) h in (
      and_left (is_on g.x p.x) (is_on g.y p.y) across,
      and_right (is_on g.x p.x) (is_on g.y p.y) across,
      and_right (is_on g.x p.x && is_on g.y p.y) (is_on g.z p.z) h,
    )

abbrev outside : Geometry → List Segment → Bool
outside g segments = list_any (ends_outside g) segments

abbrev to_r_segments : Drill → MotionState → Bool → List Segment
to_r_segments d at there = if there then [] else segments_of d at (TraverseTo d.r)

abbrev across_at : Drill → MotionState → ℕ → MotionState
across_at d at r = record at { point = record at.point { x = coordinate d.x r; y = coordinate d.y r } }

abbrev height_at : MotionState → ℤ → MotionState
height_at at z = record at { point = record at.point { z = z } }

-- ---- strokes that end inside, from a point inside

by_test : (g : Geometry) (d : Drill) (at : MotionState) (ss : List Stroke) (there : Bool)
    → outside g (traced d at ss) ≡ false
    → outside g (segments_of d at (TraverseTo d.r) ++ traced d (height_at at d.r) ss) ≡ false →
    outside g (to_r_segments d at there ++ traced d (after_segments at (to_r_segments d at there)) ss) ≡ false
by_test g d at ss true one other = one
by_test g d at ss false one other = other

stays : (g : Geometry) (d : Drill) (at : MotionState) (ss : List Stroke) → On g.z d.r → Stands g at.point → AllEnd g d ss → outside g (traced d at ss) ≡ false
stays g d at [] r h all = refl
stays g d at (Across k ∷ rest) r h all =
    let now : Stands g (across_at d at k).point = (all.0.0, all.0.1, h.2) in
    both_none (is_inside g (across_at d at k).point) _ (stands_inside g (across_at d at k).point now) (stays g d (across_at d at k) rest r now all.1)
stays g d at (ToR ∷ rest) r h all =
    let now : Stands g (height_at at d.r).point = (h.0, h.1, r) in
    by_test g d at rest (int_eq at.point.z d.r) (stays g d at rest r h all.1)
    (both_none (is_inside g (height_at at d.r).point) _ (stands_inside g (height_at at d.r).point now) (stays g d (height_at at d.r) rest r now all.1))
stays g d at (TraverseTo z ∷ rest) r h all =
    let now : Stands g (height_at at z).point = (h.0, h.1, all.0) in
    both_none (is_inside g (height_at at z).point) _ (stands_inside g (height_at at z).point now) (stays g d (height_at at z) rest r now all.1)
stays g d at (FeedTo z ∷ rest) r h all =
    let now : Stands g (height_at at z).point = (h.0, h.1, all.0) in
    both_none (is_inside g (height_at at z).point) _ (stands_inside g (height_at at z).point now) (stays g d (height_at at z) rest r now all.1)
stays g d at (Wait seconds ∷ rest) r h all = stays g d at rest r h all.1
stays g d at (SetSpindle spindle ∷ rest) r h all = stays g d (record at { outputs = record d.outputs { spindle = spindle } }) rest r h all.1

-- ---- and the other direction: if no segment ends outside, the strokes end inside

by_test_back : (g : Geometry) (d : Drill) (at : MotionState) (ss : List Stroke) (there : Bool) (P : Type 0)
    → (outside g (traced d at ss) ≡ false → P) → (outside g (traced d (height_at at d.r) ss) ≡ false → P) →
    outside g (to_r_segments d at there ++ traced d (after_segments at (to_r_segments d at there)) ss) ≡ false → P
by_test_back g d at ss true P one other none = one none
by_test_back g d at ss false P one other none = other (rest_none (is_inside g (height_at at d.r).point) _ none)

shown : (g : Geometry) (d : Drill) (at : MotionState) (ss : List Stroke) → outside g (traced d at ss) ≡ false → AllEnd g d ss
shown g d at [] none = tt
shown g d at (Across k ∷ rest) none =
    let now = inside_stands g (across_at d at k).point (first_none (is_inside g (across_at d at k).point) _ none) in
    ((now.0, now.1), shown g d (across_at d at k) rest (rest_none (is_inside g (across_at d at k).point) _ none))
shown g d at (ToR ∷ rest) none =
    (tt, by_test_back g d at rest (int_eq at.point.z d.r) (AllEnd g d rest) (shown g d at rest) (shown g d (height_at at d.r) rest) none)
shown g d at (TraverseTo z ∷ rest) none =
    let now = inside_stands g (height_at at z).point (first_none (is_inside g (height_at at z).point) _ none) in
    (now.2, shown g d (height_at at z) rest (rest_none (is_inside g (height_at at z).point) _ none))
shown g d at (FeedTo z ∷ rest) none =
    let now = inside_stands g (height_at at z).point (first_none (is_inside g (height_at at z).point) _ none) in
    (now.2, shown g d (height_at at z) rest (rest_none (is_inside g (height_at at z).point) _ none))
shown g d at (Wait seconds ∷ rest) none = (tt, shown g d at rest none)
shown g d at (SetSpindle spindle ∷ rest) none = (tt, shown g d (record at { outputs = record d.outputs { spindle = spindle } }) rest none)

-- ---- heights

within_hole : (g : Geometry) (d : Drill) (n : ℤ) → On g.z d.z → On g.z d.r → d.z ≤ℤ n → n ≤ℤ d.r → On g.z n
within_hole g d n z r above below = on_between g.z d.z d.r n z r above below

bottom_on : (g : Geometry) (d : Drill) (q k : ℕ) → d.z ≤ℤ d.r → On g.z d.z → On g.z d.r → On g.z (bottom d q k)
bottom_on g d q k le z r = within_hole g d (bottom d q k) z r (omega (arith, ints, clamps)) (omega (arith, ints, clamps))

above_on : (g : Geometry) (d : Drill) (q k : ℕ) → d.z ≤ℤ d.r → On g.z d.z → On g.z d.r → On g.z (int_min d.r (bottom d q k +ℤ clearance))
above_on g d q k le z r = within_hole g d (int_min d.r (bottom d q k +ℤ clearance)) z r (omega (arith, ints, clamps)) (omega (arith, ints, clamps))

agains_end : (g : Geometry) (d : Drill) (q k n : ℕ) → d.z ≤ℤ d.r → On g.z d.z → On g.z d.r → AllEnd g d (flat_map (again d q) (numbers_from k n))
agains_end g d q k zero le z r = tt
agains_end g d q k (suc n) le z r = (r, (above_on g d q k le z r, (bottom_on g d q (suc k) le z r, agains_end g d q (suc k) n le z r)))

hole_ends : (g : Geometry) (d : Drill) (w : Work) → d.z ≤ℤ d.r → On g.z d.z → On g.z d.r → On g.z d.clear → AllEnd g d (strokes_of d w)
hole_ends g d Drilling le z r c = (z, (c, tt))
hole_ends g d (DrillingWithDwell seconds) le z r c = (z, (tt, (c, tt)))
hole_ends g d (PeckDrilling q) le z r c = (bottom_on g d q 1 le z r, end-append g d _ _ (agains_end g d q 1 (pecks d q - 1) le z r) (c, tt))
hole_ends g d Boring le z r c = (z, (c, tt))
hole_ends g d (BoringWithStop seconds) le z r c = (z, (tt, (tt, (c, (tt, tt)))))
hole_ends g d (BoringWithDwell seconds) le z r c = (z, (tt, (c, tt)))

below_z : (z r : ℤ) (n : ℕ) → z ≤ℤ r → unsigned_abs (r -ℤ z) ≤ n → int_max z (r -ℤ pos n) ≡ z
below_z z r n le h = omega (arith, ints, clamps, h)

-- the last peck ends at Z
depth_pecked : (depth q : ℕ) → 0 < q → depth ≤ max 1 ((depth + (q - 1)) / q) * q
depth_pecked depth q some =
    let e = div-add-mod (depth + (q - 1)) q in
    let r : (depth + (q - 1)) % q < q = mod-lt (depth + (q - 1)) some in
    let m : (depth + (q - 1)) / q * q ≤ max 1 ((depth + (q - 1)) / q) * q =
    mul-le ((depth + (q - 1)) / q) q (max 1 ((depth + (q - 1)) / q)) q (omega arith) (omega arith) in
    let c = mul_comm q ((depth + (q - 1)) / q) in
    omega (arith, e, r, m, c)

last_bottom : (d : Drill) (q : ℕ) → 0 < q → d.z ≤ℤ d.r → bottom d q (pecks d q) ≡ d.z
last_bottom d q some le =
    let h : unsigned_abs (d.r -ℤ d.z) ≤ pecks d q * q = depth_pecked (unsigned_abs (d.r -ℤ d.z)) q some in
    below_z d.z d.r (pecks d q * q) le h

last_peck : (g : Geometry) (d : Drill) (q k n : ℕ) (rest : List Stroke) → On g.z (bottom d q k)
    → AllEnd g d (flat_map (again d q) (numbers_from k n) ++ rest) → On g.z (bottom d q (k + n))
last_peck g d q k zero rest here all = let e : k + 0 ≡ k = omega arith in rw e here
last_peck g d q k (suc n) rest here all = let e : k + suc n ≡ suc k + n = omega arith in rw e (last_peck g d q (suc k) n rest all.1.1.0 all.1.1.1)

z_shown : (g : Geometry) (d : Drill) (w : Work) → d.z ≤ℤ d.r → IsDeep w → AllEnd g d (strokes_of d w) → On g.z d.z
z_shown g d Drilling le deep all = all.0
z_shown g d (DrillingWithDwell seconds) le deep all = all.0
z_shown g d (PeckDrilling q) le deep all =
    let e : 1 + (pecks d q - 1) ≡ pecks d q = omega arith in
    let h : On g.z (bottom d q (pecks d q)) = rw e at (last_peck g d q 1 (pecks d q - 1) (TraverseTo d.clear ∷ []) all.0 all.1) in
    rw (last_bottom d q deep le) at h
z_shown g d Boring le deep all = all.0
z_shown g d (BoringWithStop seconds) le deep all = all.0
z_shown g d (BoringWithDwell seconds) le deep all = all.0

-- ---- all repeats

repeats_end : (g : Geometry) (d : Drill) (a j : ℕ) → AllEnd g d (strokes_of d d.work)
    → ((k : ℕ) → 1 ≤ k → k ≤ d.repeats → Ends g d (Across k)) → 1 ≤ a → a + j ≤ suc d.repeats
    → AllEnd g d (flat_map (repeat d) (numbers_from a j))
repeats_end g d a zero hole places some few = tt
repeats_end g d a (suc j) hole places some few =
    (places a some (omega arith), (tt, end-append g d (strokes_of d d.work) _ hole (repeats_end g d (suc a) j hole places (omega arith) (omega arith))))

last_place : (g : Geometry) (d : Drill) (a j : ℕ) → AllEnd g d (flat_map (repeat d) (numbers_from a (suc j))) → Ends g d (Across (a + j))
last_place g d a zero all = let e : a + 0 ≡ a = omega arith in rw e all.0
last_place g d a (suc j) all = let e : a + suc j ≡ suc a + j = omega arith in rw e (last_place g d (suc a) j (end-after g d (strokes_of d d.work) _ all.1.1))

-- ---- the whole cycle

record Extremes (g : Geometry) (d : Drill) : Type 0 where
  first_x : On g.x (coordinate d.x 1)
  last_x : On g.x (coordinate d.x d.repeats)
  first_y : On g.y (coordinate d.y 1)
  last_y : On g.y (coordinate d.y d.repeats)
  z : On g.z d.z
  top : On g.z (top_of d)
  rises : rises_inside g d ≡ true

extremes_are : (g : Geometry) (d : Drill) → extremes_inside g d ≡ true → Extremes g d
extremes_are g d e =
    let x1 = is_on g.x (coordinate d.x 1) in
    let xn = is_on g.x (coordinate d.x d.repeats) in
    let y1 = is_on g.y (coordinate d.y 1) in
    let yn = is_on g.y (coordinate d.y d.repeats) in
    let low = is_on g.z d.z in
    let top = is_on g.z (top_of d) in
    let rise = rises_inside g d in
    let x = and_left (x1 && xn) ((y1 && yn) && (low && (top && rise))) e in
    let rest = and_right (x1 && xn) ((y1 && yn) && (low && (top && rise))) e in
    let y = and_left (y1 && yn) (low && (top && rise)) rest in
    let heights = and_right (y1 && yn) (low && (top && rise)) rest in
    let above = and_right low (top && rise) heights in
    record {
      first_x = and_left x1 xn x;
      last_x = and_right x1 xn x;
      first_y = and_left y1 yn y;
      last_y =
          and_right y1 yn y;
      z = and_left low (top && rise) heights;
      top = and_left top rise above;
      rises =
          and_right top rise above;
    }

are_extremes : (g : Geometry) (d : Drill) → Extremes g d → extremes_inside g d ≡ true
are_extremes g d e =
    and_true _ _ (and_true _ _ e.first_x e.last_x) (and_true _ _ (and_true _ _ e.first_y e.last_y) (and_true _ _ e.z (and_true _ _ e.top e.rises)))

places_on : (g : Geometry) (d : Drill) → Extremes g d → (k : ℕ) → 1 ≤ k → k ≤ d.repeats → Ends g d (Across k)
places_on g d e k some few = (on_course g.x d.x k d.repeats some few e.first_x e.last_x, on_course g.y d.y k d.repeats some few e.first_y e.last_y)

or_here : (a b : Bool) → a ≡ false → (a || b) ≡ true → b ≡ true
or_here true b e f = absurd (cc e)
or_here false b e f = f

or_true : (a b : Bool) → b ≡ true → (a || b) ≡ true
or_true true b e = refl
or_true false b e = e

-- what the cycle does, depending on whether Z is below R before it
abbrev strokes_by : Drill → Bool → List Stroke
strokes_by d rises = (if rises then TraverseTo d.r ∷ [] else []) ++ flat_map (repeat d) (numbers_from 1 d.repeats)

from_first : (g : Geometry) (d : Drill) (n : ℕ) → n ≡ d.repeats → IsMade d → Extremes g d → On g.z d.r
    → On g.z d.start.z → AllEnd g d (strokes_of d d.work)
    → outside g (traced d (begin d) (flat_map (repeat d) (numbers_from 1 n))) ≡ false
from_first g d zero e made x r z hole = absurd (let some = made.some in omega (arith, some))
from_first g d (suc n) e made x r z hole =
    let now : Stands g (across_at d (begin d) 1).point = (x.first_x, x.first_y, z) in
    let some = made.some in
    let all : AllEnd g d (ToR ∷ (strokes_of d d.work ++ flat_map (repeat d) (numbers_from 2 n))) = (
      tt,
      end-append g d (strokes_of d d.work) _ hole
          (repeats_end g d 2 n hole (places_on g d x) (omega arith) (omega (arith, e))),
    ) in
    both_none (is_inside g (across_at d (begin d) 1).point) _ (stands_inside g (across_at d (begin d) 1).point now)
    (stays g d (across_at d (begin d) 1) (ToR ∷ (strokes_of d d.work ++ flat_map (repeat d) (numbers_from 2 n)))
    r now all)

inside_by : (g : Geometry) (d : Drill) (rises : Bool) → int_lt d.start.z d.r ≡ rises → IsMade d → Extremes g d
    → outside g (traced d (begin d) (strokes_by d rises)) ≡ false
inside_by g d true e made x =
    let below : d.start.z <ℤ d.r = lt_of d.start.z d.r e in
    let above = made.above in
    let above_r = made.above_r in
    let below_top = made.below_top in
    let top : top_of d ≡ d.r = omega (arith, ints, clamps, below) in
    let r : On g.z d.r = rw top at x.top in
    let clear : On g.z d.clear = on_between g.z d.z (top_of d) d.clear x.z x.top (omega (arith, ints, above, above_r)) below_top in
    let hole = hole_ends g d d.work above x.z r clear in
    let rise : (is_on g.x d.start.x && is_on g.y d.start.y) ≡ true = or_here (not (int_lt d.start.z d.r)) _ (ap not e) x.rises in
    let now : Stands g (height_at (begin d) d.r).point = (
      and_left (is_on g.x d.start.x) (is_on g.y d.start.y) rise,
      and_right (is_on g.x d.start.x) (is_on g.y d.start.y) rise,
      r,
    ) in
    both_none (is_inside g (height_at (begin d) d.r).point) _ (stands_inside g (height_at (begin d) d.r).point now)
    (stays g d (height_at (begin d) d.r) _ r now (repeats_end g d 1 d.repeats hole (places_on g d x) (omega arith) (omega arith)))
inside_by g d false e made x =
    let over : d.r ≤ℤ d.start.z = not_lt d.start.z d.r e in
    let above = made.above in
    let above_r = made.above_r in
    let below_top = made.below_top in
    let top : top_of d ≡ d.start.z = omega (arith, ints, clamps, over) in
    let z : On g.z d.start.z = rw top at x.top in
    let r : On g.z d.r = on_between g.z d.z (top_of d) d.r x.z x.top above (omega (arith, ints, over, top)) in
    let clear : On g.z d.clear = on_between g.z d.z (top_of d) d.clear x.z x.top (omega (arith, ints, above, above_r)) below_top in
    from_first g d d.repeats refl made x r z (hole_ends g d d.work above x.z r clear)

extremes_by : (g : Geometry) (d : Drill) (rises : Bool) (n : ℕ) → suc n ≡ d.repeats → int_lt d.start.z d.r ≡ rises → IsMade d →
    outside g (traced d (begin d) ((if rises then TraverseTo d.r ∷ [] else []) ++ flat_map (repeat d) (numbers_from 1 (suc n)))) ≡ false → Extremes g d
extremes_by g d true n all e made none =
    let below : d.start.z <ℤ d.r = lt_of d.start.z d.r e in
    let above = made.above in
    let top : top_of d ≡ d.r = omega (arith, ints, clamps, below) in
    let now = inside_stands g (height_at (begin d) d.r).point (first_none (is_inside g (height_at (begin d) d.r).point) _ none) in
    let shows = shown g d (begin d) (TraverseTo d.r ∷ flat_map (repeat d) (numbers_from 1 (suc n))) none in
    let last : Ends g d (Across (1 + n)) = last_place g d 1 n shows.1 in
    let count : 1 + n ≡ d.repeats = omega (arith, all) in
    let last' : Ends g d (Across d.repeats) = rw count at last in
    record {
      first_x = shows.1.0.0;
      last_x = last'.0;
      first_y = shows.1.0.1;
      last_y = last'.1;
      z = z_shown g d d.work above made.deep (end-before g d (strokes_of d d.work) _ shows.1.1.1);
      top = rw top now.2;
      rises = or_true (not (int_lt d.start.z d.r)) _ (and_true (is_on g.x d.start.x) (is_on g.y d.start.y) now.0 now.1);
    }
extremes_by g d false n all e made none =
    let over : d.r ≤ℤ d.start.z = not_lt d.start.z d.r e in
    let above = made.above in
    let top : top_of d ≡ d.start.z = omega (arith, ints, clamps, over) in
    let now = inside_stands g (across_at d (begin d) 1).point (first_none (is_inside g (across_at d (begin d) 1).point) _ none) in
    let shows = shown g d (begin d) (flat_map (repeat d) (numbers_from 1 (suc n))) none in
    let last : Ends g d (Across (1 + n)) = last_place g d 1 n shows in
    let count : 1 + n ≡ d.repeats = omega (arith, all) in
    let last' : Ends g d (Across d.repeats) = rw count at last in
    record {
      first_x = shows.0.0;
      last_x = last'.0;
      first_y = shows.0.1;
      last_y = last'.1;
      z = z_shown g d d.work above made.deep (end-before g d (strokes_of d d.work) _ shows.1.1);
      top = rw top now.2;
      rises = rw e refl;
    }

some_repeats : (n : ℕ) → 1 ≤ n → (m : ℕ) × (suc m ≡ n)
some_repeats zero some = absurd (omega arith)
some_repeats (suc n) some = (n, refl)

by_both : (leaves inside : Bool) → (inside ≡ true → leaves ≡ false) → (leaves ≡ false → inside ≡ true) → leaves ≡ not inside
by_both leaves true a b = a refl
by_both true false a b = refl
by_both false false a b = absurd (cc (b refl))

extremes_shown : (g : Geometry) (d : Drill) → IsMade d → leaves_travel g d ≡ false → extremes_inside g d ≡ true
extremes_shown g d made none =
    let m = some_repeats d.repeats made.some in
    let none' : outside g
    (traced d (begin d) ((if int_lt d.start.z d.r then TraverseTo d.r ∷ [] else []) ++ flat_map (repeat d)
    (numbers_from 1 (suc m.0)))) ≡ false =
    subst (λ (n : ℕ). outside g
    (traced d (begin d) ((if int_lt d.start.z d.r then TraverseTo d.r ∷ [] else []) ++ flat_map (repeat d)
    (numbers_from 1 n))) ≡ false) (sym m.1) none in
    are_extremes g d (extremes_by g d (int_lt d.start.z d.r) m.0 m.1 refl made none')

-- a cycle leaves the travel exactly if an extreme coordinate is outside
pub leaves-extremes : (g : Geometry) (d : Drill) → IsMade d → leaves_travel g d ≡ not (extremes_inside g d)
leaves-extremes g d made = by_both (leaves_travel g d) (extremes_inside g d)
    (λ inside. inside_by g d (int_lt d.start.z d.r) refl made (extremes_are g d inside))
    (extremes_shown g d made)

-- and R is no farther above Z than the length of the travel
pub near_by : (g : Geometry) (d : Drill) → negsuc 9_999_999_999 ≤ℤ g.z.low → g.z.high ≤ℤ pos 10_000_000_000
    → extremes_inside g d ≡ true → d.r ≤ℤ (d.z +ℤ pos 20_000_000_000)
near_by g d low high inside =
    let x = extremes_are g d inside in
    let z : g.z.low ≤ℤ d.z = to_le g.z.low d.z (and_left (int_le g.z.low d.z) (int_le d.z g.z.high) x.z) in
    let top : top_of d ≤ℤ g.z.high = to_le (top_of d) g.z.high (and_right (int_le g.z.low (top_of d)) (int_le (top_of d) g.z.high) x.top) in
    omega (arith, ints, clamps, z, top)

pub not_false : (b : Bool) → not b ≡ false → b ≡ true
not_false true e = refl
not_false false e = absurd (cc e)
