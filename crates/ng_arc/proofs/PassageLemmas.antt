-- An arc passes the direction at which a quadrant begins exactly if it enters the quadrant.
use Rattle.std.proofs.Common.{arith, ℕ, zero, suc, ◌+◌, ◌-◌, ◌*◌, ◌%◌, ◌<◌, ◌≤◌, ◌≡◌, ◌∙◌, ◌⊎◌, inl, inr, refl, sym}
use Rattle.std.proofs.Common.{ap, ℤ, pos, negsuc, neg_ℤ, ◌-ℤ◌, Bool, true, false}
use Rattle.std.proofs.lemmas.Int.{ints}
use Rattle.std.proofs.lemmas.Nat.{mul-le}
use Rattle.std.proofs.lemmas.Bool.{cases_order, lt-ltb}
use Rattle.std.proofs.Math.IntN.{zero-*ℤ, *ℤ-zero}
use Rattle.std.specs.Prelude.{int_lt, int_le, nat_lt, ◌==◌, ◌&&◌, ◌||◌, if◌then◌else◌}
use Rattle.ng_canon.specs.declared.plane.ArcDirection.{ArcDirection}
use Rattle.ng_canon.specs.declared.plane.ArcDirection.TheVariants.{Clockwise, Counterclockwise}
use Rattle.ng_canon.specs.declared.plane_point.PlanePoint.{PlanePoint}
use Rattle.ng_arc.specs.declared.span.ArcSpan.{ArcSpan}
use Rattle.ng_canon.specs.declared.quadrant.Quadrant.{Quadrant}
use Rattle.ng_canon.specs.declared.quadrant.Quadrant.TheVariants.{First, Second, Third, Fourth}
use Rattle.ng_canon.specs.Plane.{cross, dot, mirror}
use Rattle.ng_arc.specs.Extremes.{sweep_by, sweep, is_passed}
use Rattle.ng_canon.specs.Quadrant.{quadrant, quadrant_number, same_quadrant, mirror_quadrant}
use Rattle.ng_arc.specs.Private.Quadrants.{direction, changes, is_entered, passes_toward}
use Rattle.ng_arc.proofs.RotatedQuadrantLemmas.{times_neg, passed_mirrored, cross-turned, dot-turned, passed-turned}
use Rattle.ng_arc.proofs.RotatedQuadrantLemmas.{point_of_quadrant, relative, turned-place, quadrant-place}

-- ---- the turn from a point of the first quadrant

-- to a point of another quadrant: its sweep, and what this says about the outer sizes of the two points
abbrev IsFar : Quadrant → ℕ → ℕ → ℕ → Type 0
IsFar First o p x = ((x ≡ 1) × (0 < p)) ⊎ (((x ≡ 3) × (0 < o)) ⊎ (x ≡ 4))
IsFar Second o p x = x ≡ 1
IsFar Third o p x = ((x ≡ 1) × (0 < o)) ⊎ ((x ≡ 2) ⊎ ((x ≡ 3) × (0 < p)))
IsFar Fourth o p x = x ≡ 3

-- to a direction at which a quadrant begins
abbrev IsToward : Quadrant → ℕ → ℕ → Type 0
IsToward First o y = ((y ≡ 3) × (0 < o)) ⊎ ((y ≡ 4) × (o ≡ 0))
IsToward Second o y = y ≡ 1
IsToward Third o y = ((y ≡ 1) × (0 < o)) ⊎ ((y ≡ 2) × (o ≡ 0))
IsToward Fourth o y = y ≡ 3

-- whether an end with this place relative to a direction comes no earlier than the direction
abbrev LiesPast : Quadrant → ℕ → Bool → Type 0
LiesPast First p b = b ≡ true
LiesPast Second p b = b ≡ true
LiesPast Third p b = 0 < p → b ≡ false
LiesPast Fourth p b = b ≡ false

sweep_less : (m n : ℕ) (d : ℤ) → n < m → sweep_by (pos m -ℤ pos n) d ≡ 1
sweep_less m n d h = grind (arith, ints)

sweep_more : (m n : ℕ) (d : ℤ) → m < n → sweep_by (pos m -ℤ pos n) d ≡ 3
sweep_more m n d h = grind (arith, ints)

sweep_whole : (m n k : ℕ) → m ≡ n → sweep_by (pos m -ℤ pos n) (pos k) ≡ 4
sweep_whole m n k h = grind (arith, ints)

sweep_half : (m n k : ℕ) → m ≡ n → 0 < k → sweep_by (pos m -ℤ pos n) (neg_ℤ (pos k)) ≡ 2
sweep_half m n k h some = grind (arith, ints)

some_product : (m n : ℕ) → 0 < m → 0 < n → 0 < m * n
some_product m n h k = let p : 1 * 1 ≤ m * n = mul-le 1 1 m n h k in omega arith

some_factor : (m n k : ℕ) → k < m * n → 0 < n
some_factor m zero k h = absurd (omega arith)
some_factor m (suc n) k h = omega arith

some_first : (m n k : ℕ) → k < m * n → 0 < m
some_first zero n k h = absurd (omega arith)
some_first (suc m) n k h = omega arith

far_first : (i o j p x : ℕ) → x ≡ sweep Counterclockwise (point_of_quadrant First i o) (point_of_quadrant First j p)
    → (i * p ≡ o * j) ⊎ ((i * p < o * j) ⊎ (o * j < i * p)) → IsFar First o p x
far_first i o j p x is (inl same) = inr (inr (is ∙ sweep_whole (i * p) (o * j) (i * j + o * p) same))
far_first i o j p x is (inr (inl less)) =
    inr (inl (
      is ∙ sweep_more (i * p) (o * j) (dot (point_of_quadrant First i o) (point_of_quadrant First j p))
          less,
      some_first o j (i * p) less,
    ))
far_first i o j p x is (inr (inr more)) =
    inl (
      is ∙ sweep_less (i * p) (o * j) (dot (point_of_quadrant First i o) (point_of_quadrant First j p)) more,
      some_factor i p (o * j) more,
    )

cross_third : (i o j p : ℕ) → cross (point_of_quadrant First i o) (point_of_quadrant Third j p) ≡ pos (o * j) -ℤ pos (i * p)
cross_third i o j p = rw (times_neg (pos i) (pos p), times_neg (pos o) (pos j)) (omega (arith, ints))

dot_third : (i o j p : ℕ) → dot (point_of_quadrant First i o) (point_of_quadrant Third j p) ≡ neg_ℤ (pos (i * j + o * p))
dot_third i o j p = rw (times_neg (pos i) (pos j), times_neg (pos o) (pos p)) (omega (arith, ints))

far_third_by : (i o j p x : ℕ) (d : ℤ) → 0 < i * j → d ≡ neg_ℤ (pos (i * j + o * p))
    → x ≡ sweep_by (pos (o * j) -ℤ pos (i * p)) d → (o * j ≡ i * p) ⊎ ((o * j < i * p) ⊎ (i * p < o * j))
    → IsFar Third o p x
far_third_by i o j p x d some e by (inl same) = inr (inl (by ∙ rw e (sweep_half (o * j) (i * p) (i * j + o * p) same (omega arith))))
far_third_by i o j p x d some e by (inr (inl less)) = inr (inr (by ∙ sweep_more (o * j) (i * p) d less, some_factor i p (o * j) less))
far_third_by i o j p x d some e by (inr (inr more)) = inl (by ∙ sweep_less (o * j) (i * p) d more, some_first o j (i * p) more)

far_third : (i o j p : ℕ) → 0 < i → 0 < j → IsFar Third o p (sweep Counterclockwise (point_of_quadrant First i o) (point_of_quadrant Third j p))
far_third i o j p hi hj =
    far_third_by i o j p _ _ (some_product i j hi hj) (dot_third i o j p) (rw (cross_third i o j p) refl) (cases_order (o * j) (i * p))

cross_second : (i o j p : ℕ) → cross (point_of_quadrant First i o) (point_of_quadrant Second j p) ≡ pos (i * j + o * p) -ℤ pos 0
cross_second i o j p = rw (times_neg (pos o) (pos p)) (omega (arith, ints))

cross_fourth : (i o j p : ℕ) → cross (point_of_quadrant First i o) (point_of_quadrant Fourth j p) ≡ pos 0 -ℤ pos (i * j + o * p)
cross_fourth i o j p = rw (times_neg (pos i) (pos j)) (omega (arith, ints))

far : (r : Quadrant) (i o j p : ℕ) → 0 < i → 0 < j → IsFar r o p (sweep Counterclockwise (point_of_quadrant First i o) (point_of_quadrant r j p))
far First i o j p hi hj = far_first i o j p _ refl (cases_order (i * p) (o * j))
far Second i o j p hi hj =
    rw (cross_second i o j p) (let some = some_product i j hi hj in sweep_less (i * j + o * p) 0
    (dot (point_of_quadrant First i o) (point_of_quadrant Second j p)) (omega arith))
far Third i o j p hi hj = far_third i o j p hi hj
far Fourth i o j p hi hj =
    rw (cross_fourth i o j p) (let some = some_product i j hi hj in sweep_more 0 (i * j + o * p)
    (dot (point_of_quadrant First i o) (point_of_quadrant Fourth j p)) (omega arith))

toward_half : (i o : ℕ) → 0 < i → o ≡ 0 → sweep Counterclockwise (point_of_quadrant First i o) (point_of_quadrant Third 1 0) ≡ 2
toward_half i o h none = rw (cross_third i o 1 0, dot_third i o 1 0) (sweep_half (o * 1) (i * 0) (i * 1 + o * 0) (omega arith) (omega arith))

toward : (k : Quadrant) (i o : ℕ) → 0 < i → IsToward k o (sweep Counterclockwise (point_of_quadrant First i o) (point_of_quadrant k 1 0))
toward First i zero h = inr (sweep_whole (i * 0) (0 * 1) (i * 1 + 0 * 0) (omega arith), refl)
toward First i (suc o) h =
    inl (
      sweep_more (i * 0) (suc o * 1) (dot (point_of_quadrant First i (suc o)) (point_of_quadrant First 1 0))
          (omega arith),
      omega arith,
    )
toward Second i o h = far Second i o 1 0 h (omega arith)
toward Third i zero h = inr (toward_half i zero h refl, refl)
toward Third i (suc o) h =
    inl (
      rw (cross_third i (suc o) 1 0)
          (sweep_less (suc o * 1) (i * 0) (dot (point_of_quadrant First i (suc o)) (point_of_quadrant Third 1 0))
          (omega arith)),
      omega arith,
    )
toward Fourth i o h = far Fourth i o 1 0 h (omega arith)

lies_past_first : (r : Quadrant) (j p : ℕ) → 0 < j → LiesPast r p (int_le (pos 0) (cross (point_of_quadrant First 1 0) (point_of_quadrant r j p)))
lies_past_first First j p h = grind (arith, ints)
lies_past_first Second j p h = rw (cross_second 1 0 j p) (grind (arith, ints))
lies_past_first Third j p h = λ some. rw (cross_third 1 0 j p) (grind (arith, ints))
lies_past_first Fourth j p h = rw (cross_fourth 1 0 j p) (grind (arith, ints))

-- ---- the turn from a point of any quadrant

relative-self : (q : Quadrant) → relative q q ≡ First
relative-self First = refl
relative-self Second = refl
relative-self Third = refl
relative-self Fourth = refl

cross-place : (q r : Quadrant) (i o j p : ℕ) → cross (point_of_quadrant q i o) (point_of_quadrant r j p) ≡ cross
    (point_of_quadrant First i o) (point_of_quadrant (relative q r) j p)
cross-place q r i o j p = sym (cross-turned q (point_of_quadrant q i o) (point_of_quadrant r j p))
    ∙ rw (turned-place q q i o, turned-place q r j p, relative-self q) refl

dot-place : (q r : Quadrant) (i o j p : ℕ) → dot (point_of_quadrant q i o) (point_of_quadrant r j p) ≡ dot
    (point_of_quadrant First i o) (point_of_quadrant (relative q r) j p)
dot-place q r i o j p = sym (dot-turned q (point_of_quadrant q i o) (point_of_quadrant r j p))
    ∙ rw (turned-place q q i o, turned-place q r j p, relative-self q) refl

passed-place : (q r k : Quadrant) (i o j p : ℕ)
    → is_passed Counterclockwise (point_of_quadrant q i o) (point_of_quadrant r j p) (point_of_quadrant k 1 0)
    ≡ is_passed Counterclockwise (point_of_quadrant First i o) (point_of_quadrant (relative q r) j p)
    (point_of_quadrant (relative q k) 1 0)
passed-place q r k i o j p =
    sym (passed-turned q (point_of_quadrant q i o) (point_of_quadrant r j p) (point_of_quadrant k 1 0))
    ∙ rw (turned-place q q i o, turned-place q r j p, turned-place q k 1 0, relative-self q) refl

lies_past : (k r : Quadrant) (j p : ℕ) → 0 < j → LiesPast (relative k r) p (int_le (pos 0) (cross (point_of_quadrant k 1 0) (point_of_quadrant r j p)))
lies_past k r j p h = rw (cross-place k r 1 0 j p) (lies_past_first (relative k r) j p h)

-- ---- the quadrants that an arc from the first quadrant enters

abbrev changes_first : Quadrant → ℕ → ℕ
changes_first First x = if x == 1 then 0 else 4
changes_first Second x = 1
changes_first Third x = 2
changes_first Fourth x = 3

abbrev within : ℕ → ℕ → Bool → Bool
within x y b = (x == 4) || (nat_lt y x || ((y == x) && b))

table : (r k : Quadrant) (o p x y : ℕ) (b : Bool) → IsFar r o p x → IsToward k o y → LiesPast (relative k r) p b
    → within x y b ≡ nat_lt ((quadrant_number k + 3) % 4) (changes_first r x)
table First First o p x y b (inl e) (inl f) g = rw (e.0, f.0) refl
table First First o p x y b (inl e) (inr f) g = rw (e.0, f.0) refl
table First Second o p x y b (inl e) f g = rw (e.0, f, g) refl
table First Third o p x y b (inl e) (inl f) g = rw (e.0, f.0, (g e.1)) refl
table First Third o p x y b (inl e) (inr f) g = rw (e.0, f.0) refl
table First Fourth o p x y b (inl e) f g = rw (e.0, f) refl
table First First o p x y b (inr (inl e)) (inl f) g = rw (e.0, f.0, g) refl
table First First o p x y b (inr (inl e)) (inr f) g = absurd (omega arith)
table First Second o p x y b (inr (inl e)) f g = rw (e.0, f) refl
table First Third o p x y b (inr (inl e)) (inl f) g = rw (e.0, f.0) refl
table First Third o p x y b (inr (inl e)) (inr f) g = rw (e.0, f.0) refl
table First Fourth o p x y b (inr (inl e)) f g = rw (e.0, f, g) refl
table First First o p x y b (inr (inr e)) f g = rw e refl
table First Second o p x y b (inr (inr e)) f g = rw e refl
table First Third o p x y b (inr (inr e)) f g = rw e refl
table First Fourth o p x y b (inr (inr e)) f g = rw e refl
table Second First o p x y b e (inl f) g = rw (e, f.0) refl
table Second First o p x y b e (inr f) g = rw (e, f.0) refl
table Second Second o p x y b e f g = rw (e, f, g) refl
table Second Third o p x y b e (inl f) g = rw (e, f.0, g) refl
table Second Third o p x y b e (inr f) g = rw (e, f.0) refl
table Second Fourth o p x y b e f g = rw (e, f) refl
table Third First o p x y b (inl e) (inl f) g = rw (e.0, f.0) refl
table Third First o p x y b (inl e) (inr f) g = rw (e.0, f.0) refl
table Third Second o p x y b (inl e) f g = rw (e.0, f, g) refl
table Third Third o p x y b (inl e) (inl f) g = rw (e.0, f.0, g) refl
table Third Third o p x y b (inl e) (inr f) g = absurd (omega arith)
table Third Fourth o p x y b (inl e) f g = rw (e.0, f) refl
table Third First o p x y b (inr (inl e)) (inl f) g = rw (e, f.0) refl
table Third First o p x y b (inr (inl e)) (inr f) g = rw (e, f.0) refl
table Third Second o p x y b (inr (inl e)) f g = rw (e, f) refl
table Third Third o p x y b (inr (inl e)) (inl f) g = rw (e, f.0) refl
table Third Third o p x y b (inr (inl e)) (inr f) g = rw (e, f.0, g) refl
table Third Fourth o p x y b (inr (inl e)) f g = rw (e, f) refl
table Third First o p x y b (inr (inr e)) (inl f) g = rw (e.0, f.0, (g e.1)) refl
table Third First o p x y b (inr (inr e)) (inr f) g = rw (e.0, f.0) refl
table Third Second o p x y b (inr (inr e)) f g = rw (e.0, f) refl
table Third Third o p x y b (inr (inr e)) (inl f) g = rw (e.0, f.0) refl
table Third Third o p x y b (inr (inr e)) (inr f) g = rw (e.0, f.0) refl
table Third Fourth o p x y b (inr (inr e)) f g = rw (e.0, f, g) refl
table Fourth First o p x y b e (inl f) g = rw (e, f.0, g) refl
table Fourth First o p x y b e (inr f) g = rw (e, f.0) refl
table Fourth Second o p x y b e f g = rw (e, f) refl
table Fourth Third o p x y b e (inl f) g = rw (e, f.0) refl
table Fourth Third o p x y b e (inr f) g = rw (e, f.0) refl
table Fourth Fourth o p x y b e f g = rw (e, f, g) refl

first_passed : (r k : Quadrant) (i o j p : ℕ) → 0 < i → 0 < j
    → is_passed Counterclockwise (point_of_quadrant First i o) (point_of_quadrant r j p) (point_of_quadrant k 1 0)
    ≡ nat_lt ((quadrant_number k + 3) % 4)
    (changes_first r (sweep Counterclockwise (point_of_quadrant First i o) (point_of_quadrant r j p)))
unfolding is_passed
first_passed r k i o j p hi hj = table r k o p _ _ _ (far r i o j p hi hj) (toward k i o hi) (lies_past k r j p hj)

-- ---- the count of the code

abbrev sweep_of : Bool → Bool → Bool → ℕ
sweep_of l m n = if l then 1 else if m then 3 else if n then 2 else 4

abbrev counted : ℕ → Bool → ℕ
counted x l = if x == 4 then 4 else (if l then 0 else 4)

changes_by_sign : (l m n : Bool) → counted (sweep_of l m n) l ≡ changes_first First (sweep_of l m n)
changes_by_sign true m n = refl
changes_by_sign false true n = refl
changes_by_sign false false true = refl
changes_by_sign false false false = refl

changes_same : (c d : ℤ) → counted (sweep_by c d) (int_lt (pos 0) c) ≡ changes_first First (sweep_by c d)
changes_same c d = changes_by_sign (int_lt (pos 0) c) (int_lt c (pos 0)) (int_lt d (pos 0))

not_whole_second : (o p x : ℕ) → IsFar Second o p x → (x == 4) ≡ false
not_whole_second o p x e = rw e refl

not_whole_third : (o p x : ℕ) → IsFar Third o p x → (x == 4) ≡ false
not_whole_third o p x (inl e) = rw e.0 refl
not_whole_third o p x (inr (inl e)) = rw e refl
not_whole_third o p x (inr (inr e)) = rw e.0 refl

not_whole_fourth : (o p x : ℕ) → IsFar Fourth o p x → (x == 4) ≡ false
not_whole_fourth o p x e = rw e refl

abbrev changes_by : Quadrant → Quadrant → ℤ → ℤ → ℕ
changes_by q r c d =
    if sweep_by c d == 4 then 4
    else if same_quadrant q r then (if int_lt (pos 0) c then 0 else 4)
    else (quadrant_number r + 4 - quadrant_number q) % 4

changes_are : (q r : Quadrant) (c d : ℤ) (o p : ℕ) → IsFar (relative q r) o p (sweep_by c d) → changes_by q r c d ≡ changes_first (relative q r) (sweep_by c d)
changes_are First First c d o p h = changes_same c d
changes_are First Second c d o p h = rw (not_whole_second o p (sweep_by c d) h) refl
changes_are First Third c d o p h = rw (not_whole_third o p (sweep_by c d) h) refl
changes_are First Fourth c d o p h = rw (not_whole_fourth o p (sweep_by c d) h) refl
changes_are Second First c d o p h = rw (not_whole_fourth o p (sweep_by c d) h) refl
changes_are Second Second c d o p h = changes_same c d
changes_are Second Third c d o p h = rw (not_whole_second o p (sweep_by c d) h) refl
changes_are Second Fourth c d o p h = rw (not_whole_third o p (sweep_by c d) h) refl
changes_are Third First c d o p h = rw (not_whole_third o p (sweep_by c d) h) refl
changes_are Third Second c d o p h = rw (not_whole_fourth o p (sweep_by c d) h) refl
changes_are Third Third c d o p h = changes_same c d
changes_are Third Fourth c d o p h = rw (not_whole_second o p (sweep_by c d) h) refl
changes_are Fourth First c d o p h = rw (not_whole_second o p (sweep_by c d) h) refl
changes_are Fourth Second c d o p h = rw (not_whole_third o p (sweep_by c d) h) refl
changes_are Fourth Third c d o p h = rw (not_whole_fourth o p (sweep_by c d) h) refl
changes_are Fourth Fourth c d o p h = changes_same c d

changes-place : (q r : Quadrant) (i o j p : ℕ) → 0 < i → 0 < j
    → changes (point_of_quadrant q i o) (point_of_quadrant r j p) ≡ changes_first (relative q r)
    (sweep Counterclockwise (point_of_quadrant First i o) (point_of_quadrant (relative q r) j p))
unfolding changes
changes-place q r i o j p hi hj =
    rw (quadrant-place q i o hi, quadrant-place r j p hj, cross-place q r i o j p, dot-place q r i o j p)
    (changes_are q r (cross (point_of_quadrant First i o) (point_of_quadrant (relative q r) j p))
    (dot (point_of_quadrant First i o) (point_of_quadrant (relative q r) j p)) o p
    (far (relative q r) i o j p hi hj))

turn_number : (q k : Quadrant) → (quadrant_number k + 7 - quadrant_number q) % 4 ≡ (quadrant_number (relative q k) + 3) % 4
turn_number First First = refl
turn_number First Second = refl
turn_number First Third = refl
turn_number First Fourth = refl
turn_number Second First = refl
turn_number Second Second = refl
turn_number Second Third = refl
turn_number Second Fourth = refl
turn_number Third First = refl
turn_number Third Second = refl
turn_number Third Third = refl
turn_number Third Fourth = refl
turn_number Fourth First = refl
turn_number Fourth Second = refl
turn_number Fourth Third = refl
turn_number Fourth Fourth = refl

direction_is : (k : Quadrant) → direction k ≡ point_of_quadrant k 1 0
direction_is First = refl
direction_is Second = refl
direction_is Third = refl
direction_is Fourth = refl

entered-place : (q r k : Quadrant) (i o j p : ℕ) → 0 < i → 0 < j
    → is_entered (quadrant_number (quadrant (point_of_quadrant q i o)))
    (changes (point_of_quadrant q i o) (point_of_quadrant r j p)) (quadrant_number k) ≡ is_passed
    Counterclockwise (point_of_quadrant q i o) (point_of_quadrant r j p) (direction k)
entered-place q r k i o j p hi hj =
    rw (
      quadrant-place q i o hi,
      changes-place q r i o j p hi hj,
      direction_is k,
      passed-place q r k i o j p,
      turn_number q k,
    ) (sym (first_passed (relative q r) (relative q k) i o j p hi hj))

-- ---- a whole turn, also from or to the centre

rest_below : (m : ℕ) → nat_lt (m % 4) 4 ≡ true
rest_below m = lt-ltb (m % 4) 4 (omega arith)

whole_entered : (s e : PlanePoint) (k : Quadrant) → sweep_by (cross s e) (dot s e) ≡ 4
    → is_entered (quadrant_number (quadrant s)) (changes s e) (quadrant_number k) ≡ is_passed Counterclockwise s e
    (direction k)
unfolding changes is_passed
whole_entered s e k whole = rw (whole, rest_below (quadrant_number k + 7 - quadrant_number (quadrant s))) refl

from_centre : (e : PlanePoint) → let s : PlanePoint = record { a = pos 0; b = pos 0 } in sweep_by (cross s e) (dot s e) ≡ 4
from_centre e = rw (zero-*ℤ e.a, zero-*ℤ e.b) refl

to_centre : (s : PlanePoint) → let e : PlanePoint = record { a = pos 0; b = pos 0 } in sweep_by (cross s e) (dot s e) ≡ 4
to_centre s = rw (*ℤ-zero s.a, *ℤ-zero s.b) refl

-- each point except the centre has its place
record Placed (p : PlanePoint) : Type 0 where
  q : Quadrant
  i : ℕ
  o : ℕ
  some : 0 < i
  is : p ≡ point_of_quadrant q i o

centre_or_placed : (a b : ℤ) → let p : PlanePoint = record { a = a; b = b } in (p ≡ record { a = pos 0; b = pos 0 }) ⊎ Placed p
centre_or_placed (pos zero) (pos zero) = inl refl
centre_or_placed (pos (suc a)) (pos b) = inr (record { q = First; i = suc a; o = b; some = omega arith; is = refl })
centre_or_placed (pos zero) (pos (suc b)) = inr (record { q = Second; i = suc b; o = zero; some = omega arith; is = refl })
centre_or_placed (negsuc a) (pos (suc b)) = inr (record { q = Second; i = suc b; o = suc a; some = omega arith; is = refl })
centre_or_placed (negsuc a) (pos zero) = inr (record { q = Third; i = suc a; o = zero; some = omega arith; is = refl })
centre_or_placed (negsuc a) (negsuc b) = inr (record { q = Third; i = suc a; o = suc b; some = omega arith; is = refl })
centre_or_placed (pos a) (negsuc b) = inr (record { q = Fourth; i = suc b; o = a; some = omega arith; is = refl })

entered_by : (s e : PlanePoint) (k : Quadrant) → (s ≡ record { a = pos 0; b = pos 0 }) ⊎ Placed s → (e ≡ record { a = pos 0; b = pos 0 }) ⊎ Placed e
    → is_entered (quadrant_number (quadrant s)) (changes s e) (quadrant_number k) ≡ is_passed Counterclockwise s e (direction k)
entered_by s e k (inl is) h = whole_entered s e k (rw is (from_centre e))
entered_by s e k (inr f) (inl is) = whole_entered s e k (rw is (to_centre s))
entered_by s e k (inr f) (inr g) = rw (f.is, g.is) (entered-place f.q g.q k f.i f.o g.i g.o f.some g.some)

entered : (s e : PlanePoint) (k : Quadrant) → is_entered (quadrant_number (quadrant s)) (changes s e)
    (quadrant_number k) ≡ is_passed Counterclockwise s e (direction k)
entered s e k = entered_by s e k (centre_or_placed s.a s.b) (centre_or_placed e.a e.b)

-- ---- the code's span

mirrored_direction : (turn : ArcDirection) (q : Quadrant) → mirror turn (direction (mirror_quadrant turn q)) ≡ direction q
mirrored_direction Counterclockwise q = refl
mirrored_direction Clockwise First = refl
mirrored_direction Clockwise Second = refl
mirrored_direction Clockwise Third = refl
mirrored_direction Clockwise Fourth = refl

pub passes_is : (p : ArcSpan) (s e : PlanePoint) (q : Quadrant) → p.from ≡ quadrant (mirror p.turn s) → p.changes ≡ changes (mirror p.turn s) (mirror p.turn e)
    → passes_toward p q ≡ is_passed p.turn s e (direction q)
unfolding passes_toward
passes_is p s e q from count =
    rw (from, count) (entered (mirror p.turn s) (mirror p.turn e) (mirror_quadrant p.turn q))
    ∙ sym (passed_mirrored p.turn s e (direction (mirror_quadrant p.turn q)))
    ∙ ap (is_passed p.turn s e) (mirrored_direction p.turn q)
