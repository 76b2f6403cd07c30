-- A segment's items lead from its rounded start to its rounded end.
use Rattle.std.proofs.Common.{arith, ℕ, zero, suc, ◌+◌, ◌-◌, ◌<◌, ◌≤◌, ◌≡◌, inl, inr, refl, sym, ap, ◌∙◌, ℤ, pos}
use Rattle.std.proofs.Common.{negsuc, neg_ℤ, ◌+ℤ◌, ◌-ℤ◌, Bool, true, false, max, List, [], ◌∷◌, ◌++◌, map, length}
use Rattle.std.proofs.lemmas.Int.{ints}
use Rattle.std.proofs.lemmas.Bool.{cases_lt}
use Rattle.std.proofs.lemmas.List.{map-append}
use Rattle.std.specs.Prelude.{unsigned_abs, int_le}
use Rattle.ng_canon.specs.declared.plane.Plane.{Plane}
use Rattle.ng_canon.specs.declared.plane.Plane.TheVariants.{Xy, Xz, Yz}
use Rattle.ng_canon.specs.declared.plane.ArcDirection.{ArcDirection}
use Rattle.ng_canon.specs.declared.plane.ArcDirection.TheVariants.{Clockwise, Counterclockwise}
use Rattle.ng_canon.specs.declared.item.Item.{Item}
use Rattle.ng_canon.specs.declared.item.AxisStep.{AxisStep}
use Rattle.ng_canon.specs.declared.item.AxisStep.TheVariants.{Backward, Still, Forward}
use Rattle.ng_step.specs.declared.steps.Distances.{Distances}
use Rattle.ng_step.specs.declared.quadrant.PlaneStep.{PlaneStep}
use Rattle.ng_step.specs.declared.quadrant.PlaneStep.TheVariants.{AddA, SubA, AddB, SubB}
use Rattle.ng_step.specs.declared.frame.Frame.{Frame}
use Rattle.ng_step.specs.Arcs.{along_a, along_b, net_a, net_b}
use Rattle.ng_canon.specs.Plane.{pick_a, pick_b}
use Rattle.ng_step.specs.Frame.{at_x, at_y, at_z, of_third, mirrored, mirrored_step, on_a, on_b, pulse_of, pulse_with, pulse_without}
use Rattle.ng_step.specs.Line.{made, point_on_line, line_step, axis_step, step_toward, line_pulse, line_from, largest, line_pulses}
use Rattle.ng_step.specs.Arc.{taking, taken, interleaved, arc_pulses}
use Rattle.ng_step.specs.Hands.{pulse_item, across, closing}
use Rattle.ng_step.specs.Promises.{step_value, moved_by, stands_after}
use Rattle.ng_step.proofs.LineStepLemmas.{made_none, made_all, made_more, made_le, line_at_none, line_at_all}
use Rattle.ng_step.proofs.StartLemmas.{point_on_line-step}
use Rattle.ng_step.proofs.HandLemmas.{line_none}

abbrev pub moved : Distances → Distances → Distances
moved p d = record { x = p.x +ℤ d.x; y = p.y +ℤ d.y; z = p.z +ℤ d.z }

pub distances_same : (x y z x' y' z' : ℤ) → x ≡ x' → y ≡ y' → z ≡ z'
    → let p : Distances = record { x = x; y = y; z = z } in let q : Distances = record { x = x'; y = y'; z = z' } in p ≡ q
distances_same x y z x' y' z' e f g = cc

-- ---- a line

-- the coordinates after pulse k of n
abbrev pub line_point : ℕ → Distances → Distances → ℕ → Distances
line_point n p d k = record { x = point_on_line n p.x (p.x +ℤ d.x) k; y = point_on_line n p.y (p.y +ℤ d.y) k; z = point_on_line n p.z (p.z +ℤ d.z) k }

-- no axis has more steps
pub record AreAtMost (d : Distances) (n : ℕ) : Type 0 where
  pub x : unsigned_abs d.x ≤ n
  pub y : unsigned_abs d.y ≤ n
  pub z : unsigned_abs d.z ≤ n

pub at_most_largest : (d : Distances) → AreAtMost d (largest d)
at_most_largest d = record { x = omega arith; y = omega arith; z = omega arith }

pub difference_is : (a d : ℤ) → (a +ℤ d) -ℤ a ≡ d
difference_is a d = omega (arith, ints)

pub axis_moves : (n k : ℕ) (a d : ℤ) → 0 < n → unsigned_abs d ≤ n
    → point_on_line n a (a +ℤ d) k +ℤ step_value (line_step n d k) ≡ point_on_line n a (a +ℤ d) (k + 1)
axis_moves n k a d some le =
    let e : (a +ℤ d) -ℤ a ≡ d = difference_is a d in
    let le' : unsigned_abs ((a +ℤ d) -ℤ a) ≤ n = rw e le in
    let step : point_on_line n a (a +ℤ d) (k + 1) ≡ point_on_line n a (a +ℤ d) k +ℤ step_value (line_step n d k) =
    point_on_line-step n k a (a +ℤ d) some le' ∙ ap (λ x. point_on_line n a (a +ℤ d) k +ℤ step_value (line_step n x k)) e in
    sym step

pub line_moves : (us n k : ℕ) (p d : Distances) → 0 < n → AreAtMost d n
    → moved_by (pulse_item us (line_pulse n d k)) (line_point n p d k) ≡ line_point n p d (k + 1)
line_moves us n k p d some le =
    distances_same _ _ _ _ _ _ (axis_moves n k p.x d.x some le.x) (axis_moves n k p.y d.y some le.y) (axis_moves n k p.z d.z some le.z)

line_stands : (us n : ℕ) (p d : Distances) (left : ℕ) → 0 < n → AreAtMost d n → left ≤ n
    → stands_after (map (pulse_item us) (line_from n d left)) (line_point n p d (n - left)) ≡ line_point n p d n
line_stands us n p d zero some le small = let e : n - 0 ≡ n = omega arith in ap (line_point n p d) e
line_stands us n p d (suc left) some le small =
    let e : n - suc left + 1 ≡ n - left = omega arith in
    let step = line_moves us n (n - suc left) p d some le ∙ ap (line_point n p d) e in
    ap (stands_after (map (pulse_item us) (line_from n d left))) step ∙ line_stands us n p d left some le (omega arith)

pub line_point_none : (n : ℕ) (p d : Distances) → 0 < n → line_point n p d (n - n) ≡ p
line_point_none n p d some =
    let e : n - n ≡ 0 = omega arith in
    ap (line_point n p d) e ∙ distances_same _ _ _ p.x p.y p.z (line_at_none n p.x (p.x +ℤ d.x) some)
    (line_at_none n p.y (p.y +ℤ d.y) some) (line_at_none n p.z (p.z +ℤ d.z) some)

line_point_all : (n : ℕ) (p d : Distances) → 0 < n → line_point n p d n ≡ moved p d
line_point_all n p d some =
    distances_same _ _ _ _ _ _ (line_at_all n p.x (p.x +ℤ d.x) some) (line_at_all n p.y (p.y +ℤ d.y) some) (line_at_all n p.z (p.z +ℤ d.z) some)

nothing_added : (a d : ℤ) → unsigned_abs d ≤ 0 → a ≡ a +ℤ d
nothing_added a d h = omega (arith, ints)

some_leads : (us : ℕ) (p d : Distances) → 0 < largest d → stands_after (map (pulse_item us) (line_pulses d)) p ≡ moved p d
unfolding line_pulses
some_leads us p d some =
    ap (stands_after (map (pulse_item us) (line_from (largest d) d (largest d)))) (sym (line_point_none (largest d) p d some))
    ∙ line_stands us (largest d) p d (largest d) some (at_most_largest d) (omega arith) ∙ line_point_all (largest d) p d some

-- a line's pulses go as far as its distances say
pub line_leads : (us : ℕ) (p d : Distances) → stands_after (map (pulse_item us) (line_pulses d)) p ≡ moved p d
line_leads us p d = elim (cases_lt 0 (largest d)) [
  | inl some ↦ some_leads us p d some
  | inr none ↦ (let e = line_none d (omega arith) in
      rw e (distances_same p.x p.y p.z _ _ _ (nothing_added p.x d.x (omega arith)) (nothing_added p.y d.y (omega arith)) (nothing_added p.z d.z (omega arith))))
]

-- ---- an arc

-- movements along a, b and the third axis, on the machine's axes
abbrev pub placed : Plane → ℤ → ℤ → ℤ → Distances
placed plane a b third = record { x = at_x plane a b third; y = at_y plane a b third; z = at_z plane a b third }

move_placed : (us : ℕ) (plane : Plane) (a b third : AxisStep) (p : Distances)
    → moved_by (pulse_item us (pulse_of plane a b third)) p ≡ moved p
    (placed plane (step_value a) (step_value b) (step_value third))
move_placed us Xy a b third p = refl
move_placed us Xz a b third p = refl
move_placed us Yz a b third p = refl

add_once : (x y z : ℤ) → (x +ℤ y) +ℤ z ≡ x +ℤ (y +ℤ z)
add_once x y z = omega (arith, ints)

pub add_placed : (plane : Plane) (p : Distances) (a b t a' b' t' : ℤ)
    → moved (moved p (placed plane a b t)) (placed plane a' b' t') ≡ moved p
    (placed plane (a +ℤ a') (b +ℤ b') (t +ℤ t'))
add_placed Xy p a b t a' b' t' = distances_same _ _ _ _ _ _ (add_once p.x a a') (add_once p.y b b') (add_once p.z t t')
add_placed Xz p a b t a' b' t' = distances_same _ _ _ _ _ _ (add_once p.x b b') (add_once p.y t t') (add_once p.z a a')
add_placed Yz p a b t a' b' t' = distances_same _ _ _ _ _ _ (add_once p.x t t') (add_once p.y a a') (add_once p.z b b')

mirrored_value : (turn : ArcDirection) (s : AxisStep) → step_value (mirrored_step turn s) ≡ mirrored turn (step_value s)
mirrored_value Counterclockwise s = refl
mirrored_value Clockwise Backward = refl
mirrored_value Clockwise Still = refl
mirrored_value Clockwise Forward = refl

mirrored_add : (turn : ArcDirection) (a b : ℤ) → mirrored turn a +ℤ mirrored turn b ≡ mirrored turn (a +ℤ b)
mirrored_add Counterclockwise a b = refl
mirrored_add Clockwise a b = omega (arith, ints)

mirrored_none : (turn : ArcDirection) → mirrored turn (pos 0) ≡ pos 0
mirrored_none Counterclockwise = refl
mirrored_none Clockwise = refl

value_a : (m : PlaneStep) → step_value (on_a m) ≡ along_a m
value_a AddA = refl
value_a SubA = refl
value_a AddB = refl
value_a SubB = refl

value_b : (m : PlaneStep) → step_value (on_b m) ≡ along_b m
value_b AddA = refl
value_b SubA = refl
value_b AddB = refl
value_b SubB = refl

pub with_placed : (us : ℕ) (frame : Frame) (m : PlaneStep) (third : AxisStep) (p : Distances)
    → moved_by (pulse_item us (pulse_with frame m third)) p ≡ moved p (placed frame.plane (along_a m) (mirrored frame.turn (along_b m)) (step_value third))
with_placed us frame m third p =
    move_placed us frame.plane (on_a m) (mirrored_step frame.turn (on_b m)) third p
    ∙ ap (λ b. moved p (placed frame.plane (step_value (on_a m)) b (step_value third)))
    (mirrored_value frame.turn (on_b m) ∙ ap (mirrored frame.turn) (value_b m))
    ∙ ap (λ a. moved p (placed frame.plane a (mirrored frame.turn (along_b m)) (step_value third))) (value_a m)

pub without_placed : (us : ℕ) (frame : Frame) (third : AxisStep) (p : Distances)
    → moved_by (pulse_item us (pulse_without frame third)) p ≡ moved p (placed frame.plane (pos 0) (mirrored frame.turn (pos 0)) (step_value third))
without_placed us frame third p =
    move_placed us frame.plane Still Still third p ∙ ap (λ b. moved p (placed frame.plane (pos 0) b (step_value third))) (sym (mirrored_none frame.turn))

-- what one pulse does: how far it goes, and what is left
pub record Takes (us : ℕ) (frame : Frame) (ms : List PlaneStep) (third : AxisStep) (made_step : AxisStep) (p : Distances) (left : ℕ) : Type 0 where
  pub a : ℤ
  pub b : ℤ
  pub moves : moved_by (pulse_item us (taking frame made_step ms third)) p ≡ moved p (placed frame.plane a (mirrored frame.turn b) (step_value third))
  pub net_a : a +ℤ net_a (taken made_step ms) ≡ net_a ms
  pub net_b : b +ℤ net_b (taken made_step ms) ≡ net_b ms
  pub rest : length (taken made_step ms) ≡ left

takes : (us : ℕ) (frame : Frame) (ms : List PlaneStep) (third : AxisStep) (p : Distances) (count before after : ℕ)
    → before ≤ after → after ≤ before + 1 → after ≤ count
    → length ms ≡ count - before → Takes us frame ms third (step_toward true (after - before)) p (count - after)
takes us frame ms third p count before after le more most len = elim (cases_lt before after) [
  | inl step ↦ (let one : after - before ≡ 1 = omega arith in rw one (stepping us frame ms third p count before after (omega arith) most len))
  | inr rest ↦ (let none : after - before ≡ 0 = omega arith in rw none (record {
    a = pos 0;
    b = pos 0;
    moves = without_placed us frame third p;
    net_a = omega (arith, ints);
    net_b = omega (arith, ints);
    rest = omega arith;
  }))
]
  where
    stepping : (us : ℕ) (frame : Frame) (ms : List PlaneStep) (third : AxisStep) (p : Distances)
        (count before after : ℕ) → after ≡ before + 1 → after ≤ count → length ms ≡ count - before
        → Takes us frame ms third (step_toward true 1) p (count - after)
    stepping us frame [] third p count before after is most len = absurd (omega arith)
    stepping us frame (m ∷ ms) third p count before after is most len = record {
      a = along_a m;
      b = along_b m;
      moves = with_placed us frame m third p;
      net_a = refl;
      net_b = refl;
      rest = omega arith;
    }

-- a number of steps forward or backward
abbrev pub signed : Bool → ℕ → ℤ
signed true n = pos n
signed false n = neg_ℤ (pos n)

third_moves : (forward : Bool) (d before after : ℕ) → before ≤ after → after ≤ before + 1 → after ≤ d
    → step_value (step_toward forward (after - before)) +ℤ signed forward (d - after) ≡ signed forward (d - before)
third_moves true d before after le more most = elim (cases_lt before after) [
  | inl h ↦ (let one : after - before ≡ 1 = omega arith in rw one (omega (arith, ints)))
  | inr h ↦ (let none : after - before ≡ 0 = omega arith in let same : before ≡ after = omega arith in rw (none, same) (omega (arith, ints)))
]
third_moves false d before after le more most = elim (cases_lt before after) [
  | inl h ↦ (let one : after - before ≡ 1 = omega arith in rw one (omega (arith, ints)))
  | inr h ↦ (let none : after - before ≡ 0 = omega arith in let same : before ≡ after = omega arith in rw (none, same) (omega (arith, ints)))
]

signed_none : (forward : Bool) → signed forward 0 ≡ pos 0
signed_none true = refl
signed_none false = refl

-- where an arc's pulses lead
abbrev pub arc_reaches : Frame → List PlaneStep → ℤ → Distances
arc_reaches frame ms third = placed frame.plane (net_a ms) (mirrored frame.turn (net_b ms)) third

reaches_none : (frame : Frame) (ms : List PlaneStep) (p : Distances) (third : ℤ) → length ms ≡ 0 → third ≡ pos 0 → p ≡ moved p (arc_reaches frame ms third)
reaches_none frame [] p third len none = rw (none, mirrored_none frame.turn) (stays frame.plane p)
  where
    stays : (plane : Plane) (p : Distances) → p ≡ moved p (placed plane (pos 0) (pos 0) (pos 0))
    stays Xy p = distances_same p.x p.y p.z _ _ _ (omega (arith, ints)) (omega (arith, ints)) (omega (arith, ints))
    stays Xz p = distances_same p.x p.y p.z _ _ _ (omega (arith, ints)) (omega (arith, ints)) (omega (arith, ints))
    stays Yz p = distances_same p.x p.y p.z _ _ _ (omega (arith, ints)) (omega (arith, ints)) (omega (arith, ints))
reaches_none frame (m ∷ ms) p third len none = absurd (omega arith)

pub placed_same : (plane : Plane) (p : Distances) (a a' b b' t t' : ℤ) → a ≡ a' → b ≡ b' → t ≡ t'
    → moved p (placed plane a b t) ≡ moved p (placed plane a' b' t')
placed_same plane p a a' b b' t t' e f g = rw (e, f, g) refl

arc_stands : (us : ℕ) (frame : Frame) (n count : ℕ) (forward : Bool) (d : ℕ) (ms : List PlaneStep) (p : Distances)
    (left : ℕ) → 0 < n → count ≤ n → d ≤ n → left ≤ n
    → length ms ≡ count - made n count (n - left)
    → stands_after (map (pulse_item us) (interleaved frame n count forward d ms left)) p ≡ moved p
    (arc_reaches frame ms (signed forward (d - made n d (n - left))))
unfolding axis_step
arc_stands us frame n count forward d ms p zero some le_c le_d small len =
    let e : n - 0 ≡ n = omega arith in
    let all_c : made n count (n - 0) ≡ count = ap (made n count) e ∙ made_all n count some in
    let all_d : made n d (n - 0) ≡ d = ap (made n d) e ∙ made_all n d some in
    let none : d - made n d (n - 0) ≡ 0 = omega arith in
    reaches_none frame ms p (signed forward (d - made n d (n - 0))) (omega arith) (ap (signed forward) none ∙ signed_none forward)
arc_stands us frame n count forward d ms p (suc left) some le_c le_d small len =
    let k = n - suc left in
    let e : k + 1 ≡ n - left = omega arith in
    let more_c = made_more n count k some le_c in
    let more_d = made_more n d k some le_d in
    let most_c : made n count (k + 1) ≤ count = made_le n count (k + 1) some (omega arith) in
    let most_d : made n d (k + 1) ≤ d = made_le n d (k + 1) some (omega arith) in
    let t = takes us frame ms (axis_step n forward d k) p count (made n count k) (made n count (k + 1)) more_c.0 more_c.1 most_c len in
    let rest = taken (step_toward true (made n count (k + 1) - made n count k)) ms in
    let here = moved p (placed frame.plane t.a (mirrored frame.turn t.b) (step_value (axis_step n forward d k))) in
    let len' : length rest ≡ count - made n count (n - left) = t.rest ∙ ap (λ x. count - made n count x) e in
    let third : step_value (axis_step n forward d k) +ℤ signed forward (d - made n d (n - left)) ≡ signed forward (d - made n d k) =
    ap (λ x. step_value (axis_step n forward d k) +ℤ signed forward (d - made n d x)) (sym e)
    ∙ third_moves forward d (made n d k) (made n d (k + 1)) more_d.0 more_d.1 most_d in
    ap (stands_after (map (pulse_item us) (interleaved frame n count forward d rest left))) t.moves
    ∙ arc_stands us frame n count forward d rest here left some le_c le_d (omega arith) len'
    ∙ add_placed frame.plane p t.a (mirrored frame.turn t.b) (step_value (axis_step n forward d k)) (net_a rest)
    (mirrored frame.turn (net_b rest)) (signed forward (d - made n d (n - left)))
    ∙ placed_same frame.plane p _ _ _ _ _ _ t.net_a (mirrored_add frame.turn t.b (net_b rest) ∙ ap (mirrored frame.turn) t.net_b) third

signed_is : (z : ℤ) → signed (int_le (pos 0) z) (unsigned_abs z) ≡ z
signed_is (pos n) = let e : int_le (pos 0) (pos n) ≡ true = grind (arith, ints) in rw e refl
signed_is (negsuc n) = refl

-- an arc's pulses go as far as its steps and those of the third axis
pub arc_leads : (us : ℕ) (frame : Frame) (ms : List PlaneStep) (third : ℤ) (p : Distances)
    → stands_after (map (pulse_item us) (arc_pulses frame ms third)) p ≡ moved p (arc_reaches frame ms third)
arc_leads us frame ms third p = of_total (max (length ms) (unsigned_abs third)) us frame ms third p refl
  where
    of_total : (n us : ℕ) (frame : Frame) (ms : List PlaneStep) (third : ℤ) (p : Distances) → n ≡ max (length ms) (unsigned_abs third)
        → stands_after (map (pulse_item us)
        (interleaved frame n (length ms) (int_le (pos 0) third) (unsigned_abs third) ms n)) p ≡ moved p
        (arc_reaches frame ms third)
    of_total zero us frame ms third p is = reaches_none frame ms p third (omega arith) (omega (arith, ints))
    of_total (suc n) us frame ms third p is =
        let none : suc n - suc n ≡ 0 = omega arith in
        let start_c : made (suc n) (length ms) (suc n - suc n) ≡ 0 = ap (made (suc n) (length ms)) none ∙ made_none (suc n) (length ms) (omega arith) in
        let start_d : made (suc n) (unsigned_abs third) (suc n - suc n) ≡ 0 = ap (made (suc n) (unsigned_abs third))
        none ∙ made_none (suc n) (unsigned_abs third) (omega arith) in
        let whole : unsigned_abs third - made (suc n) (unsigned_abs third) (suc n - suc n) ≡ unsigned_abs third = omega arith in
        arc_stands us frame (suc n) (length ms) (int_le (pos 0) third) (unsigned_abs third) ms p (suc n)
        (omega arith) (omega arith) (omega arith) (omega arith) (omega arith)
        ∙ ap (λ x. moved p (arc_reaches frame ms x)) (ap (signed (int_le (pos 0) third)) whole ∙ signed_is third)

pub stands_after-append : (xs ys : List Item) (p : Distances) → stands_after (xs ++ ys) p ≡ stands_after ys (stands_after xs p)
stands_after-append [] ys p = refl
stands_after-append (x ∷ xs) ys p = stands_after-append xs ys (moved_by x p)

pub rest_of : (x y : ℤ) → x +ℤ (y -ℤ x) ≡ y
rest_of x y = omega (arith, ints)

pub none_more : (x : ℤ) → x +ℤ pos 0 ≡ x
none_more x = omega (arith, ints)

pub of_all : (plane : Plane) (d : Distances) → placed plane (pick_a plane d.x d.y d.z) (pick_b plane d.x d.y d.z) (of_third plane d.x d.y d.z) ≡ d
of_all Xy d = refl
of_all Xz d = refl
of_all Yz d = refl

-- the pulses of an arc and of its closing line go as far as the distances say
pub over_leads : (us : ℕ) (frame : Frame) (d : Distances) (ms : List PlaneStep) (p : Distances)
    → stands_after (map (pulse_item us) (arc_pulses frame ms (across frame d) ++ line_pulses (closing frame d ms))) p ≡ moved p d
over_leads us frame d ms p =
    ap (λ is. stands_after is p) (map-append (pulse_item us) (arc_pulses frame ms (across frame d)) (line_pulses (closing frame d ms)))
    ∙ stands_after-append (map (pulse_item us) (arc_pulses frame ms (across frame d))) (map (pulse_item us) (line_pulses (closing frame d ms))) p
    ∙ line_leads us _ (closing frame d ms)
    ∙ ap (λ q. moved q (closing frame d ms)) (arc_leads us frame ms (across frame d) p)
    ∙ add_placed frame.plane p (net_a ms) (mirrored frame.turn (net_b ms)) (across frame d)
    (pick_a frame.plane d.x d.y d.z -ℤ net_a ms)
    (pick_b frame.plane d.x d.y d.z -ℤ mirrored frame.turn (net_b ms)) (pos 0)
    ∙ placed_same frame.plane p _ _ _ _ _ _ (rest_of _ _) (rest_of _ _) (none_more _)
    ∙ ap (moved p) (of_all frame.plane d)
