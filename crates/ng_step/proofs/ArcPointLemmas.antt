-- An arc's pulses move the machine from point to point of its path.
use Rattle.std.proofs.Common.{arith, ℕ, zero, suc, ◌+◌, ◌-◌, ◌<◌, ◌≤◌, ◌≡◌, inl, inr, refl, sym, ap, ◌∙◌, subst, ℤ}
use Rattle.std.proofs.Common.{pos, negsuc, neg_ℤ, ◌+ℤ◌, ◌-ℤ◌, ◌*ℤ◌, Bool, true, max, List, [], ◌∷◌, ◌++◌, map}
use Rattle.std.proofs.Common.{length, take, Some}
use Rattle.std.proofs.lemmas.Int.{ints}
use Rattle.std.proofs.lemmas.Bool.{cases_lt}
use Rattle.std.proofs.lemmas.List.{map-append, length-map}
use Rattle.std.specs.Prelude.{unsigned_abs, int_le, slice_get}
use Rattle.ng_canon.specs.declared.geometry.Geometry.{Geometry}
use Rattle.ng_canon.specs.declared.plane.Plane.{Plane}
use Rattle.ng_canon.specs.declared.plane.Plane.TheVariants.{Xy, Xz, Yz}
use Rattle.ng_canon.specs.declared.plane.ArcDirection.{ArcDirection}
use Rattle.ng_canon.specs.declared.plane.ArcDirection.TheVariants.{Clockwise, Counterclockwise}
use Rattle.ng_canon.specs.declared.segment.Arc.{Arc}
use Rattle.ng_canon.specs.declared.item.AxisStep.{AxisStep}
use Rattle.ng_step.specs.declared.circle.Circle.{Circle}
use Rattle.ng_step.specs.declared.frame.Frame.{Frame}
use Rattle.ng_step.specs.declared.steps.Distances.{Distances}
use Rattle.ng_step.specs.declared.steps.AxisSteps.{AxisSteps}
use Rattle.ng_canon.specs.declared.item.Item.{Item}
use Rattle.ng_canon.specs.declared.plane_point.PlanePoint.{PlanePoint}
use Rattle.ng_step.specs.declared.quadrant.PlaneStep.{PlaneStep}
use Rattle.ng_step.specs.declared.quadrant.PlaneStep.TheVariants.{AddA, SubA, AddB, SubB}
use Rattle.ng_step.specs.Arcs.{along_a, along_b, moved as stepped, spots}
use Rattle.ng_canon.specs.Plane.{pick_a, pick_b}
use Rattle.ng_step.specs.Frame.{of_third, mirrored}
use Rattle.ng_step.specs.Line.{made, point_on_line, line_step, axis_step, step_toward}
use Rattle.ng_step.specs.Arc.{taking, taken, interleaved, arc_pulses}
use Rattle.ng_step.specs.Hands.{pulse_item, from_centre, step_a, step_b}
use Rattle.ng_step.specs.Promises.{step_value, moved_by, stands_after, offset_of}
use Rattle.ng_step.proofs.ArcStepCountLemmas.{scaled_more, scaled_less}
use Rattle.ng_step.proofs.LineStepLemmas.{made_none, made_more, made_le, line_at_none}
use Rattle.ng_step.proofs.SegmentEndLemmas.{moved, placed, axis_moves, with_placed, without_placed}

-- ---- one step

plus_one : (z : ℤ) (s : ℕ) → (z +ℤ pos 1) *ℤ pos s ≡ z *ℤ pos s +ℤ pos s
plus_one z s =
    let e : z +ℤ pos 1 ≡ pos 1 +ℤ z = omega (arith, ints) in
    let f : pos s +ℤ z *ℤ pos s ≡ z *ℤ pos s +ℤ pos s = omega (arith, ints) in
    ap (λ x. x *ℤ pos s) e ∙ scaled_more z s ∙ f

minus_one : (z : ℤ) (s : ℕ) → (z +ℤ negsuc 0) *ℤ pos s ≡ z *ℤ pos s -ℤ pos s
minus_one z s = let e : z +ℤ negsuc 0 ≡ negsuc 0 +ℤ z = omega (arith, ints) in ap (λ x. x *ℤ pos s) e ∙ scaled_less z s

plus_none : (z : ℤ) (s : ℕ) → (z +ℤ pos 0) *ℤ pos s ≡ z *ℤ pos s
plus_none z s = let e : z +ℤ pos 0 ≡ z = omega (arith, ints) in ap (λ x. x *ℤ pos s) e

up : (z k : ℤ) (s : ℕ) → (z +ℤ pos 1) *ℤ pos s -ℤ k ≡ (z *ℤ pos s -ℤ k) +ℤ pos s
up z k s = rw plus_one (omega (arith, ints))

down : (z k : ℤ) (s : ℕ) → (z +ℤ negsuc 0) *ℤ pos s -ℤ k ≡ (z *ℤ pos s -ℤ k) -ℤ pos s
down z k s = rw minus_one (omega (arith, ints))

level : (z k : ℤ) (s : ℕ) → (z +ℤ pos 0) *ℤ pos s -ℤ k ≡ z *ℤ pos s -ℤ k
level z k s = ap (λ x. x -ℤ k) (plus_none z s)

-- with the sign reversed
up_turned : (z k : ℤ) (s : ℕ) → neg_ℤ ((z +ℤ negsuc 0) *ℤ pos s -ℤ k) ≡ neg_ℤ (z *ℤ pos s -ℤ k) +ℤ pos s
up_turned z k s = rw minus_one (omega (arith, ints))

down_turned : (z k : ℤ) (s : ℕ) → neg_ℤ ((z +ℤ pos 1) *ℤ pos s -ℤ k) ≡ neg_ℤ (z *ℤ pos s -ℤ k) -ℤ pos s
down_turned z k s = rw plus_one (omega (arith, ints))

spot_same : (a a' b b' : ℤ) → a ≡ a' → b ≡ b' → let p : PlanePoint = record { a = a; b = b } in let q : PlanePoint = record { a = a'; b = b' } in p ≡ q
spot_same a a' b b' e f = cc

-- a step of the plane, on both of its coordinates
offset_moves : (turn : ArcDirection) (m : PlaneStep) (za zb ka kb : ℤ) (sa sb square : ℕ) →
    let c : Circle = record { step_a = sa; step_b = sb; square = square } in
    let new : PlanePoint = record { a = (za +ℤ along_a m) *ℤ pos sa -ℤ ka; b = mirrored turn ((zb +ℤ mirrored turn (along_b m)) *ℤ pos sb -ℤ kb) } in
    let old : PlanePoint = record { a = za *ℤ pos sa -ℤ ka; b = mirrored turn (zb *ℤ pos sb -ℤ kb) } in
    new ≡ stepped c m old
offset_moves Counterclockwise AddA za zb ka kb sa sb square = spot_same _ _ _ _ (up za ka sa) (level zb kb sb)
offset_moves Counterclockwise SubA za zb ka kb sa sb square = spot_same _ _ _ _ (down za ka sa) (level zb kb sb)
offset_moves Counterclockwise AddB za zb ka kb sa sb square = spot_same _ _ _ _ (level za ka sa) (up zb kb sb)
offset_moves Counterclockwise SubB za zb ka kb sa sb square = spot_same _ _ _ _ (level za ka sa) (down zb kb sb)
offset_moves Clockwise AddA za zb ka kb sa sb square = spot_same _ _ _ _ (up za ka sa) (ap neg_ℤ (level zb kb sb))
offset_moves Clockwise SubA za zb ka kb sa sb square = spot_same _ _ _ _ (down za ka sa) (ap neg_ℤ (level zb kb sb))
offset_moves Clockwise AddB za zb ka kb sa sb square = spot_same _ _ _ _ (level za ka sa) (up_turned zb kb sb)
offset_moves Clockwise SubB za zb ka kb sa sb square = spot_same _ _ _ _ (level za ka sa) (down_turned zb kb sb)

offset_rests : (turn : ArcDirection) (za zb ka kb : ℤ) (sa sb : ℕ) →
    let new : PlanePoint = record { a = (za +ℤ pos 0) *ℤ pos sa -ℤ ka; b = mirrored turn ((zb +ℤ mirrored turn (pos 0)) *ℤ pos sb -ℤ kb) } in
    let old : PlanePoint = record { a = za *ℤ pos sa -ℤ ka; b = mirrored turn (zb *ℤ pos sb -ℤ kb) } in
    new ≡ old
offset_rests Counterclockwise za zb ka kb sa sb = spot_same _ _ _ _ (level za ka sa) (level zb kb sb)
offset_rests Clockwise za zb ka kb sa sb = spot_same _ _ _ _ (level za ka sa) (ap neg_ℤ (level zb kb sb))

of_a_moved : (plane : Plane) (p : Distances) (a b t : ℤ)
    → pick_a plane (moved p (placed plane a b t)).x (moved p (placed plane a b t)).y
    (moved p (placed plane a b t)).z ≡ pick_a plane p.x p.y p.z +ℤ a
of_a_moved Xy p a b t = refl
of_a_moved Xz p a b t = refl
of_a_moved Yz p a b t = refl

of_b_moved : (plane : Plane) (p : Distances) (a b t : ℤ)
    → pick_b plane (moved p (placed plane a b t)).x (moved p (placed plane a b t)).y
    (moved p (placed plane a b t)).z ≡ pick_b plane p.x p.y p.z +ℤ b
of_b_moved Xy p a b t = refl
of_b_moved Xz p a b t = refl
of_b_moved Yz p a b t = refl

abbrev pub third_of : Plane → Distances → ℤ
third_of plane p = of_third plane p.x p.y p.z

third_moved : (plane : Plane) (p : Distances) (a b t : ℤ) → third_of plane (moved p (placed plane a b t)) ≡ third_of plane p +ℤ t
third_moved Xy p a b t = refl
third_moved Xz p a b t = refl
third_moved Yz p a b t = refl

-- ---- the pulses before the closing line, and those of the closing line

pub length-interleaved : (frame : Frame) (n count : ℕ) (forward : Bool) (d : ℕ) (ms : List PlaneStep) (left : ℕ)
    → length (interleaved frame n count forward d ms left) ≡ left
length-interleaved frame n count forward d ms zero = refl
length-interleaved frame n count forward d ms (suc left) =
    ap suc (length-interleaved frame n count forward d (taken (axis_step n true count (n - suc left)) ms) left)

first_of : (xs ys : List Item) (k : ℕ) (p : Distances) → k ≤ length xs → stands_after (take k (xs ++ ys)) p ≡ stands_after (take k xs) p
first_of [] [] zero p le = refl
first_of [] (y ∷ ys) zero p le = refl
first_of [] ys (suc k) p le = absurd (omega arith)
first_of (x ∷ xs) ys zero p le = refl
first_of (x ∷ xs) ys (suc k) p le = first_of xs ys k (moved_by x p) (omega arith)

then_of : (xs ys : List Item) (k : ℕ) (p : Distances) → stands_after (take (length xs + k) (xs ++ ys)) p ≡ stands_after (take k ys) (stands_after xs p)
then_of [] ys k p = let e : 0 + k ≡ k = omega arith in rw e refl
then_of (x ∷ xs) ys k p = let e : length (x ∷ xs) + k ≡ suc (length xs + k) = omega arith in rw e (then_of xs ys k (moved_by x p))

first_items : (us : ℕ) (xs ys : List AxisSteps) (k : ℕ) (p : Distances) → k ≤ length xs
    → stands_after (take k (map (pulse_item us) (xs ++ ys))) p ≡ stands_after (take k (map (pulse_item us) xs)) p
first_items us xs ys k p le =
    ap (λ (is : List Item). stands_after (take k is) p) (map-append (pulse_item us) xs ys)
    ∙ first_of (map (pulse_item us) xs) (map (pulse_item us) ys) k p
    (let e = length-map xs (pulse_item us) in omega arith)

pub then_items : (us : ℕ) (xs ys : List AxisSteps) (n k : ℕ) (p : Distances) → length xs ≡ n
    → stands_after (take (n + k) (map (pulse_item us) (xs ++ ys))) p ≡ stands_after
    (take k (map (pulse_item us) ys)) (stands_after (map (pulse_item us) xs) p)
then_items us xs ys n k p len =
    let e : n + k ≡ length (map (pulse_item us) xs) + k = (let same = length-map xs (pulse_item us) in omega arith) in
    ap (λ (is : List Item). stands_after (take (n + k) is) p) (map-append (pulse_item us) xs ys)
    ∙ ap (λ v. stands_after (take v (map (pulse_item us) xs ++ map (pulse_item us) ys)) p) e
    ∙ then_of (map (pulse_item us) xs) (map (pulse_item us) ys) k p

module _ (g : Geometry) (arc : Arc) (us square : ℕ) where
  abbrev frame : Frame
  frame = record { plane = arc.plane; turn = arc.turn }

  abbrev c : Circle
  c = record { step_a = step_a g arc.plane; step_b = step_b g arc.plane; square = square }

  offset_placed : (p : Distances) (a b t : ℤ) → offset_of g arc (moved p (placed arc.plane a b t)) ≡ from_centre arc
      ((pick_a arc.plane p.x p.y p.z +ℤ a) *ℤ pos (step_a g arc.plane))
      ((pick_b arc.plane p.x p.y p.z +ℤ b) *ℤ pos (step_b g arc.plane))
  offset_placed p a b t = rw (of_a_moved arc.plane p a b t, of_b_moved arc.plane p a b t) refl

  -- what one pulse does
  record AfterPulse (ms : List PlaneStep) (x : PlanePoint) (third : AxisStep) (p : Distances) (before after count : ℕ) : Type 0 where
    x' : PlanePoint
    at : offset_of g arc (moved_by (pulse_item us (taking frame (step_toward true (after - before)) ms third)) p) ≡ x'
    moves : third_of arc.plane (moved_by (pulse_item us (taking frame (step_toward true (after - before)) ms third))
        p) ≡ third_of arc.plane p +ℤ step_value third
    rest : length (taken (step_toward true (after - before)) ms) ≡ count - after
    later : (last : ℕ) (y : PlanePoint) → after ≤ last
        → slice_get (spots c x' (taken (step_toward true (after - before)) ms)) (last - after) ≡ Some y
        → slice_get (spots c x ms) (last - before) ≡ Some y

  stepping : (ms : List PlaneStep) (x : PlanePoint) (third : AxisStep) (p : Distances) (before after count : ℕ)
      → after ≡ before + 1 → after ≤ count → length ms ≡ count - before → offset_of g arc p ≡ x
      → AfterPulse ms x third p before after count
  stepping [] x third p before after count is most len here = absurd (omega arith)
  stepping (m ∷ ms) x third p before after count is most len here =
      let one : after - before ≡ 1 = omega arith in
      let shift = with_placed us frame m third p in
      record {
        x' = stepped c m x;
        at = rw one (ap (offset_of g arc) shift ∙ offset_placed p (along_a m) (mirrored arc.turn (along_b m)) (step_value third)
            ∙ offset_moves arc.turn m (pick_a arc.plane p.x p.y p.z) (pick_b arc.plane p.x p.y p.z) arc.centre_a
            arc.centre_b (step_a g arc.plane) (step_b g arc.plane) square ∙ ap (stepped c m) here);
        moves = rw one (ap (third_of arc.plane) shift ∙ third_moved arc.plane p (along_a m) (mirrored arc.turn (along_b m)) (step_value third));
        rest = rw one (omega arith);
        later = λ last y le found. (let more : last - before ≡ suc (last - after) = omega arith in rw more (rw one at found));
      }

  resting : (ms : List PlaneStep) (x : PlanePoint) (third : AxisStep) (p : Distances) (before after count : ℕ)
      → after ≡ before → length ms ≡ count - before → offset_of g arc p ≡ x
      → AfterPulse ms x third p before after count
  resting ms x third p before after count is len here =
      let none : after - before ≡ 0 = omega arith in
      let shift = without_placed us frame third p in
      record {
        x' = x;
        at = rw none (ap (offset_of g arc) shift ∙ offset_placed p (pos 0) (mirrored arc.turn (pos 0)) (step_value third)
            ∙ offset_rests arc.turn (pick_a arc.plane p.x p.y p.z) (pick_b arc.plane p.x p.y p.z) arc.centre_a
            arc.centre_b (step_a g arc.plane) (step_b g arc.plane) ∙ here);
        moves = rw none (ap (third_of arc.plane) shift ∙ third_moved arc.plane p (pos 0) (mirrored arc.turn (pos 0)) (step_value third));
        rest = rw none (omega arith);
        later = λ last y le found. (let same : last - before ≡ last - after = omega arith in rw same (rw none at found));
      }

  pulsed : (ms : List PlaneStep) (x : PlanePoint) (third : AxisStep) (p : Distances) (before after count : ℕ)
      → before ≤ after → after ≤ before + 1 → after ≤ count → length ms ≡ count - before → offset_of g arc p ≡ x
      → AfterPulse ms x third p before after count
  pulsed ms x third p before after count le more most len here = elim (cases_lt before after) [
    | inl step ↦ stepping ms x third p before after count (omega arith) most len here
    | inr rest ↦ resting ms x third p before after count (omega arith) len here
  ]

  first_spot : (x : PlanePoint) (ms : List PlaneStep) (i : ℕ) (y : PlanePoint) → i ≡ 0 → y ≡ x → slice_get (spots c x ms) i ≡ Some y
  first_spot x [] i y none is = rw (none, is) refl
  first_spot x (m ∷ ms) i y none is = rw (none, is) refl

  made_up : (n d k j : ℕ) → 0 < n → d ≤ n → made n d k ≤ made n d (k + j)
  made_up n d k zero some le = let e : k + 0 ≡ k = omega arith in rw e (omega arith)
  made_up n d k (suc j) some le =
      let e : k + suc j ≡ k + j + 1 = omega arith in
      let before = made_up n d k j some le in
      let more = made_more n d (k + j) some le in
      rw e (omega arith)

  -- the machine goes from point to point of the path, and the third axis along its line
  pub goes : (n count : ℕ) (third z : ℤ) (ms : List PlaneStep) (x : PlanePoint) (p : Distances) (left j : ℕ) → 0 < n
      → count ≤ n → unsigned_abs third ≤ n → left ≤ n → j ≤ left
      → length ms ≡ count - made n count (n - left) → offset_of g arc p ≡ x → third_of arc.plane p ≡ point_on_line n z (z +ℤ third) (n - left)
      → (slice_get (spots c x ms) (made n count (n - left + j) - made n count (n - left))
      ≡ Some (offset_of g arc (stands_after (take j (map (pulse_item us) (interleaved frame n count (int_le (pos 0) third) (unsigned_abs third) ms left))) p)))
      × (third_of arc.plane
      (stands_after (take j
      (map (pulse_item us) (interleaved frame n count (int_le (pos 0) third) (unsigned_abs third) ms left))) p)
      ≡ point_on_line n z (z +ℤ third) (n - left + j))
  unfolding axis_step
  goes n count third z ms x p zero zero some le_c le_d small le len here line =
      let e : n - 0 + 0 ≡ n - 0 = omega arith in
      rw e (first_spot x ms (made n count (n - 0) - made n count (n - 0)) (offset_of g arc p) (omega arith) here, line)
  goes n count third z ms x p zero (suc j) some le_c le_d small le len here line = absurd (omega arith)
  goes n count third z ms x p (suc left) zero some le_c le_d small le len here line =
      let e : n - suc left + 0 ≡ n - suc left = omega arith in
      rw e (first_spot x ms (made n count (n - suc left) - made n count (n - suc left)) (offset_of g arc p) (omega arith) here, line)
  goes n count third z ms x p (suc left) (suc j) some le_c le_d small le len here line =
      let k = n - suc left in
      let e : k + 1 ≡ n - left = omega arith in
      let e' : n - suc left + suc j ≡ n - left + j = omega arith in
      let more = made_more n count k some le_c in
      let most : made n count (k + 1) ≤ count = made_le n count (k + 1) some (omega arith) in
      let t = pulsed ms x (line_step n third k) p (made n count k) (made n count (k + 1)) count more.0 more.1 most len here in
      let len' : length (taken (axis_step n true count k) ms) ≡ count - made n count (n - left) = t.rest ∙ ap (λ v. count - made n count v) e in
      let line' = t.moves ∙ ap (λ v. v +ℤ step_value (line_step n third k)) line ∙ axis_moves n k z third some le_d ∙ ap (point_on_line n z (z +ℤ third)) e in
      let others = goes n count third z (taken (axis_step n true count k) ms) t.x'
      (moved_by (pulse_item us (taking frame (axis_step n true count k) ms (line_step n third k))) p) left j
      some le_c le_d (omega arith) (omega arith) len' t.at line' in
      let up : made n count (k + 1) ≤ made n count (n - left + j) = (let grows = made_up n count (n - left) j some le_c in rw e grows) in
      let p' = moved_by (pulse_item us (taking frame (axis_step n true count k) ms (line_step n third k))) p in
      let y = offset_of g arc
      (stands_after (take j
      (map (pulse_item us) (interleaved frame n count (int_le (pos 0) third) (unsigned_abs third)
      (taken (axis_step n true count k) ms) left))) p') in
      let found = subst (λ (v : ℕ). slice_get (spots c t.x' (taken (axis_step n true count k) ms))
      (made n count (n - left + j) - made n count v) ≡ Some y) (sym e) others.0 in
      rw e' (t.later (made n count (n - left + j)) y up found, others.1)

  -- from its first pulse on
  pub goes_round : (third : ℤ) (ms : List PlaneStep) (p : Distances) (line : List AxisSteps) (k : ℕ)
      → 0 < max (length ms) (unsigned_abs third) → k ≤ max (length ms) (unsigned_abs third)
      → (slice_get (spots c (offset_of g arc p) ms) (made (max (length ms) (unsigned_abs third)) (length ms) k)
      ≡ Some (offset_of g arc (stands_after (take k (map (pulse_item us) (arc_pulses frame ms third ++ line))) p)))
      × (third_of arc.plane (stands_after (take k (map (pulse_item us) (arc_pulses frame ms third ++ line))) p)
      ≡ point_on_line (max (length ms) (unsigned_abs third)) (third_of arc.plane p)
      (third_of arc.plane p +ℤ third) k)
  goes_round third ms p line k some le =
      let n = max (length ms) (unsigned_abs third) in
      let none : n - n ≡ 0 = omega arith in
      let from_k : n - n + k ≡ k = omega arith in
      let first : made n (length ms) (n - n) ≡ 0 = ap (made n (length ms)) none ∙ made_none n (length ms) some in
      let start = sym (ap (point_on_line n (third_of arc.plane p) (third_of arc.plane p +ℤ third)) none
      ∙ line_at_none n (third_of arc.plane p) (third_of arc.plane p +ℤ third) some) in
      let len : length ms ≡ length ms - made n (length ms) (n - n) = omega arith in
      let both = goes n (length ms) third (third_of arc.plane p) ms (offset_of g arc p) p n k some (omega arith)
      (omega arith) (omega arith) le len refl start in
      let place : made n (length ms) (n - n + k) - made n (length ms) (n - n) ≡ made n (length ms) k =
      (let e = ap (made n (length ms)) from_k in omega arith) in
      let same = first_items us (arc_pulses frame ms third) line k p
      (let all = length-interleaved frame n (length ms) (int_le (pos 0) third) (unsigned_abs third) ms n in
      omega arith) in (
        ap (λ i. slice_get (spots c (offset_of g arc p) ms) i) (sym place) ∙ both.0 ∙ ap (λ (q : Distances). Some (offset_of g arc q)) (sym same),
        ap (third_of arc.plane) same ∙ both.1 ∙ ap (point_on_line n (third_of arc.plane p) (third_of arc.plane p +ℤ third)) from_k,
      )
