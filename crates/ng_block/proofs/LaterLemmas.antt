-- Skipping a number of segments, at most all of them.
use Rattle.std.proofs.Common.{arith, subst, ℕ, zero, suc, ◌-◌, ◌≡◌, ◌≢◌, ◌≤◌, ◌<◌, List, [], ◌∷◌, ◌++◌, take, drop, length, refl, sym, ◌∙◌, ap}
use Rattle.std.proofs.Math.Seq.{drop-nil, take-nil}
use Rattle.std.proofs.Math.ListN.{drop_of_length-le}
use Rattle.ng_canon.specs.declared.segment.Segment.{Segment}
use Rattle.ng_block.specs.declared.block_segments.BlockSegmentsLeft.{BlockSegmentsLeft}
use Rattle.ng_block.specs.declared.block_segments.resuming.Passing.{Passing}
use Rattle.ng_block.specs.declared.action.Action.{Action}
use Rattle.ng_block.specs.Action.{actions_segments}
use Rattle.ng_block.specs.BlockSegments.{actions_left, stop_segments_left, rest_of}
use Rattle.ng_block.specs.Resuming.{Stays}
use Rattle.ng_cycles.specs.declared.motion_state.MotionState.{MotionState}
use Rattle.ng_cycles.specs.Segments.{after_segments, after_segment}

pub one_taken : (x : Segment) (n : ℕ) → n ≢ 0 → take n (x ∷ []) ≡ x ∷ []
one_taken x zero h = absurd (h refl)
one_taken x (suc zero) h = refl
one_taken x (suc (suc n)) h = refl

pub one_dropped : (x : Segment) (n : ℕ) → n ≢ 0 → drop n (x ∷ []) ≡ []
one_dropped x zero h = absurd (h refl)
one_dropped x (suc zero) h = refl
one_dropped x (suc (suc n)) h = refl

pub two_taken : (x y : Segment) (n : ℕ) → n ≢ 0 → n ≢ 1 → take n (x ∷ y ∷ []) ≡ x ∷ y ∷ []
two_taken x y zero h one = absurd (h refl)
two_taken x y (suc zero) h one = absurd (one refl)
two_taken x y (suc (suc zero)) h one = refl
two_taken x y (suc (suc (suc n))) h one = refl

pub two_dropped : (x y : Segment) (n : ℕ) → n ≢ 0 → n ≢ 1 → drop n (x ∷ y ∷ []) ≡ []
two_dropped x y zero h one = absurd (h refl)
two_dropped x y (suc zero) h one = absurd (one refl)
two_dropped x y (suc (suc zero)) h one = refl
two_dropped x y (suc (suc (suc n))) h one = refl

-- ---- skipping segments of two lists, one after the other

pub drop-on : (xs ys : List Segment) (n : ℕ) → drop (n - length xs) (drop n xs ++ ys) ≡ drop n (xs ++ ys)
drop-on [] ys n =
    let e : n - 0 ≡ n = omega arith in
    ap (λ (none : List Segment). drop (n - 0) (none ++ ys)) (drop-nil n) ∙ ap (λ k. drop k ys) e
drop-on (x ∷ xs) ys zero =
    let e : 0 - suc (length xs) ≡ 0 = omega arith in
    ap (λ k. drop k ((x ∷ xs) ++ ys)) e
drop-on (x ∷ xs) ys (suc n) =
    let e : suc n - suc (length xs) ≡ n - length xs = omega arith in
    ap (λ k. drop k (drop n xs ++ ys)) e ∙ drop-on xs ys n

pub after_segments-on : (at : MotionState) (xs ys : List Segment) (n : ℕ)
    → after_segments (after_segments at (take n xs)) (take (n - length xs) (drop n xs ++ ys)) ≡ after_segments at
    (take n (xs ++ ys))
after_segments-on at [] ys n =
    let e : n - 0 ≡ n = omega arith in
    ap (λ (none : List Segment). after_segments (after_segments at none) (take (n - 0) (drop n [] ++ ys))) (take-nil n)
    ∙ ap (λ (none : List Segment). after_segments at (take (n - 0) (none ++ ys))) (drop-nil n)
    ∙ ap (λ k. after_segments at (take k ys)) e
after_segments-on at (x ∷ xs) ys zero =
    let e : 0 - suc (length xs) ≡ 0 = omega arith in
    ap (λ k. after_segments at (take k ((x ∷ xs) ++ ys))) e
after_segments-on at (x ∷ xs) ys (suc n) =
    let e : suc n - suc (length xs) ≡ n - length xs = omega arith in
    ap (λ k. after_segments (after_segments (after_segment at x) (take n xs)) (take k (drop n xs ++ ys))) e ∙ after_segments-on (after_segment at x) xs ys n

pub drop-all : (xs : List Segment) (n : ℕ) → 0 < n - length xs → drop n xs ≡ []
drop-all xs n h = let past : length xs ≤ n = omega (arith, h) in drop_of_length-le xs past

-- ---- skipping some segments leaves unchanged what is left once all are skipped

pub Stays-trans : (p q r : Passing) → Stays p q → Stays q r → Stays p r
Stays-trans p q r one other = record { rest = other.rest ∙ one.rest; motion_state = other.motion_state ∙ one.motion_state }

one_dropped_more : (x : Segment) (xs ys : List Segment) (n : ℕ) → 0 < n → ys ≡ x ∷ xs → drop (n - 1) xs ≡ drop n ys
one_dropped_more x xs ys zero some e = absurd (omega (arith, some))
one_dropped_more x xs ys (suc n) some e =
    let less : suc n - 1 ≡ n = omega arith in
    ap (λ k. drop k xs) less ∙ sym (ap (λ l. drop (suc n) l) e)

one_taken_more : (at : MotionState) (x : Segment) (xs ys : List Segment) (n : ℕ) → 0 < n → ys ≡ x ∷ xs →
    after_segments (after_segment at x) (take (n - 1) xs) ≡ after_segments at (take n ys)
one_taken_more at x xs ys zero some e = absurd (omega (arith, some))
one_taken_more at x xs ys (suc n) some e =
    let less : suc n - 1 ≡ n = omega arith in
    ap (λ k. after_segments (after_segment at x) (take k xs)) less ∙ sym (ap (λ l. after_segments at (take (suc n) l)) e)

-- the next segment
pub Stays-next : (p q : Passing) (x : Segment) → 0 < p.left → rest_of p.rest ≡ x ∷ rest_of q.rest →
    q.left ≡ p.left - 1 → q.motion_state ≡ after_segment p.motion_state x → Stays p q
Stays-next p q x some split left motion_state = record {
  rest = ap (λ k. drop k (rest_of q.rest)) left ∙ one_dropped_more x (rest_of q.rest) (rest_of p.rest) p.left some split;
  motion_state =
      ap (λ k. after_segments q.motion_state (take k (rest_of q.rest))) left
      ∙ ap (λ at. after_segments at (take (p.left - 1) (rest_of q.rest))) motion_state
      ∙ one_taken_more p.motion_state x (rest_of q.rest) (rest_of p.rest) p.left some split;
}

-- once no action is left
pub rest-without_actions : (c : BlockSegmentsLeft) → actions_left c ≡ [] → rest_of c ≡ c.moves ++ stop_segments_left c
rest-without_actions c none =
    ap (λ (actions : List Action). actions_segments c.outputs actions ++ (c.moves ++ stop_segments_left c)) none

-- segments of the motion
pub Stays-path : (p q : Passing) (xs : List Segment) → actions_left p.rest ≡ [] → p.rest.moves ≡ xs →
    q.rest ≡ record p.rest { moves = drop p.left xs } → q.left ≡ p.left - length xs →
    q.motion_state ≡ after_segments p.motion_state (take p.left xs) → Stays p q
Stays-path p q xs none moves rest left motion_state =
    let ys = stop_segments_left p.rest in
    let all : rest_of p.rest ≡ xs ++ ys =
    rest-without_actions p.rest none ∙ ap (λ (m : List Segment). m ++ ys) moves in
    let later : rest_of q.rest ≡ drop p.left xs ++ ys =
    ap rest_of rest ∙ rest-without_actions (record p.rest { moves = drop p.left xs }) none in
    record {
      rest =
          ap (λ k. drop k (rest_of q.rest)) left ∙ ap (λ l. drop (p.left - length xs) l) later
          ∙ drop-on xs ys p.left ∙ sym (ap (λ l. drop p.left l) all);
      motion_state =
          ap (λ at. after_segments at (take q.left (rest_of q.rest))) motion_state
          ∙ ap (λ k. after_segments (after_segments p.motion_state (take p.left xs)) (take k (rest_of q.rest))) left
          ∙ ap (λ l. after_segments (after_segments p.motion_state (take p.left xs)) (take (p.left - length xs) l)) later
          ∙ after_segments-on p.motion_state xs ys p.left ∙ sym (ap (λ l. after_segments p.motion_state (take p.left l)) all);
    }

-- if none is left to skip, all are skipped
pub Stays-done : (p q : Passing) → Stays p q → q.left ≡ 0 → rest_of q.rest ≡ drop p.left (rest_of p.rest)
Stays-done p q stays none = ap (λ k. drop k (rest_of q.rest)) (sym none) ∙ stays.rest

pub Stays-stands : (p q : Passing) → Stays p q → q.left ≡ 0 → q.motion_state ≡ after_segments p.motion_state (take p.left (rest_of p.rest))
Stays-stands p q stays none = ap (λ k. after_segments q.motion_state (take k (rest_of q.rest))) (sym none) ∙ stays.motion_state
