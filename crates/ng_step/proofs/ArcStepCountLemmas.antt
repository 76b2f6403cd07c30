-- Counting an arc's steps.
use Rattle.std.proofs.Common.{arith, ℕ, zero, suc, ◌≤◌, ◌≡◌, refl, ap, ◌∙◌, ℤ, pos, negsuc, ◌+ℤ◌, ◌-ℤ◌, ◌*ℤ◌, List, [], ◌∷◌, length, drop, true, false}
use Rattle.std.proofs.lemmas.Int.{ints}
use Rattle.ng_step.specs.declared.circle.Circle.{Circle}
use Rattle.ng_canon.specs.declared.plane_point.PlanePoint.{PlanePoint}
use Rattle.ng_step.specs.declared.quadrant.PlaneStep.{PlaneStep}
use Rattle.ng_step.specs.declared.quadrant.PlaneStep.TheVariants.{AddA, SubA, AddB, SubB}
use Rattle.ng_step.specs.Arcs.{along_a, along_b, net_a, net_b, stops, left_after, IsArc, next_spot, step_at, moved}
use Rattle.ng_step.specs.Private.Leaps.{reach_a, reach_b}

-- how far a number of steps goes
pub scaled_more : (n : ℤ) (s : ℕ) → (pos 1 +ℤ n) *ℤ pos s ≡ pos s +ℤ n *ℤ pos s
scaled_more (pos n) s = omega (arith, ints)
scaled_more (negsuc zero) s = omega (arith, ints)
scaled_more (negsuc (suc n)) s = let e : pos 1 +ℤ negsuc (suc n) ≡ negsuc n = omega (arith, ints) in rw e (omega (arith, ints))

pub scaled_less : (n : ℤ) (s : ℕ) → (negsuc 0 +ℤ n) *ℤ pos s ≡ n *ℤ pos s -ℤ pos s
scaled_less (pos zero) s = omega (arith, ints)
scaled_less (pos (suc n)) s = let e : negsuc 0 +ℤ pos (suc n) ≡ pos n = omega (arith, ints) in let rest : pos n *ℤ
    pos s ≡ pos (suc n) *ℤ pos s -ℤ pos s = omega (arith, ints) in ap (λ x. x *ℤ pos s) e ∙ rest
scaled_less (negsuc n) s = let e : negsuc 0 +ℤ negsuc n ≡ negsuc (suc n) = omega (arith, ints) in let rest : negsuc
    (suc n) *ℤ pos s ≡ negsuc n *ℤ pos s -ℤ pos s = omega (arith, ints) in ap (λ x. x *ℤ pos s) e ∙ rest

forward : (x n : ℤ) (s : ℕ) → (x +ℤ pos s) +ℤ n *ℤ pos s ≡ x +ℤ (pos 1 +ℤ n) *ℤ pos s
forward x n s = let e = scaled_more n s in rw e (omega (arith, ints))

backward : (x n : ℤ) (s : ℕ) → (x -ℤ pos s) +ℤ n *ℤ pos s ≡ x +ℤ (negsuc 0 +ℤ n) *ℤ pos s
backward x n s = let e = scaled_less n s in rw e (omega (arith, ints))

still : (x n : ℤ) (s : ℕ) → x +ℤ n *ℤ pos s ≡ x +ℤ (pos 0 +ℤ n) *ℤ pos s
still x n s = let e : pos 0 +ℤ n ≡ n = omega (arith, ints) in rw e refl

moved_a : (c : Circle) (m : PlaneStep) (p : PlanePoint) (n : ℤ) → (moved c m p).a +ℤ n *ℤ pos c.step_a ≡ p.a +ℤ (along_a m +ℤ n) *ℤ pos c.step_a
moved_a c AddA p n = forward p.a n c.step_a
moved_a c SubA p n = backward p.a n c.step_a
moved_a c AddB p n = still p.a n c.step_a
moved_a c SubB p n = still p.a n c.step_a

moved_b : (c : Circle) (m : PlaneStep) (p : PlanePoint) (n : ℤ) → (moved c m p).b +ℤ n *ℤ pos c.step_b ≡ p.b +ℤ (along_b m +ℤ n) *ℤ pos c.step_b
moved_b c AddA p n = still p.b n c.step_b
moved_b c SubA p n = still p.b n c.step_b
moved_b c AddB p n = forward p.b n c.step_b
moved_b c SubB p n = backward p.b n c.step_b

-- if the arc doesn't stop there, there is one more step
pub arc_more : (c : Circle) (e : PlanePoint) (left : ℕ) (p : PlanePoint) (ms : List PlaneStep) (n : ℕ)
    → stops e left p ≡ false → n ≤ length ms → IsArc c e left p (drop n ms)
    → (suc n ≤ length ms) × IsArc c e (left_after c left p) (next_spot c p) (drop (suc n) ms)
    × (net_a (drop n ms) ≡ along_a (step_at c p) +ℤ net_a (drop (suc n) ms)) × (net_b (drop n ms) ≡ along_b (step_at c p) +ℤ net_b (drop (suc n) ms))
arc_more c e left p [] zero go le h = absurd (cc)
arc_more c e left p (m ∷ ms) zero go le h = (omega arith, h.2, ap (λ x. along_a x +ℤ net_a ms) h.1, ap (λ x. along_b x +ℤ net_b ms) h.1)
arc_more c e left p [] (suc n) go le h = absurd (omega arith)
arc_more c e left p (m ∷ ms) (suc n) go le h =
    let more = arc_more c e left p ms n go (omega arith) h in
    (omega (arith, more.0), more.1, more.2, more.3)

pub arc_all : (c : Circle) (e : PlanePoint) (left : ℕ) (p : PlanePoint) (ms : List PlaneStep) (n : ℕ)
    → stops e left p ≡ true → n ≤ length ms → IsArc c e left p (drop n ms) → n ≡ length ms
arc_all c e left p [] zero stop le h = refl
arc_all c e left p (m ∷ ms) zero stop le h = absurd (cc (h.0, stop))
arc_all c e left p [] (suc n) stop le h = absurd (omega arith)
arc_all c e left p (m ∷ ms) (suc n) stop le h = let others = arc_all c e left p ms n stop (omega arith) h in omega arith

pub next_reach_a : (c : Circle) (p : PlanePoint) (ms : List PlaneStep)
    → reach_a c (next_spot c p) ms ≡ p.a +ℤ (along_a (step_at c p) +ℤ net_a ms) *ℤ pos c.step_a
unfolding next_spot
next_reach_a c p ms = moved_a c (step_at c p) p (net_a ms)

pub next_reach_b : (c : Circle) (p : PlanePoint) (ms : List PlaneStep)
    → reach_b c (next_spot c p) ms ≡ p.b +ℤ (along_b (step_at c p) +ℤ net_b ms) *ℤ pos c.step_b
unfolding next_spot
next_reach_b c p ms = moved_b c (step_at c p) p (net_b ms)

pub drop_all : (n : ℕ) (ms : List PlaneStep) → n ≡ length ms → drop n ms ≡ []
drop_all n ms e = rw e (drop_length ms)
  where
    drop_length : (ms : List PlaneStep) → drop (length ms) ms ≡ []
    drop_length [] = refl
    drop_length (m ∷ ms) = drop_length ms

pub none_left : (x y n : ℤ) (s : ℕ) → x +ℤ pos 0 *ℤ pos s ≡ y +ℤ n *ℤ pos s → x -ℤ y ≡ n *ℤ pos s
none_left x y n s h = omega (arith, ints)
