-- An arc's steps come to an end, are the only ones, and stay near the circle.
use Rattle.std.proofs.Common.{arith, ℕ, zero, suc, ◌+◌, ◌-◌, ◌*◌, ◌<◌, ◌≤◌, ◌≡◌, ◌⊎◌, inl, inr, refl, sym, ◌∙◌}
use Rattle.std.proofs.Common.{subst, pos, neg_ℤ, ◌-ℤ◌, Bool, true, false, List, [], ◌∷◌, length}
use Rattle.std.proofs.lemmas.Int.{ints}
use Rattle.std.proofs.lemmas.Bool.{cases_lt}
use Rattle.std.proofs.lemmas.List.Elements.{All-nil, All-cons, All-head, All-tail}
use Rattle.std.specs.Prelude.{unsigned_abs, All, if◌then◌else◌}
use Rattle.ng_canon.specs.declared.quadrant.Quadrant.{Quadrant}
use Rattle.ng_canon.specs.declared.quadrant.Quadrant.TheVariants.{First, Second, Third, Fourth}
use Rattle.ng_step.specs.declared.quadrant.PlaneStep.{PlaneStep}
use Rattle.ng_canon.specs.Quadrant.{quadrant_after, same_quadrant}
use Rattle.ng_step.specs.Arcs.{excess, step_at, moved, next_spot, left_after, larger, stops, IsArc}
use Rattle.ng_step.specs.Arcs.{plane_steps_within, spots, IsAtMostInSize, IsNearCircle, reach, most_steps, HasSteps}
use Rattle.ng_step.specs.Arcs.{IsLargeArc}
use Rattle.ng_step.specs.declared.circle.Circle.{Circle}
use Rattle.ng_canon.specs.declared.plane_point.PlanePoint.{PlanePoint}
use Rattle.ng_step.specs.Turned.{point_of_quadrant, in_step, out_step, norm, Sound, Bounded, distance_left, budget}
use Rattle.ng_step.proofs.TurnLemmas.{Below, below_outward, below_inward, below_crossing, sound_outward, sound_inward, sound_crossing}
use Rattle.ng_step.proofs.QuadrantStepLemmas.{quadrant-place, excess-place, moved_inward, moved_crossing, moved_outward}
use Rattle.ng_step.proofs.QuadrantStepLemmas.{next_outside, next_inside, in_step_le, same_quadrant-self}
use Rattle.ng_step.proofs.QuadrantStepLemmas.{same_quadrant-quadrant_after, placed}

-- where a step leads
pub record Onward (c : Circle) (radius k : ℕ) (q : Quadrant) (i o : ℕ) : Type 0 where
  pub q' : Quadrant
  pub i' : ℕ
  pub o' : ℕ
  pub is : next_spot c (point_of_quadrant q i o) ≡ point_of_quadrant q' i' o'
  pub sound : Sound c.square radius (larger c) k i' o'
  pub below : (w f0 : ℕ) → i ≤ w → o ≤ w → i' ≤ w → o' ≤ w
      → Below c.square (2 * (larger c * w) + f0) (larger c) i o → Below c.square (2 * (larger c * w) + f0) (larger c) i' o'
  pub smaller : ((same_quadrant q q' ≡ true) × (distance_left k i' o' < distance_left k i o)) ⊎ (same_quadrant q q' ≡ false)

pub in_step_some : (c : Circle) (q : Quadrant) → HasSteps c → 0 < in_step c q
in_step_some c First h = h.a
in_step_some c Second h = h.b
in_step_some c Third h = h.a
in_step_some c Fourth h = h.b

onward_outward : (c : Circle) (radius k : ℕ) (q : Quadrant) (i o : ℕ) → HasSteps c → Bounded c.square radius (larger c) k
    → Sound c.square radius (larger c) k i o → norm i o ≤ c.square → Onward c radius k q i o
onward_outward c radius k q i o has bounded sound inside =
    let some = in_step_some c (quadrant_after q) has in
    let small : out_step c q ≤ larger c = in_step_le c (quadrant_after q) in
    let after : Sound c.square radius (larger c) k i (o + out_step c q) = sound_outward c.square radius (larger c) k
    i o (out_step c q) bounded inside small sound in
    let less : distance_left k i (o + out_step c q) < distance_left k i o = omega (arith, after.outer) in
    record {
      q' = q;
      i' = i;
      o' = o + out_step c q;
      is = next_inside c q i o sound.some inside ∙ moved_outward c q i o;
      sound = after;
      below = λ w f0 a b x y h. below_outward c.square w (larger c) f0 i o (out_step c q) inside small y h;
      smaller = inl (same_quadrant-self q, less);
    }

onward_inward : (c : Circle) (radius k : ℕ) (q : Quadrant) (i o j : ℕ) → i ≡ in_step c q + j → 0 < j → HasSteps c → Bounded c.square radius (larger c) k
    → Sound c.square radius (larger c) k i o → c.square < norm i o → Onward c radius k q i o
onward_inward c radius k q i o j e some has bounded sound outside =
    let step = in_step_some c q has in
    let small : in_step c q ≤ larger c = in_step_le c q in
    let sound' : Sound c.square radius (larger c) k (in_step c q + j) o = rw (← e) sound in
    let outside' : c.square < norm (in_step c q + j) o = rw (← e) outside in
    let less : distance_left k j o < distance_left k i o = omega arith in
    record {
      q' = q;
      i' = j;
      o' = o;
      is = next_outside c q i o sound.some outside ∙ (rw e (moved_inward c q j o));
      sound = sound_inward c.square radius (larger c) k j o (in_step c q) some sound';
      below = λ w f0 a b x y h.
          let far : in_step c q + j ≤ w = omega arith in
          below_inward c.square w (larger c) f0 j o (in_step c q) outside' small far (rw (← e) h);
      smaller = inl (same_quadrant-self q, less);
    }

onward_crossing : (c : Circle) (radius k : ℕ) (q : Quadrant) (i o j : ℕ) → i + j ≡ in_step c q → HasSteps c → Bounded c.square radius (larger c) k
    → Sound c.square radius (larger c) k i o → c.square < norm i o → Onward c radius k q i o
onward_crossing c radius k q i o j e has bounded sound outside =
    let small : i + j ≤ larger c = rw e (in_step_le c q) in
    record {
      q' = quadrant_after q;
      i' = o;
      o' = j;
      is = next_outside c q i o sound.some outside ∙ moved_crossing c q i o j e;
      sound = sound_crossing c.square radius (larger c) k i o j bounded outside small sound;
      below = λ w f0 a b x y h. below_crossing c.square w (larger c) f0 i o j outside sound.some small a bounded.large h;
      smaller = inr (same_quadrant-quadrant_after q);
    }

pub onward : (c : Circle) (radius k : ℕ) (q : Quadrant) (i o : ℕ) → HasSteps c → Bounded c.square radius (larger c) k
    → Sound c.square radius (larger c) k i o → Onward c radius k q i o
onward c radius k q i o has bounded sound = elim (cases_lt c.square (norm i o)) [
  | inr inside ↦ onward_outward c radius k q i o has bounded sound inside
  | inl outside ↦ elim (cases_lt (in_step c q) i) [
    | inr near ↦ onward_crossing c radius k q i o (in_step c q - i) (omega arith) has bounded sound outside
    | inl far ↦ onward_inward c radius k q i o (i - in_step c q) (omega arith) (omega arith) has bounded sound outside
  ]
]

-- ---- coming to an end

pub left_some : (e : PlanePoint) (left : ℕ) (p : PlanePoint) → stops e left p ≡ false → 0 < left
unfolding stops
left_some e zero p h = absurd (cc)
left_some e (suc left) p h = omega arith

pub budget_same : (k left i o i' o' : ℕ) (t : Bool) → t ≡ true → distance_left k i' o' < distance_left k i o
    → budget k (if t then left else left - 1) i' o' < budget k left i o
budget_same k left i o i' o' t e h = rw e (omega arith)

pub budget_next : (k left i o i' o' : ℕ) (t : Bool) → t ≡ false → 0 < left → i' ≤ k → budget k (if t then left else left - 1) i' o' < budget k left i o
budget_next k zero i o i' o' t e some h = absurd (omega arith)
budget_next k (suc left) i o i' o' t e some h = rw e (let less : suc left - 1 ≡ left = omega arith in rw less (omega arith))

-- the measure: each step makes it smaller
pub budget_falls : (c : Circle) (radius k left : ℕ) (q : Quadrant) (i o : ℕ) → Sound c.square radius (larger c) k i o
    → 0 < left → (n : Onward c radius k q i o) → budget k (left_after c left (point_of_quadrant q i o)) n.i' n.o' < budget k left i o
unfolding left_after
budget_falls c radius k left q i o sound some n =
    rw (quadrant-place q i o sound.some, n.is, quadrant-place n.q' n.i' n.o' n.sound.some) (elim n.smaller [
      | inl h ↦ budget_same k left i o n.i' n.o' (same_quadrant q n.q') h.0 h.1
      | inr h ↦ budget_next k left i o n.i' n.o' (same_quadrant q n.q') h some n.sound.inner
    ])

IsArc_step : (c : Circle) (e : PlanePoint) (left : ℕ) (p : PlanePoint) (t : Bool) (ms : List PlaneStep) → stops e left p ≡ t
    → (t ≡ false → IsArc c e (left_after c left p) (next_spot c p) ms) → IsArc c e left p (if t then [] else (step_at c p ∷ ms))
IsArc_step c e left p true ms is h = rw is refl
IsArc_step c e left p false ms is h = (is, refl, h refl)

pub arc_complete : (c : Circle) (e : PlanePoint) (radius k : ℕ) → HasSteps c → Bounded c.square radius (larger c) k → (fuel left : ℕ) (q : Quadrant) (i o : ℕ)
    → Sound c.square radius (larger c) k i o → budget k left i o ≤ fuel
    → IsArc c e left (point_of_quadrant q i o) (plane_steps_within fuel c e left (point_of_quadrant q i o))
arc_complete c e radius k has bounded zero left q i o sound enough = absurd (omega (arith, sound.some))
arc_complete c e radius k has bounded (suc fuel) left q i o sound enough =
    let n = onward c radius k q i o has bounded sound in
    IsArc_step c e left (point_of_quadrant q i o) (stops e left (point_of_quadrant q i o)) _ refl (λ go.
    let falls = budget_falls c radius k left q i o sound (left_some e left (point_of_quadrant q i o) go) n in
    rw n.is (arc_complete c e radius k has bounded fuel (left_after c left (point_of_quadrant q i o)) n.q' n.i' n.o' n.sound (omega arith)))

-- ---- a bound for the number of steps

length_steps : (c : Circle) (t : Bool) (m : PlaneStep) (ms : List PlaneStep) (n : ℕ) → length ms ≤ n → length (if t then [] else (m ∷ ms)) ≤ suc n
length_steps c true m ms n h = omega arith
length_steps c false m ms n h = omega arith

pub length-plane_steps_within : (fuel : ℕ) (c : Circle) (e : PlanePoint) (left : ℕ) (p : PlanePoint) → length (plane_steps_within fuel c e left p) ≤ fuel
length-plane_steps_within zero c e left p = omega arith
length-plane_steps_within (suc fuel) c e left p =
    length_steps c (stops e left p) (step_at c p) _ fuel (length-plane_steps_within fuel c e (left_after c left p) (next_spot c p))

-- ---- the only ones

pub IsArc-only : (c : Circle) (e : PlanePoint) (left : ℕ) (p : PlanePoint) (ms ns : List PlaneStep) → IsArc c e left p ms → IsArc c e left p ns → ms ≡ ns
IsArc-only c e left p [] [] h k = refl
IsArc-only c e left p [] (n ∷ ns) h k = cc (h, k.0)
IsArc-only c e left p (m ∷ ms) [] h k = cc (h.0, k)
IsArc-only c e left p (m ∷ ms) (n ∷ ns) h k =
    let others : ms ≡ ns = IsArc-only c e (left_after c left p) (next_spot c p) ms ns h.2 k.2 in
    let firsts : m ≡ n = h.1 ∙ sym k.1 in
    cc

-- ---- staying near the circle

abs_diff : (m n b : ℕ) → m ≤ n + b → n ≤ m + b → unsigned_abs (pos m -ℤ pos n) ≤ b
abs_diff m n b h k = grind (arith, ints)

near_place : (c : Circle) (q : Quadrant) (i o w f0 : ℕ) → Below c.square (2 * (larger c * w) + f0) (larger c) i o
    → unsigned_abs (excess c (point_of_quadrant q i o)) ≤ 2 * (larger c * w) + larger c * larger c + f0
near_place c q i o w f0 h =
    rw excess-place (abs_diff (norm i o) c.square _ (upper h.upper) (omega (arith, h.lower)))
  where
    upper : (norm i o ≤ c.square + (2 * (larger c * w) + f0)) ⊎ ((norm i o ≤ c.square + (2 * (larger c * w) + f0) + larger c * larger c) × (o < larger c))
        → norm i o ≤ c.square + (2 * (larger c * w) + larger c * larger c + f0)
    upper (inl h) = omega arith
    upper (inr h) = omega (arith, h.0)

pub abs_neg : (n : ℕ) → unsigned_abs (neg_ℤ (pos n)) ≡ n
abs_neg zero = refl
abs_neg (suc n) = refl

sizes_place : (w : ℕ) (q : Quadrant) (i o : ℕ) → IsAtMostInSize w (point_of_quadrant q i o) → (i ≤ w) × (o ≤ w)
sizes_place w First i o h = h
sizes_place w Second i o h = (h.1, rw abs_neg at h.0)
sizes_place w Third i o h = (rw abs_neg at h.0, rw abs_neg at h.1)
sizes_place w Fourth i o h = (rw abs_neg at h.1, h.0)

-- what is bounded
abbrev NearBy : Circle → ℕ → ℕ → PlanePoint → Type 0
NearBy c w f0 x = unsigned_abs (excess c x) ≤ 2 * (larger c * w) + larger c * larger c + f0

first_within : (w : ℕ) (c : Circle) (p : PlanePoint) (ms : List PlaneStep) → All (IsAtMostInSize w) (spots c p ms) → IsAtMostInSize w p
first_within w c p [] h = All-head (IsAtMostInSize w) p [] h
first_within w c p (m ∷ ms) h = All-head (IsAtMostInSize w) p _ h

next_is : (c : Circle) (p : PlanePoint) (m : PlaneStep) (x : PlanePoint) → m ≡ step_at c p → next_spot c p ≡ x → moved c m p ≡ x
unfolding next_spot
next_is c p m x e h = rw e h

pub near_circle : (c : Circle) (e : PlanePoint) (radius k : ℕ) → HasSteps c → Bounded c.square radius (larger c) k
    → (w f0 left : ℕ) (q : Quadrant) (i o : ℕ) (ms : List PlaneStep)
    → Sound c.square radius (larger c) k i o → Below c.square (2 * (larger c * w) + f0) (larger c) i o
    → IsArc c e left (point_of_quadrant q i o) ms → All (IsAtMostInSize w) (spots c (point_of_quadrant q i o) ms)
    → All (NearBy c w f0) (spots c (point_of_quadrant q i o) ms)
near_circle c e radius k has bounded w f0 left q i o [] sound below walk within =
    All-cons (NearBy c w f0) (point_of_quadrant q i o) [] (near_place c q i o w f0 below) (All-nil (NearBy c w f0))
near_circle c e radius k has bounded w f0 left q i o (m ∷ ms) sound below walk within =
    let n = onward c radius k q i o has bounded sound in
    let to : moved c m (point_of_quadrant q i o) ≡ point_of_quadrant n.q' n.i' n.o' = next_is c (point_of_quadrant q i o) m _ walk.1 n.is in
    let here = sizes_place w q i o (All-head (IsAtMostInSize w) (point_of_quadrant q i o) _ within) in
    let rest : All (IsAtMostInSize w) (spots c (point_of_quadrant n.q' n.i' n.o') ms) =
    subst (λ (x : PlanePoint). All (IsAtMostInSize w) (spots c x ms)) to
    (All-tail (IsAtMostInSize w) (point_of_quadrant q i o) _ within) in
    let there = sizes_place w n.q' n.i' n.o' (first_within w c (point_of_quadrant n.q' n.i' n.o') ms rest) in
    let walk' : IsArc c e (left_after c left (point_of_quadrant q i o)) (point_of_quadrant n.q' n.i' n.o') ms = rw n.is at walk.2 in
    let others = near_circle c e radius k has bounded w f0 (left_after c left (point_of_quadrant q i o)) n.q' n.i'
    n.o' ms n.sound (n.below w f0 here.0 here.1 there.0 there.1 below) walk' rest in
    All-cons (NearBy c w f0) (point_of_quadrant q i o) _ (near_place c q i o w f0 below)
    (subst (λ (x : PlanePoint). All (NearBy c w f0) (spots c x ms)) (sym to) others)

-- ---- from any point except the centre

bounded_of : (c : Circle) (radius k : ℕ) → IsLargeArc c radius → radius + larger c ≤ k → Bounded c.square radius (larger c) k
bounded_of c radius k arc h = record { large = arc.large; within = arc.within; fits = h }

sizes_le : (q : Quadrant) (i o : ℕ) → i + o ≡ unsigned_abs (point_of_quadrant q i o).a + unsigned_abs (point_of_quadrant q i o).b
sizes_le First i o = refl
sizes_le Second i o = rw abs_neg (omega arith)
sizes_le Third i o = simp abs_neg
sizes_le Fourth i o = rw abs_neg (omega arith)

sound_of : (c : Circle) (radius : ℕ) (q : Quadrant) (i o : ℕ) → 0 < i → Sound c.square radius (larger c) (reach radius c (point_of_quadrant q i o)) i o
sound_of c radius q i o some = let sizes = sizes_le q i o in record { some = some; inner = omega arith; outer = omega arith }

is_arc_of : (c : Circle) (e : PlanePoint) (radius left : ℕ) (q : Quadrant) (i o : ℕ) → IsLargeArc c radius → 0 < i
    → IsArc c e left (point_of_quadrant q i o) (plane_steps_within (most_steps radius c left (point_of_quadrant q i o)) c e left (point_of_quadrant q i o))
is_arc_of c e radius left q i o arc some =
    let k = reach radius c (point_of_quadrant q i o) in
    let sizes = sizes_le q i o in
    let sound = sound_of c radius q i o some in
    arc_complete c e radius k arc.has (bounded_of c radius k arc (omega arith))
    (most_steps radius c left (point_of_quadrant q i o)) left q i o sound (omega (arith, sound.inner))

-- the steps are an arc's
pub is_arc : (c : Circle) (e : PlanePoint) (radius left : ℕ) (p : PlanePoint) → IsLargeArc c radius → 0 < unsigned_abs p.a + unsigned_abs p.b
    → IsArc c e left p (plane_steps_within (most_steps radius c left p) c e left p)
is_arc c e radius left p arc some =
    let at = placed p.a p.b some in
    let is : p ≡ point_of_quadrant at.q at.i at.o = at.is in
    subst (λ (x : PlanePoint). IsArc c e left x (plane_steps_within (most_steps radius c left x) c e left x))
    (sym is) (is_arc_of c e radius left at.q at.i at.o arc at.some)

below_first : (c : Circle) (w : ℕ) (q : Quadrant) (i o : ℕ)
    → Below c.square (2 * (larger c * w) + unsigned_abs (excess c (point_of_quadrant q i o))) (larger c) i o
below_first c w q i o = rw excess-place (between (norm i o) c.square (2 * (larger c * w)) (larger c) i o refl)
  where
    between : (m n b s i o : ℕ) → m ≡ norm i o → Below n (b + unsigned_abs (pos m -ℤ pos n)) s i o
    between m n b s i o e =
        let low : n ≤ m + unsigned_abs (pos m -ℤ pos n) = grind (arith, ints) in
        let high : m ≤ n + unsigned_abs (pos m -ℤ pos n) = grind (arith, ints) in
        record { upper = inl (omega arith); lower = omega arith }

-- and they stay near the circle
pub is_near_circle : (c : Circle) (e : PlanePoint) (radius left : ℕ) (p : PlanePoint) (ms : List PlaneStep)
    → IsLargeArc c radius → 0 < unsigned_abs p.a + unsigned_abs p.b
    → IsArc c e left p ms → IsNearCircle c p ms
is_near_circle c e radius left p ms arc some walk =
    let at = placed p.a p.b some in
    let is : p ≡ point_of_quadrant at.q at.i at.o = at.is in
    let k = reach radius c (point_of_quadrant at.q at.i at.o) in
    subst (λ (x : PlanePoint). IsNearCircle c x ms) (sym is) (λ w within.
    near_circle c e radius k arc.has (bounded_of c radius k arc (omega arith)) w
    (unsigned_abs (excess c (point_of_quadrant at.q at.i at.o))) left at.q at.i at.o ms
    (sound_of c radius at.q at.i at.o at.some) (below_first c w at.q at.i at.o) (rw is at walk) within)

pub larger_some : (c : Circle) → HasSteps c → 0 < larger c
larger_some c h = omega (arith, h.a)
