-- Many steps at once: the arc's relation is carried over a whole part of a quadrant.
use Rattle.std.proofs.Common.{arith, ℕ, zero, suc, ◌+◌, ◌-◌, ◌*◌, ◌<◌, ◌≤◌, ◌≡◌, ◌⊎◌, inl, inr, refl, sym, ap, ◌∙◌}
use Rattle.std.proofs.Common.{subst, pos, ◌+ℤ◌, ◌*ℤ◌, List, drop, length-drop, false}
use Rattle.std.proofs.lemmas.Nat.{mul-le}
use Rattle.std.proofs.lemmas.Bool.{cases_lt}
use Rattle.std.proofs.lemmas.List.{drop-drop}
use Rattle.ng_step.specs.declared.circle.Circle.{Circle}
use Rattle.ng_canon.specs.declared.quadrant.Quadrant.{Quadrant}
use Rattle.ng_canon.specs.declared.plane_point.PlanePoint.{PlanePoint}
use Rattle.ng_step.specs.declared.quadrant.PlaneStep.{PlaneStep}
use Rattle.ng_step.specs.declared.sweep.QuadrantSweep.{QuadrantSweep}
use Rattle.ng_step.specs.declared.sweep.SweepSteps.{SweepSteps}
use Rattle.ng_step.specs.declared.walk.ArcWalk.{ArcWalk}
use Rattle.ng_canon.specs.Quadrant.{quadrant_after}
use Rattle.ng_step.specs.Arcs.{next_spot, left_after, larger, stops, IsArc, HasSteps}
use Rattle.ng_step.specs.Turned.{Walks, point_of_quadrant, in_step, out_step, norm, Sound, Bounded, farthest, beyond, budget}
use Rattle.ng_step.specs.Private.Sweeps.{inner_at, outer_at, OnWay, IsLast}
use Rattle.ng_step.specs.Private.Leaps.{reach_a, reach_b, Leads, WalkLeads, PassesFrom, NeverStopsUntil}
use Rattle.ng_step.proofs.TurnLemmas.{sound_outward, sound_inward, sound_crossing}
use Rattle.ng_step.proofs.QuadrantStepLemmas.{quadrant-place, moved_inward, moved_crossing, moved_outward, next_outside}
use Rattle.ng_step.proofs.QuadrantStepLemmas.{next_inside, in_step_le, same_quadrant-self, same_quadrant-quadrant_after}
use Rattle.ng_step.proofs.ArcLemmas.{in_step_some}
use Rattle.ng_step.proofs.SweepLemmas.{norm_le}
use Rattle.ng_step.proofs.ArcStepCountLemmas.{arc_more, next_reach_a, next_reach_b}

-- ---- the quadrants left

left_same : (c : Circle) (left : ℕ) (q : Quadrant) (i o i' o' : ℕ) → 0 < i → 0 < i'
    → next_spot c (point_of_quadrant q i o) ≡ point_of_quadrant q i' o'
    → left_after c left (point_of_quadrant q i o) ≡ left
unfolding left_after
left_same c left q i o i' o' some some' next = rw (quadrant-place q i o some, next, quadrant-place q i' o' some', same_quadrant-self q) refl

left_next : (c : Circle) (left : ℕ) (q : Quadrant) (i o i' o' : ℕ) → 0 < i → 0 < i'
    → next_spot c (point_of_quadrant q i o) ≡ point_of_quadrant (quadrant_after q) i' o'
    → left_after c left (point_of_quadrant q i o) ≡ left - 1
unfolding left_after
left_next c left q i o i' o' some some' next =
    rw (
      quadrant-place q i o some,
      next,
      quadrant-place (quadrant_after q) i' o' some',
      same_quadrant-quadrant_after q,
    ) refl

pub less_one : (j s : ℕ) → 0 < j → j * s ≡ s + (j - 1) * s
less_one zero s some = absurd (omega arith)
less_one (suc j) s some = let e : suc j - 1 ≡ j = omega arith in rw e (omega arith)

budget_crossing : (left i o i' o' : ℕ) → 0 < left → i' ≤ beyond → budget beyond (left - 1) i' o' < budget beyond left i o
budget_crossing zero i o i' o' some small = absurd (omega arith)
budget_crossing (suc left) i o i' o' some small = let e : suc left - 1 ≡ left = omega arith in rw e (omega arith)

above : {j n m : ℕ} → (j ≡ 0) ⊎ (n < m) → 0 < j → n < m
above (inl none) some = absurd (omega arith)
above (inr over) some = over

module _ (c : Circle) (e : PlanePoint) (has : HasSteps c) (bounded : Bounded c.square farthest (larger c) beyond) where
  -- no step
  pub leads_none : (q : Quadrant) (i o left : ℕ) → Sound c.square farthest (larger c) beyond i o → Leads c e q i o left q i o left 0
  leads_none q i o left sound = record { sound = sound; rest = λ ms arc. (omega arith, arc); net = λ ms arc. (refl, refl); bound = omega arith }

  -- some steps and then others
  pub leads_then : (q : Quadrant) (i o left : ℕ) (q' : Quadrant) (i' o' left' n : ℕ) (q'' : Quadrant) (i'' o'' left'' m : ℕ)
      → Leads c e q i o left q' i' o' left' n → Leads c e q' i' o' left' q'' i'' o'' left'' m → Leads c e q i o left q'' i'' o'' left'' (n + m)
  leads_then q i o left q' i' o' left' n q'' i'' o'' left'' m h k = record {
    sound = k.sound;
    rest = λ ms arc.
        let first = h.rest ms arc in
        let others = k.rest (drop n ms) first.1 in (
          omega (arith, length-drop n ms, first.0, others.0),
          subst (λ (xs : List PlaneStep). IsArc c e left'' (point_of_quadrant q'' i'' o'') xs) (drop-drop m n ms)
              others.1,
        );
    net = λ ms arc.
        let first = h.rest ms arc in
        let nets = h.net ms arc in
        let more = k.net (drop n ms) first.1 in (
          ap (reach_a c (point_of_quadrant q'' i'' o'')) (sym (drop-drop m n ms)) ∙ more.0
              ∙ nets.0,
          ap (reach_b c (point_of_quadrant q'' i'' o'')) (sym (drop-drop m n ms)) ∙ more.1 ∙ nets.1,
        );
    bound = omega (arith, h.bound, k.bound);
  }

  leads_one : (q : Quadrant) (i o left : ℕ) (q' : Quadrant) (i' o' left' : ℕ)
      → stops e left (point_of_quadrant q i o) ≡ false → next_spot c (point_of_quadrant q i o) ≡ point_of_quadrant
      q' i' o'
      → left_after c left (point_of_quadrant q i o) ≡ left' → Sound c.square farthest (larger c) beyond i' o'
      → budget beyond left' i' o' < budget beyond left i o → Leads c e q i o left q' i' o' left' 1
  leads_one q i o left q' i' o' left' go next lefts sound less = record {
    sound = sound;
    rest = λ ms arc.
        let more = arc_more c e left (point_of_quadrant q i o) ms 0 go (omega arith) arc in
        (omega (arith, more.0), rw (lefts, next) at more.1);
    net = λ ms arc.
        let more = arc_more c e left (point_of_quadrant q i o) ms 0 go (omega arith) arc in (
          ap (λ (p : PlanePoint). reach_a c p (drop 1 ms)) (sym next)
              ∙ next_reach_a c (point_of_quadrant q i o) (drop 1 ms)
              ∙ ap (λ x. (point_of_quadrant q i o).a +ℤ x *ℤ pos c.step_a) (sym more.2),
          ap (λ (p : PlanePoint). reach_b c p (drop 1 ms)) (sym next)
              ∙ next_reach_b c (point_of_quadrant q i o) (drop 1 ms)
              ∙ ap (λ x. (point_of_quadrant q i o).b +ℤ x *ℤ pos c.step_b) (sym more.3),
        );
    bound = omega arith;
  }

  pub outward_leads : (q : Quadrant) (i o left : ℕ) → stops e left (point_of_quadrant q i o) ≡ false
      → norm i o ≤ c.square → Sound c.square farthest (larger c) beyond i o
      → Leads c e q i o left q i (o + out_step c q) left 1
  outward_leads q i o left go inside sound =
      let step = in_step_some c (quadrant_after q) has in
      let next = next_inside c q i o sound.some inside ∙ moved_outward c q i o in
      let sound' = sound_outward c.square farthest (larger c) beyond i o (out_step c q) bounded inside (in_step_le c (quadrant_after q)) sound in
      let outer = sound'.outer in
      leads_one q i o left q i (o + out_step c q) left go next (left_same c left q i o i (o + out_step c q) sound.some sound.some next) sound' (omega arith)

  pub inward_leads : (q : Quadrant) (i o j left : ℕ) → i ≡ in_step c q + j → 0 < j
      → stops e left (point_of_quadrant q i o) ≡ false → c.square < norm i o
      → Sound c.square farthest (larger c) beyond i o
      → Leads c e q i o left q j o left 1
  inward_leads q i o j left is some go outside sound =
      let step = in_step_some c q has in
      let next : next_spot c (point_of_quadrant q i o) ≡ point_of_quadrant q j o = next_outside c q i o sound.some outside ∙ (rw is (moved_inward c q j o)) in
      let sound' = sound_inward c.square farthest (larger c) beyond j o (in_step c q) some (rw is at sound) in
      leads_one q i o left q j o left go next (left_same c left q i o j o sound.some some next) sound' (omega arith)

  pub crossing_leads : (q : Quadrant) (i o j left : ℕ) → i + j ≡ in_step c q → 0 < left
      → stops e left (point_of_quadrant q i o) ≡ false → c.square < norm i o
      → Sound c.square farthest (larger c) beyond i o
      → Leads c e q i o left (quadrant_after q) o j (left - 1) 1
  crossing_leads q i o j left is some go outside sound =
      let small : i + j ≤ larger c = rw is (in_step_le c q) in
      let next = next_outside c q i o sound.some outside ∙ moved_crossing c q i o j is in
      let sound' = sound_crossing c.square farthest (larger c) beyond i o j bounded outside small sound in
      leads_one q i o left (quadrant_after q) o j (left - 1) go next
      (left_next c left q i o o j sound.some sound'.some next) sound'
      (budget_crossing left i o o j some sound.outer)

  -- from a point to one that is j levels lower and m outward steps further, if the walk reaches it
  pub run : (t j m : ℕ) (q : Quadrant) (left i o x y : ℕ) → t ≡ j + m → i ≡ x + j * in_step c q → y ≡ o + m * out_step c q → 0 < x
      → ((j ≡ 0) ⊎ (c.square < norm (x + in_step c q) y)) → ((k : ℕ) → k < m → norm x (o + k * out_step c q) ≤ c.square)
      → ((i' o' : ℕ) → x ≤ i' → i' ≤ i → o ≤ o' → o' ≤ y → stops e left (point_of_quadrant q i' o') ≡ false)
      → Sound c.square farthest (larger c) beyond i o → Leads c e q i o left q x y left t
  run zero j m q left i o x y et ei ey some entered stayed going sound =
      let j_none : j ≡ 0 = omega arith in
      let m_none : m ≡ 0 = omega arith in
      let down : j * in_step c q ≡ 0 = rw j_none (omega arith) in
      let out : m * out_step c q ≡ 0 = rw m_none (omega arith) in
      let ex : x ≡ i = omega arith in
      let ey' : y ≡ o = omega arith in
      rw (ex, ey') (leads_none q i o left sound)
  run (suc t) j m q left i o x y et ei ey some entered stayed going sound = elim (cases_lt c.square (norm i o)) [
    | inl outside ↦ elim (cases_lt 0 j) [
      | inl more ↦ (
          let split = less_one j (in_step c q) more in
          let first = inward_leads q i o (x + (j - 1) * in_step c q) left (omega arith) (omega arith)
          (going i o (omega arith) (omega arith) (omega arith) (omega arith)) outside sound in
          let entered' : (j - 1 ≡ 0) ⊎ (c.square < norm (x + in_step c q) y) = inr (above entered more) in
          let others = run t (j - 1) m q left (x + (j - 1) * in_step c q) o x y (omega arith) refl ey some entered' stayed
          (λ i' o' low high near far. going i' o' low (omega arith) near far) first.sound in
          let one_more : suc t ≡ 1 + t = omega arith in
          rw one_more (leads_then q i o left q (x + (j - 1) * in_step c q) o left 1 q x y left t first others))
      | inr none ↦ (
          let j_none : j ≡ 0 = omega arith in
          let down : j * in_step c q ≡ 0 = rw j_none (omega arith) in
          let ex : x ≡ i = omega arith in
          let square : x * x ≡ i * i = ap (λ v. v * v) ex in
          let within = stayed 0 (omega arith) in
          absurd (omega arith))
    ]
    | inr inside ↦ elim (cases_lt 0 m) [
      | inl more ↦ (
          let split = less_one m (out_step c q) more in
          let first = outward_leads q i o left (going i o (omega arith) (omega arith) (omega arith) (omega arith)) inside sound in
          let stayed' : (k : ℕ) → k < m - 1 → norm x (o + out_step c q + k * out_step c q) ≤ c.square =
          λ k few. (let shift : o + out_step c q + k * out_step c q ≡ o + (k + 1) * out_step c q = omega arith in rw shift (stayed (k + 1) (omega arith))) in
          let others = run t j (m - 1) q left i (o + out_step c q) x y (omega arith) ei (omega arith) some entered stayed'
          (λ i' o' low high near far. going i' o' low high (omega arith) far) first.sound in
          let one_more : suc t ≡ 1 + t = omega arith in
          rw one_more (leads_then q i o left q i (o + out_step c q) left 1 q x y left t first others))
      | inr none ↦ (
          let m_none : m ≡ 0 = omega arith in
          let out : m * out_step c q ≡ 0 = rw m_none (omega arith) in
          let more : 0 < j = omega arith in
          let split = less_one j (in_step c q) more in
          let over = above entered more in
          let near = norm_le (x + in_step c q) y i o (omega arith) (omega arith) in
          absurd (omega arith))
    ]
  ]

  -- to any point of a sweep
  pub way_leads : (q : Quadrant) (left i o : ℕ) (p : QuadrantSweep) (j m : ℕ) → p.square ≡ c.square → p.inner ≡ i
      → p.outer ≡ o → p.inner_step ≡ in_step c q → p.outer_step ≡ out_step c q
      → OnWay p j m → ((i' o' : ℕ) → inner_at p j ≤ i' → i' ≤ i → o ≤ o' → o' ≤ outer_at p m → stops e left (point_of_quadrant q i' o') ≡ false)
      → Sound c.square farthest (larger c) beyond i o → Leads c e q i o left q (inner_at p j) (outer_at p m) left (j + m)
  way_leads q left i o p j m es ei eo eis eos on going sound =
      let inside = on.inside in
      let down : j * p.inner_step ≡ j * in_step c q = ap (λ s. j * s) eis in
      let out : m * p.outer_step ≡ m * out_step c q = ap (λ s. m * s) eos in
      let stayed' : (k : ℕ) → k < m → norm (inner_at p j) (o + k * out_step c q) ≤ c.square =
      λ k few. rw (← es, ← eo, ← eos) (on.stayed k few) in
      run (j + m) j m q left i o (inner_at p j) (outer_at p m) refl (omega arith) (omega arith) (omega arith) (entered on.entered) stayed' going sound
    where
      entered : (j ≡ 0) ⊎ (p.square < norm (inner_at p (j - 1)) (outer_at p m)) → (j ≡ 0) ⊎ (c.square < norm (inner_at p j + in_step c q) (outer_at p m))
      entered h = elim (cases_lt 0 j) [
        | inr none ↦ inl (omega arith)
        | inl some ↦ inr (
            let split = less_one j p.inner_step some in
            let inside = on.inside in
            let up : inner_at p (j - 1) ≡ inner_at p j + in_step c q = omega arith in
            rw (← es, ← up) (above h some))
      ]

-- ---- across a quadrant

near_axis : (p : QuadrantSweep) (last : SweepSteps) → IsLast p last → inner_at p last.inward ≤ p.inner_step
near_axis p last h = let near = h.near in omega arith

far_out : (x y s square : ℕ) → square < norm x y → x ≤ s → 4 * (s * s) ≤ square → 0 < y
far_out x zero s square outside near large = let product : x * x ≤ s * s = mul-le x x s s near near in absurd (omega arith)
far_out x (suc y) s square outside near large = omega arith

pub last_some : (w : ArcWalk) (p : QuadrantSweep) (last : SweepSteps) → Walks w → PassesFrom w p → IsLast p last → 0 < w.outer + last.outward * w.outer_step
last_some w p last h from is =
    let inner_le : w.inner_step ≤ larger w.circle = rw h.inner_step (in_step_le w.circle w.quadrant) in
    let near : inner_at p last.inward ≤ larger w.circle = (let axis = near_axis p last is in let same = from.inner_step in omega arith) in
    let bounded = h.bounded in
    let large : 4 * (larger w.circle * larger w.circle) ≤ p.square = rw from.square bounded.large in
    rw (← from.outer, ← from.outer_step) (far_out (inner_at p last.inward) (outer_at p last.outward) (larger w.circle) p.square is.outside near large)

pub walk_across : (w w' : ArcWalk) (p : QuadrantSweep) (last : SweepSteps) → Walks w → PassesFrom w p → IsLast p last → w'.quadrant ≡ quadrant_after w.quadrant
    → w'.inner ≡ w.outer + last.outward * w.outer_step → w'.outer ≡ w.inner_step - (w.inner - last.inward * w.inner_step)
    → (e : PlanePoint) (left : ℕ) → 0 < left → NeverStopsUntil e left w (inner_at p last.inward)
    (outer_at p last.outward) → WalkLeads e w left w' (left - 1) (last.inward + last.outward + 1)
walk_across w w' p last h from is eq ei eo e left some going =
    let x = inner_at p last.inward in
    let y = outer_at p last.outward in
    let on = is.on in
    let inside = on.inside in
    let axis = near_axis p last is in
    let step : p.inner_step ≡ in_step w.circle w.quadrant = from.inner_step ∙ h.inner_step in
    let first = way_leads w.circle e h.has h.bounded w.quadrant left w.inner w.outer p last.inward last.outward
    from.square from.inner from.outer step (from.outer_step ∙ h.outer_step) on going h.sound in
    let here : stops e left (point_of_quadrant w.quadrant x y) ≡ false =
    (let low : x ≤ w.inner = (let same = from.inner in omega arith) in let far : w.outer ≤ y =
    (let same = from.outer in omega arith) in going x y (omega arith) low far (omega arith)) in
    let outside : w.circle.square < norm x y = rw (← from.square) is.outside in
    let then = crossing_leads w.circle e h.has h.bounded w.quadrant x y (p.inner_step - x) left
    (let sum : x + (p.inner_step - x) ≡ p.inner_step = omega arith in sum ∙ step) some here outside
    first.sound in
    let all = leads_then w.circle e h.has h.bounded w.quadrant w.inner w.outer left w.quadrant x y left
    (last.inward + last.outward) (quadrant_after w.quadrant) y (p.inner_step - x) (left - 1) 1 first then in
    let ey : w'.inner ≡ y = rw (from.outer, from.outer_step) ei in
    let ex : w'.outer ≡ p.inner_step - x = rw (from.inner_step, from.inner) eo in
    rw (eq, ey, ex) all
