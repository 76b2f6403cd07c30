-- Where a walk begins.
use Rattle.std.proofs.Common.{arith, ℕ, ◌+◌, ◌^◌, ◌<◌, ◌≤◌, ◌≡◌, ◌⊎◌, inl, inr, sym, ap, ◌∙◌, ℤ}
use Rattle.std.proofs.Common.{to_z, of_z}
use mir.Syntax.{w64}
use Rattle.std.proofs.lemmas.Int.{ints}
use Rattle.std.specs.Prelude.{unsigned_abs}
use Rattle.ng_canon.specs.declared.quadrant.Quadrant.{Quadrant}
use Rattle.ng_canon.specs.declared.quadrant.Quadrant.TheVariants.{First, Second, Third, Fourth}
use Rattle.ng_canon.specs.declared.plane_point.PlanePoint.{PlanePoint}
use Rattle.ng_step.specs.declared.quadrant.PlaneStep.{PlaneStep}
use Rattle.ng_canon.specs.Quadrant.{quadrant}
use Rattle.ng_step.specs.Turned.{point_of_quadrant}
use Rattle.ng_step.proofs.ArcLemmas.{abs_neg}
use Rattle.ng_step.proofs.QuadrantStepLemmas.{placed, quadrant-place}
use Rattle.ng_canon.specs.declared.item.AxisStep.TheVariants.{Still}
use Rattle.ng_step.specs.declared.steps.AxisSteps.{AxisSteps}
use Rattle.ng_step.specs.declared.frame.Frame.{Frame}
use Rattle.ng_step.specs.Frame.{pulse_with}

-- the sizes are those of the point
pub record Starts (q : Quadrant) (i o : ℕ) (p : PlanePoint) : Type 0 where
  pub some : 0 < i
  pub is : point_of_quadrant q i o ≡ p

upright : (q : Quadrant) (i o n m : ℕ) → (q ≡ First) ⊎ (q ≡ Third) → n ≡ unsigned_abs (point_of_quadrant q i o).a
    → m ≡ unsigned_abs (point_of_quadrant q i o).b → (n ≡ i) × (m ≡ o)
upright First i o n m h e f = (e, f)
upright Second i o n m (inl h) e f = absurd (cc)
upright Second i o n m (inr h) e f = absurd (cc)
upright Third i o n m h e f = (e ∙ abs_neg i, f ∙ abs_neg o)
upright Fourth i o n m (inl h) e f = absurd (cc)
upright Fourth i o n m (inr h) e f = absurd (cc)

lying : (q : Quadrant) (i o n m : ℕ) → (q ≡ Second) ⊎ (q ≡ Fourth) → n ≡ unsigned_abs (point_of_quadrant q i o).a
    → m ≡ unsigned_abs (point_of_quadrant q i o).b → (m ≡ i) × (n ≡ o)
lying First i o n m (inl h) e f = absurd (cc)
lying First i o n m (inr h) e f = absurd (cc)
lying Second i o n m h e f = (f, e ∙ abs_neg o)
lying Third i o n m (inl h) e f = absurd (cc)
lying Third i o n m (inr h) e f = absurd (cc)
lying Fourth i o n m h e f = (f ∙ abs_neg i, e)

pub starts_upright : (p : PlanePoint) (q : Quadrant) (n m : ℕ) → 0 < unsigned_abs p.a + unsigned_abs p.b → q ≡ quadrant p → (q ≡ First) ⊎ (q ≡ Third)
    → n ≡ unsigned_abs p.a → m ≡ unsigned_abs p.b → Starts q n m p
starts_upright p q n m some is h e f =
    let at = placed p.a p.b some in
    let here : p ≡ point_of_quadrant at.q at.i at.o = at.is in
    let same : q ≡ at.q = is ∙ ap quadrant here ∙ quadrant-place at.q at.i at.o at.some in
    let sizes = upright at.q at.i at.o n m (rw same at h) (e ∙ ap (λ (x : PlanePoint). unsigned_abs x.a) here)
    (f ∙ ap (λ (x : PlanePoint). unsigned_abs x.b) here) in
    record { some = rw sizes.0 at.some; is = rw (same, sizes.0, sizes.1) (sym here) }

pub starts_lying : (p : PlanePoint) (q : Quadrant) (n m : ℕ) → 0 < unsigned_abs p.a + unsigned_abs p.b → q ≡ quadrant p → (q ≡ Second) ⊎ (q ≡ Fourth)
    → n ≡ unsigned_abs p.a → m ≡ unsigned_abs p.b → Starts q m n p
starts_lying p q n m some is h e f =
    let at = placed p.a p.b some in
    let here : p ≡ point_of_quadrant at.q at.i at.o = at.is in
    let same : q ≡ at.q = is ∙ ap quadrant here ∙ quadrant-place at.q at.i at.o at.some in
    let sizes = lying at.q at.i at.o n m (rw same at h) (e ∙ ap (λ (x : PlanePoint). unsigned_abs x.a) here)
    (f ∙ ap (λ (x : PlanePoint). unsigned_abs x.b) here) in
    record { some = rw sizes.0 at.some; is = rw (same, sizes.0, sizes.1) (sym here) }

pub size_same : (z : ℤ) (n : ℕ) → unsigned_abs z ≤ 2 ^ 48 → n ≡ unsigned_abs (to_z w64 (of_z w64 z)) → n ≡ unsigned_abs z
size_same z n h e = omega (arith, ints)

pub placed_pulse : (frame : Frame) (m m' : PlaneStep) (p : AxisSteps) → p ≡ pulse_with frame m Still → m ≡ m' → p ≡ pulse_with frame m' Still
placed_pulse frame m m' p e f = e ∙ ap (λ x. pulse_with frame x Still) f
