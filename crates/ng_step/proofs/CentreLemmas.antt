-- An arc relative to its centre: the code's numbers are those of the definition.
use Rattle.std.proofs.Common.{arith, ℕ, ◌+◌, ◌*◌, ◌^◌, ◌<◌, ◌≡◌, refl, sym, ap, ◌∙◌, ℤ, pos, ◌-ℤ◌, ◌*ℤ◌, to_z, of_z}
use mir.Syntax.{w64}
use Rattle.std.proofs.lemmas.Int.{ints}
use Rattle.std.specs.Prelude.{unsigned_abs, int_lt}
use Rattle.ng_canon.specs.declared.geometry.Geometry.{Geometry}
use Rattle.ng_canon.specs.declared.plane.Plane.{Plane}
use Rattle.ng_canon.specs.declared.plane.Plane.TheVariants.{Xy, Xz, Yz}
use Rattle.ng_canon.specs.declared.segment.Arc.{Arc}
use Rattle.ng_canon.specs.declared.plane_point.PlanePoint.{PlanePoint}
use Rattle.ng_step.specs.declared.frame.Frame.{Frame}
use Rattle.ng_step.specs.declared.steps.Distances.{Distances}
use Rattle.ng_step.specs.declared.centred.CentredArc.{CentredArc}
use Rattle.ng_canon.specs.Plane.{pick_a, pick_b}
use Rattle.ng_step.specs.Frame.{of_third, at_x, at_y, at_z, mirrored}
use Rattle.ng_step.specs.Hands.{from_centre, programmed, rounded_start, step_a, step_b, centred, closing_after}
use Rattle.ng_step.specs.Private.Sizes.{AreSized}
use Rattle.ng_step.proofs.RoundLemmas.{stored}

pub from_centre_is : (arc : Arc) (a b x y z m : ℤ) → x ≡ a -ℤ arc.centre_a → y ≡ z → z ≡ mirrored arc.turn m → m ≡ b -ℤ arc.centre_b
    → let p : PlanePoint = record { a = x; b = y } in p ≡ from_centre arc a b
from_centre_is arc a b x y z m ea ey ez em = rw (ea, ey, ez, em) refl

pub centred_is : (g : Geometry) (arc : Arc) (start end from : PlanePoint) (sa sb square : ℕ)
    → start ≡ programmed arc arc.start → sa ≡ step_a g arc.plane → sb ≡ step_b g arc.plane
    → square ≡ unsigned_abs start.a * unsigned_abs start.a + unsigned_abs start.b * unsigned_abs start.b
    → end ≡ programmed arc arc.end → from ≡ rounded_start arc sa sb
    → let c : CentredArc = record {
      frame = record { plane = arc.plane; turn = arc.turn };
      circle = record { step_a = sa; step_b = sb; square = square };
      start = start;
      end = end;
      from = from;
    } in c ≡ centred g arc
unfolding centred
centred_is g arc start end from sa sb square es ea eb eq ee ef = rw (ef, ee, eq, es, ea, eb) refl

-- ---- the closing line

pub of_a_small : (plane : Plane) (d : Distances) (m : ℕ) → AreSized d m → unsigned_abs (pick_a plane d.x d.y d.z) < m
of_a_small Xy d m h = h.x
of_a_small Xz d m h = h.z
of_a_small Yz d m h = h.y

pub of_b_small : (plane : Plane) (d : Distances) (m : ℕ) → AreSized d m → unsigned_abs (pick_b plane d.x d.y d.z) < m
of_b_small Xy d m h = h.y
of_b_small Xz d m h = h.x
of_b_small Yz d m h = h.z

pub of_third_small : (plane : Plane) (d : Distances) (m : ℕ) → AreSized d m → unsigned_abs (of_third plane d.x d.y d.z) < m
of_third_small Xy d m h = h.z
of_third_small Xz d m h = h.y
of_third_small Yz d m h = h.x

-- the closing line from the distances of the code
pub of_a_same : (plane : Plane) (d : Distances) (r : ℤ) → AreSized d (2 ^ 50)
    → r ≡ pick_a plane (to_z w64 (of_z w64 d.x)) (to_z w64 (of_z w64 d.y)) (to_z w64 (of_z w64 d.z))
    → r ≡ pick_a plane d.x d.y d.z
of_a_same Xy d r h e = e ∙ stored d.x (omega (arith, h.x))
of_a_same Xz d r h e = e ∙ stored d.z (omega (arith, h.z))
of_a_same Yz d r h e = e ∙ stored d.y (omega (arith, h.y))

pub of_b_same : (plane : Plane) (d : Distances) (r : ℤ) → AreSized d (2 ^ 50)
    → r ≡ pick_b plane (to_z w64 (of_z w64 d.x)) (to_z w64 (of_z w64 d.y)) (to_z w64 (of_z w64 d.z))
    → r ≡ pick_b plane d.x d.y d.z
of_b_same Xy d r h e = e ∙ stored d.y (omega (arith, h.y))
of_b_same Xz d r h e = e ∙ stored d.x (omega (arith, h.x))
of_b_same Yz d r h e = e ∙ stored d.z (omega (arith, h.z))

pub of_third_same : (plane : Plane) (d : Distances) (r : ℤ) → AreSized d (2 ^ 50)
    → r ≡ of_third plane (to_z w64 (of_z w64 d.x)) (to_z w64 (of_z w64 d.y)) (to_z w64 (of_z w64 d.z))
    → r ≡ of_third plane d.x d.y d.z
of_third_same Xy d r h e = e ∙ stored d.z (omega (arith, h.z))
of_third_same Xz d r h e = e ∙ stored d.y (omega (arith, h.y))
of_third_same Yz d r h e = e ∙ stored d.x (omega (arith, h.x))

abbrev pub placed : Plane → ℤ → ℤ → Distances
placed q a b = record { x = at_x q a b (pos 0); y = at_y q a b (pos 0); z = at_z q a b (pos 0) }

pub closing_at : (q : Plane) (frame : Frame) (d : Distances) (net_a net_b a b ra rb rm : ℤ) → frame.plane ≡ q
    → ra ≡ pick_a frame.plane d.x d.y d.z → rb ≡ pick_b frame.plane d.x d.y d.z
    → rm ≡ mirrored frame.turn net_b → a ≡ ra -ℤ net_a → b ≡ rb -ℤ rm → placed q a b ≡ closing_after frame d net_a net_b
closing_at q frame d net_a net_b a b ra rb rm is fa fb fm ea eb = ap (λ p. placed p a b) (sym is) ∙ rw (ea, eb, fa, fb, fm) refl
