-- What the code finds inside the travel is what the definition says is inside.
use Rattle.std.proofs.Common.{arith, ◌≡◌, ◌∙◌, ◌^◌, ◌<◌, ℕ, ℤ, Bool, refl, unsigned_abs, to_z, of_z}
use mir.Syntax.{w64}
use Rattle.std.specs.Prelude.{not, ◌||◌}
use Rattle.ng_canon.specs.declared.segment.Arc.{Arc}
use Rattle.ng_canon.specs.declared.plane_point.PlanePoint.{PlanePoint}
use Rattle.ng_canon.specs.Plane.{from_centre, square_of}
use Rattle.ng_arc.specs.Extremes.{is_within, is_passed, is_inside}
use Rattle.ng_canon.proofs.PlanePointLemmas.{stored}

pub inside_is : (arc : Arc) (d s e : PlanePoint) (inside passed : Bool) (square : ℕ) (reach way : ℤ)
    → inside ≡ (not passed || is_within square (to_z w64 (of_z w64 reach)))
    → passed ≡ is_passed arc.turn s e d → square ≡ square_of s → unsigned_abs reach < 2 ^ 45 → reach ≡ way
    → s ≡ from_centre arc arc.start → e ≡ from_centre arc arc.end → inside ≡ is_inside arc d way
inside_is arc d s e inside passed square reach way ek ep eq small er es ee = ek ∙ rw (stored reach (omega arith), ep, eq, er, es, ee) refl
