-- The first fault whose cause holds: no cause before it holds.
use Rattle.std.proofs.Common.{◌≡◌, ◌↔◌, Bool, true, false, refl}
use Rattle.std.specs.Prelude.{Result, MatchResult, IsFalse, IsTrue, not}
use Rattle.ng_num.specs.declared.fault.Fault.{Fault}
use Rattle.ng_num.specs.declared.unit.Unit.{Unit as LengthUnit}
use Rattle.ng_arc.specs.declared.shape.ArcShape.{ArcShape}
use Rattle.ng_arc.specs.declared.asked.AskedArc.{AskedArc}
use Rattle.ng_num.specs.Causes.{first_fault, NoneHolds, IsFirstFault}
use Rattle.ng_num.proofs.FirstFaultLemmas.{first_of}
use Rattle.ng_arc.specs.Radii.{AreAlike}
use Rattle.ng_arc.specs.Asked.{shape_of}
use Rattle.ng_arc.specs.Checking.{causes, checked, have_radii_differing, start_square, end_square, tolerance}
use Rattle.ng_arc.proofs.RadiiLemmas.{alike_law}

pub least : (asked : AskedArc) (r : Result ArcShape Fault) → r ≡ checked asked
    → MatchResult r (λ _. NoneHolds (causes asked)) (λ fault. IsFirstFault (causes asked) fault)
least asked r e = rw e (first_of (causes asked) (shape_of asked) (first_fault (causes asked)) refl)

not_law : (b : Bool) (P : Type 0) → IsTrue b ↔ P → IsFalse (not b) ↔ P
not_law true P h = (λ _. h.0 refl, λ _. refl)
not_law false P h = (λ e. absurd (cc e), λ p. absurd (let e : IsTrue false = h.1 p in cc e))

pub radii_law : (unit : LengthUnit) (shape : ArcShape) → IsFalse (have_radii_differing unit shape)
    ↔ AreAlike (start_square shape) (end_square shape) (tolerance unit)
radii_law unit shape = not_law _ _ (alike_law (start_square shape) (end_square shape) (tolerance unit))
