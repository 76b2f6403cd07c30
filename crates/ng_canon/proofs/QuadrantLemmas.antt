-- Quadrants by their numbers.
use Rattle.std.proofs.Common.{◌≡◌, refl}
use Rattle.std.specs.Prelude.{nat_eq}
use Rattle.ng_canon.specs.declared.quadrant.Quadrant.{Quadrant}
use Rattle.ng_canon.specs.declared.quadrant.Quadrant.TheVariants.{First, Second, Third, Fourth}
use Rattle.ng_canon.specs.Quadrant.{quadrant_number, same_quadrant}

pub same_numbers : (p q : Quadrant) → nat_eq (quadrant_number p) (quadrant_number q) ≡ same_quadrant p q
same_numbers First First = refl
same_numbers First Second = refl
same_numbers First Third = refl
same_numbers First Fourth = refl
same_numbers Second First = refl
same_numbers Second Second = refl
same_numbers Second Third = refl
same_numbers Second Fourth = refl
same_numbers Third First = refl
same_numbers Third Second = refl
same_numbers Third Third = refl
same_numbers Third Fourth = refl
same_numbers Fourth First = refl
same_numbers Fourth Second = refl
same_numbers Fourth Third = refl
same_numbers Fourth Fourth = refl
