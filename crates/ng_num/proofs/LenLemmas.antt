-- The length of a number is the one that is computed, and no other.
use Rattle.std.proofs.Common.{◌≡◌, ℤ, pos, ◌*ℤ◌, Result, refl, arith}
use Rattle.ng_num.specs.Len.{IsLength, nm_of}
use Rattle.ng_num.specs.Range.{IsOnlyAnswer, in_range}
use Rattle.ng_num.specs.declared.fault.Fault.{Fault}
use Rattle.ng_num.specs.declared.unit.Unit.{Unit as LengthUnit}
use Rattle.ng_num.specs.declared.unit.Unit.TheVariants.{Inches, Millimetres}
use Rattle.ng_num.proofs.NearestLemmas.{near_by-IsNearest, near_by_from_IsNearest}

pub length_answers : (count : ℤ) (unit : LengthUnit) (answer : Result ℤ Fault)
    → answer ≡ in_range (nm_of count unit) → IsOnlyAnswer (IsLength count unit) answer
length_answers count Inches answer e = record {
  value = nm_of count Inches;
  said = near_by-IsNearest (count *ℤ pos 254) (pos 10) (omega arith);
  only = λ other is. near_by_from_IsNearest (count *ℤ pos 254) (pos 10) other (omega arith) is;
  answered = e;
}
length_answers count Millimetres answer e = record { value = count; said = refl; only = λ other is. is; answered = e }
