-- G92 gives the named axes the wanted coordinates.
use Rattle.std.proofs.Common.{◌≡◌, ℤ, ◌+ℤ◌, ◌-ℤ◌, Option, Some, None, Result, Ok, Err, IfSome, unsigned_abs, nat_le}
use Rattle.std.proofs.Common.{cond, true, false, Bool, refl, sym, subst, arith}
use Rattle.std.proofs.lemmas.Int.{ints}
use Rattle.ng_num.specs.Range.{in_range, greatest}
use Rattle.ng_num.specs.declared.fault.Fault.{Fault}
use Rattle.ng_num.specs.declared.fault.Fault.TheVariants.{OutOfRange}
use Rattle.ng_offsets.specs.Origins.{offset_for}

abbrev answered : Bool → ℤ → Result ℤ Fault
answered within n = cond within (Ok n) (Err OutOfRange)

by_bounds : (within : Bool) (n m : ℤ) → answered within n ≡ Ok m → m ≡ n
by_bounds true n m e = sym (cc e)
by_bounds false n m e = absurd (cc e)

-- a value in range is itself
pub itself : (n m : ℤ) → in_range n ≡ Ok m → m ≡ n
itself n m e = by_bounds (nat_le (unsigned_abs n) greatest) n m e

by_current : (wanted old shift machine offset : ℤ) (current : Result ℤ Fault) → in_range (machine -ℤ shift) ≡ current →
    offset_for (Some wanted) old shift machine ≡ Ok offset → machine ≡ wanted +ℤ ((shift -ℤ old) +ℤ offset)
by_current wanted old shift machine offset (Ok current) e h =
    let a : current ≡ machine -ℤ shift = itself (machine -ℤ shift) current e in
    let h' : in_range ((old +ℤ current) -ℤ wanted) ≡ Ok offset = rw e at h in
    let b : offset ≡ (old +ℤ current) -ℤ wanted = itself ((old +ℤ current) -ℤ wanted) offset h' in
    omega (arith, ints, a, b)
by_current wanted old shift machine offset (Err fault) e h =
    absurd (cc (rw e at h))

stands : (wanted : Option ℤ) (old shift machine offset : ℤ) → offset_for wanted old shift machine ≡ Ok offset
    → IfSome wanted (λ program. machine ≡ program +ℤ ((shift -ℤ old) +ℤ offset))
stands None old shift machine offset h = tt
stands (Some wanted) old shift machine offset h = by_current wanted old shift machine offset (in_range (machine -ℤ shift)) refl h

moved : (wanted : Option ℤ) (machine a b : ℤ) → a ≡ b → IfSome wanted (λ program. machine ≡ program +ℤ a) → IfSome wanted (λ program. machine ≡ program +ℤ b)
moved wanted machine a b e h = subst (λ (n : ℤ). IfSome wanted (λ program. machine ≡ program +ℤ n)) e h

-- an axis whose shift is its origin plus its G92 offset
pub stands_on : (wanted : Option ℤ) (origin old machine offset : ℤ)
    → Ok offset ≡ offset_for wanted old (origin +ℤ old) machine
    → IfSome wanted (λ program. machine ≡ program +ℤ (origin +ℤ offset))
stands_on wanted origin old machine offset h =
    moved wanted machine (((origin +ℤ old) -ℤ old) +ℤ offset) (origin +ℤ offset) (omega (arith, ints))
    (stands wanted old (origin +ℤ old) machine offset (sym h))

-- an axis whose shift includes a tool length
pub stands_on_z : (wanted : Option ℤ) (origin old tool machine offset : ℤ)
    → Ok offset ≡ offset_for wanted old ((origin +ℤ old) +ℤ tool) machine
    → IfSome wanted (λ program. machine ≡ program +ℤ ((origin +ℤ offset) +ℤ tool))
stands_on_z wanted origin old tool machine offset h =
    moved wanted machine ((((origin +ℤ old) +ℤ tool) -ℤ old) +ℤ offset) ((origin +ℤ offset) +ℤ tool)
    (omega (arith, ints)) (stands wanted old ((origin +ℤ old) +ℤ tool) machine offset (sym h))
