-- R and Z are found exactly if their words are there.
use Rattle.std.proofs.Common.{arith, ◌≡◌, ℤ, pos, ◌≤ℤ◌, Bool, true, false, int_lt, Option, Some, None, unwrap_or, refl, if◌then◌else◌}
use Rattle.std.specs.Option.{is_none, option_map}
use Rattle.std.specs.Int.{int_max}
use Rattle.std.proofs.lemmas.Int.{ints, clamps}
use Rattle.ng_cycles.specs.declared.drill.HoleAxis.{HoleAxis}
use Rattle.ng_cycles.specs.declared.heights.OptionalLengths.{OptionalLengths}
use Rattle.ng_cycles.specs.declared.heights.Lengths.{Lengths}
use Rattle.ng_cycles.specs.Heights.{lengths_in, r_of, z_of, z_by}

abbrev found : HoleAxis → HoleAxis → Bool → Option ℤ → Option ℤ → ℤ → ℤ → OptionalLengths
found x y incremental r z shift at =
    record {
      x = x;
      y = y;
      heights =
          record { r = option_map (λ r. r_of incremental r shift at) r; z = z_by incremental r z shift at };
    }

abbrev named : HoleAxis → HoleAxis → Bool → Option ℤ → Option ℤ → ℤ → ℤ → Lengths
named x y incremental r z shift at =
    let r' = r_of incremental (unwrap_or r (pos 0)) shift at in
    record { x = x; y = y; r = r'; z = z_of incremental (unwrap_or z (pos 0)) shift r' }

pub record HasBoth (r z : Option ℤ) (l m : Lengths) : Type 0 where
  pub has_r : is_none r ≡ false
  pub has_z : is_none z ≡ false
  pub lengths : l ≡ m

pub has_both : (x y : HoleAxis) (incremental : Bool) (r z : Option ℤ) (shift at : ℤ) (l : Lengths)
    → Some l ≡ lengths_in (found x y incremental r z shift at) → HasBoth r z l (named x y incremental r z shift at)
has_both x y incremental None z shift at l e = absurd (cc e)
has_both x y incremental (Some r) None shift at l e = absurd (cc e)
has_both x y false (Some r) (Some z) shift at l e = record { has_r = refl; has_z = refl; lengths = cc e }
has_both x y true (Some r) (Some z) shift at l e = record { has_r = refl; has_z = refl; lengths = cc e }

pub lacks_r : (x y : HoleAxis) (incremental : Bool) (r z : Option ℤ) (shift at : ℤ)
    → None ≡ lengths_in (found x y incremental r z shift at) → is_none z ≡ false → is_none r ≡ true
lacks_r x y incremental None z shift at e h = refl
lacks_r x y incremental (Some r) None shift at e h = absurd (cc h)
lacks_r x y false (Some r) (Some z) shift at e h = absurd (cc e)
lacks_r x y true (Some r) (Some z) shift at e h = absurd (cc e)

pub not_below : (a b : ℤ) → b ≤ℤ a → int_lt a b ≡ false
not_below a b h = grind (arith, ints)

pub clear_above : (keeps : Bool) (z r : ℤ) → r ≤ℤ (if keeps then int_max z r else r)
clear_above true z r = omega (arith, ints, clamps)
clear_above false z r = omega (arith, ints)

pub clear_below : (keeps : Bool) (z r : ℤ) → (if keeps then int_max z r else r) ≤ℤ int_max z r
clear_below true z r = omega (arith, ints)
clear_below false z r = omega (arith, ints, clamps)
