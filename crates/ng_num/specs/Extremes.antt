-- The greatest and the least number with a property.
use Rattle.std.specs.Prelude.{ℤ, ◌≤ℤ◌}

pub record IsGreatest (P : ℤ → Type 0) (w : ℤ) : Type 0 where
  pub holds : P w
  pub bound : (v : ℤ) → P v → v ≤ℤ w

pub record IsLeast (P : ℤ → Type 0) (w : ℤ) : Type 0 where
  pub holds : P w
  pub bound : (v : ℤ) → P v → w ≤ℤ v
