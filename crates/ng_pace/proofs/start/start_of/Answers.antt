use Rattle.std.proofs.Common.{arith, ℕ, ◌<◌, ◌≡◌, ◌*◌, ◌≤◌, ◌⊎◌, inl, inr, max}
use Rattle.std.proofs.Math.Nat.{mul-le-mul_right}
use Rattle.std.proofs.lemmas.Bool.{cases_lt}
use Rattle.ng_pace.proofs.start.start_of.Goals as goal

-- what is at most what an axis needs, or half a step
within : (result least axis accel square : ℕ) → result ≡ max least 128 → least ≤ axis → axis * accel ≤ square → (result ≤ 128) ⊎ (result * accel ≤ square)
within result least axis accel square is less stops = case (cases_lt 128 result) where
  case : (128 < result) ⊎ (result ≤ 128) → (result ≤ 128) ⊎ (result * accel ≤ square)
  case (inr small) = inl small
  case (inl great) = let few : result ≤ axis = omega (arith, is, less, great) in
      let scaled : result * accel ≤ axis * accel = mul-le-mul_right accel few in inr (omega (arith, scaled, stops))

pub returns-clause-stops : goal.returns-clause-stops
returns-clause-stops c = record {
  x = within c.max.result c.min-2.result c.stopping_distance-x.result _ _ c.max.ensures (omega (arith, c.min.ensures, c.min-2.ensures))
      c.stopping_distance-x.ensures.stops;
  y = within c.max.result c.min-2.result c.stopping_distance-y.result _ _ c.max.ensures (omega (arith, c.min.ensures, c.min-2.ensures))
      c.stopping_distance-y.ensures.stops;
  z = within c.max.result c.min-2.result c.stopping_distance-z.result _ _ c.max.ensures (omega (arith, c.min.ensures, c.min-2.ensures))
      c.stopping_distance-z.ensures.stops;
}
