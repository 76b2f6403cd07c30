-- Slopes compared with one another, in whole numbers.
use Rattle.std.proofs.Common.{arith, ℕ, ◌+◌, ◌-◌, ◌*◌, ◌<◌, ◌≤◌, ◌≡◌, ◌⊎◌, inl, inr, min, max}
use Rattle.std.proofs.Math.Nat.{mul-le-mul_right, le_of_mul-le-mul_right}
use Rattle.std.proofs.lemmas.Bool.{cases_lt}
use Rattle.std.specs.Int.{abs_diff}
use Rattle.ng_pace.specs.declared.slopes.Rise.{Rise}
use Rattle.ng_pace.specs.declared.slopes.Slopes.{Slopes}
use Rattle.ng_pace.specs.Chord.{Slope, IsSlope, IsSlower}
use Rattle.ng_pace.specs.Cone.{IsBetween, IsFrom, IsUpTo, IsReached, IsReachedFrom, IsReachedUpTo, size_of}

-- a slope from the greater of two is from the smaller
pub from_greater : (r o r' o' over down w : ℕ) → 0 < o' → r * o' ≤ r' * o → r' * over + down * o' ≤ w * o' → r * over + down * o ≤ w * o
from_greater r o r' o' over down w some less from = le_of_mul-le-mul_right scaled some where
  scaled : (r * over + down * o) * o' ≤ w * o * o'
  scaled =
      let a : r * o' * over ≤ r' * o * over = mul-le-mul_right over less in
      let b : (r' * over + down * o') * o ≤ w * o' * o = mul-le-mul_right o from in
      omega arith

-- a slope up to the smaller of two is up to the greater
pub up_to_smaller : (r o r' o' over down w : ℕ) → 0 < o' → r' * o ≤ r * o' → w * o' ≤ r' * over + down * o' → w * o ≤ r * over + down * o
up_to_smaller r o r' o' over down w some less up_to = le_of_mul-le-mul_right scaled some where
  scaled : w * o * o' ≤ (r * over + down * o) * o'
  scaled =
      let a : r' * o * over ≤ r * o' * over = mul-le-mul_right over less in
      let b : w * o' * o ≤ (r' * over + down * o') * o = mul-le-mul_right o up_to in
      omega arith

-- a slope from another, in parts of 2^20 rounded down
pub from_parts : (r o least over down w : ℕ) → 0 < o → least * o ≤ r * 1048576 → r * over + down * o ≤ w * o → least * over + down * 1048576 ≤ w * 1048576
from_parts r o least over down w some less from = from_greater least 1048576 r o over down w some less from

-- a slope up to another, in parts of 2^20 rounded up
pub up_to_parts : (r o greatest over down w : ℕ) → 0 < o → r * 1048576 ≤ greatest * o → w * o ≤ r * over + down * o
    → w * 1048576 ≤ greatest * over + down * 1048576
up_to_parts r o greatest over down w some less up_to = up_to_smaller greatest 1048576 r o over down w some less up_to

-- the greater of how far two numbers are from a step
pub size-most : (least greatest up down over size : ℕ) → least * over + down * 1048576 ≤ (up + over) * 1048576
    → (up + over) * 1048576 ≤ greatest * over + down * 1048576
    → up ≤ over + down → down ≤ over + up → size ≡ min (max (abs_diff least 1048576) (abs_diff greatest 1048576)) 1048576
    → abs_diff up down * 1048576 ≤ size * over
size-most least greatest up down over size from up_to flat steep is = by_case (cases_lt up down) where
  rise : down ≤ up → abs_diff up down * 1048576 ≤ size * over
  rise h = chosen (cases_lt greatest 2097152) where
    chosen : (greatest < 2097152) ⊎ (2097152 ≤ greatest) → abs_diff up down * 1048576 ≤ size * over
    chosen (inl small) =
        let more : (greatest - 1048576) * over ≤ size * over = mul-le-mul_right over (omega arith) in
        let apart : greatest * over ≤ (greatest - 1048576 + 1048576) * over = mul-le-mul_right over (omega arith) in
        omega arith
    chosen (inr great) = let more : 1048576 * over ≤ size * over = mul-le-mul_right over (omega arith) in omega arith

  fall : up < down → abs_diff up down * 1048576 ≤ size * over
  fall h =
      let more : (1048576 - least) * over ≤ size * over = mul-le-mul_right over (omega arith) in
      let apart : 1048576 * over ≤ (1048576 - least + least) * over = mul-le-mul_right over (omega arith) in
      omega arith

  by_case : (up < down) ⊎ (down ≤ up) → abs_diff up down * 1048576 ≤ size * over
  by_case (inl h) = fall h
  by_case (inr h) = rise h

-- a turn from one slope to a greater one
bend_up : (least greatest' up down over up' down' over' bend : ℕ) → least * over + down * 1048576 ≤ (up + over) * 1048576
    → (up' + over') * 1048576 ≤ greatest' * over' + down' * 1048576
    → up' ≤ over' + down' → min greatest' 2097152 - least ≤ bend
    → (up' * over + down * over') * 1048576 ≤ bend * (over * over') + (down' * over + up * over') * 1048576
bend_up least greatest' up down over up' down' over' bend from up_to flat most =
    let a : least * over * over' + down * 1048576 * over' ≤ (up + over) * 1048576 * over' = omega (arith, mul-le-mul_right over' from) in
    let capped : (up' + over') * 1048576 ≤ min greatest' 2097152 * over' + down' * 1048576 = chosen (cases_lt greatest' 2097152) in
    let b : (up' + over') * 1048576 * over ≤ min greatest' 2097152 * over' * over + down' * 1048576 * over = omega (arith, mul-le-mul_right over capped) in
    let d : min greatest' 2097152 * (over * over') ≤ (bend + least) * (over * over') = mul-le-mul_right (over * over') (omega arith) in
    omega arith
  where
    chosen : (greatest' < 2097152) ⊎ (2097152 ≤ greatest') → (up' + over') * 1048576 ≤ min greatest' 2097152 * over' + down' * 1048576
    chosen (inl small) = let is : min greatest' 2097152 ≡ greatest' = omega arith in rw is up_to
    chosen (inr great) = let is : min greatest' 2097152 ≡ 2097152 = omega arith in rw is (omega arith)

-- a turn either way
pub bend_of : (least greatest least' greatest' up down over up' down' over' bend : ℕ)
    → least * over + down * 1048576 ≤ (up + over) * 1048576 → (up + over) * 1048576 ≤ greatest * over + down * 1048576 → up ≤ over + down
    → least' * over' + down' * 1048576 ≤ (up' + over') * 1048576 → (up' + over') * 1048576 ≤ greatest' * over' + down' * 1048576 → up' ≤ over' + down'
    → bend ≡ max (min greatest' 2097152 - least) (min greatest 2097152 - least')
    → abs_diff (up * over' + down' * over) (down * over' + up' * over) * 1048576 ≤ bend * (over * over')
bend_of least greatest least' greatest' up down over up' down' over' bend from up_to flat from' up_to' flat' is =
    let rises : (up' * over + down * over') * 1048576 ≤ bend * (over * over') + (down' * over + up * over') * 1048576
    = bend_up least greatest' up down over up' down' over' bend from up_to' flat' (omega (arith, is)) in
    let falls : (up * over' + down' * over) * 1048576 ≤ bend * (over' * over) + (down * over' + up' * over) * 1048576
    = bend_up least' greatest up' down' over' up down over bend from' up_to flat (omega (arith, is)) in
    omega arith

-- the greatest of the slopes between two is that of one of them, but for one part
pub reached : (low high : Rise) (slopes : Slopes) (slope : Slope) → 0 < low.pulses → 0 < high.pulses → slopes.least * low.pulses ≤ low.steps * 1048576
    → low.steps * 1048576 < slopes.least * low.pulses + low.pulses → high.steps * 1048576 ≤ slopes.greatest * high.pulses
    → slopes.greatest * high.pulses < high.steps * 1048576 + high.pulses → IsSlope slope → IsFrom low slope → IsUpTo high slope
    → IsReached (λ s. IsFrom low s × IsUpTo high s) slopes
reached low high slopes slope some some' least least-next greatest greatest-next is from up_to =
    by_case (cases_lt 1048576 slopes.least) (cases_lt (1048576 - slopes.least) (slopes.greatest - 1048576))
  where
    order : low.steps * high.pulses ≤ high.steps * low.pulses
    order = le_of_mul-le-mul_right scaled is.some where
      scaled : low.steps * high.pulses * slope.over ≤ high.steps * low.pulses * slope.over
      scaled =
          let a : (low.steps * slope.over + slope.down * low.pulses) * high.pulses ≤ (slope.up + slope.over) * low.pulses * high.pulses
          = mul-le-mul_right high.pulses from in
          let b : (slope.up + slope.over) * high.pulses * low.pulses ≤ (high.steps * slope.over + slope.down * high.pulses) * low.pulses
          = mul-le-mul_right low.pulses up_to in
          omega arith

    flat : low.steps ≤ 2 * low.pulses
    flat = le_of_mul-le-mul_right scaled is.some where
      scaled : low.steps * slope.over ≤ 2 * low.pulses * slope.over
      scaled = let a : slope.up * low.pulses ≤ (slope.over + slope.down) * low.pulses = mul-le-mul_right low.pulses is.up in omega (arith, from)

    ordered : slopes.least ≤ slopes.greatest
    ordered = le_of_mul-le-mul_right (le_of_mul-le-mul_right scaled some') some where
      scaled : slopes.least * low.pulses * high.pulses ≤ slopes.greatest * low.pulses * high.pulses
      scaled =
          let a : slopes.least * low.pulses * high.pulses ≤ low.steps * 1048576 * high.pulses = mul-le-mul_right high.pulses least in
          let b : high.steps * 1048576 * low.pulses ≤ slopes.greatest * high.pulses * low.pulses = mul-le-mul_right low.pulses greatest in
          omega (arith, order)

    from_end : IsReachedFrom (λ s. IsFrom low s × IsUpTo high s) slopes.least
    from_end = record {
      slope = record { up = low.steps; down = low.pulses; over = low.pulses };
      is = record { some = some; up = omega (arith, flat); down = omega arith };
      holds = (omega arith, omega (arith, order));
      near = omega (arith, least-next);
    }

    up_to_end : IsReachedUpTo (λ s. IsFrom low s × IsUpTo high s) (min slopes.greatest 2097152)
    up_to_end = chosen (cases_lt (2 * high.pulses) high.steps) where
      chosen : (2 * high.pulses < high.steps) ⊎ (high.steps ≤ 2 * high.pulses) → IsReachedUpTo (λ s. IsFrom low s × IsUpTo high s) (min slopes.greatest 2097152)
      chosen (inl steep) = record {
        slope = record { up = 1; down = 0; over = 1 };
        is = record { some = omega arith; up = omega arith; down = omega arith };
        holds = (omega (arith, flat), omega arith);
        near = omega arith;
      }
      chosen (inr gentle) = record {
        slope = record { up = high.steps; down = high.pulses; over = high.pulses };
        is = record { some = some'; up = omega arith; down = omega arith };
        holds = (omega (arith, order), omega arith);
        near =
            let less : min slopes.greatest 2097152 * high.pulses ≤ slopes.greatest * high.pulses = mul-le-mul_right high.pulses (omega arith) in
            omega (arith, less, greatest-next);
      }

    lower : slopes.least ≤ 1048576 → size_of slopes ≤ 1048576 - slopes.least → IsReached (λ s. IsFrom low s × IsUpTo high s) slopes
    lower below small = record {
      slope = record { up = low.steps; down = low.pulses; over = low.pulses };
      is = record { some = some; up = omega (arith, flat); down = omega arith };
      holds = (omega arith, omega (arith, order));
      size =
          let more : size_of slopes * low.pulses ≤ (1048576 - slopes.least) * low.pulses = mul-le-mul_right low.pulses small in
          let apart : (1048576 - slopes.least + slopes.least) * low.pulses ≤ 1048576 * low.pulses = mul-le-mul_right low.pulses (omega arith) in
          omega arith;
      from = from_end;
      up_to = up_to_end;
    }

    upper : 1048576 ≤ slopes.greatest → size_of slopes ≤ slopes.greatest - 1048576 → IsReached (λ s. IsFrom low s × IsUpTo high s) slopes
    upper above small = chosen (cases_lt (2 * high.pulses) high.steps) where
      chosen : (2 * high.pulses < high.steps) ⊎ (high.steps ≤ 2 * high.pulses) → IsReached (λ s. IsFrom low s × IsUpTo high s) slopes
      chosen (inl steep) = record {
        slope = record { up = 1; down = 0; over = 1 };
        is = record { some = omega arith; up = omega arith; down = omega arith };
        holds = (omega (arith, flat), omega arith);
        size = omega arith;
        from = from_end;
        up_to = up_to_end;
      }
      chosen (inr gentle) = record {
        slope = record { up = high.steps; down = high.pulses; over = high.pulses };
        is = record { some = some'; up = omega arith; down = omega arith };
        holds = (omega (arith, order), omega arith);
        size =
            let more : size_of slopes * high.pulses ≤ (slopes.greatest - 1048576) * high.pulses = mul-le-mul_right high.pulses small in
            let apart : (slopes.greatest - 1048576 + 1048576) * high.pulses ≤ slopes.greatest * high.pulses = mul-le-mul_right high.pulses (omega arith) in
            omega arith;
        from = from_end;
        up_to = up_to_end;
      }

    by_case : (1048576 < slopes.least) ⊎ (slopes.least ≤ 1048576)
        → (1048576 - slopes.least < slopes.greatest - 1048576) ⊎ (slopes.greatest - 1048576 ≤ 1048576 - slopes.least)
        → IsReached (λ s. IsFrom low s × IsUpTo high s) slopes
    by_case (inl above) either = upper (omega (arith, ordered)) (omega (arith, ordered))
    by_case (inr below) (inl more) = upper (omega arith) (omega arith)
    by_case (inr below) (inr less) = lower below (omega (arith, ordered))

-- a slope is no more than another, where the least of these is no less than the greatest of those
no-more : (least greatest : ℕ) (more fewer : Slope) → least * more.over + more.down * 1048576 ≤ (more.up + more.over) * 1048576
    → (fewer.up + fewer.over) * 1048576 ≤ greatest * fewer.over + fewer.down * 1048576 → greatest ≤ least
    → fewer.up * more.over + more.down * fewer.over ≤ fewer.down * more.over + more.up * fewer.over
no-more least greatest more fewer from up_to less =
    let a : (least * more.over + more.down * 1048576) * fewer.over ≤ (more.up + more.over) * 1048576 * fewer.over = mul-le-mul_right fewer.over from in
    let b : (fewer.up + fewer.over) * 1048576 * more.over ≤ (greatest * fewer.over + fewer.down * 1048576) * more.over = mul-le-mul_right more.over up_to in
    let c : greatest * (fewer.over * more.over) ≤ least * (fewer.over * more.over) = mul-le-mul_right (fewer.over * more.over) less in
    omega (arith, a, b, c)

-- so an axis goes on the same way, and no faster
pub slows : (self other : Slopes) (before after : Slope) → IsBetween self before → IsBetween other after
    → ((1048576 ≤ other.least) × (other.greatest ≤ self.least)) ⊎ ((other.greatest ≤ 1048576) × (self.greatest ≤ other.least)) → IsSlower before after
slows self other before after between between' (inl ahead) =
    let way : 1048576 * after.over ≤ other.least * after.over = mul-le-mul_right after.over ahead.0 in
    inl (omega (arith, way, between'.from), no-more self.least other.greatest before after between.from between'.up_to ahead.1)
slows self other before after between between' (inr back) =
    let way : other.greatest * after.over ≤ 1048576 * after.over = mul-le-mul_right after.over back.0 in
    let less : before.up * after.over + after.down * before.over ≤ before.down * after.over + after.up * before.over
    = no-more other.least self.greatest after before between'.from between.up_to back.1 in
    inr (omega (arith, way, between'.up_to), omega (arith, less))
