-- An arc that isn't small can be walked.
use Rattle.std.proofs.Common.{arith, ℕ, ◌*◌, ◌^◌, ◌<◌, ◌≤◌, ◌≡◌, ℤ, ◌-ℤ◌, false}
use Rattle.std.proofs.lemmas.Int.{ints}
use Rattle.std.proofs.lemmas.Bool.Decides.{nat_tests}
use Rattle.std.specs.Prelude.{unsigned_abs, nat_lt}
use Rattle.ng_step.specs.declared.centred.CentredArc.{CentredArc}
use Rattle.ng_step.specs.Arcs.{larger}
use Rattle.ng_step.specs.Turned.{beyond}
use Rattle.ng_step.specs.Hands.{is_small}
use Rattle.ng_step.specs.Private.Sizes.{IsSized, IsWalkable}
use Rattle.ng_step.proofs.StartLemmas.{start_some}
use Rattle.ng_step.proofs.ArcLemmas.{larger_some}

not_small : (n m : ℕ) → nat_lt n m ≡ false → m ≤ n
not_small n m h = grind (arith, nat_tests)

near_size : (p z : ℤ) (s : ℕ) → 2 * unsigned_abs (p -ℤ z) ≤ s → s ≤ 1_000_000 → unsigned_abs z < 2 ^ 45 → unsigned_abs p ≤ beyond
near_size p z s near most small = omega (arith, ints)

pub walkable : (c : CentredArc) → IsSized c → is_small c.circle ≡ false → IsWalkable c
walkable c h large =
    let far : 4 * (larger c.circle * larger c.circle) ≤ c.circle.square = not_small c.circle.square (4 * (larger c.circle * larger c.circle)) large in
    let square = h.square in
    record {
      arc = record { has = h.has; large = far; within = omega arith };
      start = h.start;
      step = h.step;
      end = h.end;
      some = start_some c.start c.from (larger c.circle) (larger_some c.circle h.has) (omega arith) h.from_a h.from_b;
      from_a = near_size c.from.a c.start.a (larger c.circle) h.from_a h.step h.start.a;
      from_b = near_size c.from.b c.start.b (larger c.circle) h.from_b h.step h.start.b;
    }
