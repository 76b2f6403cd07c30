-- What the plan says of coming to rest.
use Rattle.std.proofs.Common.{arith, ℕ, zero, suc, ◌+◌, ◌-◌, ◌^◌, ◌≤◌, ◌≡◌, min, refl, ap, Bool, true, false, List}
use Rattle.std.proofs.Common.{[], ◌∷◌, ◌++◌, length, take, drop, take-append-drop, IsTrue}
use Rattle.std.specs.Prelude.{if◌then◌else◌, nat_le, ◌==◌, ◌&&◌}
use Rattle.ng_pace.specs.declared.line.Line.{Line}
use Rattle.ng_pace.specs.declared.planning.Slot.{Slot}
use Rattle.ng_pace.specs.Planning.{IsPlan, ahead, lines_of, most_now}
use Rattle.ng_pace.specs.Stepping.{start_square}
use Rattle.ng_pace.specs.Paced.{rest_of}
use Rattle.ng_pace.specs.Rest.{CanRest}

pub length-lines_of : (xs : List Slot) → length (lines_of xs) ≡ length xs
length-lines_of [] = refl
length-lines_of (s ∷ r) = omega (arith, length-lines_of r)

pub lines_of-push : (xs : List Slot) (line : Line) → lines_of (xs ++ (record { line = line; plan = 0 }) ∷ []) ≡ lines_of xs ++ line ∷ []
lines_of-push [] line = refl
lines_of-push (s ∷ r) line = ap (λ t. s.line ∷ t) (lines_of-push r line)

pub ahead-push : (xs : List Slot) (line : Line) → ahead (xs ++ (record { line = line; plan = 0 }) ∷ []) ≡ ahead xs
ahead-push [] line = refl
ahead-push (s ∷ r) line = refl

-- a line that is put behind a plan leaves it one
pub plan-push : (n : ℕ) (xs : List Slot) (line : Line) → IsPlan n xs → IsPlan n (xs ++ (record { line = line; plan = 0 }) ∷ [])
plan-push zero [] line plan = (refl, refl)
plan-push (suc n) [] line plan = let none : suc n ≡ 0 = plan in absurd (omega arith)
plan-push zero (s ∷ r) line plan = (plan.0, plan-push zero r line plan.1)
plan-push (suc n) (s ∷ r) line plan = (rw (ahead-push r line) plan.0, plan-push n r line plan.1)

-- what is left after the whole ramp of a line
falls_by : (last : Bool) (ramp most u a : ℕ) → u ≤ min (min ((if last then 0 else a) + ramp) (2 ^ 64 - 1)) most
    → (u ≤ most) × ((u - ramp ≤ a) × (IsTrue last → u - ramp ≡ 0))
falls_by true ramp most u a h = (omega arith, (omega arith, λ _. omega arith))
falls_by false ramp most u a h = (omega arith, (omega arith, λ e. absurd (cc e)))

-- within what may be planned at a line a rest can be reached, if it can be after the line
pub rest_at : (line : Line) (u after : ℕ) (lines : List Line) → u ≤ most_now line after → ((v : ℕ) → v ≤ after → CanRest v lines) → CanRest u (line ∷ lines)
rest_at line u after lines h later =
    let falls : (u ≤ line.most) × ((u - line.ramp.down ≤ after) × (IsTrue line.last → u - line.ramp.down ≡ 0))
    = falls_by line.last line.ramp.down line.most u after h in
    (falls.0, (u - line.ramp.down, (record { grows = omega arith; falls = omega arith }, (falls.1.1, later (u - line.ramp.down) falls.1.0))))

pub rest_within : (n : ℕ) (xs : List Slot) → IsPlan n xs → (u : ℕ) → u ≤ ahead xs → CanRest u (take n (lines_of xs))
rest_within zero [] plan u h = omega arith
rest_within zero (s ∷ r) plan u h = let none : s.plan ≡ 0 = plan.0 in omega arith
rest_within (suc n) [] plan u h = let none : suc n ≡ 0 = plan in absurd (omega arith)
rest_within (suc n) (s ∷ r) plan u h =
    let square : s.plan ≡ most_now s.line (ahead r) = plan.0 in
    rest_at s.line u (ahead r) (take n (lines_of r)) (omega arith) (rest_within n r plan.1)

climbs_by : (last : Bool) (ramp most u to a : ℕ) → u ≤ most → u ≤ to + ramp → (IsTrue last → to ≡ 0) → min to (2 ^ 64 - 1) ≤ a
    → min u (2 ^ 64 - 1) ≤ min (min ((if last then 0 else a) + ramp) (2 ^ 64 - 1)) most
climbs_by true ramp most u to a top ramped last h = let none : to ≡ 0 = last refl in omega arith
climbs_by false ramp most u to a top ramped last h = omega arith

-- no square from which a rest can be reached is greater than what may be planned at a line
pub most_at : (line : Line) (u after : ℕ) (lines : List Line) → CanRest u (line ∷ lines) → ((v : ℕ) → CanRest v lines → min v (2 ^ 64 - 1) ≤ after)
    → min u (2 ^ 64 - 1) ≤ most_now line after
most_at line u after lines rest later = climbs_by line.last line.ramp.down line.most u rest.1.0 after rest.0 rest.1.1.0.falls rest.1.1.1.0
    (later rest.1.0 rest.1.1.1.1)

pub most_within : (n : ℕ) (xs : List Slot) → IsPlan n xs → (u : ℕ) → CanRest u (take n (lines_of xs)) → min u (2 ^ 64 - 1) ≤ ahead xs
most_within zero [] plan u rest = let none : u ≡ 0 = rest in omega arith
most_within zero (s ∷ r) plan u rest = let none : u ≡ 0 = rest in omega arith
most_within (suc n) [] plan u rest = let none : u ≡ 0 = rest in omega arith
most_within (suc n) (s ∷ r) plan u rest =
    let square : s.plan ≡ most_now s.line (ahead r) = plan.0 in
    omega (arith, most_at s.line u (ahead r) (take n (lines_of r)) rest (most_within n r plan.1))

-- who stands may stand
pub rest_still : (lines : List Line) → CanRest 0 lines
rest_still [] = refl
rest_still (line ∷ rest) = (omega arith, (0, (record { grows = omega arith; falls = omega arith }, (λ _. refl, rest_still rest))))

-- more lines forbid no rest
pub rest_more : (lines more : List Line) (u : ℕ) → CanRest u lines → CanRest u (lines ++ more)
rest_more [] more u rest = let none : u ≡ 0 = rest in rw none (rest_still more)
rest_more (line ∷ lines) more u rest = (rest.0, (rest.1.0, (rest.1.1.0, (rest.1.1.1.0, rest_more lines more rest.1.0 rest.1.1.1.1))))

-- what is left of a square after a line is no more than the square
pub rest_less : (line : Line) (to start wanted most : ℕ) → to ≤ most → rest_of line to start wanted ≤ most
rest_less line to start wanted most h = chosen ((wanted == 0) && nat_le to (start_square line.ramp.down start)) to most h where
  chosen : (b : Bool) (to most : ℕ) → to ≤ most → (if b then 0 else to) ≤ most
  chosen true to most h = omega arith
  chosen false to most h = h

-- within the plan a rest can be reached
pub rest_all : (n : ℕ) (xs : List Slot) → IsPlan n xs → (u : ℕ) → u ≤ ahead xs → CanRest u (lines_of xs)
rest_all n xs plan u h =
    let rest : CanRest u (take n (lines_of xs) ++ drop n (lines_of xs)) = rest_more (take n (lines_of xs)) (drop n (lines_of xs)) u
    (rest_within n xs plan u h) in
    rw (take-append-drop n (lines_of xs)) at rest
