-- Taking the first line of a plan.
use Rattle.std.proofs.Common.{arith, ℕ, zero, suc, ◌+◌, ◌-◌, ◌/◌, ◌<◌, ◌≤◌, ◌≡◌, ◌∙◌, ◌⊎◌, inl, inr, sym, ap, refl, List, [], ◌∷◌, ◌++◌, length}
use Rattle.std.specs.Prelude.{Option, Some, None, IfSome, IfNone, option_to_list}
use Rattle.ng_pace.specs.declared.planning.Slot.{Slot}
use Rattle.ng_pace.specs.Rest.{Stands}
use Rattle.ng_pace.specs.Planning.{IsPlan, IsFresh, IsTaken, LooksAhead, ahead, lines_of, most_now}

-- a plan that was made anew
pub fresh_whole : (xs : List Slot) (n : ℕ) → n ≡ length xs → IsFresh n xs
fresh_whole [] n h = tt
fresh_whole (x ∷ xs) n h = inr (omega arith, record { most = omega arith; some = λ none. empty xs (omega arith) }) where
  empty : (r : List Slot) → length r ≡ 0 → r ≡ []
  empty [] h = refl
  empty (y ∷ r) h = absurd (omega arith)

-- a plan of which enough was planned
pub fresh_enough : (xs : List Slot) (n : ℕ) → 1 < n → length xs ≤ n + n / 8 + 7 → IsFresh n xs
fresh_enough [] n some h = tt
fresh_enough (x ∷ xs) n some h = inr (omega arith, record { most = omega arith; some = λ none. absurd (omega arith) })

within : (n : ℕ) (x : Slot) (xs : List Slot) → IsPlan n (x ∷ xs) → x.plan ≤ most_now x.line (ahead xs)
within zero x xs plan = let none : x.plan ≡ 0 = plan.0 in omega arith
within (suc n) x xs plan = let square : x.plan ≡ most_now x.line (ahead xs) = plan.0 in omega arith

greatest : (n : ℕ) (x : Slot) (xs : List Slot) → IsPlan n (x ∷ xs) → IsFresh n (x ∷ xs)
    → Stands x.line ⊎ ((x.plan ≡ most_now x.line (ahead xs)) × LooksAhead (n - 1) xs)
greatest n x xs plan (inl stands) = inl stands
greatest zero x xs plan (inr looks) = absurd (omega (arith, looks.0))
greatest (suc n) x xs plan (inr looks) = inr (plan.0, looks.1)

rest_of_plan : (n : ℕ) (x : Slot) (xs : List Slot) → IsPlan n (x ∷ xs) → IsPlan (n - 1) xs
rest_of_plan zero x xs plan = plan.1
rest_of_plan (suc n) x xs plan = let e : suc n - 1 ≡ n = omega arith in rw e plan.1

pub taken : (old slots new : List Slot) (n m : ℕ) (result : Option Slot) → m ≡ n - 1 → IsPlan n slots → IsFresh n slots → lines_of slots ≡ lines_of old
    → ahead old ≤ ahead slots → slots ≡ option_to_list result ++ new
    → IfSome result (λ slot. IsTaken old new m slot)
taken old slots new n m None less plan fresh lines grows first = tt
taken old slots new n m (Some x) less plan fresh lines grows first =
    let plan_x : IsPlan n (x ∷ new) = rw first at plan in
    let fresh_x : IsFresh n (x ∷ new) = rw first at fresh in record {
      first = sym lines ∙ ap lines_of first;
      plan = rw less (rest_of_plan n x new plan_x);
      grows = let square : ahead slots ≡ x.plan = ap ahead first in omega arith;
      within = within n x new plan_x;
      greatest = rw less (greatest n x new plan_x fresh_x);
    }

-- of nothing, nothing is planned
pub idle : (slots new : List Slot) (n : ℕ) (result : Option Slot) → IsPlan n slots → slots ≡ option_to_list result ++ new → IfNone result (new ≡ [])
    → IfNone result (n - 1 ≡ 0)
idle slots new n None plan first none =
    let empty : slots ≡ [] = first ∙ none in
    let zero_n : n ≡ 0 = rw empty at plan in omega arith
idle slots new n (Some x) plan first none = tt
