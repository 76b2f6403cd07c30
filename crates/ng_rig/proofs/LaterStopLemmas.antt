-- Stops since a moment, in terms of the moments from it on.
use Rattle.std.proofs.Common.{◌≡◌, ◌⊎◌, inl, inr, ⊎_elim, ℕ, ◌+◌, ◌<◌, ◌≤◌, if◌then◌else◌, nat_lt, List, refl, sym, ◌∙◌, subst, arith}
use Rattle.std.proofs.lemmas.Bool.Decides.{nat_tests}
use Rattle.ng_canon.specs.declared.item.Item.{Item}
use Rattle.ng_rig.specs.Trace.{Trace, Began, Wrote, Perhaps, Synced, Handed, moment, trace_at, IsStop, StopSince}
use Rattle.ng_rig.specs.Moments.{StopsBetween}

-- the trace that one more call makes of another
record IsOneMore (whole trace : Trace) : Type 0 where
  later : moment whole ≡ moment trace + 1
  at : (t : ℕ) → trace_at t whole ≡ (if nat_lt (moment trace) t then whole else trace_at t trace)

side : (a b : ℕ) → (a ≤ b) ⊎ (b < a)
side a b = grind arith

first_of_two : (t m : ℕ) (new old : Trace) → t ≤ m → (if nat_lt m t then new else old) ≡ old
first_of_two t m new old le = grind (arith, nat_tests)

second_of_two : (t m : ℕ) (new old : Trace) → m < t → (if nat_lt m t then new else old) ≡ new
second_of_two t m new old lt = grind (arith, nat_tests)

module _ (image : ℕ → List ℕ) (handed : List Item) where
  now_between : (whole trace : Trace) (t : ℕ) → IsOneMore whole trace → t ≤ moment whole → IsStop whole image handed → StopsBetween whole t image handed
  now_between whole trace t one le s =
      let e = one.at (moment whole) ∙ second_of_two (moment whole) (moment trace) whole (trace_at (moment whole) trace) (omega (arith, one.later)) in
      record { at = moment whole; from = le; until = omega arith; stop = subst (λ (l : Trace). IsStop l image handed) (sym e) s }

  before_between : (whole trace : Trace) (t : ℕ) → IsOneMore whole trace → StopsBetween trace t image handed → StopsBetween whole t image handed
  before_between whole trace t one b =
      let e = one.at b.at ∙ first_of_two b.at (moment trace) whole (trace_at b.at trace) b.until in
      record { at = b.at; from = b.from; until = omega (arith, b.until, one.later); stop = subst (λ (l : Trace). IsStop l image handed) (sym e) b.stop }

  split : (whole trace : Trace) (t : ℕ) → IsOneMore whole trace → StopsBetween whole t image handed
      → IsStop whole image handed ⊎ ((t ≤ moment trace) × StopsBetween trace t image handed)
  split whole trace t one b = elim (side b.at (moment trace)) [
    | inl early ↦
        let e = one.at b.at ∙ first_of_two b.at (moment trace) whole (trace_at b.at trace) early in
        inr (omega (arith, b.from), record { at = b.at; from = b.from; until = early; stop = subst (λ (l : Trace). IsStop l image handed) e b.stop })
    | inr late ↦
        let e = one.at b.at ∙ second_of_two b.at (moment trace) whole (trace_at b.at trace) late in
        inl (subst (λ (l : Trace). IsStop l image handed) e b.stop)
  ]

  one_wrote : (n : ℕ) (bytes : List ℕ) (trace : Trace) → IsOneMore (Wrote n bytes trace) trace
  one_wrote n bytes trace = record { later = refl; at = λ t. refl }

  one_perhaps : (n : ℕ) (bytes : List ℕ) (trace : Trace) → IsOneMore (Perhaps n bytes trace) trace
  one_perhaps n bytes trace = record { later = refl; at = λ t. refl }

  one_synced : (trace : Trace) → IsOneMore (Synced trace) trace
  one_synced trace = record { later = refl; at = λ t. refl }

  one_handed : (item : Item) (trace : Trace) → IsOneMore (Handed item trace) trace
  one_handed item trace = record { later = refl; at = λ t. refl }

  pub since-between : (trace : Trace) (t : ℕ) → t ≤ moment trace → StopSince trace t image handed → StopsBetween trace t image handed
  since-between (Began first) t le s = record { at = 0; from = le; until = omega arith; stop = s }
  since-between (Wrote n bytes trace) t le (inl now) = now_between (Wrote n bytes trace) trace t (one_wrote n bytes trace) le now
  since-between (Wrote n bytes trace) t le (inr before) = before_between (Wrote n bytes trace) trace t
      (one_wrote n bytes trace) (since-between trace t before.0 before.1)
  since-between (Perhaps n bytes trace) t le (inl now) = now_between (Perhaps n bytes trace) trace t (one_perhaps n bytes trace) le now
  since-between (Perhaps n bytes trace) t le (inr before) = before_between (Perhaps n bytes trace) trace t
      (one_perhaps n bytes trace) (since-between trace t before.0 before.1)
  since-between (Synced trace) t le (inl now) = now_between (Synced trace) trace t (one_synced trace) le now
  since-between (Synced trace) t le (inr before) = before_between (Synced trace) trace t (one_synced trace) (since-between trace t before.0 before.1)
  since-between (Handed item trace) t le (inl now) = now_between (Handed item trace) trace t (one_handed item trace) le now
  since-between (Handed item trace) t le (inr before) = before_between (Handed item trace) trace t
      (one_handed item trace) (since-between trace t before.0 before.1)

  pub between-since : (trace : Trace) (t : ℕ) → StopsBetween trace t image handed → StopSince trace t image handed
  between-since (Began first) t b = b.stop
  between-since (Wrote n bytes trace) t b =
      ⊎_elim (λ now. inl now) (λ before. inr (before.0, between-since trace t before.1))
      (split (Wrote n bytes trace) trace t (one_wrote n bytes trace) b)
  between-since (Perhaps n bytes trace) t b =
      ⊎_elim (λ now. inl now) (λ before. inr (before.0, between-since trace t before.1))
      (split (Perhaps n bytes trace) trace t (one_perhaps n bytes trace) b)
  between-since (Synced trace) t b =
      ⊎_elim (λ now. inl now) (λ before. inr (before.0, between-since trace t before.1))
      (split (Synced trace) trace t (one_synced trace) b)
  between-since (Handed item trace) t b =
      ⊎_elim (λ now. inl now) (λ before. inr (before.0, between-since trace t before.1))
      (split (Handed item trace) trace t (one_handed item trace) b)
