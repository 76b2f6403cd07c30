-- How many pulses wait at most.
use Rattle.std.proofs.Common.{arith, ℕ, ◌+◌, ◌*◌, ◌<◌, ◌≤◌, ◌≡◌, ◌∙◌, refl, sym, ap, Bool, true, false, IsTrue, IsFalse}
use Rattle.ng_pace.specs.declared.limits.Limits.{Limits}
use Rattle.ng_pace.specs.declared.chord.Chord.{Chord}
use Rattle.ng_pace.specs.WaitingPulses.{WaitFew, WaitSome}

pub few-most : (limits : Limits) (chord : Chord) (waits : ℕ) → 0 < limits.half → WaitFew limits chord waits → waits < 5 * limits.half + 15
few-most limits chord waits some few = by_open chord.is_open refl where
  by_corner : (b : Bool) → chord.has_corner ≡ b → chord.is_open ≡ true → waits < 5 * limits.half + 15
  by_corner true has is = let both = few.pending is has in omega (arith, both.0, both.1, some)
  by_corner false has is = omega (arith, few.going is has, some)

  by_open : (b : Bool) → chord.is_open ≡ b → waits < 5 * limits.half + 15
  by_open true is = by_corner chord.has_corner refl is
  by_open false is = omega (arith, few.closed is, some)

-- one more pulse of an open chord waits
pub some-more : (chord chord' : Chord) (waits : ℕ) → chord' ≡ record chord { pulses = chord'.pulses; cones = chord'.cones } → chord'.pulses ≡ chord.pulses + 1
    → WaitSome chord waits → WaitSome chord' (waits + 1)
some-more chord chord' waits same one some = record {
  last = λ is pulses. omega arith;
  all = λ is has. omega (arith, some.all (sym (ap (λ t. t.is_open) same) ∙ is) (sym (ap (λ t. t.has_corner) same) ∙ has), one);
}

-- where a corner is decided, or lines are made along the chord, one still waits
pub some-left : (chord chord' : Chord) (waits left still : ℕ) → chord' ≡ record chord { has_corner = chord'.has_corner } → IsTrue chord.is_open
    → 0 < chord.pulses → WaitSome chord waits
    → (IsTrue chord.has_corner → chord.pulses ≤ waits → 0 < chord.pulses → 0 < left) → (IsFalse chord.has_corner → left ≡ waits)
    → (IsTrue chord'.has_corner → IsTrue chord.has_corner × (left ≡ waits))
    → (0 < chord'.pulses → 0 < left → 0 < still) → (IsTrue chord'.has_corner → still ≡ left) → WaitSome chord' still × (0 < still)
some-left chord chord' waits left still same is pulses some decided reserve pending along stays =
    (record { last = λ _ _. one; all = λ _ has. whole has }, one) where
      by_corner : (b : Bool) → chord.has_corner ≡ b → 0 < left
      by_corner true has = decided has (some.all is has) pulses
      by_corner false has = omega (arith, reserve has, some.last is pulses)

      one : 0 < still
      one = along (omega (arith, ap (λ t. t.pulses) same, pulses)) (by_corner chord.has_corner refl)

      whole : IsTrue chord'.has_corner → chord'.pulses ≤ still
      whole has = let both = pending has in omega (arith, ap (λ t. t.pulses) same, some.all is both.0, both.1, stays has)
