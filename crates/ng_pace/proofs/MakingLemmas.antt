-- Lines that are made one after another.
use Rattle.std.proofs.Common.{arith, ℕ, ◌+◌, ◌-◌, ◌<◌, ◌≤◌, ◌≡◌, ◌∙◌, ◌⊎◌, inl, inr, ap, sym, List, [], ◌∷◌, ◌++◌}
use Rattle.std.proofs.Common.{length, slice_index_or, append-nil, append_assoc}
use Rattle.std.proofs.Math.ListN.{get_or-append}
use Rattle.std.proofs.Math.Seq.{get_or-append_right}
use Rattle.std.proofs.lemmas.Bool.{cases_lt}
use Rattle.std.proofs.lemmas.List.{length-append}
use Rattle.std.proofs.lemmas.List.Elements.{All-append, All-push}
use Rattle.ng_pace.specs.declared.line.Line.{Line}
use Rattle.ng_pace.specs.declared.line.Ramp.{Ramp}
use Rattle.ng_pace.specs.declared.chord.Waiting.{Waiting}
use Rattle.ng_pace.specs.Pacer.{Motion}
use Rattle.ng_pace.specs.Making.{HasAll, IsWithin, Makes}

-- none
pub makes-none : (m : Motion) (w : List Waiting) (most : ℕ) (ramp : Ramp) (stop : ℕ) → Makes m m w w most ramp stop 0
makes-none m w most ramp stop = record {
  made = [];
  known = sym (append-nil m.known);
  each = λ k d short. absurd (omega (arith, short));
  full = λ k d short more. absurd (omega (arith, short));
  count_is = omega arith;
  rest = omega arith;
}

-- one
pub makes-one : (old new : Motion) (waited waits : List Waiting) (most : ℕ) (ramp : Ramp) (stop : ℕ) (line : Line) → new.known ≡ old.known ++ line ∷ []
    → IsWithin most ramp stop line → (1 < length waited → HasAll most ramp line) → length waits + 1 ≡ length waited
    → Makes old new waited waits most ramp stop 1
makes-one old new waited waits most ramp stop line known within full fewer = record {
  made = line ∷ [];
  known = known;
  each = All-push (IsWithin most ramp stop) [] line (λ k d short. absurd (omega (arith, short))) within;
  full = λ k d short more. let first : k ≡ 0 = omega (arith, short) in rw first (full (omega (arith, more)));
  count_is = omega (arith, fewer);
  rest = fewer;
}

-- more
pub makes-more : (a b c : Motion) (u v w : List Waiting) (most : ℕ) (ramp : Ramp) (stop k : ℕ) → Makes a b u v most ramp stop k → Makes b c v w most ramp stop 1
    → Makes a c u w most ramp stop (k + 1)
makes-more a b c u v w most ramp stop k first then = record {
  made = first.made ++ then.made;
  known = then.known ∙ ap (λ t. t ++ then.made) first.known ∙ append_assoc a.known first.made then.made;
  each = All-append (IsWithin most ramp stop) first.made then.made first.each then.each;
  full = λ k d short more. by_case k d short more (cases_lt k (length first.made));
  count_is = omega (arith, length-append first.made then.made, first.count_is, then.count_is, first.rest, then.rest);
  rest = omega (arith, length-append first.made then.made, first.rest, then.rest);
} where
  by_case : (k : ℕ) (d : Line) → k < length (first.made ++ then.made) → k + 1 < length u → (k < length first.made) ⊎ (length first.made ≤ k)
      → HasAll most ramp (slice_index_or (first.made ++ then.made) k d)
  by_case k d short more (inl early) = rw (get_or-append first.made then.made d k early) (first.full k d early more)
  by_case k d short more (inr late) = rw (get_or-append_right first.made then.made k d late)
      (then.full (k - length first.made) d (omega (arith, length-append first.made then.made, short, late)) (omega (arith, first.rest, more, late)))
