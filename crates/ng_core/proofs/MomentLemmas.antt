-- Stops at the moments of a trace that goes on.
use Rattle.std.proofs.Common.{◌≡◌, ◌⊎◌, inl, inr, ℕ, suc, ◌<◌, ◌≤◌, if◌then◌else◌, nat_lt, List, [], ◌∷◌, length, refl, sym, ◌∙◌, ap, subst, arith}
use Rattle.std.proofs.lemmas.Bool.Decides.{nat_tests}
use Rattle.ng_canon.specs.declared.item.Item.{Item}
use Rattle.ng_rig.specs.Trace.{Image, Trace, moment, trace_at, IsStop, StopSince}
use Rattle.ng_rig.specs.Continuation.{IsContinuation}
use Rattle.ng_rig.proofs.ContinuationLemmas.{trace_now, trace_earlier, was_then}
use Rattle.ng_rig.proofs.LaterStopLemmas.{between-since}
use Rattle.ng_core.specs.Moments.{AtEachStop, IsRising, answered_by}

-- ---- how many were answered

not_yet : (t m less more : ℕ) → t < m → (if nat_lt t m then less else more) ≡ less
not_yet t m less more lt = grind (arith, nat_tests)

already : (t m less more : ℕ) → m ≤ t → (if nat_lt t m then less else more) ≡ more
already t m less more le = grind (arith, nat_tests)

pub none_by : (t last m : ℕ) (ms : List ℕ) → t < m → IsRising m last ms → answered_by t (m ∷ ms) ≡ 0
none_by t last m [] lt rising = not_yet t m 0 1 lt
none_by t last m (s ∷ ms) lt rising = not_yet t m (answered_by t (s ∷ ms)) (suc (answered_by t (s ∷ ms))) lt
    ∙ none_by t last s ms (omega (arith, lt, rising.0)) rising.1

pub one_by : (t m : ℕ) (ms : List ℕ) → m ≤ t → answered_by t (m ∷ ms) ≡ suc (answered_by t ms)
one_by t m ms le = already t m (answered_by t ms) (suc (answered_by t ms)) le

-- ---- equal moments

pub same_moment : {X : Type 0} → ℕ → List X → List ℕ
same_moment m [] = []
same_moment m (x ∷ xs) = m ∷ same_moment m xs

pub same_more : {X : Type 0} (m : ℕ) (x : X) (xs : List X) → same_moment m (x ∷ xs) ≡ m ∷ same_moment m xs
unfolding same_moment
same_more m x xs = refl

pub same_none : (X : Type 0) (m : ℕ) → same_moment {X = X} m [] ≡ []
unfolding same_moment
same_none X m = refl

pub same_each : {X : Type 0} (m : ℕ) (xs : List X) → length (same_moment m xs) ≡ length xs
unfolding same_moment
same_each m [] = refl
same_each m (x ∷ xs) = ap (λ (n : ℕ). suc n) (same_each m xs)

pub same_rising : {X : Type 0} (m : ℕ) (xs : List X) → IsRising m m (same_moment m xs)
unfolding same_moment
same_rising m [] = omega arith
same_rising m (x ∷ xs) = (omega arith, same_rising m xs)

-- ---- stops

side : (a b : ℕ) → (a ≤ b) ⊎ (b < a)
side a b = grind arith

module _ (image : ℕ → List ℕ) (handed : List Item) where
  -- from a moment on
  since : (trace : Trace) (first t : ℕ) → first ≤ t → t ≤ moment trace → IsStop (trace_at t trace) image handed → StopSince trace first image handed
  since trace first t from until stop = between-since image handed trace first (record { at = t; from = from; until = until; stop = stop })

  -- within a call each stop is one of the old trace's or of the call's
  pub within_call : (old mid : Trace) (P : Image → List Item → Type 0) (t : ℕ) → IsContinuation old mid P
      → moment old ≤ t → t ≤ moment mid → IsStop (trace_at t mid) image handed
      → StopSince old (moment old) image handed ⊎ P image handed
  within_call old mid P t a from until stop = a.each (moment old) image handed (omega arith) (since mid (moment old) t from until stop)

-- without a call
pub no_call : (trace : Trace) (Said : ℕ → Image → List Item → Type 0)
    → ((t : ℕ) (image : ℕ → List ℕ) (handed : List Item) → StopSince trace (moment trace) image handed → Said t image handed) → AtEachStop trace trace Said
no_call trace Said now = record {
  was = trace_now trace;
  each = λ t image handed from until stop.
      now t image handed (since image handed trace (moment trace) t from until stop);
}

-- after one call
pub one_call : (old new : Trace) (P : Image → List Item → Type 0) (Said : ℕ → Image → List Item → Type 0) → IsContinuation old new P
    → ((t : ℕ) (image : ℕ → List ℕ) (handed : List Item) → StopSince old (moment old) image handed ⊎ P image handed
    → Said t image handed) → AtEachStop old new Said
one_call old new P Said a said = record {
  was = was_then old new P a;
  each = λ t image handed from until stop.
      said t image handed (within_call image handed old new P t a from until stop);
}

-- after one call and then others
pub more_calls : (old mid new : Trace) (P : Image → List Item → Type 0) (Rest Said : ℕ → Image → List Item → Type 0)
    → IsContinuation old mid P → AtEachStop mid new Rest
    → ((t : ℕ) (image : ℕ → List ℕ) (handed : List Item) → t < moment mid → StopSince old (moment old) image handed ⊎ P image handed → Said t image handed)
    → ((t : ℕ) (image : ℕ → List ℕ) (handed : List Item) → moment mid ≤ t → Rest t image handed → Said t image handed)
    → AtEachStop old new Said
more_calls old mid new P Rest Said a rest early late = record {
  was = sym (trace_earlier (moment old) (moment mid) new a.later) ∙ ap (λ (l : Trace). trace_at (moment old) l) rest.was ∙ was_then old mid P a;
  each = λ t image handed from until stop. elim (side (moment mid) t) [
    | inl come ↦ late t image handed come (rest.each t image handed come until stop)
    | inr before ↦
        let le : t ≤ moment mid = omega (arith, before) in
        let there : trace_at t new ≡ trace_at t mid = sym (trace_earlier t (moment mid) new le) ∙ ap (λ (l : Trace). trace_at t l) rest.was in
        early t image handed before (within_call image handed old mid P t a from le (subst (λ (l : Trace). IsStop l image handed) there stop))
  ];
}

-- for a weaker statement
pub weaker_said : (old new : Trace) (P Said : ℕ → Image → List Item → Type 0) → AtEachStop old new P
    → ((t : ℕ) (image : ℕ → List ℕ) (handed : List Item) → moment old ≤ t → P t image handed → Said t image handed) → AtEachStop old new Said
weaker_said old new P Said a imply =
    record {
      was = a.was;
      each = λ t image handed from until stop.
          imply t image handed from (a.each t image handed from until stop);
    }
