-- The differences that consecutive calls take are the pieces of all differences.
use Rattle.std.proofs.Common.{◌≡◌, ◌⊎◌, inl, inr, ⊎_elim, ℕ, ◌+◌, ◌-◌, ◌<◌, List, [], ◌++◌, length, take, drop, ℤ, refl, sym, ◌∙◌, ap, arith}
use Rattle.std.proofs.Common.{append_assoc, append-nil}
use Rattle.std.proofs.lemmas.Bool.{cases_lt}
use Rattle.std.proofs.lemmas.List.{drop_at, drop_all, take_at, take_all}
use Rattle.ng_params.specs.Differences.{differences_to, differences, TakesDifferences}
use Rattle.ng_params.specs.declared.change.Change.{Change}
use Rattle.ng_params.proofs.DifferenceLemmas.{none_yet, differences-begin, differences-all}

-- all differences are left before any is taken
pub all-left : (old new : List ℤ) → drop (length (differences_to 0 old new)) (differences old new) ≡ differences old new
all-left old new = ap (λ (l : List Change). drop (length l) (differences old new)) (none_yet old new)

-- those that are left after some
abbrev left_after : ℕ → List ℤ → List ℤ → List Change
left_after n old new = drop (length (differences_to n old new)) (differences old new)

module _ (old new : List ℤ) (from next : ℕ) (taken : List Change) (t : TakesDifferences 48 old new from next taken) where
  -- what is taken, and what comes after it
  whole : (rest : List Change) × (differences old new ≡ differences_to next old new ++ rest) × ((next < 5399) ⊎ (rest ≡ []))
  whole =
      let within = t.within in
      elim (cases_lt next 5399) [
        | inl before ↦
            let b = differences-begin next (5399 - next) old new in
            let e : next + (5399 - next) ≡ 5399 = omega arith in (
              b.0,
              sym (differences-all old new) ∙ ap (λ (k : ℕ). differences_to k old new) (sym e) ∙ b.1,
              inl before,
            )
        | inr last ↦
            let e : next ≡ 5399 = omega arith in (
              [],
              sym (differences-all old new) ∙ ap (λ (k : ℕ). differences_to k old new) (sym e)
                  ∙ sym (append-nil (differences_to next old new)),
              inr refl,
            )
      ]

  left_before : left_after from old new ≡ taken ++ whole.0
  left_before = ap (drop (length (differences_to from old new)))
      (whole.1 ∙ ap (λ (l : List Change). l ++ whole.0) t.on ∙ append_assoc (differences_to from old new) taken whole.0)
      ∙ drop_at (differences_to from old new) (taken ++ whole.0) (length (differences_to from old new)) refl

  -- a call takes a piece of those that are left
  pub taken-piece : taken ≡ take 48 (left_after from old new)
  taken-piece =
      let few = t.few in
      sym (ap (take 48) left_before ∙ ⊎_elim
      (λ more. take_at taken whole.0 48 (t.full more))
      (λ none. ap (λ (l : List Change). take 48 (taken ++ l)) none ∙ ap (take 48) (append-nil taken) ∙ take_all 48 taken few)
      whole.2)

  -- and leaves those after it
  pub taken-rest : left_after next old new ≡ drop 48 (left_after from old new)
  taken-rest =
      let few = t.few in
      ap (drop (length (differences_to next old new))) whole.1
      ∙ drop_at (differences_to next old new) whole.0 (length (differences_to next old new)) refl
      ∙ sym (ap (drop 48) left_before ∙ ⊎_elim
      (λ more. drop_at taken whole.0 48 (t.full more))
      (λ none. ap (λ (l : List Change). drop 48 (taken ++ l)) none ∙ ap (drop 48) (append-nil taken)
      ∙ drop_all 48 taken few ∙ sym none)
      whole.2)
