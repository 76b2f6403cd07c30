-- How two tables differ, parameter by parameter (own).
use Rattle.std.specs.Prelude.{◌≡◌, ◌<◌, ◌≤◌, ℕ, zero, suc, if◌then◌else◌, List, [], ◌∷◌, ◌++◌, length, map, Contains, ℤ}
use Rattle.std.specs.Ordering.{int_eq}
use Rattle.ng_params.specs.Numbers.{parameter_count}
use Rattle.ng_params.specs.Params.{at}
use Rattle.ng_params.specs.Assignments.{AreOthers}
use Rattle.ng_params.specs.declared.change.Change.{Change}

-- the change of a parameter to its new value
abbrev pub change_to : List ℤ → ℕ → Change
change_to new p = record { index = p; value = at new p }

-- the differences among the first n parameters, with their new values, in rising order
unfoldable pub differences_to : ℕ → List ℤ → List ℤ → List Change
differences_to zero old new = []
differences_to (suc n) old new = if int_eq (at new (suc n)) (at old (suc n)) then differences_to n old new else
    differences_to n old new ++ change_to new (suc n) ∷ []

-- all differences
unfoldable pub differences : List ℤ → List ℤ → List Change
differences old new = differences_to parameter_count old new

-- These are the differences among the parameters after the first `from` ones, up to the first `next` ones: as many as
-- may be taken, or all that are left.
pub record TakesDifferences (capacity : ℕ) (old new : List ℤ) (from next : ℕ) (taken : List Change) : Type 0 where
  pub on : differences_to next old new ≡ differences_to from old new ++ taken
  pub within : next ≤ parameter_count
  pub few : length taken ≤ capacity
  pub full : next < parameter_count → length taken ≡ capacity

-- no parameter above p is changed
abbrev pub ChangesNoneAbove : ℕ → List Change → Type 0
ChangesNoneAbove p changes = (q : ℕ) → p < q → AreOthers q changes

-- the first parameter above p that is changed
pub record IsNextChanged (p : ℕ) (changes : List Change) (next : ℕ) : Type 0 where
  pub above : p < next
  pub changed : Contains (map (λ c. c.index) changes) next
  pub first : (q : ℕ) → p < q → q < next → AreOthers q changes
