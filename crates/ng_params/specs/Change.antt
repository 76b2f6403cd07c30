-- Changes of a table.
use Rattle.std.specs.Prelude.{◌≡◌, ◌≢◌, ◌↔◌, ◌≤◌, List, [], ◌∷◌, ℤ, Contains}
use Rattle.ng_params.specs.Params.{at, with_value}
use Rattle.ng_params.specs.declared.change.Change.{Change}

-- the table after changes, made in order
abbrev pub with_changes : List ℤ → List Change → List ℤ
with_changes table [] = table
with_changes table (change ∷ changes) = with_changes (with_value table change.index change.value) changes

-- the change sets a parameter that differs to the new table's value
pub record IsDifference (old new : List ℤ) (change : Change) : Type 0 where
  pub low : 1 ≤ change.index
  pub differs : at old change.index ≢ at new change.index
  pub value : change.value ≡ at new change.index

-- these are all the differences, and no others
abbrev pub AreDifferences : List ℤ → List ℤ → List Change → Type 0
AreDifferences old new changes = (change : Change) → Contains changes change ↔ IsDifference old new change
