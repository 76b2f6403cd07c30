-- The effect of assignments on a table (NISTIR 6556, 3.3.3): the last assignment of a parameter counts, and all other
-- parameters stay.
use Rattle.std.specs.Prelude.{◌≡◌, ◌≢◌, ◌≤◌, ℕ, List, [], ◌∷◌, ◌++◌, ℤ, length}
use Rattle.ng_params.specs.Change.{with_changes}
use Rattle.ng_params.specs.Params.{at}
use Rattle.ng_params.specs.declared.change.Change.{Change}

-- none of these assignments sets parameter p
abbrev pub AreOthers : ℕ → List Change → Type 0
AreOthers p [] = Unit {0}
AreOthers p (c ∷ changes) = (1 ≤ c.index) × (c.index ≢ p) × AreOthers p changes

-- after assignments, a parameter has the value of its last assignment
abbrev pub TheLastCounts : Type 0
TheLastCounts = (table : List ℤ) (before others : List Change) (c : Change) → 1 ≤ c.index → c.index ≤ length table → AreOthers c.index others
    → at (with_changes table (before ++ c ∷ others)) c.index ≡ c.value

-- a parameter that isn't set keeps its value
abbrev pub TheOthersStay : Type 0
TheOthersStay = (table : List ℤ) (changes : List Change) (p : ℕ) → 1 ≤ p → AreOthers p changes → at (with_changes table changes) p ≡ at table p
