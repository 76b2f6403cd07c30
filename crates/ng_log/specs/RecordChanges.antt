-- The changes of a record that are left to be written (own).
use Rattle.std.specs.Prelude.{ℕ, List, drop, length}
use Rattle.ng_params.specs.Differences.{differences_to, differences}
use Rattle.ng_params.specs.declared.change.Change.{Change}
use Rattle.ng_log.specs.declared.record_changes.Source.{Source}
use Rattle.ng_log.specs.declared.record_changes.Source.TheVariants.{Between, Listed}

-- the differences that come after those among the parameters that were compared; or the list
abbrev pub changes_left : {A : Type 0} → Source A → List Change
changes_left (Between old new compared) = drop (length (differences_to compared old.now new.now)) (differences old.now new.now)
changes_left (Listed changes) = changes.now

-- how many parameters were compared; a list needs none
abbrev pub compared : {A : Type 0} → Source A → ℕ
compared (Between old new n) = n
compared (Listed changes) = 0
