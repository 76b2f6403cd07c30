use Rattle.std.proofs.Common.{◌≡◌, drop}
use Rattle.ng_params.specs.Change.{with_changes}
use Rattle.ng_params.proofs.params.Params.apply.Given as goal

-- the changes still to be made lead to the same table
abbrev pub invariant-loop-change : goal.invariant-loop-change
invariant-loop-change g l =
    with_changes l.self (drop l.change-index l.changes) ≡ with_changes l.fn.self l.changes
