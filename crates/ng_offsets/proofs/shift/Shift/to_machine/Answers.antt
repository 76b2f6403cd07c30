use Rattle.std.proofs.Common.{◌≡◌, ◌+ℤ◌, ◌∙◌, ap}
use Rattle.ng_num.specs.Range.{in_range}
use Rattle.ng_offsets.proofs.ShiftLemmas.{small, stored_more, back_by_less}
use Rattle.ng_offsets.proofs.shift.Shift.to_machine.Goals as goal

computed : (c : goal.After-of_nm) → c.of_nm.result ≡ in_range (c.args.program +ℤ c.args.self)
computed c =
    let program = small _ _ c.nm.ensures.range c.nm.ensures.value in
    c.of_nm.ensures ∙ ap in_range (stored_more c.args.program c.args.self c.nm.result c.self.inside.nm program
    c.self.invariant c.nm.ensures.value c.self.view_is)

pub returns-clause-value : goal.returns-clause-value
returns-clause-value c = computed c

pub returns-clause-undone : goal.returns-clause-undone
returns-clause-undone c = back_by_less c.args.program c.args.self c.of_nm.result c.nm.ensures.range (computed c)
