use Rattle.std.proofs.Common.{◌∙◌, ap}
use Rattle.ng_num.specs.Range.{in_range}
use Rattle.ng_offsets.proofs.ShiftLemmas.{small, stored_less, back_by_more}
use Rattle.ng_offsets.proofs.shift.Shift.to_program.Goals as goal

pub returns-clause-undone : goal.returns-clause-undone
returns-clause-undone c =
    let machine = small _ _ c.nm.ensures.range c.nm.ensures.value in
    let difference = stored_less c.args.machine c.args.self c.nm.result c.self.inside.nm machine c.self.invariant c.nm.ensures.value c.self.view_is in
    back_by_more c.args.machine c.args.self c.of_nm.result c.nm.ensures.range (c.of_nm.ensures ∙ ap in_range difference)
