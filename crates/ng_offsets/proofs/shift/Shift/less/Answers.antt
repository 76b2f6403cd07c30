use Rattle.std.proofs.Common.{◌∙◌, ap}
use Rattle.ng_num.specs.Range.{in_range}
use Rattle.ng_offsets.proofs.ShiftLemmas.{small, stored_less}
use Rattle.ng_offsets.proofs.shift.Shift.less.Goals as goal

pub returns : goal.returns
returns c =
    let length = small _ _ c.nm.ensures.range c.nm.ensures.value in
    c.of_nm.ensures ∙ ap in_range (stored_less c.args.self c.args.length c.self.inside.nm c.nm.result c.self.invariant length c.self.view_is c.nm.ensures.value)
