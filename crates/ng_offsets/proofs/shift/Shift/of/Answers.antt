use Rattle.ng_offsets.proofs.ShiftLemmas.{small, stored_sum}
use Rattle.ng_offsets.proofs.shift.Shift.of.Goals as goal

pub returns : goal.returns
returns c =
    let origin = small _ _ c.nm.ensures.range c.nm.ensures.value in
    let g92 = small _ _ c.nm-2.ensures.range c.nm-2.ensures.value in
    stored_sum c.args.origin c.args.g92 c.nm.result c.nm-2.result origin g92 c.nm.ensures.value c.nm-2.ensures.value
