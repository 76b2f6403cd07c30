use Rattle.ng_cycles.proofs.SegmentCountLemmas.{counted}
use Rattle.ng_cycles.proofs.canned.Canned.count.Goals as goal

pub returns : goal.returns
returns c =
    counted c.args.self.now c.drill-drill.result.now c.lead_length.result c.work_length.result
    c.repeat_length.result c.times.result c.drill-drill.ensures.value c.drill-drill.ensures.canned.made.some
    c.lead_length.ensures.value c.work_length.ensures.value c.repeat_length.ensures.value c.times.ensures.value
