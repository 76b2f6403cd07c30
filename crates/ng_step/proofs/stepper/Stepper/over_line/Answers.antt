use Rattle.std.proofs.Common.{ap, ◌∙◌}
use Rattle.ng_step.specs.Periods.{root_up}
use Rattle.ng_step.proofs.LineLengthLemmas.{length_few, limits}
use Rattle.ng_step.proofs.HandLemmas.{line_is}
use Rattle.ng_step.proofs.stepper.Stepper.over_line.Goals as goal

pub pulse_us-period_us-requires-clause-length : goal.pulse_us-period_us-requires-clause-length
pulse_us-period_us-requires-clause-length c = λ some.
    length_few c.args.geometry.now c.args.start.now c.args.end.now c.between-distances.result
    c.root_up-length.result c.largest.result (limits c.args.geometry.now)
    c.between-distances.ensures.value (c.root_up-length.ensures.value ∙ ap root_up c.square_between.ensures.value) c.largest.ensures.value some

pub returns : goal.returns
returns c =
    c.over.ensures ∙ line_is c.args.geometry.now c.args.pace c.args.start.now c.args.end.now
    c.between-distances.result c.root_up-length.result c.largest.result _ c.new.result
    c.between-distances.ensures.value (c.root_up-length.ensures.value ∙ ap root_up c.square_between.ensures.value)
    c.largest.ensures.value c.pulse_us-period_us.ensures c.new.ensures
