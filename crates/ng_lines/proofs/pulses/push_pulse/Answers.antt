use Rattle.std.proofs.Common.{◌++◌, ◌∙◌, ap, append-nil}
use Rattle.std.proofs.lemmas.Result.{on_ok_weaker}
use Rattle.ng_lines.specs.Lines.{pulse_line}
use Rattle.ng_lines.proofs.pulses.push_pulse.Goals as goal

pub returns-clause-ok : goal.returns-clause-ok
returns-clause-ok g c =
    let line = pulse_line c.args.pulse.now in
    on_ok_weaker c.push_from.result
    (λ h. h ∙ ap (λ l. c.args.text.now.items ++ l) (c.write_pulse-start.ensures.written ∙ append-nil line))
    c.push_from.ensures.ok
