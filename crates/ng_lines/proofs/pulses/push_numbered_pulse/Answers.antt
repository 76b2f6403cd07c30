use Rattle.std.proofs.Common.{◌≡◌, ◌++◌, ◌∷◌, ◌∙◌, ◌+◌, ◌-◌, ap, append-nil, arith, drop}
use Rattle.std.specs.Fmt.{decimal}
use Rattle.std.proofs.lemmas.Result.{on_ok_weaker}
use Rattle.ng_lines.specs.Lines.{pulse_line}
use Rattle.ng_lines.proofs.pulses.push_numbered_pulse.Goals as goal

pub returns-clause-ok : goal.returns-clause-ok
returns-clause-ok g c =
    let line = pulse_line c.args.pulse.now in
    let at : c.write_pulse-line.result - 1 + 1 ≡ c.write_pulse-line.result = omega (arith, c.write_pulse-line.ensures.within) in
    on_ok_weaker c.push_from.result
    (λ h. h ∙ ap (λ l. c.args.text.now.items ++ l) (c.write_number-start.ensures.written
    ∙ ap (λ l. decimal c.args.number ++ l)
    (c.put.ensures ∙ ap (λ l. 32 ∷ l) (ap (λ k. drop k c.write_pulse-line.new.buffer) at
    ∙ c.write_pulse-line.ensures.written ∙ append-nil line))))
    c.push_from.ensures.ok
