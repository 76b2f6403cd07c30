use Rattle.std.proofs.Common.{arith}
use Rattle.ng_pace.proofs.DueLemmas.{due-parts}
use Rattle.ng_pace.proofs.line.pulse_ns.Goals as goal

pub returns : goal.returns
returns c = omega (
  arith,
  due-parts c.args.us c.args.percent (omega (arith, c.requires.0)),
  c.saturating_mul-whole.ensures,
  c.div_ceil.ensures,
  c.saturating_add.ensures,
)

pub returns-then-percent-eq100 : goal.returns-then-percent-eq100
returns-then-percent-eq100 c = rw c.if-percent-eq100.true (omega (arith, c.saturating_mul.ensures))
