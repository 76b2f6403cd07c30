use Rattle.std.proofs.Common.{arith, refl}
use Rattle.ng_step.proofs.SweepLemmas.{leaving_root, root_fits}
use Rattle.ng_step.proofs.sweep.QuadrantSweep.outward_steps.Goals as goal

pub returns-clause-leaving : goal.returns-clause-leaving
returns-clause-leaving c =
    leaving_root c.args.square c.args.inner c.args.outer c.args.step c.isqrt-root.result _ c.requires.step.0
    (omega arith) c.isqrt-root.ensures.square_le c.isqrt-root.ensures.next_square_gt refl

pub returns-clause-fits : goal.returns-clause-fits
returns-clause-fits c =
    root_fits c.args.square c.args.inner c.args.outer c.args.step c.isqrt-root.result _ c.requires.step.0
    c.requires.step.1 c.requires.square (omega arith) c.isqrt-root.ensures.square_le
    c.isqrt-root.ensures.next_square_gt refl
