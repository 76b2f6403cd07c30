use Rattle.std.proofs.Common.{arith, refl}
use Rattle.ng_arc.proofs.RadiiLemmas.{within_allowed, by_squares, too_far}
use Rattle.ng_arc.proofs.radii.is_longer_by_at_most.Goals as goal

pub returns-then-greater-allowed : goal.returns-then-greater-allowed
returns-then-greater-allowed c = within_allowed c.args.tolerance_nm c.args.greater c.args.less (omega arith)

pub returns-then-excess-le-GREATEST_EXCESS : goal.returns-then-excess-le-GREATEST_EXCESS
returns-then-excess-le-GREATEST_EXCESS c = by_squares c.args.tolerance_nm c.args.greater c.args.less _ refl

pub returns-else-excess-le-GREATEST_EXCESS : goal.returns-else-excess-le-GREATEST_EXCESS
returns-else-excess-le-GREATEST_EXCESS c =
    too_far c.args.tolerance_nm c.args.greater c.args.less _ (omega arith) (omega arith) refl (omega arith)
