use Rattle.std.proofs.Common.{arith}
use Rattle.ng_step.proofs.sweep.QuadrantSweep.first_level_past.Goals as goal

pub overflow_add-levels : goal.overflow_add-levels
overflow_add-levels c = grind arith

pub halves-init : goal.halves-init
halves-init c = grind arith

pub overflow_add-first : goal.overflow_add-first
overflow_add-first c = omega arith

pub overflow_sub-first : goal.overflow_sub-first
overflow_sub-first c = omega arith

pub leaves_past-requires : goal.leaves_past-requires
leaves_past-requires c = grind arith

pub halves-smaller-then-leaves_past : goal.halves-smaller-then-leaves_past
halves-smaller-then-leaves_past c = omega arith

pub halves-preserved-then-leaves_past : goal.halves-preserved-then-leaves_past
halves-preserved-then-leaves_past c = grind arith

pub overflow_add-first-else-leaves_past : goal.overflow_add-first-else-leaves_past
overflow_add-first-else-leaves_past c = omega arith

pub overflow_sub-levels : goal.overflow_sub-levels
overflow_sub-levels c = omega arith

pub halves-smaller : goal.halves-smaller
halves-smaller c = omega arith

pub halves-preserved : goal.halves-preserved
halves-preserved c = grind arith

pub returns-clause-inside : goal.returns-clause-inside
returns-clause-inside c = grind arith

pub returns-clause-past : goal.returns-clause-past
returns-clause-past c = grind arith

pub returns-clause-first : goal.returns-clause-first
returns-clause-first c = grind arith
