use Rattle.std.proofs.lemmas.Grind.{common_steps}
use Rattle.std.proofs.Common.{arith}
use Rattle.ng_lines.proofs.reading.take_step.Goals as goal

pub bounds-text-0 : goal.bounds-text-0
bounds-text-0 c = grind arith

pub bounds-text-1 : goal.bounds-text-1
bounds-text-1 c = grind arith

pub bounds-text-1-in-49-1 : goal.bounds-text-1-in-49-1
bounds-text-1-in-49-1 c = grind arith

pub bounds-text-0-2 : goal.bounds-text-0-2
bounds-text-0-2 c = grind arith

pub bounds-text-1-in-48-text-4 : goal.bounds-text-1-in-48-text-4
bounds-text-1-in-48-text-4 c = grind arith

pub bounds-text-1-in-49-text-4 : goal.bounds-text-1-in-49-text-4
bounds-text-1-in-49-text-4 c = grind arith

pub bounds-text-1-in-45-1 : goal.bounds-text-1-in-45-1
bounds-text-1-in-45-1 c = grind arith

pub bounds-text-2 : goal.bounds-text-2
bounds-text-2 c = grind arith

pub slice_bounds-after-count : goal.slice_bounds-after-count
slice_bounds-after-count c = omega arith

pub slice_bounds-after-start : goal.slice_bounds-after-start
slice_bounds-after-start c = omega arith

pub slice_bounds-after-end : goal.slice_bounds-after-end
slice_bounds-after-end c = omega arith

pub slice_bounds-after-count-2 : goal.slice_bounds-after-count-2
slice_bounds-after-count-2 c = grind arith

pub slice_bounds-after-start-2 : goal.slice_bounds-after-start-2
slice_bounds-after-start-2 c = grind arith

pub slice_bounds-after-end-2 : goal.slice_bounds-after-end-2
slice_bounds-after-end-2 c = omega arith

pub slice_bounds-after-count-3 : goal.slice_bounds-after-count-3
slice_bounds-after-count-3 c = grind arith

pub slice_bounds-after-start-3 : goal.slice_bounds-after-start-3
slice_bounds-after-start-3 c = grind arith

pub slice_bounds-after-end-3 : goal.slice_bounds-after-end-3
slice_bounds-after-end-3 c = omega arith

pub returns-in-45-clause-found : goal.returns-in-45-clause-found
returns-in-45-clause-found c = grind (arith, common_steps)

pub returns-in-45-clause-only : goal.returns-in-45-clause-only
returns-in-45-clause-only c = grind (arith, common_steps)

pub returns-in-49-clause-found : goal.returns-in-49-clause-found
returns-in-49-clause-found c = grind (arith, common_steps)

pub returns-in-49-clause-only : goal.returns-in-49-clause-only
returns-in-49-clause-only c = grind (arith, common_steps)

pub returns-in-48-clause-found : goal.returns-in-48-clause-found
returns-in-48-clause-found c = grind (arith, common_steps)

pub returns-in-48-clause-only : goal.returns-in-48-clause-only
returns-in-48-clause-only c = grind (arith, common_steps)

pub returns-in_default-clause-found : goal.returns-in_default-clause-found
returns-in_default-clause-found c = omega arith

pub returns-in_default-clause-only : goal.returns-in_default-clause-only
returns-in_default-clause-only c = grind arith
