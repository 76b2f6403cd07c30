use Rattle.std.proofs.Common.{arith}
use Rattle.ng_journal.proofs.LineReadLemmas.{part_is}
use Rattle.ng_journal.proofs.line.part_of.Goals as goal

pub returns-clause-part : goal.returns-clause-part
returns-clause-part c = λ row is. part_is row c.args.sector.now c.args.program_end c.args.place c.args.n _
    c.min.result c.told-sector is c.requires.place c.requires.from c.requires.to (omega (arith, c.max.ensures))
    c.min.ensures

pub overflow_mul-start : goal.overflow_mul-start
overflow_mul-start c = omega arith

pub max-requires : goal.max-requires
max-requires c = omega arith

pub overflow_sub-result : goal.overflow_sub-result
overflow_sub-result c = omega arith

pub overflow_sub-program_end : goal.overflow_sub-program_end
overflow_sub-program_end c = omega arith

pub min-requires : goal.min-requires
min-requires c = omega arith

pub slice_bounds-result-count : goal.slice_bounds-result-count
slice_bounds-result-count c = omega arith

pub slice_bounds-result-start : goal.slice_bounds-result-start
slice_bounds-result-start c = omega arith

pub slice_bounds-result-end : goal.slice_bounds-result-end
slice_bounds-result-end c = omega arith

pub returns-clause-within : goal.returns-clause-within
returns-clause-within c = omega arith
