use Rattle.std.proofs.Common.{◌+◌, ◌*◌, ◌<◌, ℕ, ap, arith, rules}
use Rattle.std.proofs.lemmas.Result.{err_from_is_err_and}
use Rattle.ng_rig.proofs.GuaranteeLemmas.{meaning}
use Rattle.ng_layout.specs.Areas.{program_first, program_size}
use Rattle.ng_layout.specs.Limits.{sector_size}
use Rattle.ng_layout.specs.Sectors.{HoldsText}
use Rattle.ng_journal.proofs.OverwriteLemmas.{more, fails}
use Rattle.ng_journal.proofs.loading.write_program.Goals as goal

pub returns-in_err-write-clause-text : goal.returns-in_err-write-clause-text
returns-in_err-write-clause-text g c =
    let p = err_from_is_err_and c.from_residual.result c.from_residual.ensures.1 in
    let n = c.loop-n.n in
    let lt : n < program_size c.args.area = omega (arith, c.loop-n-test.true, c.div_ceil-n-end.ensures, c.requires.short) in
    rw p.1 (meaning (fails p.0 c.write.result n (c.program_first-first.result + n) (program_first c.args.area)
    (program_size c.args.area) (λ j part. HoldsText c.args.text.now (sector_size * j) part) c.text_sector.result _ _ _
    lt (ap (λ (k : ℕ). k + n) c.program_first-first.ensures.is) c.text_sector.ensures c.loop-n.invariant
    c.write.ensures.trace) (λ w. record { writes = w.writes; parts = w.parts }))

pub loop-n-preserved : goal.loop-n-preserved
loop-n-preserved g c =
    let n = c.loop-n.n in
    let lt : n < program_size c.args.area = omega (arith, c.loop-n-test.true, c.div_ceil-n-end.ensures, c.requires.short) in
    more n (c.program_first-first.result + n) (program_first c.args.area) (program_size c.args.area)
    (λ j part. HoldsText c.args.text.now (sector_size * j) part) c.text_sector.result _ _ _ lt
    (ap (λ (k : ℕ). k + n) c.program_first-first.ensures.is) c.text_sector.ensures c.loop-n.invariant
    c.in_ok-write.ensures.trace c.in_ok-write.ensures.call

pub program_first-first-requires : goal.program_first-first-requires
program_first-first-requires g c = omega arith

pub div_ceil-n-end-requires : goal.div_ceil-n-end-requires
div_ceil-n-end-requires g c = omega arith

pub loop-n-init : goal.loop-n-init
loop-n-init g c = grind arith

pub overflow_add-first : goal.overflow_add-first
overflow_add-first g c = omega arith

pub overflow_mul-n : goal.overflow_mul-n
overflow_mul-n g c = omega arith

pub text_sector-requires-clause-within : goal.text_sector-requires-clause-within
text_sector-requires-clause-within g c = omega arith

pub text_sector-requires-clause-small : goal.text_sector-requires-clause-small
text_sector-requires-clause-small g c = grind arith

pub write-requires : goal.write-requires
write-requires g c = omega arith

pub branch-write-requires : goal.branch-write-requires
branch-write-requires g c κs = search rules

pub from_residual-requires : goal.from_residual-requires
from_residual-requires g c κs = search rules

pub returns-in_err-write-clause-call : goal.returns-in_err-write-clause-call
returns-in_err-write-clause-call g c = grind arith

pub loop-n-smaller : goal.loop-n-smaller
loop-n-smaller g c = omega arith

pub returns-clause-text : goal.returns-clause-text
returns-clause-text g c = grind arith

pub returns-clause-call : goal.returns-clause-call
returns-clause-call g c = omega arith
