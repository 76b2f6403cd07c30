use Rattle.std.proofs.Common.{◌∙◌, arith, rules}
use Rattle.ng_rig.proofs.GuaranteeLemmas.{onto, meaning}
use Rattle.ng_journal.proofs.TableReadLemmas.{pass, damaged, whole}
use Rattle.ng_journal.proofs.reading.read_table.Goals as goal

pub returns-then-not-take_values-clause-read : goal.returns-then-not-take_values-clause-read
returns-then-not-take_values-clause-read g c =
    onto _ c.loop-n.invariant.read c.in_ok-sector.ensures.read (λ p q.
    let d = damaged c.args.first c.loop-n.n _ _ _ _ c.take_values.new.table _ c.loop-n-test.true p (q.same, q.right) c.if-not-take_values.ensures.beyond in
    record { same = d.0; right = d.1 })

pub loop-n-preserved : goal.loop-n-preserved
loop-n-preserved g c = record {
  read = onto _ c.loop-n.invariant.read c.in_ok-sector.ensures.read
      (λ p q. pass c.args.first c.loop-n.n _ _ _ _ _ _ c.loop-n-test.true p (q.same, q.right)
      c.if-not-take_values.ensures.taken);
  long = (let t = c.if-not-take_values.ensures.taken in t.long ∙ c.loop-n.invariant.long);
  size = c.in_ok-sector.ensures.call.size ∙ c.loop-n.invariant.size;
  failures = c.in_ok-sector.ensures.call.failures ∙ c.loop-n.invariant.failures;
}

pub returns-clause-read : goal.returns-clause-read
returns-clause-read g c =
    meaning c.loop-n.invariant.read (λ p. let w = whole c.args.first c.loop-n.n _ _ _ (omega arith) p in record
    { same = w.0; right = w.1 })

pub loop-n-init : goal.loop-n-init
loop-n-init g c = grind arith

pub overflow_add-first : goal.overflow_add-first
overflow_add-first g c = omega arith

pub overflow_add-first-in-loop-n : goal.overflow_add-first-in-loop-n
overflow_add-first-in-loop-n g c = omega arith

pub read_sector-requires : goal.read_sector-requires
read_sector-requires g c = omega arith

pub branch-sector-requires : goal.branch-sector-requires
branch-sector-requires g c κs = search rules

pub from_residual-requires : goal.from_residual-requires
from_residual-requires g c κs = search rules

pub returns-in_err-sector-clause-read : goal.returns-in_err-sector-clause-read
returns-in_err-sector-clause-read g c = grind arith

pub returns-in_err-sector-clause-long : goal.returns-in_err-sector-clause-long
returns-in_err-sector-clause-long g c = grind arith

pub returns-in_err-sector-clause-call : goal.returns-in_err-sector-clause-call
returns-in_err-sector-clause-call g c = grind arith

pub overflow_mul-n : goal.overflow_mul-n
overflow_mul-n g c = omega arith

pub take_values-requires : goal.take_values-requires
take_values-requires g c = omega arith

pub returns-then-not-take_values-clause-long : goal.returns-then-not-take_values-clause-long
returns-then-not-take_values-clause-long g c = omega arith

pub returns-then-not-take_values-clause-call : goal.returns-then-not-take_values-clause-call
returns-then-not-take_values-clause-call g c = grind arith

pub loop-n-smaller : goal.loop-n-smaller
loop-n-smaller g c = omega arith

pub returns-clause-long : goal.returns-clause-long
returns-clause-long g c = omega arith

pub returns-clause-call : goal.returns-clause-call
returns-clause-call g c = omega arith
