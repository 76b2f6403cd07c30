use Rattle.std.proofs.Common.{◌∙◌, length, sym, ap, arith}
use Rattle.ng_log.proofs.DifferencePieceLemmas.{all-left}
use Rattle.ng_log.proofs.record_changes.RecordChanges.between.Goals as goal

pub invariant_of-result : goal.invariant_of-result
invariant_of-result g c = (c.difference_count.ensures.count ∙ ap length (sym (all-left c.args.old.now c.args.new.now)), omega arith)

pub returns-clause-changes : goal.returns-clause-changes
returns-clause-changes g c = all-left c.args.old.now c.args.new.now

pub returns-clause-few : goal.returns-clause-few
returns-clause-few g c =
    let count = c.difference_count.ensures in
    omega (arith, count.count, count.few, ap length (all-left c.args.old.now c.args.new.now))
