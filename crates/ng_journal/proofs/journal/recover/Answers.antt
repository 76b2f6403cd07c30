use Rattle.std.proofs.Common.{arith, rules}
use Rattle.ng_rig.proofs.GuaranteeLemmas.{promised, meaning}
use Rattle.ng_journal.proofs.RecoverLemmas.{recovered_all, recovered_nothing, recovered_failed, recovered_refused}
use Rattle.ng_journal.proofs.journal.recover.Goals as goal

pub returns-in-Ok-Ok-clause-recovers : goal.returns-in-Ok-Ok-clause-recovers
returns-in-Ok-Ok-clause-recovers g c = λ least table over.
    let restores = rw c.in-Ok-Ok.field-0-is at c.in-Ok-Ok.ensures.restores in
    meaning restores (λ r. recovered_all table _ c.in-Ok-Ok.header c.restore.new.stored _ _ c.beginning.ensures c.take_over.ensures (r table over))

pub returns-in-Err-clause-recovers : goal.returns-in-Err-clause-recovers
returns-in-Err-clause-recovers g c = λ least table over. promised (recovered_nothing table c.args.rig (g.R.Rig.seen c.args.rig).trace)

pub returns-in-Err-restore-clause-recovers : goal.returns-in-Err-restore-clause-recovers
returns-in-Err-restore-clause-recovers g c = λ least table over.
    meaning c.in-Err-restore.ensures.restores (λ r. recovered_failed table _ c.in-Err-restore.field-0 c.restore.new.stored _ _ (r table over))

pub returns-in-Ok-Err-clause-recovers : goal.returns-in-Ok-Err-clause-recovers
returns-in-Ok-Err-clause-recovers g c = λ least table over.
    let restores = rw c.in-Ok-Err.field-0-is at c.in-Ok-Err.ensures.restores in
    let faults = rw c.in-Ok-Err.field-0-is at c.in-Ok-Err.ensures.faults in
    meaning restores (λ r. recovered_refused table _ c.in-Ok-Err.fault c.restore.new.stored _ _ faults (r table over))

pub size-requires : goal.size-requires
size-requires g c κs = grind arith

pub returns-then-size-lt-LEAST_SIZE-clause-end : goal.returns-then-size-lt-LEAST_SIZE-clause-end
returns-then-size-lt-LEAST_SIZE-clause-end g c = omega arith

pub returns-then-size-lt-LEAST_SIZE-clause-size : goal.returns-then-size-lt-LEAST_SIZE-clause-size
returns-then-size-lt-LEAST_SIZE-clause-size g c = omega arith

pub size-large-requires : goal.size-large-requires
size-large-requires g c κs = grind arith

pub program_limit_of-requires : goal.program_limit_of-requires
program_limit_of-requires g c = omega arith

pub two_fresh-requires : goal.two_fresh-requires
two_fresh-requires g c κs = grind arith

pub returns-in-Err-clause-journal : goal.returns-in-Err-clause-journal
returns-in-Err-clause-journal g c = omega arith

pub returns-in-Err-clause-end : goal.returns-in-Err-clause-end
returns-in-Err-clause-end g c = omega arith

pub returns-in-Err-clause-small : goal.returns-in-Err-clause-small
returns-in-Err-clause-small g c = grind arith

pub returns-in-Err-clause-faults : goal.returns-in-Err-clause-faults
returns-in-Err-clause-faults g c = grind arith

pub returns-in-Err-clause-memory : goal.returns-in-Err-clause-memory
returns-in-Err-clause-memory g c = grind arith

pub returns-in-Err-clause-size : goal.returns-in-Err-clause-size
returns-in-Err-clause-size g c = omega arith

pub returns-in-Err-clause-failures : goal.returns-in-Err-clause-failures
returns-in-Err-clause-failures g c = omega arith

pub slots-requires : goal.slots-requires
slots-requires g c = omega arith

pub restore-requires-clause-least : goal.restore-requires-clause-least
restore-requires-clause-least g c = omega arith

pub restore-requires-clause-long : goal.restore-requires-clause-long
restore-requires-clause-long g c = grind arith

pub restore-requires-clause-none : goal.restore-requires-clause-none
restore-requires-clause-none g c = grind arith

pub restore-requires-clause-tools : goal.restore-requires-clause-tools
restore-requires-clause-tools g c = omega arith

pub restore-requires-clause-large : goal.restore-requires-clause-large
restore-requires-clause-large g c = search rules

pub restore-requires-clause-program_limit : goal.restore-requires-clause-program_limit
restore-requires-clause-program_limit g c = grind arith

pub drop-copy-inside-requires : goal.drop-copy-inside-requires
drop-copy-inside-requires g c κs = search rules

pub drop-stored-inside-requires : goal.drop-stored-inside-requires
drop-stored-inside-requires g c κs = search rules

pub drop-copy-inside-requires-in-Err-this : goal.drop-copy-inside-requires-in-Err-this
drop-copy-inside-requires-in-Err-this g c κs = search rules

pub drop-stored-inside-requires-in-Err-this : goal.drop-stored-inside-requires-in-Err-this
drop-stored-inside-requires-in-Err-this g c κs = search rules

pub take_over-requires-clause-own : goal.take_over-requires-clause-own
take_over-requires-clause-own g c = grind arith

pub take_over-requires-clause-other : goal.take_over-requires-clause-other
take_over-requires-clause-other g c = grind arith

pub beginning-requires : goal.beginning-requires
beginning-requires g c = omega arith

pub invariant_of-journal : goal.invariant_of-journal
invariant_of-journal g c = grind arith

pub returns-in-Err-restore-clause-journal : goal.returns-in-Err-restore-clause-journal
returns-in-Err-restore-clause-journal g c = omega arith

pub returns-in-Err-restore-clause-end : goal.returns-in-Err-restore-clause-end
returns-in-Err-restore-clause-end g c = omega arith

pub returns-in-Err-restore-clause-small : goal.returns-in-Err-restore-clause-small
returns-in-Err-restore-clause-small g c = grind arith

pub returns-in-Err-restore-clause-faults : goal.returns-in-Err-restore-clause-faults
returns-in-Err-restore-clause-faults g c = grind arith

pub returns-in-Err-restore-clause-memory : goal.returns-in-Err-restore-clause-memory
returns-in-Err-restore-clause-memory g c = grind arith

pub returns-in-Err-restore-clause-size : goal.returns-in-Err-restore-clause-size
returns-in-Err-restore-clause-size g c = omega arith

pub returns-in-Err-restore-clause-failures : goal.returns-in-Err-restore-clause-failures
returns-in-Err-restore-clause-failures g c = grind arith

pub returns-in-Ok-Err-clause-journal : goal.returns-in-Ok-Err-clause-journal
returns-in-Ok-Err-clause-journal g c = omega arith

pub returns-in-Ok-Err-clause-end : goal.returns-in-Ok-Err-clause-end
returns-in-Ok-Err-clause-end g c = omega arith

pub returns-in-Ok-Err-clause-small : goal.returns-in-Ok-Err-clause-small
returns-in-Ok-Err-clause-small g c = grind arith

pub returns-in-Ok-Err-clause-faults : goal.returns-in-Ok-Err-clause-faults
returns-in-Ok-Err-clause-faults g c = grind arith

pub returns-in-Ok-Err-clause-memory : goal.returns-in-Ok-Err-clause-memory
returns-in-Ok-Err-clause-memory g c = grind arith

pub returns-in-Ok-Err-clause-size : goal.returns-in-Ok-Err-clause-size
returns-in-Ok-Err-clause-size g c = omega arith

pub returns-in-Ok-Err-clause-failures : goal.returns-in-Ok-Err-clause-failures
returns-in-Ok-Err-clause-failures g c = grind arith

pub returns-in-Ok-Ok-clause-journal : goal.returns-in-Ok-Ok-clause-journal
returns-in-Ok-Ok-clause-journal g c = grind arith

pub returns-in-Ok-Ok-clause-end : goal.returns-in-Ok-Ok-clause-end
returns-in-Ok-Ok-clause-end g c = grind arith

pub returns-in-Ok-Ok-clause-small : goal.returns-in-Ok-Ok-clause-small
returns-in-Ok-Ok-clause-small g c = omega arith

pub returns-in-Ok-Ok-clause-faults : goal.returns-in-Ok-Ok-clause-faults
returns-in-Ok-Ok-clause-faults g c = omega arith

pub returns-in-Ok-Ok-clause-memory : goal.returns-in-Ok-Ok-clause-memory
returns-in-Ok-Ok-clause-memory g c = omega arith

pub returns-in-Ok-Ok-clause-size : goal.returns-in-Ok-Ok-clause-size
returns-in-Ok-Ok-clause-size g c = omega arith

pub returns-in-Ok-Ok-clause-failures : goal.returns-in-Ok-Ok-clause-failures
returns-in-Ok-Ok-clause-failures g c = grind arith
