use Rattle.std.proofs.Common.{arith}
use Rattle.ng_journal.proofs.reading.decoded_state_of_snapshot.Goals as goal

pub decode-requires : goal.decode-requires
decode-requires c = omega arith

pub returns-clause-value : goal.returns-clause-value
returns-clause-value c = grind arith

pub returns-clause-sound : goal.returns-clause-sound
returns-clause-sound c = grind arith
