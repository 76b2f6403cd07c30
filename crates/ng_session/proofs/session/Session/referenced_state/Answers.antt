use Rattle.std.proofs.Common.{arith}
use Rattle.ng_session.proofs.session.Session.referenced_state.Goals as goal

pub overflow_add-entries : goal.overflow_add-entries
overflow_add-entries g c = grind arith

pub copy-requires : goal.copy-requires
copy-requires g c = omega arith

pub returns-in-Some-clause-value : goal.returns-in-Some-clause-value
returns-in-Some-clause-value g c = grind arith

pub returns-in-Some-clause-count : goal.returns-in-Some-clause-count
returns-in-Some-clause-count g c = grind arith

pub returns-in-Some-clause-storable : goal.returns-in-Some-clause-storable
returns-in-Some-clause-storable g c = grind arith

pub returns-in-None-clause-value : goal.returns-in-None-clause-value
returns-in-None-clause-value g c = grind arith

pub returns-in-None-clause-count : goal.returns-in-None-clause-count
returns-in-None-clause-count g c = grind arith

pub returns-in-None-clause-storable : goal.returns-in-None-clause-storable
returns-in-None-clause-storable g c = grind arith
