use Rattle.std.proofs.Common.{arith, rules}
use Rattle.ng_journal.proofs.reading.read_header.Goals as goal

pub read_sector-requires : goal.read_sector-requires
read_sector-requires g c = omega arith

pub branch-bytes-requires : goal.branch-bytes-requires
branch-bytes-requires g c κs = search rules

pub from_residual-requires : goal.from_residual-requires
from_residual-requires g c κs = search rules

pub returns-in_err-bytes-clause-read : goal.returns-in_err-bytes-clause-read
returns-in_err-bytes-clause-read g c = grind arith

pub returns-in_err-bytes-clause-valid : goal.returns-in_err-bytes-clause-valid
returns-in_err-bytes-clause-valid g c = grind arith

pub returns-in_err-bytes-clause-call : goal.returns-in_err-bytes-clause-call
returns-in_err-bytes-clause-call g c = grind arith

pub read-requires : goal.read-requires
read-requires g c = omega arith

pub returns-clause-read : goal.returns-clause-read
returns-clause-read g c = grind arith

pub returns-clause-valid : goal.returns-clause-valid
returns-clause-valid g c = grind arith

pub returns-clause-call : goal.returns-clause-call
returns-clause-call g c = grind arith
