use Rattle.std.proofs.Common.{◌∙◌, refl, arith, rules}
use Rattle.ng_rig.proofs.GuaranteeLemmas.{promised, onto}
use Rattle.ng_rig.specs.Trace.{reads}
use Rattle.ng_journal.proofs.SnapshotReadLemmas.{no_table_in_one, table_in_two}
use Rattle.ng_journal.proofs.reading.read_tools.Goals as goal

pub returns-in-One-clause-read : goal.returns-in-One-clause-read
returns-in-One-clause-read g c =
    promised (record {
      same = refl;
      right = no_table_in_one c.args.header c.args.first.now c.args.tools.now
          (reads (g.R.Rig.seen c.args.rig.now).trace) c.in-One.is c.requires.none;
    })

pub returns-in_ok-upper-in-Two-clause-read : goal.returns-in_ok-upper-in-Two-clause-read
returns-in_ok-upper-in-Two-clause-read g c =
    onto _ c.in_ok-lower-in-Two.ensures.read c.in_ok-upper-in-Two.ensures.read (λ p q. record {
      same = q.same ∙ p.same;
      right = table_in_two c.args.header c.args.first.now c.in_ok-lower-in-Two.lower c.in_ok-upper-in-Two.upper
          c.take_area.new.tools (g.R.Rig.seen c.args.rig.now).trace _ c.tools_first-area.result c.take_area.result
          c.in-Two.is c.tools_first-area.ensures.is p.same p.right q.right c.take_area.ensures.takes;
    })

pub tools_first-area-requires : goal.tools_first-area-requires
tools_first-area-requires g c = omega arith

pub read_sector-requires : goal.read_sector-requires
read_sector-requires g c = omega arith

pub branch-lower-requires : goal.branch-lower-requires
branch-lower-requires g c κs = search rules

pub from_residual-requires : goal.from_residual-requires
from_residual-requires g c κs = search rules

pub returns-in_err-lower-in-Two-clause-read : goal.returns-in_err-lower-in-Two-clause-read
returns-in_err-lower-in-Two-clause-read g c = grind arith

pub returns-in_err-lower-in-Two-clause-storable : goal.returns-in_err-lower-in-Two-clause-storable
returns-in_err-lower-in-Two-clause-storable g c = grind arith

pub returns-in_err-lower-in-Two-clause-none : goal.returns-in_err-lower-in-Two-clause-none
returns-in_err-lower-in-Two-clause-none g c = grind arith

pub returns-in_err-lower-in-Two-clause-call : goal.returns-in_err-lower-in-Two-clause-call
returns-in_err-lower-in-Two-clause-call g c = grind arith

pub overflow_add-area : goal.overflow_add-area
overflow_add-area g c = omega arith

pub read_sector-requires-in-Two : goal.read_sector-requires-in-Two
read_sector-requires-in-Two g c = omega arith

pub branch-upper-requires : goal.branch-upper-requires
branch-upper-requires g c κs = search rules

pub from_residual-requires-in_err-upper-in-Two : goal.from_residual-requires-in_err-upper-in-Two
from_residual-requires-in_err-upper-in-Two g c κs = search rules

pub returns-in_err-upper-in-Two-clause-read : goal.returns-in_err-upper-in-Two-clause-read
returns-in_err-upper-in-Two-clause-read g c = grind arith

pub returns-in_err-upper-in-Two-clause-storable : goal.returns-in_err-upper-in-Two-clause-storable
returns-in_err-upper-in-Two-clause-storable g c = grind arith

pub returns-in_err-upper-in-Two-clause-none : goal.returns-in_err-upper-in-Two-clause-none
returns-in_err-upper-in-Two-clause-none g c = grind arith

pub returns-in_err-upper-in-Two-clause-call : goal.returns-in_err-upper-in-Two-clause-call
returns-in_err-upper-in-Two-clause-call g c = grind arith

pub take_area-requires : goal.take_area-requires
take_area-requires g c = grind arith

pub returns-in-One-clause-storable : goal.returns-in-One-clause-storable
returns-in-One-clause-storable g c = grind arith

pub returns-in-One-clause-none : goal.returns-in-One-clause-none
returns-in-One-clause-none g c = grind arith

pub returns-in-One-clause-call : goal.returns-in-One-clause-call
returns-in-One-clause-call g c = omega arith

pub returns-in_ok-upper-in-Two-clause-storable : goal.returns-in_ok-upper-in-Two-clause-storable
returns-in_ok-upper-in-Two-clause-storable g c = grind arith

pub returns-in_ok-upper-in-Two-clause-none : goal.returns-in_ok-upper-in-Two-clause-none
returns-in_ok-upper-in-Two-clause-none g c = grind arith

pub returns-in_ok-upper-in-Two-clause-call : goal.returns-in_ok-upper-in-Two-clause-call
returns-in_ok-upper-in-Two-clause-call g c = grind arith
