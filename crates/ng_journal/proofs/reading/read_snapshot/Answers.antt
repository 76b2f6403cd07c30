use Rattle.std.proofs.Common.{◌≡◌, ◌∙◌, ap, true, false, arith, rules}
use Rattle.ng_rig.proofs.GuaranteeLemmas.{onto, meaning}
use Rattle.ng_rig.specs.Trace.{reads}
use Rattle.ng_layout.specs.Areas.{snapshot_first}
use Rattle.ng_journal.specs.Private.SnapshotRead.{IsTableOf}
use Rattle.ng_journal.proofs.SnapshotReadLemmas.{no_state, no_table, no_tools, whole_snapshot, table_as, tools_as, snapshot_as}
use Rattle.ng_journal.proofs.reading.read_snapshot.Goals as goal

pub returns-in-None-clause-read : goal.returns-in-None-clause-read
returns-in-None-clause-read g c =
    let old = (g.R.Rig.seen c.args.rig.now).trace in
    meaning c.in_ok-bytes.ensures.read (λ p. record {
      same = p.same;
      right = no_state c.args.header (reads old) c.in_ok-bytes.bytes c.decoded_state_of_snapshot.result
          (p.right ∙ ap (reads old) c.snapshot_first-first.ensures.is) c.decoded_state_of_snapshot.ensures.value
          c.args.stored.now c.in-None.is;
    })

pub returns-then-not-is_whole-clause-read : goal.returns-then-not-is_whole-clause-read
returns-then-not-is_whole-clause-read g c =
    let old = (g.R.Rig.seen c.args.rig.now).trace in
    onto _ c.in_ok-bytes.ensures.read c.in_ok-is_whole-in-Some.ensures.read (λ p q. record {
      same = q.same ∙ p.same;
      right = no_table c.args.header (reads old) c.in_ok-bytes.bytes c.decoded_state_of_snapshot.result
          (p.right ∙ ap (reads old) c.snapshot_first-first.ensures.is) c.decoded_state_of_snapshot.ensures.value
          c.in-Some.decoded c.in-Some.is c.read_table.new.table c.args.stored.now
          (table_as c.snapshot_first-first.result _ c.read_table.new.table old _ c.in_ok-is_whole-in-Some.is_whole
          false c.snapshot_first-first.ensures.is p.same c.if-not-is_whole.true q.right);
    })

pub returns-then-has_tools-clause-read : goal.returns-then-has_tools-clause-read
returns-then-has_tools-clause-read g c =
    let old = (g.R.Rig.seen c.args.rig.now).trace in
    let Both = ((g.R.Rig.seen c.read_table.new.rig).trace ≡ old)
    × (c.in_ok-bytes.bytes ≡ reads old c.snapshot_first-first.result)
    × IsTableOf (snapshot_first c.args.header.epoch) c.read_table.new.table (reads old) true in
    onto _ (onto Both c.in_ok-bytes.ensures.read c.in_ok-is_whole-in-Some.ensures.read
    (λ p q. (
      q.same ∙ p.same,
      p.right,
      table_as c.snapshot_first-first.result _ c.read_table.new.table old _
          c.in_ok-is_whole-in-Some.is_whole true c.snapshot_first-first.ensures.is p.same c.if-not-is_whole.false
          q.right,
    ))) c.in_ok-has_tools-in-Some.ensures.read (λ p q. record {
      same = q.same ∙ p.0;
      right = snapshot_as c.args.header c.take_decoded_state.new.self (reads old) c.in_ok-has_tools-in-Some.has_tools true c.if-has_tools.true
          (whole_snapshot c.args.header (reads old) c.in_ok-bytes.bytes c.decoded_state_of_snapshot.result
          (p.1 ∙ ap (reads old) c.snapshot_first-first.ensures.is) c.decoded_state_of_snapshot.ensures.value
          c.in-Some.decoded c.in-Some.is c.read_table.new.table c.read_tools.new.tools p.2
          c.take_decoded_state.new.self _ (tools_as c.args.header c.in_ok-bytes.bytes c.read_tools.new.tools old
          _ c.in_ok-has_tools-in-Some.has_tools true p.0 c.if-has_tools.true q.right)
          c.take_decoded_state.ensures);
    })

pub returns-else-has_tools-clause-read : goal.returns-else-has_tools-clause-read
returns-else-has_tools-clause-read g c =
    let old = (g.R.Rig.seen c.args.rig.now).trace in
    let Both = ((g.R.Rig.seen c.read_table.new.rig).trace ≡ old)
    × (c.in_ok-bytes.bytes ≡ reads old c.snapshot_first-first.result)
    × IsTableOf (snapshot_first c.args.header.epoch) c.read_table.new.table (reads old) true in
    onto _ (onto Both c.in_ok-bytes.ensures.read c.in_ok-is_whole-in-Some.ensures.read
    (λ p q. (
      q.same ∙ p.same,
      p.right,
      table_as c.snapshot_first-first.result _ c.read_table.new.table old _
          c.in_ok-is_whole-in-Some.is_whole true c.snapshot_first-first.ensures.is p.same c.if-not-is_whole.false
          q.right,
    ))) c.in_ok-has_tools-in-Some.ensures.read (λ p q. record {
      same = q.same ∙ p.0;
      right = snapshot_as c.args.header
          (record { entries = _; setup = _; tools = _; place = _; length = _; program_limit = 0; half = _ }) (reads old)
          c.in_ok-has_tools-in-Some.has_tools false c.if-has_tools.false
          (no_tools c.args.header (reads old) c.in_ok-bytes.bytes c.decoded_state_of_snapshot.result
          (p.1 ∙ ap (reads old) c.snapshot_first-first.ensures.is) c.decoded_state_of_snapshot.ensures.value
          c.in-Some.decoded c.in-Some.is c.read_table.new.table c.read_tools.new.tools p.2 c.args.stored.now
          (tools_as c.args.header c.in_ok-bytes.bytes c.read_tools.new.tools old _
          c.in_ok-has_tools-in-Some.has_tools false p.0 c.if-has_tools.false q.right));
    })

pub snapshot_first-first-requires : goal.snapshot_first-first-requires
snapshot_first-first-requires g c = omega arith

pub read_sector-requires : goal.read_sector-requires
read_sector-requires g c = omega arith

pub branch-bytes-requires : goal.branch-bytes-requires
branch-bytes-requires g c κs = search rules

pub from_residual-requires : goal.from_residual-requires
from_residual-requires g c κs = search rules

pub returns-in_err-bytes-clause-read : goal.returns-in_err-bytes-clause-read
returns-in_err-bytes-clause-read g c = grind arith

pub returns-in_err-bytes-clause-none : goal.returns-in_err-bytes-clause-none
returns-in_err-bytes-clause-none g c = grind arith

pub returns-in_err-bytes-clause-storable : goal.returns-in_err-bytes-clause-storable
returns-in_err-bytes-clause-storable g c = grind arith

pub returns-in_err-bytes-clause-count : goal.returns-in_err-bytes-clause-count
returns-in_err-bytes-clause-count g c = grind arith

pub returns-in_err-bytes-clause-long : goal.returns-in_err-bytes-clause-long
returns-in_err-bytes-clause-long g c = grind arith

pub returns-in_err-bytes-clause-program_limit : goal.returns-in_err-bytes-clause-program_limit
returns-in_err-bytes-clause-program_limit g c = omega arith

pub returns-in_err-bytes-clause-call : goal.returns-in_err-bytes-clause-call
returns-in_err-bytes-clause-call g c = grind arith

pub decoded_state_of_snapshot-requires : goal.decoded_state_of_snapshot-requires
decoded_state_of_snapshot-requires g c = omega arith

pub read_table-requires-clause-sectors : goal.read_table-requires-clause-sectors
read_table-requires-clause-sectors g c = omega arith

pub read_table-requires-clause-within : goal.read_table-requires-clause-within
read_table-requires-clause-within g c = omega arith

pub read_table-requires-clause-long : goal.read_table-requires-clause-long
read_table-requires-clause-long g c = grind arith

pub branch-is_whole-requires : goal.branch-is_whole-requires
branch-is_whole-requires g c κs = search rules

pub invariant_of-stored-inside : goal.invariant_of-stored-inside
invariant_of-stored-inside g c = omega arith

pub returns-in_err-is_whole-in-Some-clause-read : goal.returns-in_err-is_whole-in-Some-clause-read
returns-in_err-is_whole-in-Some-clause-read g c = grind arith

pub returns-in_err-is_whole-in-Some-clause-none : goal.returns-in_err-is_whole-in-Some-clause-none
returns-in_err-is_whole-in-Some-clause-none g c = grind arith

pub returns-in_err-is_whole-in-Some-clause-long : goal.returns-in_err-is_whole-in-Some-clause-long
returns-in_err-is_whole-in-Some-clause-long g c = grind arith

pub returns-in_err-is_whole-in-Some-clause-call : goal.returns-in_err-is_whole-in-Some-clause-call
returns-in_err-is_whole-in-Some-clause-call g c = grind arith

pub returns-then-not-is_whole-clause-none : goal.returns-then-not-is_whole-clause-none
returns-then-not-is_whole-clause-none g c = omega arith

pub returns-then-not-is_whole-clause-storable : goal.returns-then-not-is_whole-clause-storable
returns-then-not-is_whole-clause-storable g c = omega arith

pub returns-then-not-is_whole-clause-count : goal.returns-then-not-is_whole-clause-count
returns-then-not-is_whole-clause-count g c = omega arith

pub returns-then-not-is_whole-clause-long : goal.returns-then-not-is_whole-clause-long
returns-then-not-is_whole-clause-long g c = omega arith

pub returns-then-not-is_whole-clause-call : goal.returns-then-not-is_whole-clause-call
returns-then-not-is_whole-clause-call g c = grind arith

pub read_tools-requires-clause-least : goal.read_tools-requires-clause-least
read_tools-requires-clause-least g c = omega arith

pub read_tools-requires-clause-none : goal.read_tools-requires-clause-none
read_tools-requires-clause-none g c = grind arith

pub invariant_of-stored-inside-in-Some : goal.invariant_of-stored-inside-in-Some
invariant_of-stored-inside-in-Some g c = omega arith

pub branch-has_tools-requires : goal.branch-has_tools-requires
branch-has_tools-requires g c κs = search rules

pub take_decoded_state-requires : goal.take_decoded_state-requires
take_decoded_state-requires g c κs = grind arith

pub returns-in-None-clause-none : goal.returns-in-None-clause-none
returns-in-None-clause-none g c = omega arith

pub returns-in-None-clause-storable : goal.returns-in-None-clause-storable
returns-in-None-clause-storable g c = omega arith

pub returns-in-None-clause-count : goal.returns-in-None-clause-count
returns-in-None-clause-count g c = omega arith

pub returns-in-None-clause-long : goal.returns-in-None-clause-long
returns-in-None-clause-long g c = omega arith

pub returns-in-None-clause-program_limit : goal.returns-in-None-clause-program_limit
returns-in-None-clause-program_limit g c = omega arith

pub returns-in-None-clause-call : goal.returns-in-None-clause-call
returns-in-None-clause-call g c = grind arith

pub returns-then-has_tools-clause-none : goal.returns-then-has_tools-clause-none
returns-then-has_tools-clause-none g c = grind arith

pub returns-then-has_tools-clause-storable : goal.returns-then-has_tools-clause-storable
returns-then-has_tools-clause-storable g c = grind arith

pub returns-then-has_tools-clause-count : goal.returns-then-has_tools-clause-count
returns-then-has_tools-clause-count g c = grind arith

pub returns-then-has_tools-clause-long : goal.returns-then-has_tools-clause-long
returns-then-has_tools-clause-long g c = grind arith

pub returns-then-has_tools-clause-program_limit : goal.returns-then-has_tools-clause-program_limit
returns-then-has_tools-clause-program_limit g c = grind arith

pub returns-then-has_tools-clause-call : goal.returns-then-has_tools-clause-call
returns-then-has_tools-clause-call g c = grind arith

pub returns-else-has_tools-clause-none : goal.returns-else-has_tools-clause-none
returns-else-has_tools-clause-none g c = grind arith

pub returns-else-has_tools-clause-storable : goal.returns-else-has_tools-clause-storable
returns-else-has_tools-clause-storable g c = grind arith

pub returns-else-has_tools-clause-count : goal.returns-else-has_tools-clause-count
returns-else-has_tools-clause-count g c = grind arith

pub returns-else-has_tools-clause-long : goal.returns-else-has_tools-clause-long
returns-else-has_tools-clause-long g c = grind arith

pub returns-else-has_tools-clause-program_limit : goal.returns-else-has_tools-clause-program_limit
returns-else-has_tools-clause-program_limit g c = grind arith

pub returns-else-has_tools-clause-call : goal.returns-else-has_tools-clause-call
returns-else-has_tools-clause-call g c = grind arith
