use Rattle.std.proofs.Common.{refl, arith, rules}
use Rattle.std.proofs.lemmas.Result.{err_from_is_err_and}
use Rattle.ng_rig.proofs.GuaranteeLemmas.{meaning}
use Rattle.ng_journal.proofs.ProgramLimitLemmas.{with_limit, record_limited, append_limited}
use Rattle.ng_journal.proofs.RecordStoreLemmas.{appended, not_appended, recorded, not_recorded}
use Rattle.ng_journal.proofs.storing.append_to.Goals as goal

pub returns-in_err-end-clause-appends : goal.returns-in_err-end-clause-appends
returns-in_err-end-clause-appends g c =
    let p = err_from_is_err_and c.from_residual.result c.from_residual.ensures.1 in
    let r = c.requires in
    let tip = c.args.tip in
    let stored = c.args.stored.now in
    rw p.1 (meaning c.append.ensures.writes (λ w was leads. record {
      stops = λ before at is. not_appended p.0 c.append.result tip.header before (with_limit was.program_limit stored) _ _
          (append_limited c.append.result tip.header tip.end c.args.changes c.args.slot before was stored _ _ at is leads
          r.stands.storable r.room r.tip.long r.tip.format c.append.ensures.end w);
      writes = not_recorded p.0 c.append.result tip was (with_limit was.program_limit stored) c.args.changes c.args.slot _ _
          leads.changes_are leads.slot_is
          (record_limited was.program_limit tip.header.epoch tip.end stored c.args.changes c.args.slot c.append.result _ _ w);
    }))

pub returns-clause-appends : goal.returns-clause-appends
returns-clause-appends g c =
    let r = c.requires in
    let tip = c.args.tip in
    let stored = c.args.stored.now in
    meaning c.in_ok-end.ensures.writes (λ w was leads. record {
      stops = λ before at is. appended tip _ c.in_ok-end.end before (with_limit was.program_limit stored) _ _ refl
          (append_limited _ tip.header tip.end c.args.changes c.args.slot before was stored _ _ at is leads
          r.stands.storable r.room r.tip.long r.tip.format c.in_ok-end.ensures.end w);
      writes = recorded _ c.in_ok-end.end tip was (with_limit was.program_limit stored) c.args.changes c.args.slot _ _
          leads.changes_are leads.slot_is
          (record_limited was.program_limit tip.header.epoch tip.end stored c.args.changes c.args.slot _ _ _ w);
    })

pub append-requires-clause-sectors : goal.append-requires-clause-sectors
append-requires-clause-sectors g c = omega arith

pub append-requires-clause-few : goal.append-requires-clause-few
append-requires-clause-few g c = omega arith

pub append-requires-clause-room : goal.append-requires-clause-room
append-requires-clause-room g c = omega arith

pub append-requires-clause-number : goal.append-requires-clause-number
append-requires-clause-number g c = omega arith

pub append-requires-clause-entries : goal.append-requires-clause-entries
append-requires-clause-entries g c = omega arith

pub append-requires-clause-storable : goal.append-requires-clause-storable
append-requires-clause-storable g c = grind arith

pub append-requires-clause-long : goal.append-requires-clause-long
append-requires-clause-long g c = omega arith

pub append-requires-clause-format : goal.append-requires-clause-format
append-requires-clause-format g c = grind arith

pub branch-end-requires : goal.branch-end-requires
branch-end-requires g c κs = search rules

pub from_residual-requires : goal.from_residual-requires
from_residual-requires g c κs = search rules

pub returns-in_err-end-clause-end : goal.returns-in_err-end-clause-end
returns-in_err-end-clause-end g c = grind arith

pub returns-in_err-end-clause-tip : goal.returns-in_err-end-clause-tip
returns-in_err-end-clause-tip g c = grind arith

pub returns-in_err-end-clause-call : goal.returns-in_err-end-clause-call
returns-in_err-end-clause-call g c = grind arith

pub returns-clause-end : goal.returns-clause-end
returns-clause-end g c = grind arith

pub returns-clause-tip : goal.returns-clause-tip
returns-clause-tip g c = grind arith

pub returns-clause-call : goal.returns-clause-call
returns-clause-call g c = grind arith
