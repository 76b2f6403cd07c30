use Rattle.std.proofs.Common.{◌≡◌, ◌≤◌, ◌∙◌, ℕ, length, ap, subst, arith, rules}
use Rattle.std.proofs.lemmas.Result.{err_from_is_err_and}
use Rattle.ng_rig.proofs.GuaranteeLemmas.{onto, meaning}
use Rattle.ng_journal.specs.Private.Records.{IsRoom, ledger}
use Rattle.ng_journal.specs.Storing.{changes_to}
use Rattle.ng_journal.proofs.ProgramLimitLemmas.{with_limit}
use Rattle.ng_journal.proofs.RecordStoreLemmas.{no_room, stored_after, not_stored, stored, ledger_after, has_room, same_length, tip_after}
use Rattle.ng_journal.proofs.storing.store.Goals as goal

pub append_to-requires-clause-tip : goal.append_to-requires-clause-tip
append_to-requires-clause-tip g c = same_length c.args.old.now.length c.args.stored.now.length c.in_ok-tip.tip c.requires.long c.in_ok-tip.ensures.tip

pub append_to-requires-clause-room : goal.append_to-requires-clause-room
append_to-requires-clause-room g c =
    let l = ledger c.args.tip c.args.old.now in
    let room = subst (λ (n : ℕ). IsRoom l n c.in_ok-tip.tip) c.count.ensures c.in_ok-tip.ensures.room in
    has_room c.in_ok-tip.tip l (length c.changes_between-changes.result) c.changes_between-changes.ensures.few room

pub returns-in_err-tip-clause-stores : goal.returns-in_err-tip-clause-stores
returns-in_err-tip-clause-stores g c =
    let p = err_from_is_err_and c.from_residual.result c.from_residual.ensures.1 in
    let l = ledger c.args.tip c.args.old.now in
    let copy = with_limit c.args.old.now.program_limit c.args.stored.now in
    let count : c.count.result ≡ changes_to l copy = c.count.ensures ∙ ap length c.changes_between-changes.ensures.changes in
    rw p.1 (meaning c.make_room.ensures.makes (λ m. record {
      stops = λ before at is. no_room p.0 c.make_room.result before copy _ _ (m.stops before at is);
      writes = not_stored p.0 c.make_room.result l c.count.result copy _ _ count m.writes;
    }))

pub returns-clause-stores : goal.returns-clause-stores
returns-clause-stores g c =
    let l = ledger c.args.tip c.args.old.now in
    let copy = with_limit c.args.old.now.program_limit c.args.stored.now in
    let count : c.count.result ≡ changes_to l copy = c.count.ensures ∙ ap length c.changes_between-changes.ensures.changes in
    let few : c.count.result ≤ 5399 = omega (arith, c.count.ensures, c.changes_between-changes.ensures.few) in
    onto _ c.in_ok-tip.ensures.makes c.append_to.ensures.appends (λ m f.
    let a = f c.args.old.now (record {
      changes_are = c.changes_between-changes.ensures.changes;
      slot_is = c.slot_between-slot.ensures;
      one = c.requires.one;
    }) in
    record {
      stops = λ before at is.
          let s = m.stops before at is in
          stored_after c.append_to.result c.in_ok-tip.tip before copy _ _ _ s (a.stops before s.at is);
      writes = stored c.append_to.result c.in_ok-tip.tip l c.count.result copy _ _ _ few count
          c.in_ok-tip.ensures.room m.writes a.writes;
    })

pub returns-clause-tip : goal.returns-clause-tip
returns-clause-tip g c =
    let l = ledger c.args.tip c.args.old.now in
    let copy = with_limit c.args.old.now.program_limit c.args.stored.now in
    let room = subst (λ (n : ℕ). IsRoom l n c.in_ok-tip.tip) c.count.ensures c.in_ok-tip.ensures.room in
    tip_after c.append_to.result l copy
    (ledger_after c.append_to.result c.in_ok-tip.tip l (length c.changes_between-changes.result) copy
    (ap length c.changes_between-changes.ensures.changes) room c.append_to.ensures.end) c.append_to.ensures.tip

pub slot_between-slot-requires : goal.slot_between-slot-requires
slot_between-slot-requires g c κs = grind arith

pub changes_between-changes-requires : goal.changes_between-changes-requires
changes_between-changes-requires g c κs = grind arith

pub count-requires : goal.count-requires
count-requires g c κs = grind arith

pub make_room-requires-clause-sectors : goal.make_room-requires-clause-sectors
make_room-requires-clause-sectors g c = omega arith

pub make_room-requires-clause-tip : goal.make_room-requires-clause-tip
make_room-requires-clause-tip g c = grind arith

pub make_room-requires-clause-few : goal.make_room-requires-clause-few
make_room-requires-clause-few g c = omega arith

pub make_room-requires-clause-epoch : goal.make_room-requires-clause-epoch
make_room-requires-clause-epoch g c = grind arith

pub make_room-requires-clause-stands : goal.make_room-requires-clause-stands
make_room-requires-clause-stands g c = grind arith

pub branch-tip-requires : goal.branch-tip-requires
branch-tip-requires g c κs = search rules

pub from_residual-requires : goal.from_residual-requires
from_residual-requires g c κs = search rules

pub returns-in_err-tip-clause-tip : goal.returns-in_err-tip-clause-tip
returns-in_err-tip-clause-tip g c = grind arith

pub returns-in_err-tip-clause-call : goal.returns-in_err-tip-clause-call
returns-in_err-tip-clause-call g c = grind arith

pub append_to-requires-clause-sectors : goal.append_to-requires-clause-sectors
append_to-requires-clause-sectors g c = omega arith

pub append_to-requires-clause-few : goal.append_to-requires-clause-few
append_to-requires-clause-few g c = omega arith

pub append_to-requires-clause-stands : goal.append_to-requires-clause-stands
append_to-requires-clause-stands g c = grind arith

pub returns-clause-call : goal.returns-clause-call
returns-clause-call g c = grind arith
