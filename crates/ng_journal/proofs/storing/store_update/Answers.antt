use Rattle.std.proofs.Common.{◌≡◌, ◌≤◌, ◌∙◌, ℕ, List, length, sym, ap, subst, arith, rules}
use Rattle.std.specs.Prelude.{IfOk}
use Rattle.std.proofs.lemmas.Result.{err_from_is_err_and}
use Rattle.ng_rig.proofs.GuaranteeLemmas.{onto, meaning}
use Rattle.ng_layout.specs.Stored.{StoredModel}
use Rattle.ng_layout.specs.Update.{UpdateModel, updated}
use Rattle.ng_params.specs.declared.change.Change.{Change}
use Rattle.ng_journal.specs.Journal.{IsTip}
use Rattle.ng_journal.specs.Private.Records.{IsRoom, MayStand, LeadsTo, ledger}
use Rattle.ng_journal.specs.Storing.{changes_to}
use Rattle.ng_journal.proofs.RecordStoreLemmas.{no_room, stored_after, not_stored, stored, ledger_after, has_room}
use Rattle.ng_journal.proofs.RecordStoreLemmas.{same_length, as_taken, tip_after, update-leads}
use Rattle.ng_journal.proofs.storing.store_update.Goals as goal

pub make_room-requires-clause-few : goal.make_room-requires-clause-few
make_room-requires-clause-few g c = omega (arith, ap (λ (u : UpdateModel). length u.changes) c.update.view_is, c.requires.few)

pub append_to-requires-clause-tip : goal.append_to-requires-clause-tip
append_to-requires-clause-tip g c = same_length c.args.stored.now.length c.take_update.new.self.length c.in_ok-tip.tip
    (ap (λ (s : StoredModel). s.length) c.take_update.ensures) c.in_ok-tip.ensures.tip

pub append_to-requires-clause-few : goal.append_to-requires-clause-few
append_to-requires-clause-few g c =
    let listed = c.listed-changes.ensures ∙ ap (λ (u : UpdateModel). u.changes) c.update.view_is in
    omega (arith, ap length listed, c.requires.few)

pub append_to-requires-clause-room : goal.append_to-requires-clause-room
append_to-requires-clause-room g c =
    let l = ledger c.args.tip c.args.stored.now in
    let listed = c.listed-changes.ensures ∙ ap (λ (u : UpdateModel). u.changes) c.update.view_is in
    let few : length c.listed-changes.result ≤ 5399 = omega (arith, ap length listed, c.requires.few) in
    let room = subst (λ (n : ℕ). IsRoom l n c.in_ok-tip.tip) (ap length (sym c.listed-changes.ensures)) c.in_ok-tip.ensures.room in
    has_room c.in_ok-tip.tip l (length c.listed-changes.result) few room

pub append_to-requires-clause-stands : goal.append_to-requires-clause-stands
append_to-requires-clause-stands g c = subst MayStand (sym c.take_update.ensures) c.requires.new

pub returns-in_err-tip-clause-stores : goal.returns-in_err-tip-clause-stores
returns-in_err-tip-clause-stores g c =
    let p = err_from_is_err_and c.from_residual.result c.from_residual.ensures.1 in
    let l = ledger c.args.tip c.args.stored.now in
    let next = updated c.args.stored.now c.args.update.now in
    let made = c.update.inside.changes.now in
    let count : length made ≡ changes_to l next =
    ap length (ap (λ (u : UpdateModel). u.changes) c.update.view_is ∙ c.requires.settled.changes) in
    rw p.1 (meaning c.make_room.ensures.makes (λ m. record {
      stops = λ before at is. no_room p.0 c.make_room.result before next _ _ (m.stops before at is);
      writes = not_stored p.0 c.make_room.result l (length made) next _ _ count m.writes;
    }))

pub returns-clause-stores : goal.returns-clause-stores
returns-clause-stores g c =
    let was = c.args.stored.now in
    let l = ledger c.args.tip was in
    let update = c.args.update.now in
    let next = updated was update in
    let slot = c.slot_of-slot.result in
    let made = c.update.inside.changes.now in
    let made_is = ap (λ (u : UpdateModel). u.changes) c.update.view_is in
    let count : length made ≡ changes_to l next = ap length (made_is ∙ c.requires.settled.changes) in
    let few : length made ≤ 5399 = omega (arith, ap length made_is, c.requires.few) in
    let listed = c.listed-changes.ensures ∙ made_is in
    let leads = subst (λ (made : List Change). LeadsTo was next made slot) (sym listed)
    (update-leads was update slot c.requires.settled c.slot_of-slot.ensures) in
    onto _ c.in_ok-tip.ensures.makes c.append_to.ensures.appends (λ m f.
    let a = as_taken c.append_to.result c.in_ok-tip.tip was c.take_update.new.self next c.listed-changes.result slot
    _ _ c.take_update.ensures leads f in
    record {
      stops = λ before at is.
          let s = m.stops before at is in
          stored_after c.append_to.result c.in_ok-tip.tip before next _ _ _ s (a.stops before s.at is);
      writes = stored c.append_to.result c.in_ok-tip.tip l (length made) next _ _ _ few count
          c.in_ok-tip.ensures.room m.writes a.writes;
    })

pub returns-clause-tip : goal.returns-clause-tip
returns-clause-tip g c =
    let l = ledger c.args.tip c.args.stored.now in
    let next = updated c.args.stored.now c.args.update.now in
    let listed = c.listed-changes.ensures ∙ ap (λ (u : UpdateModel). u.changes) c.update.view_is in
    let room = subst (λ (n : ℕ). IsRoom l n c.in_ok-tip.tip) (ap length (sym c.listed-changes.ensures)) c.in_ok-tip.ensures.room in
    let count : length c.listed-changes.result ≡ changes_to l next = ap length (listed ∙ c.requires.settled.changes) in
    tip_after c.append_to.result l next
    (ledger_after c.append_to.result c.in_ok-tip.tip l (length c.listed-changes.result) next count room c.append_to.ensures.end)
    (subst (λ (s : StoredModel). IfOk c.append_to.result (λ t. IsTip s.length t.header t.end)) c.take_update.ensures c.append_to.ensures.tip)

pub slot_of-slot-requires : goal.slot_of-slot-requires
slot_of-slot-requires g c = grind arith

pub make_room-requires-clause-sectors : goal.make_room-requires-clause-sectors
make_room-requires-clause-sectors g c = omega arith

pub make_room-requires-clause-tip : goal.make_room-requires-clause-tip
make_room-requires-clause-tip g c = grind arith

pub make_room-requires-clause-epoch : goal.make_room-requires-clause-epoch
make_room-requires-clause-epoch g c = grind arith

pub make_room-requires-clause-stands : goal.make_room-requires-clause-stands
make_room-requires-clause-stands g c = grind arith

pub branch-tip-requires : goal.branch-tip-requires
branch-tip-requires g c κs = search rules

pub from_residual-requires : goal.from_residual-requires
from_residual-requires g c κs = search rules

pub returns-in_err-tip-clause-saved : goal.returns-in_err-tip-clause-saved
returns-in_err-tip-clause-saved g c = grind arith

pub returns-in_err-tip-clause-either : goal.returns-in_err-tip-clause-either
returns-in_err-tip-clause-either g c = grind arith

pub returns-in_err-tip-clause-tip : goal.returns-in_err-tip-clause-tip
returns-in_err-tip-clause-tip g c = grind arith

pub returns-in_err-tip-clause-call : goal.returns-in_err-tip-clause-call
returns-in_err-tip-clause-call g c = grind arith

pub take_update-requires : goal.take_update-requires
take_update-requires g c = grind arith

pub listed-changes-requires : goal.listed-changes-requires
listed-changes-requires g c κs = grind arith

pub append_to-requires-clause-sectors : goal.append_to-requires-clause-sectors
append_to-requires-clause-sectors g c = omega arith

pub returns-clause-saved : goal.returns-clause-saved
returns-clause-saved g c = grind arith

pub returns-clause-either : goal.returns-clause-either
returns-clause-either g c = grind arith

pub returns-clause-call : goal.returns-clause-call
returns-clause-call g c = grind arith
