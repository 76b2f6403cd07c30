use Rattle.std.proofs.Common.{ap, arith}
use Rattle.ng_block.specs.Effects.{in_state}
use Rattle.ng_layout.specs.Stored.{StoredModel}
use Rattle.ng_session.specs.Planned.{PlannedModel, Base}
use Rattle.ng_session.proofs.PlannedLineLemmas.{planned_by}
use Rattle.ng_session.proofs.planning.plan_line.Goals as goal

pub returns-clause-planned : goal.returns-clause-planned
returns-clause-planned g c =
    let base : Base = record { stored = c.args.base.now; block_delete = c.args.block_delete } in
    let p : PlannedModel = record { place = c.base.inside.place; first = c.args.first; next = c.args.next; block = c.begun.result } in
    let does = in_state c.args.base.now.setup c.in-Ok.effect.now in
    planned_by c.args.geometry.now base p c.args.text.now does (ap (λ (x : StoredModel). x.place) c.base.view_is) c.requires.beginning c.in-Ok.ensures.does
    c.begun.ensures.value c.begun.ensures.ready

pub execute_after_lines-requires : goal.execute_after_lines-requires
execute_after_lines-requires g c κs = grind arith

pub returns-in-Err-clause-planned : goal.returns-in-Err-clause-planned
returns-in-Err-clause-planned g c = omega arith

pub returns-in-Err-clause-first : goal.returns-in-Err-clause-first
returns-in-Err-clause-first g c = omega arith

pub returns-in-Err-clause-text : goal.returns-in-Err-clause-text
returns-in-Err-clause-text g c = omega arith

pub returns-in-Err-clause-next : goal.returns-in-Err-clause-next
returns-in-Err-clause-next g c = omega arith

pub begun-requires-clause-storable : goal.begun-requires-clause-storable
begun-requires-clause-storable g c = grind arith

pub begun-requires-clause-within : goal.begun-requires-clause-within
begun-requires-clause-within g c = omega arith

pub begun-requires-clause-stands : goal.begun-requires-clause-stands
begun-requires-clause-stands g c = grind arith

pub begun-requires-clause-short : goal.begun-requires-clause-short
begun-requires-clause-short g c = grind arith

pub returns-clause-first : goal.returns-clause-first
returns-clause-first g c = grind arith

pub returns-clause-text : goal.returns-clause-text
returns-clause-text g c = grind arith

pub returns-clause-next : goal.returns-clause-next
returns-clause-next g c = omega arith
