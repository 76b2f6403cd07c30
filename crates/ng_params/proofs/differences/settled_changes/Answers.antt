use Rattle.std.proofs.Common.{◌∙◌, ◌<◌, List, length, sym, ap, arith, rules}
use Rattle.ng_params.specs.Change.{with_changes}
use Rattle.ng_params.specs.Differences.{differences}
use Rattle.ng_params.specs.declared.change.Change.{Change}
use Rattle.ng_params.proofs.SettlingLemmas.{settled_none, settled_room, settled_same, settled_other, settled_all}
use Rattle.ng_params.proofs.differences.settled_changes.Goals as goal
use Rattle.ng_params.proofs.differences.settled_changes.Goals.{then-ne, else-ne}

pub loop-index-init : goal.loop-index-init
loop-index-init g c = record {
  settled = settled_none c.args.table.now c.as_slice-made.result.now c.new-settled.result.items c.new-settled.ensures;
  within = omega arith;
}

pub push-requires : goal.push-requires
push-requires g c =
    let room : length c.loop-index.settled.items < length c.as_slice-made.result.now =
    settled_room c.loop-index.passed c.in-Some.index c.args.table.now c.as_slice-made.result.now
    c.loop-index.settled.items c.in-Some.ensures c.loop-index.invariant.settled in
    (search rules, omega (arith, room, c.as_slice-made.ensures.fits))

pub loop-index-preserved : goal.loop-index-preserved
loop-index-preserved g c =
    let table = c.args.table.now in
    let made = c.as_slice-made.result.now in
    let index = c.in-Some.index in
    let value = c.get_after-value.ensures in
    let was = c.get.ensures in
    let number = c.number-passed.ensures in
    rw number.value (record {
      settled = elim c.if-ne.branch [
        | then-ne w ↦ settled_other c.loop-index.passed index table made c.loop-index.settled.items
            c.get_after-value.result c.get.result c.in-Some.ensures value was c.loop-index.invariant.settled
            c.if-ne.settled.items (sym c.ne.ensures ∙ w.if-ne.true) (ap (λ v. v.items) w.settled-is ∙ w.push.ensures.items)
        | else-ne w ↦ rw w.settled-is (settled_same c.loop-index.passed index table made c.loop-index.settled.items
            c.get_after-value.result c.get.result c.in-Some.ensures value was c.loop-index.invariant.settled
            (sym c.ne.ensures ∙ w.if-ne.false))
      ];
      within = number.high;
    })

pub returns : goal.returns
returns g c =
    let table = c.args.table.now in
    settled_all c.loop-index.passed table c.as_slice-made.result.now c.loop-index.settled.items
    c.loop-index.invariant.within c.in_default.ensures c.loop-index.invariant.settled
    ∙ ap (λ (l : List Change). differences table (with_changes table l)) c.as_slice-made.ensures.value
