use Rattle.std.proofs.Common.{◌≡◌, ◌∙◌, length, sym, ap, arith}
use Rattle.ng_params.specs.Differences.{differences_to}
use Rattle.ng_params.proofs.DifferenceLemmas.{none_yet, next_same, next_other, one_counted, differences-all}
use Rattle.ng_params.proofs.differences.difference_count.Goals as goal
use Rattle.ng_params.proofs.differences.difference_count.Goals.{then-ne, else-ne}

pub loop-k-init : goal.loop-k-init
loop-k-init g c = record { count = sym (ap length (none_yet c.args.old.now c.args.new.now)); few = omega arith }

pub loop-k-preserved : goal.loop-k-preserved
loop-k-preserved g c =
    let inv = c.loop-k.invariant in
    let index = c.known-index.ensures in
    elim c.if-ne.branch [
      | then-ne w ↦ record {
        count = one_counted (differences_to c.loop-k.k c.args.old.now c.args.new.now) _ _ c.loop-k.count
            c.if-ne.count (next_other c.loop-k.k c.known-index.result c.args.old.now c.args.new.now c.get.result
            c.get-in-loop-k.result index c.get.ensures c.get-in-loop-k.ensures (sym c.ne.ensures ∙ w.if-ne.true))
            inv.count w.count-is;
        few = omega (arith, w.count-is, inv.few);
      }
      | else-ne w ↦ record {
        count = w.count-is ∙ inv.count
            ∙ sym (ap length (next_same c.loop-k.k c.known-index.result c.args.old.now c.args.new.now c.get.result
            c.get-in-loop-k.result index c.get.ensures c.get-in-loop-k.ensures (sym c.ne.ensures ∙ w.if-ne.false)));
        few = omega (arith, w.count-is, inv.few);
      }
    ]

pub returns-clause-count : goal.returns-clause-count
returns-clause-count g c =
    let last : c.loop-k.k ≡ 5399 = omega arith in
    c.loop-k.invariant.count ∙ ap length (ap (λ k. differences_to k c.args.old.now c.args.new.now) last ∙ differences-all c.args.old.now c.args.new.now)
