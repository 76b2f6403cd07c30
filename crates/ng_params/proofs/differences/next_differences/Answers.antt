use Rattle.std.proofs.Common.{◌≡◌, ◌∙◌, ◌+◌, sym, arith, ℕ, Bool, false, ◌==◌, ◌≤◌}
use Rattle.std.proofs.lemmas.Bool.Decides.{nat_tests}
use Rattle.ng_params.specs.Differences.{differences_to}
use Rattle.ng_params.proofs.DifferenceLemmas.{next_same, next_other, one_taken}
use Rattle.ng_params.proofs.differences.next_differences.Goals as goal
use Rattle.ng_params.proofs.differences.next_differences.Goals.{then-ne, else-ne}

one_more : (size n m : ℕ) (full : Bool) → full ≡ (n == size) → full ≡ false → n ≤ size → m ≡ n + 1 → m ≤ size
one_more size n m full is off few more = grind (arith, nat_tests)

pub loop-k-preserved : goal.loop-k-preserved
loop-k-preserved g c =
    let inv = c.loop-k.invariant in
    let index = c.known-index.ensures in
    let old = c.args.old.now in
    let new = c.args.new.now in
    elim c.if-ne.branch [
      | then-ne w ↦
          let p = w.push.ensures in
          rw w.taken-is (record {
            on = one_taken (differences_to c.loop-k.k old new) (differences_to c.args.from old new)
                c.loop-k.taken.items w.push.new.self.items
                (record { index = c.known-index.result; value = c.get-value.result })
                (differences_to (c.loop-k.k + 1) old new)
                (next_other c.loop-k.k c.known-index.result old new c.get-value.result c.get.result index
                c.get-value.ensures c.get.ensures (sym c.ne.ensures ∙ w.if-ne.true)) inv.on p.items;
            few = let v = c.is_full.ensures.value in let f = c.if-is_full.false in let n = inv.few in let l = p.len in one_more _ _ _ c.is_full.result v f n l;
          })
      | else-ne w ↦ rw w.taken-is (record {
        on = next_same c.loop-k.k c.known-index.result old new c.get-value.result c.get.result index
            c.get-value.ensures c.get.ensures (sym c.ne.ensures ∙ w.if-ne.false) ∙ inv.on;
        few = inv.few;
      })
    ]
