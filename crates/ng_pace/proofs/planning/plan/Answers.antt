use Rattle.std.proofs.Common.{arith, rules, refl, sym, ap, ◌∙◌, ◌≡◌, ◌<◌, ◌-◌, ℕ, zero, suc, List, [], ◌∷◌, length, slice_index_or}
use Rattle.ng_pace.specs.declared.planning.Slot.{Slot}
use Rattle.ng_pace.specs.Planning.{most_now}
use Rattle.ng_pace.proofs.PlanLemmas.{untouched, same_lines, grows, ahead-end, step, next, all_at, stays_planned_at}
use Rattle.ng_pace.proofs.planning.plan.Goals as goal

pub loop-k-init : goal.loop-k-init
loop-k-init g c =
    let all : c.len-k.result ≡ length c.args.slots.now.items = search rules in record {
      anew = untouched c.args.slots.now.items c.len-k.result (omega arith);
      next = rw (all) (sym (ahead-end c.args.slots.now.items));
      within = omega arith;
      capacity = refl;
    }

-- the element at a place of a list, whichever stands for none
same_read : (ys : List Slot) (k : ℕ) (a b : Slot) → k < length ys → a ≡ slice_index_or ys k a → b ≡ slice_index_or ys k b → a ≡ b
same_read [] k a b h p q = absurd (omega arith)
same_read (y ∷ ys) zero a b h p q = p ∙ sym q
same_read (y ∷ ys) (suc k) a b h p q = same_read ys k a b (omega arith) p q

pub loop-k-preserved : goal.loop-k-preserved
loop-k-preserved g c =
    let same : c.index-slot.result.now ≡ c.index_mut.result.now = same_read c.loop-k.slots.items (c.loop-k.k - 1) c.index-slot.result.now
    c.index_mut.result.now (omega (arith, c.loop-k.invariant.within)) (search rules) (search rules) in record {
      anew = step c.loop-k.k c.args.planned c.args.slots.now.items c.loop-k.slots.items c.index_mut.result.now c.loop-k.after c.best_square-square.result
          (omega arith) c.loop-k.invariant.within c.requires c.loop-k.invariant.anew (search rules) c.loop-k.invariant.next
          (c.best_square-square.ensures ∙ ap (λ t. most_now t.line c.loop-k.after) same);
      next = next c.loop-k.k c.loop-k.slots.items c.index_mut.result.now c.best_square-square.result (omega arith) c.loop-k.invariant.within;
      within = search rules;
      capacity = search rules;
    }

pub returns-after-loop-k-clause-plan : goal.returns-after-loop-k-clause-plan
returns-after-loop-k-clause-plan g c = all_at c.loop-k.k c.args.slots.now.items c.loop-k.slots.items (omega arith) c.loop-k.invariant.anew

pub returns-after-loop-k-clause-lines : goal.returns-after-loop-k-clause-lines
returns-after-loop-k-clause-lines g c = same_lines c.loop-k.k c.args.slots.now.items c.loop-k.slots.items c.loop-k.invariant.anew

pub returns-after-loop-k-clause-grows : goal.returns-after-loop-k-clause-grows
returns-after-loop-k-clause-grows g c = grows c.loop-k.k c.args.slots.now.items c.loop-k.slots.items c.loop-k.invariant.anew

pub returns-then-square-slot-clause-plan : goal.returns-then-square-slot-clause-plan
returns-then-square-slot-clause-plan g c = stays_planned_at c.loop-k.k c.args.planned c.args.slots.now.items c.loop-k.slots.items c.index-slot.result.now
    c.loop-k.after
    c.requires (omega arith) (omega arith) c.loop-k.invariant.within c.loop-k.invariant.anew (search rules) c.loop-k.invariant.next
    (sym c.if-square-slot.true ∙ c.best_square-square.ensures)

pub returns-then-square-slot-clause-lines : goal.returns-then-square-slot-clause-lines
returns-then-square-slot-clause-lines g c = same_lines c.loop-k.k c.args.slots.now.items c.loop-k.slots.items c.loop-k.invariant.anew

pub returns-then-square-slot-clause-grows : goal.returns-then-square-slot-clause-grows
returns-then-square-slot-clause-grows g c = grows c.loop-k.k c.args.slots.now.items c.loop-k.slots.items c.loop-k.invariant.anew
