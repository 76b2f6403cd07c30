use Rattle.std.proofs.Common.{◌≡◌, ◌+◌, ◌*◌, ◌∙◌, ◌++◌, ◌∷◌, [], List, take, replicate, Some, ap, sym, subst, arith, lit≤}
use Rattle.std.specs.Int.{w64, cast_signed, cast_unsigned}
use Rattle.std.proofs.lemmas.Int.{to_z-of_z}
use Rattle.std.proofs.lemmas.List.{take_more}
use Rattle.ng_num.specs.Range.{IsCount}
use Rattle.ng_params.specs.declared.change.Change.{Change}
use Rattle.ng_layout.specs.Log.{change_at}
use Rattle.ng_layout.specs.Part.{label_of}
use Rattle.ng_layout.proofs.ByteLemmas.{below-more, from-more, from-further}
use Rattle.ng_layout.proofs.PartLemmas.{no_changes, label-below, changes-below, one_change_more, change_put, holds_changes}
use Rattle.ng_layout.proofs.part.changes_part.Goals as goal

pub loop-k-init : goal.loop-k-init
loop-k-init c = record {
  label = c.sector-sector.ensures.label;
  made = no_changes c.sector-sector.result;
  rest = from-further 22 32 (replicate 512 0) c.sector-sector.result c.sector-sector.ensures.rest (lit≤ tt);
}

pub loop-k-preserved : goal.loop-k-preserved
loop-k-preserved c =
    let k = c.loop-k.k in
    let at = 32 + 10 * k in
    let xs = c.args.changes.now in
    let s0 = c.loop-k.sector in
    let s1 = c.put_u16.new.bytes in
    let s2 = c.put_i64.new.bytes in
    let p = c.put_u16.ensures in
    let q = c.put_i64.ensures in
    let n = c.number.ensures in
    let zeros = replicate 512 0 in
    let rest = from-more (at + 2) (at + 2 + 8) zeros s1 s2
    (from-more at (at + 2) zeros s0 s1 c.loop-k.invariant.rest p.beyond (omega arith)) q.beyond (omega arith) in
    let below = below-more at (at + 2) s0 s1 s2 p.below q.below (omega arith) in
    let count : cast_signed w64 (cast_unsigned w64 c.count.result) ≡ c.count.result = grind (arith, to_z-of_z) in
    let value : cast_signed w64 (cast_unsigned w64 c.count.result) ≡ c.index-changes-k.result.value = count ∙ c.count.ensures.value in
    let one : change_at s2 at ≡ Some c.index-changes-k.result =
    change_put at c.number.result _ s0 s1 s2 (omega (arith, n.value, n.low)) (omega (arith, n.value, n.high))
    (subst IsCount (sym value) c.count.ensures.range) p q
    ∙ (λ i. Some (record { index = n.value i; value = value i })) in
    record {
      label = label-below (label_of c.args.label) at s0 s2 below (omega arith) c.loop-k.invariant.label;
      made = one_change_more s2 k (take k xs) c.index-changes-k.result (changes-below k at s0 s2 below (omega arith) ∙ c.loop-k.invariant.made) one
          ∙ ap (λ (l : List Change). Some l) (ap (λ (x : Change). take k xs ++ x ∷ []) c.index-changes-k.is
          ∙ sym (take_more xs k c.index-changes-k.result c.loop-k-test.true));
      rest = from-further (at + 2 + 8) (32 + 10 * (k + 1)) zeros s2 rest (omega arith);
    }

pub returns-clause-changes : goal.returns-clause-changes
returns-clause-changes c = holds_changes c.args.changes.now c.loop-k.k c.loop-k.sector
    (omega (arith, c.loop-k-test.false)) (omega arith) c.requires c.loop-k.invariant.made c.loop-k.invariant.rest
