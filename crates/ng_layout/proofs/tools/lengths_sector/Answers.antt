use Rattle.std.proofs.Common.{◌≡◌, ◌+◌, ◌∙◌, arith}
use Rattle.std.specs.Int.{w64, cast_signed, cast_unsigned}
use Rattle.std.proofs.lemmas.Int.{to_z-of_z}
use Rattle.ng_layout.proofs.ToolTableLemmas.{lengths-put, lengths-past, slot-after}
use Rattle.ng_layout.proofs.tools.lengths_sector.Goals as goal
use Rattle.ng_layout.proofs.tools.lengths_sector.Goals.{then-first-k, else-first-k}

pub loop-k-preserved : goal.loop-k-preserved
loop-k-preserved c =
    elim c.if-first-k.branch [
      | then-first-k w ↦
          let count : cast_signed w64 (cast_unsigned w64 w.nm.result) ≡ w.length-length.result = grind (arith, to_z-of_z) in
          rw w.sector-is (lengths-put c.args.tools.now c.args.first c.loop-k.k c.loop-k.sector w.put_i64.new.bytes _
          c.loop-k.invariant (omega (arith, w.if-first-k.true, c.slots.ensures.value)) w.put_i64.ensures
          (count ∙ w.length-length.ensures ∙ slot-after c.args.tools.now (c.args.first + c.loop-k.k)))
      | else-first-k w ↦ rw w.sector-is (lengths-past c.args.tools.now c.args.first c.loop-k.k c.loop-k.sector
          c.loop-k.invariant (omega (arith, w.if-first-k.false, c.slots.ensures.value)))
    ]
