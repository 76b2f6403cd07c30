use Rattle.std.proofs.Common.{◌≡◌, ◌+◌, ◌-◌, ◌∙◌, ℕ, pos, get_or, ap, subst, sym, arith}
use Rattle.std.specs.Int.{w64, cast_signed, cast_unsigned}
use Rattle.std.proofs.lemmas.Int.{to_z-of_z}
use Rattle.ng_num.specs.Range.{IsCount}
use Rattle.ng_layout.proofs.SectorLemmas.{values-more, values-past}
use Rattle.ng_layout.proofs.sectors.values_sector.Goals as goal
use Rattle.ng_layout.proofs.sectors.values_sector.Goals.{then-first-k-lt-PARAMETER_COUNT, else-first-k-lt-PARAMETER_COUNT}

pub loop-k-preserved : goal.loop-k-preserved
loop-k-preserved g c =
    elim c.if-first-k-lt-PARAMETER_COUNT.branch [
      | then-first-k-lt-PARAMETER_COUNT w ↦
          let count : cast_signed w64 (cast_unsigned w64 w.count.result) ≡ w.get-value.result = grind (arith, to_z-of_z) in
          let place : w.known.result - 1 ≡ c.args.first + c.loop-k.k = omega arith in
          rw w.sector-is (values-more c.args.table.now c.args.first c.loop-k.k c.loop-k.sector w.put_i64.new.bytes _
          c.loop-k.invariant w.if-first-k-lt-PARAMETER_COUNT.true w.put_i64.ensures (count ∙ w.get-value.ensures
          ∙ ap (λ (p : ℕ). get_or c.args.table.now p (pos 0)) place)
          (subst IsCount (sym count) w.count.ensures.range))
      | else-first-k-lt-PARAMETER_COUNT w ↦ rw w.sector-is
          (values-past c.args.table.now c.args.first c.loop-k.k c.loop-k.sector c.loop-k.invariant
          w.if-first-k-lt-PARAMETER_COUNT.false)
    ]
