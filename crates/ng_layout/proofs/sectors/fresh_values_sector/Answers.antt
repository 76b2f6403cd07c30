use Rattle.std.proofs.Common.{inl, inr, pos, lit≤}
use Rattle.ng_layout.proofs.SectorLemmas.{zeros_hold, one_holds}
use Rattle.ng_layout.proofs.sectors.fresh_values_sector.Goals.{else-first-le-SYSTEM_INDEX-via-then-first-le-SYSTEM_INDEX+else-first-gt-SYSTEM_INDEX}
use Rattle.ng_layout.proofs.sectors.fresh_values_sector.Goals.{else-first-le-SYSTEM_INDEX-via-else-first-le-SYSTEM_INDEX}
use Rattle.ng_layout.proofs.sectors.fresh_values_sector.Goals as goal

pub returns-then-first-gt-SYSTEM_INDEX : goal.returns-then-first-gt-SYSTEM_INDEX
returns-then-first-gt-SYSTEM_INDEX c = one_holds 5399 5219 c.args.first (pos 1_000_000) c.put_i64.new.bytes
    (lit≤ tt) (lit≤ tt) c.if-first-le-SYSTEM_INDEX.true c.if-first-gt-SYSTEM_INDEX.true (lit≤ tt) c.put_i64.ensures

pub returns-else-first-le-SYSTEM_INDEX : goal.returns-else-first-le-SYSTEM_INDEX
returns-else-first-le-SYSTEM_INDEX c =
    elim c.else-first-le-SYSTEM_INDEX.branch [
      | else-first-le-SYSTEM_INDEX-via-then-first-le-SYSTEM_INDEX+else-first-gt-SYSTEM_INDEX w ↦ zeros_hold 5399
          5219 c.args.first (pos 1_000_000) (inr w.if-first-gt-SYSTEM_INDEX.false)
      | else-first-le-SYSTEM_INDEX-via-else-first-le-SYSTEM_INDEX w ↦ zeros_hold 5399 5219 c.args.first (pos 1_000_000) (inl w.if-first-le-SYSTEM_INDEX.false)
    ]
