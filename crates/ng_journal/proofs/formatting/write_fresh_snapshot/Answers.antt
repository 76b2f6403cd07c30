use Rattle.std.proofs.Common.{◌+◌, ℕ, List, refl, arith}
use Rattle.std.proofs.lemmas.Result.{err_from_is_err_and}
use Rattle.ng_rig.proofs.GuaranteeLemmas.{meaning}
use Rattle.ng_layout.specs.Areas.{snapshot_size}
use Rattle.ng_layout.specs.Snapshot.{HoldsPart}
use Rattle.ng_layout.specs.Stored.{fresh_stored}
use Rattle.ng_journal.proofs.OverwriteLemmas.{more, fails, whole, wider}
use Rattle.ng_journal.proofs.formatting.write_fresh_snapshot.Goals as goal

-- the sector is right for a fresh controller on any device
abbrev IsFresh : ℕ → List ℕ → Type 0
IsFresh part sector = (most : ℕ) → HoldsPart (fresh_stored most) part sector

pub returns-in_err-write-clause-writes : goal.returns-in_err-write-clause-writes
returns-in_err-write-clause-writes g c most =
    let p = err_from_is_err_and c.from_residual.result c.from_residual.ensures.1 in
    rw p.1 (meaning (fails p.0 c.write.result c.loop-part.part (c.args.first + c.loop-part.part) c.args.first
    snapshot_size IsFresh c.fresh_sector.result _ _ _ c.loop-part-test.true refl c.fresh_sector.ensures
    c.loop-part.invariant c.write.ensures.trace)
    (λ w. wider _ c.args.first snapshot_size IsFresh (HoldsPart (fresh_stored most)) _ _ (λ j sector right. right most) w))

pub loop-part-preserved : goal.loop-part-preserved
loop-part-preserved g c = more c.loop-part.part (c.args.first + c.loop-part.part) c.args.first snapshot_size
    IsFresh c.fresh_sector.result _ _ _ c.loop-part-test.true refl c.fresh_sector.ensures c.loop-part.invariant
    c.in_ok-write.ensures.trace c.in_ok-write.ensures.call

pub returns-clause-writes : goal.returns-clause-writes
returns-clause-writes g c most =
    meaning (whole _ c.loop-part.part c.args.first snapshot_size IsFresh _ _ (omega (arith, c.loop-part-test.false)) c.loop-part.invariant)
    (λ w. wider _ c.args.first snapshot_size IsFresh (HoldsPart (fresh_stored most)) _ _ (λ j sector right. right most) w)
