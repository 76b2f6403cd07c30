use Rattle.std.proofs.Common.{refl, arith}
use Rattle.ng_layout.specs.declared.rows.Number.TheVariants.{U8}
use Rattle.ng_layout.proofs.RowLemmas.{Row, rows-more, rows-all, rows-beyond, follows}
use Rattle.ng_layout.proofs.rows.put_rows.Goals as goal

abbrev none : Row
none = (0, U8 0)

pub put-requires : goal.put-requires
put-requires c = omega (arith, c.requires c.loop-at.at-index none c.loop-at-test.true, c.loop-at.auto.bytes)

pub loop-at-init : goal.loop-at-init
loop-at-init c = λ to follow. record { each = λ j d lt within. absurd (omega arith); beyond = record { same = refl } }

pub loop-at-preserved : goal.loop-at-preserved
loop-at-preserved c = λ to follow. rows-more c.args.rows.now to c.loop-at.at-index c.args.bytes.now c.loop-at.bytes
    c.put.new.bytes none follow c.loop-at-test.true (c.loop-at.invariant to follow) c.put.ensures.is
    c.put.ensures.below c.put.ensures.beyond

pub returns-clause-are : goal.returns-clause-are
returns-clause-are c = λ from to joined. rows-all c.args.rows.now to c.loop-at.at-index c.args.bytes.now
    c.loop-at.bytes (omega (arith, c.loop-at-test.false))
    (c.loop-at.invariant to (follows c.args.rows.now from to joined))

pub returns-clause-beyond : goal.returns-clause-beyond
returns-clause-beyond c = λ from to joined. let f = follows c.args.rows.now from to joined in rows-beyond
    c.args.rows.now to c.loop-at.at-index c.args.bytes.now c.loop-at.bytes f (c.loop-at.invariant to f)
