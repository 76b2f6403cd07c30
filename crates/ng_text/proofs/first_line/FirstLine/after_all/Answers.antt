use Rattle.std.proofs.Common.{List, ◌++◌, ap, arith, append-nil}
use Rattle.ng_text.specs.FirstLine.{kind_in, shortest}
use Rattle.ng_text.proofs.FirstLineLemmas.{decides_all, decides_one}
use Rattle.ng_text.proofs.first_line.FirstLine.after_all.Goals as goal

pub loop-byte-init : goal.loop-byte-init
loop-byte-init c = λ more. ap (λ (l : List _). kind_in (l ++ more)) (append-nil (shortest c.args.self))

pub loop-byte-preserved : goal.loop-byte-preserved
loop-byte-preserved c = decides_one (shortest c.args.self) c.args.bytes.now c.loop-byte.byte-index _ _
    (omega (arith, c.loop-byte-test.true)) c.loop-byte.invariant c.after-seen.ensures

pub returns : goal.returns
returns c = decides_all (shortest c.args.self) c.args.bytes.now c.loop-byte.byte-index c.loop-byte.seen
    (omega (arith, c.loop-byte-test.false)) c.loop-byte.invariant
