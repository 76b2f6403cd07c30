use Rattle.std.proofs.Common.{arith, add-one}
use Rattle.std.proofs.lemmas.List.{take_rest}
use Rattle.ng_text.proofs.NewlineLemmas.{HasNoNewline-take, HasNoNewline-all, parted}
use Rattle.ng_text.proofs.split.split_line.Goals as goal

pub returns-in-Some : goal.returns-in-Some
returns-in-Some c =
    let found = c.in-Some.ensures in (
      HasNoNewline-take c.args.bytes.now c.in-Some.end (λ k below within. found.0.before k (omega arith) below),
      rw (take_rest, add-one) (parted c.args.bytes.now c.in-Some.end found.0.high found.1),
    )

pub returns-in-None : goal.returns-in-None
returns-in-None c = HasNoNewline-all c.args.bytes.now (λ k within. c.in-None.ensures k (omega arith) within)
