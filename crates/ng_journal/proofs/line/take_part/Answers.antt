use Rattle.std.proofs.Common.{length, sym, subst, Some}
use Rattle.ng_journal.specs.Private.LineParts.{TakesPart}
use Rattle.ng_journal.proofs.LineReadLemmas.{line_taken}
use Rattle.ng_journal.proofs.line.take_part.Goals as goal

pub returns-in-Some-clause-taken : goal.returns-in-Some-clause-taken
returns-in-Some-clause-taken c =
    let front = c.in-Some.front.now in
    subst (λ part. TakesPart c.args.text.now.items c.keep.new.text.items part (Some (length front))) (sym c.in-Some.ensures.1)
    (line_taken c.args.text.now.items c.keep.new.text.items front _ c.in-Some.ensures.0 c.keep.ensures)

pub returns-in-None-clause-taken : goal.returns-in-None-clause-taken
returns-in-None-clause-taken c = (c.in-None.ensures, c.keep-in-None.ensures)
