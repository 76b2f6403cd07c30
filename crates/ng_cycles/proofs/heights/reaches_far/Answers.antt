use Rattle.std.proofs.Common.{◌∙◌, sym, pos, ◌+ℤ◌, ◌*ℤ◌}
use Rattle.ng_cycles.proofs.LastHoleLemmas.{repeated_last, last_near}
use Rattle.ng_cycles.proofs.heights.reaches_far.Goals as goal

pub returns-clause-far : goal.returns-clause-far
returns-clause-far c = rw (c.is_either.ensures, c.is_far.ensures, c.is_far-2.ensures)
    (repeated_last c.args.current c.args.at c.args.word c.args.repeats c.requires c.nm.ensures.range
    c.nm-2.ensures.range)

pub returns-clause-last : goal.returns-clause-last
returns-clause-last c = λ near. last_near c.is_far.result (c.args.at +ℤ pos c.args.repeats *ℤ c.args.word)
    (rw c.is_far-2.ensures at (sym c.is_either.ensures ∙ near))
