use Rattle.std.proofs.Common.{arith, codes, length, ◌≤◌}
use Rattle.ng_words.proofs.AddedPieceLemmas.{strip_prefix_shorter}
use Rattle.ng_words.proofs.reading.assignment.Goals as goal

pub returns-in-Some-value-clause-fits : goal.returns-in-Some-value-clause-fits
returns-in-Some-value-clause-fits c =
    let shorter : length c.skip.new.self ≤ length c.value.new.cursor = strip_prefix_shorter (codes "=") _ _ c.if-not-skip.ensures in
    λ t. omega (arith, c.in-Some.ensures.fits, c.in-Some-value.ensures.fits)
