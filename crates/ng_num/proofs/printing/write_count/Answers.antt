use Rattle.std.proofs.Common.{ap, ◌∙◌, ◌+◌, ◌-◌, ◌++◌, ◌≡◌, drop, w64, ℤ, arith}
use Rattle.std.proofs.lemmas.Int.{to_z-of_z}
use Rattle.ng_num.specs.Printing.{number_text}
use Rattle.ng_num.proofs.NumberTextLemmas.{written_then}
use Rattle.ng_num.proofs.printing.write_count.Goals as goal

pub returns-clause-text : goal.returns-clause-text
returns-clause-text c =
    let end : c.args.end - 2 + 2 ≡ c.args.end = omega (arith, c.requires.fits) in
    let filled = c.put_after.ensures ∙ ap (λ n. c.args.after ++ drop n c.args.buffer.now) end in
    written_then _ _ _ _ _ _ (c.args.after ++ drop c.args.end c.args.buffer.now) c.put_after.new.buffer
    c.write_decimals-point.new.buffer c.write_whole_part-whole.new.buffer c.write_minus.new.buffer
    c.unsigned_abs-size.ensures.value filled c.write_decimals-point.ensures.written c.write_whole_part-whole.ensures.written c.write_minus.ensures.written
    ∙ ap (λ (z : ℤ). number_text z ++ (c.args.after ++ drop c.args.end c.args.buffer.now)) (to_z-of_z w64 c.args.count c.ranges.count)
