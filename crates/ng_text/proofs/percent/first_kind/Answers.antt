use Rattle.std.proofs.Common.{◌∙◌, ap, sym}
use Rattle.ng_words.specs.Start.{kind_of}
use Rattle.ng_text.specs.Percent.{kind_before}
use Rattle.ng_text.proofs.PercentLemmas.{first_kind-after}
use Rattle.ng_text.proofs.percent.first_kind.Goals as goal

pub returns-clause-program : goal.returns-clause-program
returns-clause-program c =
    λ lines_before is.
    c.kind_before.ensures ∙ ap (λ k. kind_before k (kind_of c.args.line.now)) is ∙ sym (first_kind-after lines_before c.args.line.now)
