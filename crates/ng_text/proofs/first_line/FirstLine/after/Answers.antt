use Rattle.std.proofs.Common.{◌++◌, ◌∷◌, [], sym, subst}
use Rattle.ng_text.specs.FirstLine.{shortest, DecidesFirstLine}
use Rattle.ng_text.specs.declared.first_line.FirstLine.{FirstLine}
use Rattle.ng_text.proofs.FirstLineLemmas.{return_decided}
use Rattle.ng_text.proofs.first_line.FirstLine.after.Goals as goal

pub returns-in-Return : goal.returns-in-Return
returns-in-Return c =
    subst (λ (s : FirstLine). DecidesFirstLine (shortest s ++ (c.args.byte ∷ [])) c.on_return.result) (sym c.in-Return.is)
    (return_decided c.args.byte c.on_return.result c.on_return.ensures.ended c.on_return.ensures.other)
