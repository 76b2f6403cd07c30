use Rattle.std.proofs.Common.{◌∷◌, ◌++◌, ◌∙◌, ap}
use Rattle.ng_commands.proofs.FirstBlankLemmas.{one_word, placed, refused, two_words}
use Rattle.ng_commands.proofs.lengths.point.Goals as goal

pub returns-in_err-x : goal.returns-in_err-x
returns-in_err-x c = refused _ _ c.from_residual.ensures (one_word _ c.in_err-x.ensures)

pub returns-in_err-y : goal.returns-in_err-y
returns-in_err-y c = refused _ _ c.from_residual-in_err-y.ensures (two_words _ _ _ c.in_ok-x.ensures.0 c.in_ok-x.ensures.1 c.in_err-y.ensures)

pub returns-in_err-length : goal.returns-in_err-length
returns-in_err-length c =
    let are = placed _ _ _ _ _ c.in_ok-x.ensures.0 c.in_ok-x.ensures.1 c.in_ok-y.ensures.0 c.in_ok-y.ensures.1 in
    refused _ _ c.from_residual-in_err-length.ensures (λ p writes. c.in_err-length.ensures p.x (are p writes).0)

pub returns-in_err-length-2 : goal.returns-in_err-length-2
returns-in_err-length-2 c =
    let are = placed _ _ _ _ _ c.in_ok-x.ensures.0 c.in_ok-x.ensures.1 c.in_ok-y.ensures.0 c.in_ok-y.ensures.1 in
    refused _ _ c.from_residual-in_err-length-2.ensures (λ p writes. c.in_err-length-2.ensures p.y (are p writes).1)

pub returns-in_err-length-3 : goal.returns-in_err-length-3
returns-in_err-length-3 c =
    let are = placed _ _ _ _ _ c.in_ok-x.ensures.0 c.in_ok-x.ensures.1 c.in_ok-y.ensures.0 c.in_ok-y.ensures.1 in
    refused _ _ c.from_residual-in_err-length-3.ensures (λ p writes. c.in_err-length-3.ensures p.z (are p writes).2)

pub returns : goal.returns
returns c =
    let are = c.in_ok-x.ensures.0 ∙ ap (λ l. c.in_ok-x.x.now ++ 32 ∷ l) c.in_ok-y.ensures.0 in
    (c.in_ok-x.x.now, c.in_ok-y.y.now, c.in_ok-y.z.now, are, c.in_ok-length.ensures, c.in_ok-length-2.ensures, c.in_ok-length-3.ensures)
