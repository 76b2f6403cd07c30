use Rattle.std.proofs.Common.{◌≡◌, ◌∙◌, ◌∷◌, ap, suc, neg_ℤ, negsuc, pos}
use Rattle.std.specs.Result.{result_ok}
use Rattle.ng_num.specs.Range.{in_range}
use Rattle.ng_num.specs.Printing.{number_text}
use Rattle.ng_lines.proofs.SignedNumberLemmas.{made, makes, same_size, text_below}
use Rattle.ng_lines.proofs.number.below_zero.Goals as goal

pub returns-in-Some-clause-found : goal.returns-in-Some-clause-found
returns-in-Some-clause-found c =
    made (λ z. number_text z ≡ 45 ∷ c.args.text.now) (neg_ℤ (pos c.in-Some.size)) c.ok.result (c.ok.ensures.value ∙ ap result_ok c.of_size.ensures)
    (text_below c.in-Some.size c.in-Some.size-test.1 ∙ ap (λ l. 45 ∷ l) c.in-Some.ensures.found)

pub returns-in-Some-clause-only : goal.returns-in-Some-clause-only
returns-in-Some-clause-only c n small written =
    let size_is = same_size c.in-Some.size (suc n) (c.in-Some.ensures.only (suc n) small written) in
    makes (negsuc n) c.ok.result (c.ok.ensures.value ∙ ap result_ok c.of_size.ensures ∙ ap (λ k. result_ok (in_range (neg_ℤ (pos k)))) size_is) small
