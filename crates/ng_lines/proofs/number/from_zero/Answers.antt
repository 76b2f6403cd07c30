use Rattle.std.proofs.Common.{◌≡◌, ◌∙◌, ap, pos}
use Rattle.std.specs.Result.{result_ok}
use Rattle.ng_num.specs.Range.{in_range}
use Rattle.ng_num.specs.Printing.{number_text}
use Rattle.ng_lines.proofs.SignedNumberLemmas.{made, makes, same_size, text_pos}
use Rattle.ng_lines.proofs.number.from_zero.Goals as goal

pub returns-in-Some-clause-found : goal.returns-in-Some-clause-found
returns-in-Some-clause-found c =
    made (λ z. number_text z ≡ c.args.text.now) (pos c.in-Some.size) c.ok.result (c.ok.ensures.value
    ∙ ap result_ok c.of_size.ensures) (text_pos c.in-Some.size ∙ c.in-Some.ensures.found)

pub returns-in-Some-clause-only : goal.returns-in-Some-clause-only
returns-in-Some-clause-only c n small written =
    let size_is = same_size c.in-Some.size n (c.in-Some.ensures.only n small written) in
    makes (pos n) c.ok.result (c.ok.ensures.value ∙ ap result_ok c.of_size.ensures ∙ ap (λ k. result_ok (in_range (pos k))) size_is) small
