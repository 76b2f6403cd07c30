use Rattle.std.proofs.Common.{◌≡◌, ◌∙◌, ap, arith, length, true, false}
use Rattle.std.specs.Prelude.{◌==◌}
use Rattle.std.specs.Int.{bit_at}
use Rattle.ng_modal.specs.ByLetter.{value_of}
use Rattle.ng_modal.proofs.LetterLemmas.{value_present, value_absent}
use Rattle.ng_modal.proofs.by_letter.ByLetter.at.Goals as goal

pub returns-then-has_bit : goal.returns-then-has_bit
returns-then-has_bit c =
    let long : length c.self.inside.numbers ≡ 20 = omega arith in
    let set : (bit_at c.self.inside.present c.index_of-index.result == 1) ≡ true = cc in
    value_present c.args.letter c.self.inside.present c.self.inside.numbers c.index_of-index.result c.index-self-index.result
    c.requires c.index_of-index.ensures.value long set
    ∙ ap (λ v. value_of v c.args.letter) c.self.view_is

pub returns-else-has_bit : goal.returns-else-has_bit
returns-else-has_bit c =
    let unset : (bit_at c.self.inside.present c.index_of-index.result == 1) ≡ false = cc in
    value_absent c.args.letter c.self.inside.present c.self.inside.numbers c.index_of-index.result
    c.requires c.index_of-index.ensures.value unset
    ∙ ap (λ v. value_of v c.args.letter) c.self.view_is
