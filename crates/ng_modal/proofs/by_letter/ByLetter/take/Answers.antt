use Rattle.std.proofs.Common.{◌≡◌, ◌∙◌, arith, length}
use Rattle.ng_modal.proofs.LetterLemmas.{unpacked_with_word, was_unpacked}
use Rattle.ng_modal.proofs.by_letter.ByLetter.take.Goals as goal

pub returns-clause-taken : goal.returns-clause-taken
returns-clause-taken g c =
    let long : length c.self.inside.numbers ≡ 20 = omega arith in
    unpacked_with_word c.args.letter c.args.value g.ws c.self.inside.present c.self.inside.numbers c.index_of-index.result
    c.index_of-index.ensures.value long (c.self.view_is ∙ c.requires.1)

pub returns-clause-was : goal.returns-clause-was
returns-clause-was g c =
    c.has_bit-was.ensures
    ∙ was_unpacked c.args.letter g.ws c.self.inside.present c.self.inside.numbers c.index_of-index.result c.requires.0
    c.index_of-index.ensures.value (c.self.view_is ∙ c.requires.1)
