use Rattle.std.proofs.Common.{◌≡◌, Some}
use Rattle.ng_modal.specs.Codes.{m_word}
use Rattle.ng_modal.proofs.SortedLemmas.{sorted_with_m}
use Rattle.ng_modal.proofs.sorted.Sorted.take_m.Goals as goal

pub returns-in-Some : goal.returns-in-Some
returns-in-Some g c =
    let is : m_word c.args.value ≡ Some c.in-Some.word = cc (c.m_word.ensures, c.in-Some.is) in
    sorted_with_m c.args.value g.ws c.args.self.now c.in-Some.word c.take.new.self c.take.result c.with_one_more-self.result
    c.requires is c.take.ensures.taken c.take.ensures.was c.with_one_more-self.ensures
