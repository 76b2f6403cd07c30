use Rattle.std.proofs.Common.{◌≡◌, Some}
use Rattle.ng_modal.specs.Codes.{g_word}
use Rattle.ng_modal.proofs.SortedLemmas.{sorted_with_g}
use Rattle.ng_modal.proofs.sorted.Sorted.take_g.Goals as goal

pub returns-in-Some : goal.returns-in-Some
returns-in-Some g c =
    let is : g_word c.args.value ≡ Some c.in-Some.word = cc (c.g_word.ensures, c.in-Some.is) in
    sorted_with_g c.args.value g.ws c.args.self.now c.in-Some.word c.take.new.self c.take.result c.is_left_out_code.result
    c.requires is c.take.ensures.taken c.take.ensures.was c.is_left_out_code.ensures
