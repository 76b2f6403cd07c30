use Rattle.ng_modal.proofs.SortedLemmas.{sorted_with_value}
use Rattle.ng_modal.proofs.sorted.Sorted.take_value.Goals as goal

pub returns : goal.returns
returns g c =
    sorted_with_value c.args.letter c.args.value g.ws c.args.self.now c.take.new.self c.take.result
    c.requires.0 c.requires.1 c.take.ensures.taken c.take.ensures.was
