use Rattle.std.proofs.Common.{◌≤◌, arith}
use Rattle.ng_modal.proofs.FirstCauseLemmas.{least_by}
use Rattle.ng_modal.proofs.AcceptedWordLemmas.{accepted_by}
use Rattle.ng_modal.proofs.sorted.Sorted.check.Goals as goal

pub returns-clause-least : goal.returns-clause-least
returns-clause-least c =
    least_by c.args.values.now.words.items c.args.modes.now c.args.slots c.check_words.new.self.block c.check_words.result
    (rw (← c.as_slice.ensures.value) c.check_words.ensures)

pub returns-clause-accepted : goal.returns-clause-accepted
returns-clause-accepted c =
    let few : c.args.slots ≤ 255 = omega (arith, c.ranges.slots.fits) in
    accepted_by c.args.values.now.words.items c.args.modes.now c.args.slots few c.check_words.new.self.block c.check_words.result
    (rw (← c.as_slice.ensures.value) c.check_words.ensures)
