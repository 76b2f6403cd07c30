use Rattle.std.proofs.Common.{◌≡◌, true, refl}
use Rattle.std.specs.Prelude.{None}
use Rattle.ng_num.specs.Causes.{first_fault}
use Rattle.ng_modal.specs.Checking.{faults}
use Rattle.ng_modal.specs.Sorted.{sorted_in, is_plain}
use Rattle.ng_modal.proofs.PlainLemmas.{plain_is_valid}
use Rattle.ng_modal.proofs.sorted.Sorted.check_words.Goals as goal

pub returns-then-is_plain : goal.returns-then-is_plain
returns-then-is_plain c =
    let plain : is_plain (sorted_in c.args.words.now c.args.modes.now) ≡ true = cc (c.sort_in.ensures, c.is_plain.ensures, c.if-is_plain.true) in
    let valid : first_fault (faults c.args.words.now c.args.modes.now c.args.slots) ≡ None =
    plain_is_valid c.args.words.now c.args.modes.now c.args.slots plain in
    rw (valid, c.sort_in.ensures) refl
