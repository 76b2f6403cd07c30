use Rattle.std.proofs.Common.{refl}
use Rattle.ng_modal.proofs.SortedLemmas.{left_out_by}
use Rattle.ng_modal.proofs.sorted.Sorted.sort_in.Goals as goal

pub returns : goal.returns
returns c =
    rw (c.movement_for-self.ensures, c.has_left_out_letter.ensures, c.sort.ensures, left_out_by c.args.words.now) refl
