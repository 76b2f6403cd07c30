use Rattle.std.proofs.Common.{◌≡◌, ◌*◌, Ok, pos, ◌≤ℤ◌, ◌∙◌, ap, sym, arith, unsigned_abs}
use Rattle.std.proofs.lemmas.Int.{ints}
use Rattle.ng_num.proofs.RootLemmas.{IsRootSize, root_answers_above, root_below_zero, root_of_above}
use Rattle.ng_num.proofs.num.Num.sqrt.Goals as goal

pub returns-then-count-lt0-clause-value : goal.returns-then-count-lt0-clause-value
returns-then-count-lt0-clause-value c = sym (root_below_zero c.args.self (rw (← c.count.ensures.value) (omega (arith, ints))))

root_size : (c : goal.After-of_count) → IsRootSize (unsigned_abs c.args.self * 1_000_000) c.isqrt-root.result
root_size c = rw (← c.size.ensures.value) (record { low = c.isqrt-root.ensures.square_le; high = c.isqrt-root.ensures.next_square_gt })

from_zero : (c : goal.After-of_count) → pos 0 ≤ℤ c.args.self
from_zero c = rw (← c.count.ensures.value) (omega (arith, ints))

root_is : (c : goal.After-of_count) → c.of_count.result ≡ pos c.isqrt-root.result
root_is c = omega (arith, ints)

pub returns-clause-value : goal.returns-clause-value
returns-clause-value c = ap Ok (root_is c) ∙ sym (root_of_above c.args.self c.isqrt-root.result (from_zero c) (root_size c))

pub returns-clause-root : goal.returns-clause-root
returns-clause-root c = λ above. root_answers_above c.args.self c.isqrt-root.result _ above (root_size c) (omega arith) (ap Ok (root_is c))
