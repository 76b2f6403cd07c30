use Rattle.std.proofs.Common.{◌≡◌, arith, ◌-ℤ◌, pos, of_z, to_z, w64}
use Rattle.std.proofs.lemmas.Int.{ints}
use Rattle.ng_num.specs.Whole.{fup}
use Rattle.ng_num.proofs.WholeNumberLemmas.{fup_answers}
use Rattle.ng_num.proofs.num.Num.fup.Goals as goal

pub returns-clause-least : goal.returns-clause-least
returns-clause-least c =
    let fix_of = rw c.minus.ensures at c.whole_below.ensures.value in
    let negated : to_z w64 (of_z w64 (pos 0 -ℤ to_z w64 (of_z w64 c.whole_below.result))) ≡ fup c.args.self = omega (arith, ints, fix_of) in
    fup_answers c.args.self c.of_i64.result (rw negated at c.of_i64.ensures)
