use Rattle.std.proofs.Common.{w64}
use Rattle.std.proofs.lemmas.Int.{to_z-of_z}
use Rattle.ng_num.proofs.WholeNumberLemmas.{fix_answers}
use Rattle.ng_num.proofs.num.Num.fix.Goals as goal

pub returns-clause-greatest : goal.returns-clause-greatest
returns-clause-greatest c =
    let cast = to_z-of_z w64 c.whole_below.result (record { sfits = c.whole_below.type_inv }) in
    fix_answers c.args.self c.of_i64.result (rw (cast, c.whole_below.ensures.value) at c.of_i64.ensures)
