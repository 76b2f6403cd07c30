use Rattle.std.proofs.Common.{◌≡◌, ◌<◌, sym, ◌∙◌, arith, unsigned_abs, w64}
use Rattle.std.proofs.lemmas.Int.{ints, to_z-of_z}
use Rattle.std.specs.Int.{int_rem_euclid}
use Rattle.ng_num.proofs.RemainderLemmas.{remainder_answers, remainder_by_other, remainder_by_zero, remainder_in_range}
use Rattle.ng_num.specs.Range.{in_range}
use Rattle.ng_num.proofs.num.Num.modulo.Goals as goal

pub returns-then-count-eq0-clause-value : goal.returns-then-count-eq0-clause-value
returns-then-count-eq0-clause-value c = sym (remainder_by_zero _ _ (rw (← c.count.ensures.value) (omega (arith, ints))))

some : (c : goal.After-of_i64) → 0 < unsigned_abs c.args.divisor
some c = rw (← c.count.ensures.value) (omega (arith, ints))

computed : (c : goal.After-of_i64) → c.of_i64.result ≡ in_range (int_rem_euclid c.args.self c.args.divisor)
computed c =
    let x = to_z-of_z w64 c.count-2.result (record { sfits = c.count-2.type_inv }) in
    let y = to_z-of_z w64 c.count-3.result (record { sfits = c.count-3.type_inv }) in
    let r = to_z-of_z w64 c.rem_euclid.result (record { sfits = c.rem_euclid.type_inv }) in
    let rest : c.rem_euclid.result ≡ int_rem_euclid c.args.self c.args.divisor =
    rw (x, y, c.count-2.ensures.value, c.count-3.ensures.value) at c.rem_euclid.ensures.value in
    rw (r, rest) at c.of_i64.ensures

pub returns-clause-value : goal.returns-clause-value
returns-clause-value c =
    computed c ∙ remainder_in_range _ _ (some c) c.count-3.ensures.range ∙ sym (remainder_by_other _ _ (some c))

pub returns-clause-rest : goal.returns-clause-rest
returns-clause-rest c = λ other. remainder_answers _ _ _ (some c) (computed c)
