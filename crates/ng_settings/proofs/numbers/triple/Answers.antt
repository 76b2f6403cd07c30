use Rattle.std.proofs.Common.{◌≡◌, ◌≢◌, ◌<◌, length, sym, rules, arith}
use Rattle.toml.specs.View.{view, items_view}
use Rattle.ng_settings.proofs.NumberLemmas.{is_array, no_array, not_three, not_whole, three}
use Rattle.ng_settings.proofs.numbers.triple.Goals as goal

pub returns-in_err-array : goal.returns-in_err-array
returns-in_err-array c = rw c.from_residual.ensures (no_array (view c.args.value.now) c.in_err-array.ensures)

pub returns-then-len-ne3 : goal.returns-then-len-ne3
returns-then-len-ne3 c =
    let vs = c.in_ok-array.array.now.items in
    let other : length vs ≢ 3 = omega arith in
    rw (is_array (view c.args.value.now) (items_view vs) c.in_ok-array.ensures) (not_three vs other)

pub returns-in_err-x : goal.returns-in_err-x
returns-in_err-x c =
    let vs = c.in_ok-array.array.now.items in
    let lt : 0 < length vs = omega arith in
    rw (c.from_residual-in_err-x.ensures, is_array (view c.args.value.now) (items_view vs) c.in_ok-array.ensures)
    (not_whole vs 0 c.index.result.now lt c.index.ensures c.in_err-x.ensures)

pub returns-in_err-y : goal.returns-in_err-y
returns-in_err-y c =
    let vs = c.in_ok-array.array.now.items in
    let lt : 1 < length vs = omega arith in
    rw (c.from_residual-in_err-y.ensures, is_array (view c.args.value.now) (items_view vs) c.in_ok-array.ensures)
    (not_whole vs 1 c.index-2.result.now lt c.index-2.ensures c.in_err-y.ensures)

pub returns-in_err-z : goal.returns-in_err-z
returns-in_err-z c =
    let vs = c.in_ok-array.array.now.items in
    let lt : 2 < length vs = omega arith in
    rw (c.from_residual-in_err-z.ensures, is_array (view c.args.value.now) (items_view vs) c.in_ok-array.ensures)
    (not_whole vs 2 c.index-3.result.now lt c.index-3.ensures c.in_err-z.ensures)

pub returns : goal.returns
returns c =
    let vs = c.in_ok-array.array.now.items in
    let len : length vs ≡ 3 = omega arith in
    let found = three vs c.index.result.now c.index-2.result.now c.index-3.result.now c.in_ok-x.x c.in_ok-y.y
    c.in_ok-z.z len c.index.ensures c.index-2.ensures c.index-3.ensures
    (sym c.in_ok-x.ensures) (sym c.in_ok-y.ensures) (sym c.in_ok-z.ensures) in
    let x : c.of.result ≡ c.in_ok-x.x = search rules in
    let y : c.of-2.result ≡ c.in_ok-y.y = search rules in
    let z : c.of-3.result ≡ c.in_ok-z.z = search rules in
    rw (is_array (view c.args.value.now) (items_view vs) c.in_ok-array.ensures, x, y, z) found
