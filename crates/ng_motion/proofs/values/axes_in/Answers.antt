use Rattle.std.proofs.Common.{◌≡◌, ◌≢◌, arith, length}
use Rattle.toml.specs.View.{items_view, view}
use Rattle.ng_settings.proofs.NumberLemmas.{is_array}
use Rattle.ng_motion.proofs.ItemLemmas.{not_three, third_is}
use Rattle.ng_motion.proofs.values.axes_in.Goals as goal

pub returns-then-len-ne3-clause-none : goal.returns-then-len-ne3-clause-none
returns-then-len-ne3-clause-none c a three =
    let vs = c.in-Some.array.now.items in
    let other : length vs ≢ 3 = omega arith in
    not_three vs (view c.args.value.now) a.x a.y a.z other (is_array (view c.args.value.now) (items_view vs) c.in-Some.ensures) three.0

pub returns-in_default-whole_in-3-clause-none : goal.returns-in_default-whole_in-3-clause-none
returns-in_default-whole_in-3-clause-none c a three =
    let vs = c.in-Some.array.now.items in
    let len : length vs ≡ 3 = omega arith in
    c.in_default-whole_in-3.ensures.none a.z (
      third_is vs c.index-3.result.now (view c.args.value.now) a.x a.y a.z len c.index-3.ensures
          (is_array (view c.args.value.now) (items_view vs) c.in-Some.ensures) three.0,
      three.3,
    )
