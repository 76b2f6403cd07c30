use Rattle.std.proofs.Common.{rules, ◌≡◌, refl, Err, ◌∙◌, ◌+ℤ◌, ◌-ℤ◌, arith}
use Rattle.ng_cycles.proofs.RangeSumLemmas.{near_ok, near_err, far_alone, far_third}
use Rattle.ng_cycles.proofs.heights.r_of.Goals as goal

pub returns-in_err-current : goal.returns-in_err-current
returns-in_err-current c =
    let far = near_err (c.args.at -ℤ c.args.shift) c.in_err-current.field-0.0 c.in_err-current.ensures.value in
    let is : c.from_residual.result ≡ Err c.in_err-current.field-0.0 = search rules in
    rw (is, c.if-is_incremental.true, far.1, far.0) refl

pub returns-in_err-add : goal.returns-in_err-add
returns-in_err-add c =
    let current = near_ok (c.args.at -ℤ c.args.shift) c.in_ok-current.current c.in_ok-current.ensures.value in
    let far = near_err (c.in_ok-current.current +ℤ c.args.word) c.in_err-add.field-0.0 c.in_err-add.ensures in
    let is : c.from_residual-in_err-add.result ≡ Err c.in_err-add.field-0.0 = search rules in
    rw (is, c.if-is_incremental.true, current.1, rw current.0 at far.1, far.0) refl

pub returns-in_ok-add : goal.returns-in_ok-add
returns-in_ok-add c =
    let current = near_ok (c.args.at -ℤ c.args.shift) c.in_ok-current.current c.in_ok-current.ensures.value in
    let r = near_ok (c.in_ok-current.current +ℤ c.args.word) c.in_ok-add.field-0 c.in_ok-add.ensures in
    rw c.if-is_incremental.true (c.add-then-is_incremental.ensures
    ∙ far_third (c.args.at -ℤ c.args.shift) ((c.args.at -ℤ c.args.shift) +ℤ c.args.word)
    (c.args.at +ℤ c.args.word) current.1 (rw current.0 at r.1))

pub returns-else-is_incremental : goal.returns-else-is_incremental
returns-else-is_incremental c = rw c.if-is_incremental.false (c.to_machine.ensures.value ∙ far_alone (c.args.word +ℤ c.args.shift))

pub to_program-requires : goal.to_program-requires
to_program-requires c = omega arith

pub branch-current-requires : goal.branch-current-requires
branch-current-requires c κs = search rules

pub from_residual-requires : goal.from_residual-requires
from_residual-requires c κs = search rules

pub add-requires : goal.add-requires
add-requires c = omega arith

pub branch-add-requires : goal.branch-add-requires
branch-add-requires c κs = search rules

pub from_residual-requires-in_err-add : goal.from_residual-requires-in_err-add
from_residual-requires-in_err-add c κs = search rules

pub add-requires-then-is_incremental : goal.add-requires-then-is_incremental
add-requires-then-is_incremental c = omega arith

pub to_machine-requires : goal.to_machine-requires
to_machine-requires c = omega arith
