use Rattle.std.proofs.Common.{rules, ◌≡◌, refl, Err, ◌∙◌, sym, ◌+ℤ◌, ◌-ℤ◌}
use Rattle.ng_cycles.proofs.RangeSumLemmas.{near_ok, near_err, far_second}
use Rattle.ng_cycles.proofs.heights.z_from.Goals as goal

pub returns-in_err-add : goal.returns-in_err-add
returns-in_err-add c =
    let current = near_ok (c.args.at -ℤ c.args.shift) c.unwrap-current.result (sym c.unwrap-current.ensures ∙ c.to_program.ensures.value) in
    let r = near_ok (c.unwrap-current.result +ℤ c.args.r) c.unwrap.result (sym c.unwrap.ensures ∙ c.add.ensures) in
    let far = near_err (c.unwrap.result +ℤ c.args.word) c.in_err-add.field-0.0 c.in_err-add.ensures in
    let is : c.from_residual.result ≡ Err c.in_err-add.field-0.0 = search rules in
    rw (is, rw current.0 at (rw r.0 at far.1), far.0) refl

pub returns : goal.returns
returns c =
    let current = near_ok (c.args.at -ℤ c.args.shift) c.unwrap-current.result (sym c.unwrap-current.ensures ∙ c.to_program.ensures.value) in
    let r = near_ok (c.unwrap-current.result +ℤ c.args.r) c.unwrap.result (sym c.unwrap.ensures ∙ c.add.ensures) in
    let z = near_ok (c.unwrap.result +ℤ c.args.word) c.in_ok-add.field-0 c.in_ok-add.ensures in
    let machine = near_ok (c.args.at +ℤ c.args.r) c.unwrap-2.result (sym c.unwrap-2.ensures ∙ c.add-3.ensures) in
    c.add-4.ensures ∙ rw machine.0 (far_second (((c.args.at -ℤ c.args.shift) +ℤ c.args.r) +ℤ c.args.word)
    ((c.args.at +ℤ c.args.r) +ℤ c.args.word) (rw current.0 at (rw r.0 at z.1)))
