use Rattle.std.proofs.Common.{◌≡◌, ◌*◌, ◌^◌, ◌≤◌, ◌∙◌, inl, inr, unsigned_abs}
use Rattle.std.proofs.lemmas.Bool.{cases_lt}
use Rattle.ng_num.specs.Range.{in_range}
use Rattle.ng_num.specs.Rounding.{signed, is_unlike}
use Rattle.ng_num.specs.Arithmetic.{product}
use Rattle.ng_num.proofs.ProductLemmas.{product_answers, product_beyond, product_by_size}
use Rattle.ng_num.proofs.num.Num.mul.Goals as goal

multiplied : (c : goal.After-of_size) → c.of_size.result ≡ in_range (product c.args.self c.args.other)
multiplied c =
    let known : c.of_size.result ≡ in_range (signed (is_unlike c.args.self c.args.other) c.nearest_size.result) = cc in
    let size : c.in-Some.size ≡ c.size.result * c.size-2.result = c.in-Some.ensures.1 in
    known ∙ product_by_size c.args.self c.args.other _ _ _ c.size.ensures.value c.size-2.ensures.value (rw size at c.nearest_size.ensures)

beyond : (c : goal.In-None) → 2 ^ 64 ≤ unsigned_abs c.args.self * unsigned_abs c.args.other
beyond c = rw (← c.size.ensures.value, ← c.size-2.ensures.value)
    (elim (cases_lt (c.size.result * c.size-2.result) (2 ^ 64))
    [ inl h ↦ absurd (c.in-None.ensures h) | inr h ↦ h ])

pub returns-in-Some-clause-value : goal.returns-in-Some-clause-value
returns-in-Some-clause-value c = multiplied c

pub returns-in-None-clause-value : goal.returns-in-None-clause-value
returns-in-None-clause-value c = product_beyond c.args.self c.args.other (beyond c)

pub returns-in-Some-clause-nearest : goal.returns-in-Some-clause-nearest
returns-in-Some-clause-nearest c = product_answers c.args.self c.args.other _ (multiplied c)

pub returns-in-None-clause-nearest : goal.returns-in-None-clause-nearest
returns-in-None-clause-nearest c = product_answers c.args.self c.args.other _ (product_beyond c.args.self c.args.other (beyond c))
