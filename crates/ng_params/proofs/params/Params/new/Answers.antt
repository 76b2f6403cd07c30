use Rattle.std.proofs.Common.{◌≡◌, pos, ℤ, ap, ◌∙◌, List, set, replicate}
use Rattle.ng_params.specs.Params.{defaults}
use Rattle.ng_params.proofs.params.Params.new.Goals as goal

defaults_are : (zero one : ℤ) → zero ≡ pos 0 → one ≡ pos 1_000_000 → set (replicate 5399 zero) 5219 one ≡ defaults
defaults_are zero one is_zero is_one =
    ap (λ (z : ℤ). set (replicate 5399 z) 5219 one) is_zero
    ∙ ap (λ (o : ℤ). set (replicate 5399 (pos 0)) 5219 o) is_one

pub returns : goal.returns
returns g c =
    ap (λ (l : List ℤ). set l 5219 c.one.result) (c.in_ok-values.ensures.items_if_clones_equal (λ y e. e))
    ∙ defaults_are _ _ c.zero.ensures c.one.ensures
