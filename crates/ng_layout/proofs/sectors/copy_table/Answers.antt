use Rattle.std.proofs.Common.{◌≡◌, ◌<◌, ℕ, ℤ, List, length, get_or, pos, refl, sym, ◌∙◌, arith}
use Rattle.std.proofs.lemmas.List.FromFn.{fill_by_all}
use Rattle.ng_layout.proofs.sectors.copy_table.Goals as goal

same_lists : (n : ℕ) (xs ys : List ℤ) → length xs ≡ n → length ys ≡ n → ((k : ℕ) → k < n → get_or xs k (pos 0) ≡ get_or ys k (pos 0)) → xs ≡ ys
same_lists n xs ys long_xs long_ys each = fill_by_all (λ k. get_or ys k (pos 0)) xs n (pos 0) long_xs each
    ∙ sym (fill_by_all (λ k. get_or ys k (pos 0)) ys n (pos 0) long_ys (λ k lt. refl))

pub returns : goal.returns
returns g c = same_lists 5399 _ _ c.loop-k.invariant.long c.requires.from (λ k lt. c.loop-k.invariant.same k (omega (arith, c.loop-k-test.false)))
