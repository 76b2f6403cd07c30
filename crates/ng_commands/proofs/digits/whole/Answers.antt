use Rattle.std.proofs.Common.{rules, ◌≡◌, ◌*◌, ◌+◌, ◌<◌, ◌-◌, ℕ, List, ◌∷◌, subst}
use Rattle.ng_words.specs.Grammar.{written_after}
use Rattle.ng_commands.proofs.DigitSizeLemmas.{too_great}
use Rattle.ng_commands.proofs.digits.whole.Goals as goal

-- the number of the first digits is above the greatest
pub returns-then-value-greatest : goal.returns-then-value-greatest
returns-then-value-greatest c =
    let front : c.loop-first.rest.now ≡ c.in-Some.first.now ∷ c.in-Some.others.now = search rules in
    let P : List ℕ → Type 0 = λ rest. written_after c.loop-first.value rest ≡ written_after 0 c.args.digits.now in
    let same : written_after (c.loop-first.value * 10 + (c.in-Some.first.now - 48)) c.in-Some.others.now
    ≡ written_after 0 c.args.digits.now = subst P front c.loop-first.invariant.1 in
    let great : c.args.greatest < c.loop-first.value * 10 + (c.in-Some.first.now - 48) = search rules in
    too_great c.args.greatest (c.loop-first.value * 10 + (c.in-Some.first.now - 48)) c.in-Some.others.now c.args.digits.now great same
