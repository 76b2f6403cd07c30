-- A text without the last of two blanks.
use Rattle.std.proofs.Common.{◌≡◌, ◌-◌, ◌+◌, ℕ, List, [], ◌∷◌, ◌++◌, length, take, sym, ◌∙◌, ap, arith}
use Rattle.std.proofs.lemmas.List.{append_assoc, length-append, take_at}

pub one_blank : (old number : List ℕ) (n : ℕ) → n ≡ length (old ++ (number ++ (32 ∷ 32 ∷ [])))
    → take (n - 1) (old ++ (number ++ (32 ∷ 32 ∷ []))) ≡ old ++ (number ++ (32 ∷ []))
one_blank old number n is =
    let front : List ℕ = old ++ (number ++ (32 ∷ [])) in
    let whole : old ++ (number ++ (32 ∷ 32 ∷ [])) ≡ front ++ (32 ∷ []) =
    sym (append_assoc old (number ++ (32 ∷ [])) (32 ∷ [])
    ∙ ap (λ t. old ++ t) (append_assoc number (32 ∷ []) (32 ∷ []))) in
    let count : n ≡ length front + 1 = is ∙ (ap length whole ∙ length-append front (32 ∷ [])) in
    ap (take (n - 1)) whole ∙ take_at front (32 ∷ []) (n - 1) (omega (arith, count))
