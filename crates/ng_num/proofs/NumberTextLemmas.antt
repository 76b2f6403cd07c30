-- A number's text, written from its end to its start.
use Rattle.std.proofs.Common.{ℕ, ◌/◌, ◌≡◌, List, ◌∷◌, ◌++◌, drop, ℤ, unsigned_abs, codes, ap, sym, ◌∙◌}
use Rattle.std.proofs.lemmas.List.{append_assoc}
use Rattle.std.specs.Fmt.{decimal}
use Rattle.ng_num.specs.declared.point.Point.{Point}
use Rattle.ng_num.specs.Printing.{minus, number_text, point_text, six_digits}

-- what comes right after a number's text comes right after its decimals
number_then : (z : ℤ) (after : List ℕ)
    → number_text z ++ after ≡ minus z ++ (decimal (unsigned_abs z / 1_000_000) ++ (46 ∷ (six_digits (unsigned_abs z) ++ after)))
unfolding number_text
number_then z after =
    let whole = decimal (unsigned_abs z / 1_000_000) in
    let decimals = 46 ∷ six_digits (unsigned_abs z) in
    append_assoc (minus z) (whole ++ decimals) after ∙ ap (λ l. minus z ++ l) (append_assoc whole decimals after)

-- the decimals before what follows them, the whole part before the decimals, and the minus before that
pub written_then : (z : ℤ) (size point whole start end : ℕ) (after filled decimals digits text : List ℕ) → size ≡ unsigned_abs z
    → drop end filled ≡ after
    → drop point decimals ≡ 46 ∷ (six_digits size ++ drop end filled)
    → drop whole digits ≡ decimal (size / 1_000_000) ++ drop point decimals
    → drop start text ≡ minus z ++ drop whole digits
    → drop start text ≡ number_text z ++ after
written_then z size point whole start end after filled decimals digits text same b d w m =
    m ∙ ap (λ l. minus z ++ l) (w ∙ ap (λ l. decimal (size / 1_000_000) ++ l) (d ∙ ap (λ l. 46 ∷ (six_digits size ++ l)) b))
    ∙ ap (λ n. minus z ++ (decimal (n / 1_000_000) ++ (46 ∷ (six_digits n ++ after)))) same
    ∙ sym (number_then z after)

-- three coordinates, the last first, before what stands in a buffer from its 51st byte on
pub point_then : (p : Point) (x y z : ℤ) (at_x at_y at_z : ℕ) (after empty last two all : List ℕ) → x ≡ p.x → y ≡ p.y → z ≡ p.z
    → drop at_z last ≡ number_text z ++ (after ++ drop 51 empty)
    → drop at_y two ≡ number_text y ++ (codes ", " ++ drop at_z last)
    → drop at_x all ≡ number_text x ++ (codes ", " ++ drop at_y two)
    → drop at_x all ≡ (point_text p ++ after) ++ drop 51 empty
point_then p x y z at_x at_y at_z after empty last two all xs ys zs lz ly lx =
    lx
    ∙ ap (λ l. number_text x ++ (codes ", " ++ l)) (ly ∙ ap (λ l. number_text y ++ (codes ", " ++ l)) lz)
    ∙ ap (λ n. number_text n ++ (codes ", " ++ (number_text y ++ (codes ", " ++ (number_text z ++ (after ++ drop 51 empty)))))) xs
    ∙ ap (λ n. number_text p.x ++ (codes ", " ++ (number_text n ++ (codes ", " ++ (number_text z ++ (after ++ drop 51 empty)))))) ys
    ∙ ap (λ n. number_text p.x ++ (codes ", " ++ (number_text p.y ++ (codes ", " ++ (number_text n ++ (after ++ drop 51 empty)))))) zs
    ∙ joined
  where
    joined : number_text p.x
        ++ (codes ", " ++ (number_text p.y ++ (codes ", " ++ (number_text p.z ++ (after ++ drop 51 empty)))))
        ≡ (point_text p ++ after) ++ drop 51 empty
    joined = simp append_assoc
