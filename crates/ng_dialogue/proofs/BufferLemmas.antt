-- Parts of a buffer, and the start of a line.
use Rattle.std.proofs.Common.{◌≡◌, ◌≢◌, ◌≤◌, ◌+◌, ◌-◌, min, ℕ, suc, zero, Bool, true, false, not, ◌==◌, List, []}
use Rattle.std.proofs.Common.{◌∷◌, ◌++◌, length, take, drop, slice_range, refl, sym, ap, ◌∙◌, arith, length-take}
use Rattle.std.proofs.Common.{length-drop, append-nil, take-append-drop}
use Rattle.std.proofs.lemmas.List.{drop-take, drop-drop, take_all, drop_all}

-- a part without its first n bytes
pub drop_range : (b : List ℕ) (s e n : ℕ) → s + n ≤ e → slice_range b (s + n) e ≡ drop n (slice_range b s e)
drop_range b s e n h =
    let size : e - s ≡ n + (e - (s + n)) = omega (arith, h) in
    sym (ap (λ k. drop n (take k (drop s b))) size ∙ drop-take n (e - (s + n)) (drop s b) ∙ ap (take (e - (s + n))) (drop-drop n s b))

pub range_within : (b now : List ℕ) (s e n : ℕ) → slice_range b s e ≡ now → s ≤ e → n ≤ length now → s + n ≤ e
range_within b now s e n is order h =
    let size = simp (length-take, length-drop) at (ap length is) in
    omega (arith, size, h, order)

take_min : (bytes : List ℕ) (m n : ℕ) → n ≡ min (length bytes) m → take n bytes ≡ take m bytes
take_min [] m n e = take_all n [] (omega arith) ∙ sym (take_all m [] (omega arith))
take_min (b ∷ bs) zero n e = let none : n ≡ 0 = omega (arith, e) in ap (λ k. take k (b ∷ bs)) none
take_min (b ∷ bs) (suc m) zero e = absurd (omega (arith, e))
take_min (b ∷ bs) (suc m) (suc n) e = let less : n ≡ min (length bs) m = omega (arith, e) in ap (λ l. b ∷ l) (take_min bs m n less)

-- as much as fits
pub head_front : (most n : ℕ) (old bytes : List ℕ) → length old ≤ most → n ≡ min (length bytes) (most - length old)
    → old ++ take n bytes ≡ take most (old ++ bytes)
head_front most n [] bytes h e = take_min bytes most n (omega (arith, e))
head_front zero n (x ∷ old) bytes h e = absurd (omega (arith, h))
head_front (suc most) n (x ∷ old) bytes h e =
    let less : n ≡ min (length bytes) (most - length old) = omega (arith, e) in
    ap (λ l. x ∷ l) (head_front most n old bytes (omega (arith, h)) less)

-- what was cut off before is cut off again
pub cut_on : (most : ℕ) (front bytes : List ℕ) → take most (take most front ++ bytes) ≡ take most (front ++ bytes)
cut_on zero front bytes = refl
cut_on (suc most) [] bytes = refl
cut_on (suc most) (b ∷ front) bytes = ap (λ l. b ∷ l) (cut_on most front bytes)

pub cut_none : (most : ℕ) (line : List ℕ) → take (suc most) line ≡ [] → line ≡ []
cut_none most [] e = refl
cut_none most (b ∷ line) e = cc

pub after_newline : (front rest : List ℕ) (n : ℕ) → n ≡ length front + 1 → drop n (front ++ 10 ∷ rest) ≡ rest
after_newline [] rest n e = ap (λ k. drop k (10 ∷ rest)) e
after_newline (b ∷ front) rest zero e = absurd (omega (arith, e))
after_newline (b ∷ front) rest (suc n) e = after_newline front rest n (omega (arith, e))

-- what is kept of a line isn't empty, and neither is what was passed
pub some_passed : (head passed : List ℕ) (t : Bool) → t ≡ (length head == 0) → not t ≡ true → head ≡ take 301 passed → passed ≢ []
some_passed [] passed true e f is = λ none. absurd cc
some_passed [] passed false e f is = λ none. absurd cc
some_passed (x ∷ head) passed t e f is = λ none. let bare : (x ∷ head) ≡ [] = is ∙ ap (take 301) none in absurd cc

-- everything that waits is taken
pub all_taken : (here w left : List ℕ) → w ≡ here → left ≡ drop (length w) here → here ≡ w ++ left
all_taken here w left e f =
    let none : left ≡ [] = f ∙ ap (drop (length w)) (sym e) ∙ drop_all (length w) w (omega arith) in
    sym e ∙ sym (append-nil w) ∙ ap (λ l. w ++ l) (sym none)

-- some of what waits is taken
pub some_taken : (here w left : List ℕ) (n : ℕ) → w ≡ here → left ≡ drop n here → here ≡ take n w ++ left
some_taken here w left n e f = sym e ∙ sym (take-append-drop n w) ∙ ap (λ l. take n w ++ l) (ap (drop n) e ∙ sym f)

pub nonempty : (xs : List ℕ) → xs ≢ [] → 1 ≤ length xs
nonempty [] h = absurd (h refl)
nonempty (x ∷ xs) h = omega arith

pub taken_length : (w here : List ℕ) (n left : ℕ) → w ≡ here → n ≡ min (length w) left → length (take n w) ≡ n
taken_length w here n left e f = simp length-take (omega (arith, f))
