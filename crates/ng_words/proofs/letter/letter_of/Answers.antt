use Rattle.std.proofs.Common.{arith, ℕ, zero, suc, ◌+◌, ◌-◌, ◌<◌, ◌≡◌, List, [], ◌∷◌, Option, None, get_or, ap, refl, ◌∙◌}
use Rattle.ng_words.specs.declared.letter.Letter.{Letter}
use Rattle.ng_words.specs.declared.letter.TheConstants.{LETTERS}
use Rattle.ng_words.specs.Plain.{capital}
use Rattle.ng_words.specs.Scan.{letter_of}
use Rattle.ng_words.proofs.letter.letter_of.Goals as goal

-- the letters that n bytes are, in either case, b and those after it
abbrev letters_from : ℕ → ℕ → List (Option Letter)
letters_from b zero = []
letters_from b (suc n) = letter_of (capital b) ∷ letters_from (suc b) n

letter_at : (b n k : ℕ) → k < n → get_or (letters_from b n) k None ≡ letter_of (capital (b + k))
letter_at b zero k h = absurd (omega (arith, h))
letter_at b (suc n) zero h = let same : b ≡ b + 0 = omega arith in ap (λ (x : ℕ). letter_of (capital x)) same
letter_at b (suc n) (suc k) h =
    let same : suc b + k ≡ b + suc k = omega arith in
    letter_at (suc b) n k (omega (arith, h)) ∙ ap (λ (x : ℕ). letter_of (capital x)) same

table : LETTERS ≡ letters_from 65 58
table = refl

pub returns : goal.returns
returns c =
    let k = c.args.byte - 65 in
    let same : 65 + k ≡ c.args.byte = omega (arith, c.if-byte-lt65.false) in
    ap (λ (l : List (Option Letter)). get_or l k None) table
    ∙ letter_at 65 58 k (omega (arith, c.if-byte-lt65.false, c.if-byte-gt122.false))
    ∙ ap (λ (x : ℕ). letter_of (capital x)) same
