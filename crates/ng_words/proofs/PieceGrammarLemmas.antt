-- The piece found at the front is the one that the grammar says, in both directions; and the pieces up to the end, in
-- order.
use Rattle.std.proofs.Common.{ℕ, zero, suc, ◌+◌, ◌≤◌, ◌≡◌, ◌≢◌, ◌⊎◌, inl, inr, List, [], ◌∷◌, ◌++◌, length, Bool}
use Rattle.std.proofs.Common.{true, false, cond, ◌==◌, Option, Some, None, refl, sym, ap, ◌∙◌, subst, arith}
use Rattle.std.proofs.Common.{append_assoc, append-nil, length-append}
use Rattle.std.specs.Option.{option_map, option_and_then}
use Rattle.std.proofs.lemmas.Bool.Decides.{nat_tests, Decides-eqb}
use Rattle.ng_words.specs.Grammar.{is_digit, Tree, IsValue, code, Piece, word, assignment, comment, HasNoParentheses, Spells, SpellsPieces}
use Rattle.ng_words.specs.Scan.{letters, letter_among, letter_of}
use Rattle.ng_words.specs.Value.{strip_prefix, value_at}
use Rattle.ng_words.specs.Pieces.{comment_at, set_at, piece_from, piece_at, pieces_at}
use Rattle.ng_words.specs.declared.letter.Letter.{Letter}
use Rattle.ng_words.specs.declared.letter.Letter.TheVariants.{A, B, C, D, F, G, H, I, J, K, L, M, P, Q, R, S, T, X, Y, Z}
use Rattle.ng_words.proofs.NumberGrammarLemmas.{Stops, NoDigit, option_map_some}
use Rattle.ng_words.proofs.ValueWalkLemmas.{and_then_some, strip_prefix_is}
use Rattle.ng_words.proofs.ValueGrammarLemmas.{value_again, value_sound, length-value_at}

-- ---- letters

-- a letter's byte is a capital other than N
pub code_is : (l : Letter) → (65 ≤ code l) × (code l ≤ 90) × (code l ≢ 78)
code_is A = (omega arith, omega arith, omega arith)
code_is B = (omega arith, omega arith, omega arith)
code_is C = (omega arith, omega arith, omega arith)
code_is D = (omega arith, omega arith, omega arith)
code_is F = (omega arith, omega arith, omega arith)
code_is G = (omega arith, omega arith, omega arith)
code_is H = (omega arith, omega arith, omega arith)
code_is I = (omega arith, omega arith, omega arith)
code_is J = (omega arith, omega arith, omega arith)
code_is K = (omega arith, omega arith, omega arith)
code_is L = (omega arith, omega arith, omega arith)
code_is M = (omega arith, omega arith, omega arith)
code_is P = (omega arith, omega arith, omega arith)
code_is Q = (omega arith, omega arith, omega arith)
code_is R = (omega arith, omega arith, omega arith)
code_is S = (omega arith, omega arith, omega arith)
code_is T = (omega arith, omega arith, omega arith)
code_is X = (omega arith, omega arith, omega arith)
code_is Y = (omega arith, omega arith, omega arith)
code_is Z = (omega arith, omega arith, omega arith)

letter_sound_at : (b : ℕ) (l x : Letter) (ls : List Letter) (t : Bool) → (b == code l) ≡ t → cond t (Some l) (letter_among b ls) ≡ Some x
    → (letter_among b ls ≡ Some x → b ≡ code x) → b ≡ code x
letter_sound_at b l x ls true t_is e others = (Decides-eqb b (code l)).0 t_is ∙ ap code (cc)
letter_sound_at b l x ls false t_is e others = others e

letter_sound : (b : ℕ) (ls : List Letter) (x : Letter) → letter_among b ls ≡ Some x → b ≡ code x
letter_sound b [] x e = absurd (cc)
letter_sound b (l ∷ ls) x e = letter_sound_at b l x ls (b == code l) refl e (letter_sound b ls x)

-- ---- comments

-- a text with no parentheses, then the closing one
pub comment_again : (text rest : List ℕ) → HasNoParentheses text → comment_at (text ++ 41 ∷ rest) ≡ Some (text, rest)
comment_again [] rest h = refl
comment_again (b ∷ text) rest h =
    let no_end : (b == 41) ≡ false = grind (arith, nat_tests, h.1) in
    let no_start : (b == 40) ≡ false = grind (arith, nat_tests, h.0) in
    rw (no_end, no_start) (ap (option_map (λ (x : List ℕ × List ℕ). (b ∷ x.0, x.1))) (comment_again text rest h.2))

abbrev FoundComment : List ℕ → List ℕ × List ℕ → Type 0
FoundComment bytes x = (bytes ≡ x.0 ++ 41 ∷ x.1) × HasNoParentheses x.0

comment_sound_at : (b : ℕ) (bs : List ℕ) (x : List ℕ × List ℕ) (t u : Bool) → (b == 41) ≡ t → (b == 40) ≡ u
    → cond t (Some ([], bs)) (cond u None (option_map (λ (x : List ℕ × List ℕ). (b ∷ x.0, x.1)) (comment_at bs))) ≡ Some x
    → ((y : List ℕ × List ℕ) → comment_at bs ≡ Some y → FoundComment bs y) → FoundComment (b ∷ bs) x
comment_sound_at b bs x true u t_is u_is e others =
    let same : ([], bs) ≡ x = cc in
    subst (FoundComment (b ∷ bs)) same (ap (λ c. c ∷ bs) ((Decides-eqb b 41).0 t_is), tt)
comment_sound_at b bs x false true t_is u_is e others = absurd (cc)
comment_sound_at b bs x false false t_is u_is e others =
    let y = option_map_some (λ (x : List ℕ × List ℕ). (b ∷ x.0, x.1)) (comment_at bs) x e in
    let found = others y.0 y.1 in
    let no_start : b ≢ 40 = grind (arith, nat_tests) in
    let no_end : b ≢ 41 = grind (arith, nat_tests) in
    subst (FoundComment (b ∷ bs)) y.2 (ap (λ l. b ∷ l) found.0, (no_start, no_end, found.1))

pub comment_sound : (bytes : List ℕ) (x : List ℕ × List ℕ) → comment_at bytes ≡ Some x → FoundComment bytes x
comment_sound [] x e = absurd (cc)
comment_sound (b ∷ bs) x e = comment_sound_at b bs x (b == 41) (b == 40) refl refl e (comment_sound bs)

-- ---- a piece of the grammar is found

-- a word is found by its letter and its value
word_from : (l : Letter) (bs : List ℕ) → piece_from (code l) bs ≡ option_map (λ v. (word l v.0, v.1)) (value_at bs)
word_from A bs = refl
word_from B bs = refl
word_from C bs = refl
word_from D bs = refl
word_from F bs = refl
word_from G bs = refl
word_from H bs = refl
word_from I bs = refl
word_from J bs = refl
word_from K bs = refl
word_from L bs = refl
word_from M bs = refl
word_from P bs = refl
word_from Q bs = refl
word_from R bs = refl
word_from S bs = refl
word_from T bs = refl
word_from X bs = refl
word_from Y bs = refl
word_from Z bs = refl

pub piece_again : (front rest : List ℕ) (p : Piece) → Spells front p → Stops rest → piece_at (front ++ rest) ≡ Some (p, rest)
piece_again front rest (word l value) h s =
    ap (λ f. piece_at (f ++ rest)) h.1 ∙ word_from l (h.0 ++ rest)
    ∙ ap (option_map (λ (v : Tree × List ℕ). (word l v.0, v.1))) (value_again h.0 rest value h.2 s)
piece_again front rest (assignment index value) h s =
    let index_is : value_at ((h.0 ++ 61 ∷ h.1) ++ rest) ≡ Some (index, 61 ∷ (h.1 ++ rest)) =
    ap value_at (append_assoc h.0 (61 ∷ h.1) rest) ∙ value_again h.0 (61 ∷ (h.1 ++ rest)) index h.3 (refl, omega arith) in
    ap (λ f. piece_at (f ++ rest)) h.2 ∙ ap (option_and_then (λ (i : Tree × List ℕ). set_at i.0 i.1)) index_is
    ∙ ap (option_map (λ (v : Tree × List ℕ). (assignment index v.0, v.1))) (value_again h.1 rest value h.4 s)
piece_again front rest (comment text) h s =
    ap (λ f. piece_at (f ++ rest)) h.0
    ∙ ap (option_map (λ (x : List ℕ × List ℕ). (comment x.0, x.1))) (ap comment_at (append_assoc text (41 ∷ []) rest) ∙ comment_again text rest h.1)

-- ---- what is found is spelled so

abbrev FoundPiece : List ℕ → Piece × List ℕ → Type 0
FoundPiece bytes x = (front : List ℕ) × (bytes ≡ front ++ x.1) × Spells front x.0

comment_found : (bs : List ℕ) (x : Piece × List ℕ) → option_map (λ x. (comment x.0, x.1)) (comment_at bs) ≡ Some x → FoundPiece (40 ∷ bs) x
comment_found bs x e =
    let text = option_map_some (λ (x : List ℕ × List ℕ). (comment x.0, x.1)) (comment_at bs) x e in
    let found = comment_sound bs text.0 text.1 in
    subst (FoundPiece (40 ∷ bs)) text.2 (
      40 ∷ text.0.0 ++ 41 ∷ [],
      ap (λ l. 40 ∷ l) (found.0 ∙ sym (append_assoc text.0.0 (41 ∷ []) text.0.1)),
      (refl, found.1),
    )

assignment_found : (bs : List ℕ) (x : Piece × List ℕ) → option_and_then (λ i. set_at i.0 i.1) (value_at bs) ≡ Some x → FoundPiece (35 ∷ bs) x
assignment_found bs x e =
    let i = and_then_some (λ (i : Tree × List ℕ). set_at i.0 i.1) (value_at bs) x e in
    let rest = and_then_some (λ rest. option_map (λ (v : Tree × List ℕ). (assignment i.0.0 v.0, v.1)) (value_at rest)) (strip_prefix (61 ∷ []) i.0.1) x i.2 in
    let v = option_map_some (λ (v : Tree × List ℕ). (assignment i.0.0 v.0, v.1)) (value_at rest.0) x rest.2 in
    let index_is = value_sound bs i.0 i.1 in
    let value_is = value_sound rest.0 v.0 v.1 in
    subst (FoundPiece (35 ∷ bs)) v.2 (
      35 ∷ index_is.0 ++ 61 ∷ value_is.0,
      ap (λ l. 35 ∷ l) (
          index_is.1 ∙ ap (λ l. index_is.0 ++ l) (strip_prefix_is (61 ∷ []) i.0.1 rest.0 rest.1 ∙ ap (λ l. 61 ∷ l) value_is.1)
          ∙ sym (append_assoc index_is.0 (61 ∷ value_is.0) v.0.1)
          ),
      (index_is.0, value_is.0, refl, index_is.2, value_is.2),
    )

word_found : (b : ℕ) (bs : List ℕ) (x : Piece × List ℕ)
    → option_and_then (λ l. option_map (λ v. (word l v.0, v.1)) (value_at bs)) (letter_of b) ≡ Some x
    → FoundPiece (b ∷ bs) x
word_found b bs x e =
    let l = and_then_some (λ l. option_map (λ (v : Tree × List ℕ). (word l v.0, v.1)) (value_at bs)) (letter_of b) x e in
    let v = option_map_some (λ (v : Tree × List ℕ). (word l.0 v.0, v.1)) (value_at bs) x l.2 in
    let value_is = value_sound bs v.0 v.1 in
    subst (FoundPiece (b ∷ bs)) v.2 (
      b ∷ value_is.0,
      ap (λ l. b ∷ l) value_is.1,
      (value_is.0, ap (λ c. c ∷ value_is.0) (letter_sound b letters l.0 l.1), value_is.2),
    )

piece_sound_at : (b : ℕ) (bs : List ℕ) (x : Piece × List ℕ) (t u : Bool) → (b == 40) ≡ t → (b == 35) ≡ u
    → cond t (option_map (λ x. (comment x.0, x.1)) (comment_at bs)) (
    cond u (option_and_then (λ i. set_at i.0 i.1) (value_at bs)) (option_and_then (λ l. option_map (λ v. (word l v.0, v.1)) (value_at bs)) (letter_of b))
    ) ≡ Some x
    → FoundPiece (b ∷ bs) x
piece_sound_at b bs x true u t_is u_is e = subst (λ c. FoundPiece (c ∷ bs) x) (sym ((Decides-eqb b 40).0 t_is)) (comment_found bs x e)
piece_sound_at b bs x false true t_is u_is e = subst (λ c. FoundPiece (c ∷ bs) x) (sym ((Decides-eqb b 35).0 u_is)) (assignment_found bs x e)
piece_sound_at b bs x false false t_is u_is e = word_found b bs x e

pub piece_sound : (bytes : List ℕ) (x : Piece × List ℕ) → piece_at bytes ≡ Some x → (front : List ℕ) × (bytes ≡ front ++ x.1) × Spells front x.0
piece_sound [] x e = absurd (cc)
piece_sound (b ∷ bs) x e = piece_sound_at b bs x (b == 40) (b == 35) refl refl e

-- ---- how many bytes a piece has

-- a value has at least one byte
length-value : (bytes : List ℕ) (t : Tree) → IsValue bytes t → 1 ≤ length bytes
length-value bytes t h =
    let shorter = length-value_at (bytes ++ []) (t, []) (value_again bytes [] t h tt) in
    subst (λ (l : List ℕ). 1 ≤ length l) (append-nil bytes) (omega arith)

-- a piece has at least two bytes: a letter and a value, two signs, or two parentheses
pub length-spells : (front : List ℕ) (p : Piece) → Spells front p → 2 ≤ length front
length-spells front (word l value) h =
    let some = length-value h.0 value h.2 in
    omega (arith, ap length h.1)
length-spells front (assignment index value) h =
    let sum : length front ≡ suc (length h.0) + suc (length h.1) = simp length-append at (ap length h.2) in
    omega arith
length-spells front (comment text) h =
    let sum : length front ≡ suc (length text) + 1 = simp length-append at (ap length h.0) in
    omega arith

pub length-piece_at : (bytes : List ℕ) (x : Piece × List ℕ) → piece_at bytes ≡ Some x → length x.1 + 2 ≤ length bytes
length-piece_at bytes x e =
    let found = piece_sound bytes x e in
    let front = length-spells found.0 x.0 found.2 in
    let sum : length bytes ≡ length found.0 + length x.1 = simp length-append at (ap length found.1) in
    omega arith

-- ---- how pieces begin

-- the rest of a line begins with a letter other than N, a parameter sign or a comment
abbrev pub BeginsPiece : List ℕ → Type 0
BeginsPiece [] = Unit {0}
BeginsPiece (b ∷ bs) = ((65 ≤ b) × (b ≤ 90) × (b ≢ 78)) ⊎ ((b ≡ 35) ⊎ (b ≡ 40))

pub Reads-begins : (rest : List ℕ) (ps : List Piece) → SpellsPieces rest ps → BeginsPiece rest
Reads-begins rest [] e = subst BeginsPiece (sym e) tt
Reads-begins rest (word l value ∷ ps) h =
    let begins : rest ≡ code l ∷ (h.3.0 ++ h.1) = h.2 ∙ ap (λ f. f ++ h.1) h.3.1 in
    subst BeginsPiece (sym begins) (inl (code_is l))
Reads-begins rest (assignment index value ∷ ps) h =
    let begins : rest ≡ 35 ∷ ((h.3.0 ++ 61 ∷ h.3.1) ++ h.1) = h.2 ∙ ap (λ f. f ++ h.1) h.3.2 in
    subst BeginsPiece (sym begins) (inr (inl refl))
Reads-begins rest (comment text ∷ ps) h =
    let begins : rest ≡ 40 ∷ ((text ++ 41 ∷ []) ++ h.1) = h.2 ∙ ap (λ f. f ++ h.1) h.3.0 in
    subst BeginsPiece (sym begins) (inr (inr refl))

-- no digit, point, slash or N comes first
not_these : (b : ℕ) → ((65 ≤ b) × (b ≤ 90) × (b ≢ 78)) ⊎ ((b ≡ 35) ⊎ (b ≡ 40)) → (is_digit b ≡ false) × (b ≢ 46) × (b ≢ 47) × (b ≢ 78)
not_these b (inl h) = (grind (arith, nat_tests, h.0), omega (arith, h.0), omega (arith, h.0), h.2)
not_these b (inr (inl e)) = (ap is_digit e, omega arith, omega arith, omega arith)
not_these b (inr (inr e)) = (ap is_digit e, omega arith, omega arith, omega arith)

pub BeginsPiece-Stops : (bs : List ℕ) → BeginsPiece bs → Stops bs
BeginsPiece-Stops [] h = tt
BeginsPiece-Stops (b ∷ bs) h = ((not_these b h).0, (not_these b h).1)

pub BeginsPiece-NoDigit : (bs : List ℕ) → BeginsPiece bs → NoDigit bs
BeginsPiece-NoDigit [] h = tt
BeginsPiece-NoDigit (b ∷ bs) h = (not_these b h).0

-- no slash comes first
abbrev pub NoSlash : List ℕ → Type 0
NoSlash [] = Unit {0}
NoSlash (b ∷ bs) = b ≢ 47

pub BeginsPiece-NoSlash : (bs : List ℕ) → BeginsPiece bs → NoSlash bs
BeginsPiece-NoSlash [] h = tt
BeginsPiece-NoSlash (b ∷ bs) h = (not_these b h).2

-- no N comes first
abbrev pub NoN : List ℕ → Type 0
NoN [] = Unit {0}
NoN (b ∷ bs) = b ≢ 78

pub BeginsPiece-NoN : (bs : List ℕ) → BeginsPiece bs → NoN bs
BeginsPiece-NoN [] h = tt
BeginsPiece-NoN (b ∷ bs) h = (not_these b h).3

-- ---- the pieces up to the end

-- the first piece, and then those of the rest
abbrev pieces_after : ℕ → Piece × List ℕ → Option (List Piece)
pieces_after most x = option_map (λ ps. x.0 ∷ ps) (pieces_at most x.1)

pieces_at-more_at : (most : ℕ) (b : ℕ) (bs : List ℕ) (o : Option (Piece × List ℕ)) → piece_at (b ∷ bs) ≡ o → length bs ≤ most
    → ((rest : List ℕ) → length rest ≤ length bs → (pieces_at most rest ≡ pieces_at (length rest) rest)
    × (pieces_at (length bs) rest ≡ pieces_at (length rest) rest))
    → option_and_then (pieces_after most) o ≡ option_and_then (pieces_after (length bs)) o
pieces_at-more_at most b bs None e h same = refl
pieces_at-more_at most b bs (Some x) e h same =
    let shorter = length-piece_at (b ∷ bs) x e in
    let both = same x.1 (omega arith) in
    ap (option_map (λ ps. x.0 ∷ ps)) (both.0 ∙ sym both.1)

-- a limit above the number of bytes changes nothing
pieces_at-more : (bound : ℕ) (most : ℕ) (bytes : List ℕ) → length bytes ≤ most → most ≤ bound → pieces_at most bytes ≡ pieces_at (length bytes) bytes
pieces_at-more bound most [] h k = refl
pieces_at-more bound zero (b ∷ bs) h k = absurd (omega arith)
pieces_at-more zero (suc most) (b ∷ bs) h k = absurd (omega arith)
pieces_at-more (suc bound) (suc most) (b ∷ bs) h k =
    pieces_at-more_at most b bs (piece_at (b ∷ bs)) refl (omega arith)
    (λ rest r. (pieces_at-more bound most rest (omega arith) (omega arith), pieces_at-more bound (length bs) rest r (omega arith)))

pub pieces_step : (bytes : List ℕ) (x : Piece × List ℕ) → piece_at bytes ≡ Some x
    → pieces_at (length bytes) bytes ≡ option_map (λ ps. x.0 ∷ ps) (pieces_at (length x.1) x.1)
pieces_step [] x e = absurd (cc)
pieces_step (b ∷ bs) x e =
    let shorter = length-piece_at (b ∷ bs) x e in
    ap (option_and_then (pieces_after (length bs))) e
    ∙ ap (option_map (λ ps. x.0 ∷ ps)) (pieces_at-more (length bs) (length bs) x.1 (omega arith) (omega arith))

-- if there is no piece at the front, the pieces can't be read
pub pieces_none : (bytes : List ℕ) → bytes ≢ [] → piece_at bytes ≡ None → pieces_at (length bytes) bytes ≡ None
pieces_none [] n e = absurd (n refl)
pieces_none (b ∷ bs) n e = ap (option_and_then (pieces_after (length bs))) e

-- ---- the reader's loop

-- the pieces found, and then those of the rest
abbrev pub found_before : List Piece → List ℕ → Option (List Piece)
found_before found rest = option_map (λ ps. found ++ ps) (pieces_at (length rest) rest)

pub found_before_start : (found : List Piece) (rest : List ℕ) → found ≡ [] → found_before found rest ≡ pieces_at (length rest) rest
found_before_start found rest e = ap (λ f. found_before f rest) e ∙ same (pieces_at (length rest) rest)
  where
    same : (o : Option (List Piece)) → option_map (λ ps. [] ++ ps) o ≡ o
    same None = refl
    same (Some ps) = refl

pub found_before_more : (found more : List Piece) (rest : List ℕ) (x : Piece × List ℕ) (all : Option (List Piece))
    → found_before found rest ≡ all → piece_at rest ≡ Some x
    → more ≡ found ++ x.0 ∷ [] → found_before more x.1 ≡ all
found_before_more found more rest x all h e m =
    ap (λ f. found_before f x.1) m ∙ moved (pieces_at (length x.1) x.1) ∙ ap (option_map (λ ps. found ++ ps)) (sym (pieces_step rest x e)) ∙ h
  where
    moved : (o : Option (List Piece)) → option_map (λ ps. (found ++ x.0 ∷ []) ++ ps) o ≡ option_map (λ ps. found ++ ps) (option_map (λ ps. x.0 ∷ ps) o)
    moved None = refl
    moved (Some ps) = ap {B = Option (List Piece)} Some (append_assoc found (x.0 ∷ []) ps)

pub found_before_end : (found : List Piece) (rest : List ℕ) (all : Option (List Piece)) → found_before found rest ≡ all → rest ≡ [] → all ≡ Some found
found_before_end found rest all h e = sym h ∙ ap (found_before found) e ∙ ap {B = Option (List Piece)} Some (append-nil found)

pub found_before_none : (found : List Piece) (rest : List ℕ) (all : Option (List Piece))
    → found_before found rest ≡ all → rest ≢ [] → piece_at rest ≡ None → all ≡ None
found_before_none found rest all h n e = sym h ∙ ap (option_map (λ ps. found ++ ps)) (pieces_none rest n e)
