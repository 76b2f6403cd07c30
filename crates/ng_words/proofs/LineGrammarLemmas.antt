-- Reading a line as a function is the grammar.
use Rattle.std.proofs.Common.{ℕ, zero, suc, ◌^◌, ◌≤◌, ◌≡◌, List, [], ◌∷◌, ◌++◌, length, Bool, true, false, cond}
use Rattle.std.proofs.Common.{◌||◌, ◌==◌, nat_lt, Option, Some, None, refl, sym, ap, ◌∙◌, subst, arith}
use Rattle.std.specs.Option.{option_map, option_and_then}
use Rattle.std.proofs.lemmas.Bool.Decides.{nat_tests, Decides-eqb}
use Rattle.std.proofs.Math.Nat.{pow-le-pow_right}
use Rattle.ng_words.specs.Grammar.{AreDigits, written_after, Piece, SpellsPieces, ParsedLine, slash, IsBlockNumber, SpellsLine}
use Rattle.ng_words.specs.Scan.{front_digits, after_digits, whole_after, is_empty, slash_at, numbered, block_number_at}
use Rattle.ng_words.specs.Pieces.{piece_at, pieces_at}
use Rattle.ng_words.specs.Reading.{body_at, parse_line}
use Rattle.ng_words.proofs.SeventhDigitLemmas.{written_lt}
use Rattle.ng_words.proofs.NumberGrammarLemmas.{option_map_some, front_digits_again, digits_split, whole_after_is}
use Rattle.ng_words.proofs.ValueWalkLemmas.{and_then_some}
use Rattle.ng_words.proofs.PieceGrammarLemmas.{piece_again, piece_sound, BeginsPiece, Reads-begins, BeginsPiece-Stops}
use Rattle.ng_words.proofs.PieceGrammarLemmas.{BeginsPiece-NoDigit, NoSlash, BeginsPiece-NoSlash, NoN, BeginsPiece-NoN}
use Rattle.ng_words.proofs.PieceGrammarLemmas.{pieces_step}

-- ---- pieces

-- pieces of the grammar are read
pub pieces_again : (bytes : List ℕ) (ps : List Piece) → SpellsPieces bytes ps → pieces_at (length bytes) bytes ≡ Some ps
pieces_again bytes [] h = ap (λ l. pieces_at (length l) l) h
pieces_again bytes (p ∷ ps) h =
    let found = ap piece_at h.2 ∙ piece_again h.0 h.1 p h.3 (BeginsPiece-Stops h.1 (Reads-begins h.1 ps h.4)) in
    pieces_step bytes (p, h.1) found ∙ ap (option_map (λ ps. p ∷ ps)) (pieces_again h.1 ps h.4)

-- what is read up to the end is in the grammar
pieces_sound_at : (most : ℕ) (bytes : List ℕ) (ps : List Piece) → pieces_at most bytes ≡ Some ps → SpellsPieces bytes ps
pieces_sound_at most [] ps e = let same : [] ≡ ps = cc in subst (SpellsPieces []) same refl
pieces_sound_at zero (b ∷ bs) ps e = absurd (cc)
pieces_sound_at (suc most) (b ∷ bs) ps e =
    let first = and_then_some (λ x. option_map (λ ps. x.0 ∷ ps) (pieces_at most x.1)) (piece_at (b ∷ bs)) ps e in
    let others = option_map_some (λ ps. first.0.0 ∷ ps) (pieces_at most first.0.1) ps first.2 in
    let found = piece_sound (b ∷ bs) first.0 first.1 in
    subst (SpellsPieces (b ∷ bs)) others.2 (found.0, first.0.1, found.1, found.2, pieces_sound_at most first.0.1 others.0 others.1)

pub pieces_sound : (bytes : List ℕ) (ps : List Piece) → pieces_at (length bytes) bytes ≡ Some ps → SpellsPieces bytes ps
pieces_sound bytes ps e = pieces_sound_at (length bytes) bytes ps e

-- ---- the slash and the block number

slash_again : (deletable : Bool) (rest : List ℕ) → NoSlash rest → slash_at (slash deletable ++ rest) ≡ (deletable, rest)
slash_again true rest h = refl
slash_again false [] h = refl
slash_again false (b ∷ rest) h = grind (arith, nat_tests)

slash_is_at : (b : ℕ) (bs : List ℕ) (t : Bool) → (b == 47) ≡ t
    → b ∷ bs ≡ slash (cond {A = Bool × List ℕ} t (true, bs) (false, b ∷ bs)).0
    ++ (cond {A = Bool × List ℕ} t (true, bs) (false, b ∷ bs)).1
slash_is_at b bs true e = ap (λ c. c ∷ bs) ((Decides-eqb b 47).0 e)
slash_is_at b bs false e = refl

slash_is : (bytes : List ℕ) → bytes ≡ slash (slash_at bytes).0 ++ (slash_at bytes).1
slash_is [] = refl
slash_is (b ∷ bs) = slash_is_at b bs (b == 47) refl

pow_small : (k : ℕ) → k ≤ 5 → 10 ^ k ≤ 100000
pow_small k h = pow-le-pow_right (omega arith) h

-- a number of up to five digits isn't cut
five_digits : (digits : List ℕ) → AreDigits digits → length digits ≤ 5 → whole_after 0 digits ≡ written_after 0 digits
five_digits digits d short =
    let below = written_lt digits d in
    let hundred_thousand : 10 ^ length digits ≤ 100000 = pow_small (length digits) short in
    whole_after_is digits 0 0 (omega arith) ∙ omega arith

numbered_is : (digits rest : List ℕ) → AreDigits digits → 1 ≤ length digits → length digits ≤ 5
    → numbered digits rest ≡ Some (Some (written_after 0 digits), rest)
numbered_is [] rest d some short = absurd (omega arith)
numbered_is (b ∷ bs) rest d some short =
    let fits : nat_lt 5 (length (b ∷ bs)) ≡ false = grind (arith, nat_tests) in
    rw fits (ap {B = Option (Option ℕ × List ℕ)} (λ n. Some (Some n, rest)) (five_digits (b ∷ bs) d short))

block_number_again : (front rest : List ℕ) (n : Option ℕ) → IsBlockNumber front n → BeginsPiece rest → block_number_at (front ++ rest) ≡ Some (n, rest)
block_number_again front rest None h s = ap (λ f. block_number_at (f ++ rest)) h ∙ none rest (BeginsPiece-NoN rest s)
  where
    none : (rest : List ℕ) → NoN rest → block_number_at rest ≡ Some (None, rest)
    none [] s = refl
    none (b ∷ rest) s = grind (arith, nat_tests)
block_number_again front rest (Some n) h s =
    let digits = front_digits_again h.0 rest h.2 (BeginsPiece-NoDigit rest s) in
    ap (λ f. block_number_at (f ++ rest)) h.1 ∙ rw (digits.0, digits.1) (numbered_is h.0 rest h.2 h.3 h.4)
    ∙ ap {B = Option (Option ℕ × List ℕ)} (λ n. Some (Some n, rest)) (sym h.5)

abbrev FoundNumber : List ℕ → Option ℕ × List ℕ → Type 0
FoundNumber bytes x = (front : List ℕ) × (bytes ≡ front ++ x.1) × IsBlockNumber front x.0

numbered_sound_at : (digits rest : List ℕ) (x : Option ℕ × List ℕ) (t : Bool) → nat_lt 5 (length digits) ≡ t → AreDigits digits
    → cond (is_empty digits || t) None (Some (Some (whole_after 0 digits), rest)) ≡ Some x → FoundNumber (78 ∷ digits ++ rest) x
numbered_sound_at [] rest x t t_is d e = absurd (cc)
numbered_sound_at (b ∷ bs) rest x true t_is d e = absurd (cc)
numbered_sound_at (b ∷ bs) rest x false t_is d e =
    let short : length (b ∷ bs) ≤ 5 = grind (arith, nat_tests) in
    let same : (Some (whole_after 0 (b ∷ bs)), rest) ≡ x = cc in
    subst (FoundNumber (78 ∷ (b ∷ bs) ++ rest)) same (78 ∷ b ∷ bs, refl, (b ∷ bs, refl, d, omega arith, short, five_digits (b ∷ bs) d short))

block_number_sound_at : (b : ℕ) (bs : List ℕ) (x : Option ℕ × List ℕ) (t : Bool) → (b == 78) ≡ t
    → cond t (numbered (front_digits bs) (after_digits bs)) (Some (None, b ∷ bs)) ≡ Some x → FoundNumber (b ∷ bs) x
block_number_sound_at b bs x true t_is e =
    let split = digits_split bs in
    let found = numbered_sound_at (front_digits bs) (after_digits bs) x (nat_lt 5 (length (front_digits bs))) refl split.1 e in
    subst (λ l. FoundNumber l x) (ap (λ c. c ∷ front_digits bs ++ after_digits bs) (sym ((Decides-eqb b 78).0 t_is)) ∙ ap (λ l. b ∷ l) (sym split.0)) found
block_number_sound_at b bs x false t_is e =
    let same : (None, b ∷ bs) ≡ x = cc in
    subst (FoundNumber (b ∷ bs)) same ([], refl, refl)

pub block_number_sound : (bytes : List ℕ) (x : Option ℕ × List ℕ) → block_number_at bytes ≡ Some x → FoundNumber bytes x
block_number_sound [] x e = let same : (None, []) ≡ x = cc in subst (FoundNumber []) same ([], refl, refl)
block_number_sound (b ∷ bs) x e = block_number_sound_at b bs x (b == 78) refl e

-- ---- lines

-- a line of the grammar is found
pub line_found : (bytes : List ℕ) (line : ParsedLine) → SpellsLine bytes line → parse_line bytes ≡ Some line
line_found bytes line h =
    let rest = h.1 in
    let begins = Reads-begins rest line.pieces h.4 in
    let no_slash = no_slash_number h.0 rest line.number h.3 begins in
    let slash_is : slash_at bytes ≡ (line.deletable, h.0 ++ rest) = ap slash_at h.2 ∙ slash_again line.deletable (h.0 ++ rest) no_slash in
    ap (λ s. body_at s.0 s.1) slash_is
    ∙ ap (option_and_then (λ x. option_map (λ ps. record { deletable = line.deletable; number = x.0; pieces = ps })
    (pieces_at (length x.1) x.1))) (block_number_again h.0 rest line.number h.3 begins)
    ∙ ap (option_map (λ ps. record { deletable = line.deletable; number = line.number; pieces = ps })) (pieces_again rest line.pieces h.4)
  where
    no_slash_number : (front rest : List ℕ) (n : Option ℕ) → IsBlockNumber front n → BeginsPiece rest → NoSlash (front ++ rest)
    no_slash_number front rest None h s = subst (λ f. NoSlash (f ++ rest)) (sym h) (BeginsPiece-NoSlash rest s)
    no_slash_number front rest (Some n) h s = subst (λ f. NoSlash (f ++ rest)) (sym h.1) (omega arith)

-- every line of the grammar with these bytes is the one that is read
pub line_only : (bytes : List ℕ) (w : ParsedLine) → parse_line bytes ≡ Some w → (line : ParsedLine) → SpellsLine bytes line → line ≡ w
line_only bytes w e line h = let found = line_found bytes line h in cc

-- what is read is in the grammar
pub line_sound : (bytes : List ℕ) (w : ParsedLine) → parse_line bytes ≡ Some w → SpellsLine bytes w
line_sound bytes w e =
    let deletable = (slash_at bytes).0 in
    let x = and_then_some (λ x. option_map (λ ps. record { deletable = deletable; number = x.0; pieces = ps })
    (pieces_at (length x.1) x.1)) (block_number_at (slash_at bytes).1) w e in
    let ps = option_map_some (λ ps. record { deletable = deletable; number = x.0.0; pieces = ps }) (pieces_at (length x.0.1) x.0.1) w x.2 in
    let number = block_number_sound (slash_at bytes).1 x.0 x.1 in
    subst (SpellsLine bytes) ps.2 (
      number.0,
      x.0.1,
      slash_is bytes ∙ ap (λ l. slash deletable ++ l) number.1,
      number.2,
      pieces_sound x.0.1 ps.0 ps.1,
    )
