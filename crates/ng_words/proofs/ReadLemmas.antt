-- What the reader's calls have to show: that its steps compute `read`, and what `read` says of a line.
use Rattle.std.proofs.Common.{ℕ, suc, ◌+◌, ◌<◌, ◌≤◌, ◌≡◌, ◌↔◌, List, [], ◌∷◌, length, Bool, true, false, cond, not}
use Rattle.std.proofs.Common.{◌==◌, nat_lt, Option, Some, None, Ok, Err, refl, sym, ap, ◌∙◌, arith, length-append}
use Rattle.std.specs.Option.{option_map, option_and_then}
use Rattle.std.proofs.lemmas.Bool.Decides.{nat_tests}
use Rattle.ng_num.specs.declared.fault.Fault.{Fault}
use Rattle.ng_num.specs.declared.fault.Fault.TheVariants.{Unreadable, LineTooLong}
use Rattle.ng_words.specs.Plain.{plain, is_blank, capital}
use Rattle.ng_words.specs.Grammar.{ParsedLine, IsLineOf, is_too_long}
use Rattle.ng_words.specs.Scan.{slash_at, block_number_at}
use Rattle.ng_words.specs.Pieces.{pieces_at}
use Rattle.ng_words.specs.Reading.{body_at, parse_line, or_unreadable, read}
use Rattle.ng_words.proofs.LineGrammarLemmas.{block_number_sound, line_sound, line_only, line_found}

-- ---- what read says

pub read_too_long : (text : List ℕ) → 256 < length text → read text ≡ Err LineTooLong
unfolding read
read_too_long text h = let long : nat_lt 256 (length text) ≡ true = grind (arith, nat_tests) in rw long refl

pub read_is : (text : List ℕ) (o : Option ParsedLine) → length text ≤ 256 → parse_line (plain false text) ≡ o → read text ≡ or_unreadable o
unfolding read
read_is text o short e = let fits : nat_lt 256 (length text) ≡ false = grind (arith, nat_tests) in rw fits (ap or_unreadable e)

read_cases : (text : List ℕ) (t : Bool) → nat_lt 256 (length text) ≡ t → (w : ParsedLine)
    → cond t (Err LineTooLong) (or_unreadable (parse_line (plain false text))) ≡ Ok w → (length text ≤ 256) × (parse_line (plain false text) ≡ Some w)
read_cases text true t_is w e = absurd (cc)
read_cases text false t_is w e = (grind (arith, nat_tests), found (parse_line (plain false text)) e)
  where
    found : (o : Option ParsedLine) → or_unreadable o ≡ Ok w → o ≡ Some w
    found None f = absurd (cc)
    found (Some v) f = cc

-- what is read, and how long the line is
read_some : (text : List ℕ) (w : ParsedLine) → read text ≡ Ok w → (length text ≤ 256) × (parse_line (plain false text) ≡ Some w)
unfolding read
read_some text w e = read_cases text (nat_lt 256 (length text)) refl w e

-- what is read is a line of the grammar
pub read_sound : (text : List ℕ) (w : ParsedLine) → read text ≡ Ok w → IsLineOf text w
read_sound text w e = let some = read_some text w e in (some.0, line_sound (plain false text) w some.1)

-- and the only one
pub read_only : (text : List ℕ) (w : ParsedLine) → read text ≡ Ok w → (line : ParsedLine) → IsLineOf text line → line ≡ w
read_only text w e line h = line_only (plain false text) w (read_some text w e).1 line h.1

-- each line of the grammar is read
pub read_found : (text : List ℕ) (line : ParsedLine) → IsLineOf text line → read text ≡ Ok line
read_found text line h = read_is text (Some line) h.0 (line_found (plain false text) line h.1)

-- what is refused isn't a line of the grammar
pub read_none : (text : List ℕ) (fault : Fault) → read text ≡ Err fault → (line : ParsedLine) → IsLineOf text line → ⊥
read_none text fault e line h = let found = read_found text line h in cc

-- reading is the grammar, in both directions
pub reads_iff : (text : List ℕ) (line : ParsedLine) → (read text ≡ Ok line) ↔ IsLineOf text line
reads_iff text line = (read_sound text line, read_found text line)

-- a text has one reading
pub one_line : (text : List ℕ) (line other : ParsedLine) → IsLineOf text line → IsLineOf text other → line ≡ other
one_line text line other a b =
    let first = read_found text line a in
    let second = read_found text other b in
    cc

-- the result of a test of lengths
pub length_over : (text : List ℕ) (t : Bool) → t ≡ is_too_long text → t ≡ true → 256 < length text
length_over text t e f = let long : nat_lt 256 (length text) ≡ true = sym e ∙ f in grind (arith, nat_tests)

pub length_within : (text : List ℕ) (t : Bool) → t ≡ is_too_long text → t ≡ false → length text ≤ 256
length_within text t e f = let fits : nat_lt 256 (length text) ≡ false = sym e ∙ f in grind (arith, nat_tests)

fault_by : (text : List ℕ) (t : Bool) (o : Option ParsedLine) → nat_lt 256 (length text) ≡ t
    → cond t (Err LineTooLong) (or_unreadable o) ≡ Err LineTooLong → 256 < length text
fault_by text true o t_is e = grind (arith, nat_tests)
fault_by text false None t_is e = absurd cc
fault_by text false (Some w) t_is e = absurd cc

read_long : (text : List ℕ) → read text ≡ Err LineTooLong → 256 < length text
unfolding read
read_long text e = fault_by text (nat_lt 256 (length text)) (parse_line (plain false text)) refl e

pub too_long_iff : (text : List ℕ) → (read text ≡ Err LineTooLong) ↔ (256 < length text)
too_long_iff text = (read_long text, read_too_long text)

short_by : (text : List ℕ) (t : Bool) (o : Option ParsedLine) → nat_lt 256 (length text) ≡ t
    → cond t (Err LineTooLong) (or_unreadable o) ≡ Err Unreadable → length text ≤ 256
short_by text true o t_is e = absurd cc
short_by text false o t_is e = grind (arith, nat_tests)

read_short : (text : List ℕ) → read text ≡ Err Unreadable → length text ≤ 256
unfolding read
read_short text e = short_by text (nat_lt 256 (length text)) (parse_line (plain false text)) refl e

unread_by : (text : List ℕ) (o : Option ParsedLine) → length text ≤ 256 → parse_line (plain false text) ≡ o
    → ((line : ParsedLine) → IsLineOf text line → ⊥) → read text ≡ Err Unreadable
unread_by text None short e none = read_is text None short e
unread_by text (Some w) short e none = absurd (none w (read_sound text w (read_is text (Some w) short e)))

pub unreadable_iff : (text : List ℕ) → (read text ≡ Err Unreadable) ↔ ((length text ≤ 256) × ((line : ParsedLine) → IsLineOf text line → ⊥))
unreadable_iff text = (
  λ e. (read_short text e, read_none text Unreadable e),
  λ h. unread_by text (parse_line (plain false text)) h.0 refl h.1,
)

-- ---- how the reader gets there

-- what is read after a slash and a block number
abbrev pieces_line : Bool → Option ℕ × List ℕ → Option ParsedLine
pieces_line deletable x = option_map (λ ps. record { deletable = deletable; number = x.0; pieces = ps }) (pieces_at (length x.1) x.1)

-- no block number can be read
pub read_no_number : (text bytes rest : List ℕ) (deletable : Bool) → length text ≤ 256 → bytes ≡ plain false text → (deletable, rest) ≡ slash_at bytes
    → block_number_at rest ≡ None → read text ≡ Err Unreadable
read_no_number text bytes rest deletable short b s e =
    read_is text None short (ap parse_line (sym b) ∙ ap (λ s. body_at s.0 s.1) (sym s) ∙ ap (option_and_then (pieces_line deletable)) e)

line_at_is : (bytes rest : List ℕ) (deletable : Bool) (x : Option ℕ × List ℕ) → (deletable, rest) ≡ slash_at bytes
    → block_number_at rest ≡ Some x → parse_line bytes ≡ pieces_line deletable x
line_at_is bytes rest deletable x s e = ap (λ s. body_at s.0 s.1) (sym s) ∙ ap (option_and_then (pieces_line deletable)) e

-- no pieces can be read
pub read_no_pieces : (text bytes rest : List ℕ) (deletable : Bool) (x : Option ℕ × List ℕ) → length text ≤ 256
    → bytes ≡ plain false text → (deletable, rest) ≡ slash_at bytes
    → block_number_at rest ≡ Some x → pieces_at (length x.1) x.1 ≡ None → read text ≡ Err Unreadable
read_no_pieces text bytes rest deletable x short b s e p =
    read_is text None short (
    ap parse_line (sym b) ∙ line_at_is bytes rest deletable x s e
    ∙ ap (option_map (λ ps. record { deletable = deletable; number = x.0; pieces = ps })) p
    )

-- everything is read
pub read_ok : (text bytes rest : List ℕ) (deletable : Bool) (x : Option ℕ × List ℕ) (w : ParsedLine)
    → length text ≤ 256 → bytes ≡ plain false text → (deletable, rest) ≡ slash_at bytes
    → block_number_at rest ≡ Some x → pieces_at (length x.1) x.1 ≡ Some w.pieces → w.deletable ≡ deletable → w.number ≡ x.0 → read text ≡ Ok w
read_ok text bytes rest deletable x w short b s e p d n =
    read_is text (Some w) short (
    ap parse_line (sym b) ∙ line_at_is bytes rest deletable x s e
    ∙ ap (option_map (λ ps. record { deletable = deletable; number = x.0; pieces = ps })) p
    ∙ ap {B = Option ParsedLine} (λ m. Some (record { deletable = deletable; number = m; pieces = w.pieces })) (sym n)
    ∙ ap {B = Option ParsedLine} (λ t. Some (record { deletable = t; number = w.number; pieces = w.pieces })) (sym d)
    )

-- ---- how many bytes are left

-- at most as many bytes count as there are
pub length-plain : (inside : Bool) (bs : List ℕ) → length (plain inside bs) ≤ length bs
length-plain inside [] = omega arith
length-plain true (b ∷ bs) = omega (arith, length-plain (not (b == 41)) bs)
length-plain false (b ∷ bs) = elim (is_blank b) as (λ t. length (cond t (plain false bs) (capital b ∷ plain (b == 40) bs)) ≤ suc (length bs)) [
  | true ↦ omega (arith, length-plain false bs)
  | false ↦ omega (arith, length-plain (b == 40) bs)
]

pub length-slash_at : (bs : List ℕ) → length (slash_at bs).1 ≤ length bs
length-slash_at [] = omega arith
length-slash_at (b ∷ bs) = elim (b == 47) as (λ t. length (cond {A = Bool × List ℕ} t (true, bs) (false, b ∷ bs)).1 ≤ suc (length bs)) [
  | true ↦ omega arith
  | false ↦ omega arith
]

-- the pieces have at most as many bytes left
pub length-pieces : (text bytes rest : List ℕ) (deletable : Bool) (x : Option ℕ × List ℕ) → length text ≤ 256
    → bytes ≡ plain false text → (deletable, rest) ≡ slash_at bytes
    → block_number_at rest ≡ Some x → length x.1 ≤ 256
length-pieces text bytes rest deletable x short b s e =
    let all = length-plain false text in
    let counts : length bytes ≡ length (plain false text) = ap length b in
    let after = length-slash_at bytes in
    let is : length rest ≡ length (slash_at bytes).1 = ap (λ s. length s.1) s in
    let number = block_number_sound rest x e in
    let sum : length rest ≡ length number.0 + length x.1 = simp length-append at (ap length number.1) in
    omega arith
