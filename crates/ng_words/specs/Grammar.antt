-- The grammar of a line, on the bytes that count. The rules are from NISTIR 6556, section 3.3, unless another source is
-- given.
use Rattle.std.specs.Prelude.{ℕ, ◌+◌, ◌-◌, ◌*◌, ◌^◌, ◌<◌, ◌≤◌, ◌≡◌, ◌≢◌, ◌⊎◌, List, [], ◌∷◌, ◌++◌, length, codes}
use Rattle.std.specs.Prelude.{Bool, true, false, ◌&&◌, nat_le, nat_lt, IsTrue, ℤ, pos, neg_ℤ, unsigned_abs, Option}
use Rattle.std.specs.Prelude.{Some, None, if◌then◌else◌}
use Rattle.ng_num.specs.Rounding.{nearest}
use Rattle.ng_num.specs.Range.{greatest}
use Rattle.ng_words.specs.Plain.{plain}
use Rattle.ng_words.specs.declared.tree.Operation.{Operation}
use Rattle.ng_words.specs.declared.tree.Operation.TheVariants.{Power, Times, Over, Modulo, Plus, Minus, Or, Xor, And}
use Rattle.ng_words.specs.declared.tree.Function.{Function}
use Rattle.ng_words.specs.declared.tree.Function.TheVariants.{Abs, Fix, Fup, Round, Sqrt}
use Rattle.ng_words.specs.declared.letter.Letter.{Letter}
use Rattle.ng_words.specs.declared.letter.Letter.TheVariants.{A, B, C, D, F, G, H, I, J, K, L, M, P, Q, R, S, T, X, Y, Z}

-- ---- numbers (3.3.2.1; the rounding and the range are own)

abbrev pub is_digit : ℕ → Bool
is_digit b = nat_le 48 b && nat_le b 57

abbrev pub AreDigits : List ℕ → Type 0
AreDigits [] = Unit {0}
AreDigits (b ∷ bs) = IsTrue (is_digit b) × AreDigits bs

-- the number that digits write when they follow the number n
abbrev pub written_after : ℕ → List ℕ → ℕ
written_after n [] = n
written_after n (b ∷ bs) = written_after (n * 10 + (b - 48)) bs

-- the millionths of a number without a sign, from the digits before and after its point
abbrev pub millionths : List ℕ → List ℕ → ℕ
millionths whole fraction = written_after 0 whole * 1_000_000 + nearest (written_after 0 fraction * 1_000_000) (10 ^ length fraction)

-- digits with at most one point, at least one digit
pub record IsUnsigned (bytes : List ℕ) (n : ℕ) : Type 0 where
  pub whole : List ℕ
  pub fraction : List ℕ
  pub whole_digits : AreDigits whole
  pub fraction_digits : AreDigits fraction
  pub some : 0 < length whole + length fraction
  pub spelled : ((bytes ≡ whole) × (fraction ≡ [])) ⊎ (bytes ≡ whole ++ 46 ∷ fraction)
  pub count : n ≡ millionths whole fraction

-- an optional sign, then an unsigned number
abbrev pub IsNumber : List ℕ → ℤ → Type 0
IsNumber bytes z = (n : ℕ) × (digits : List ℕ) × IsUnsigned digits n ×
    (((bytes ≡ digits) × (z ≡ pos n)) ⊎ (((bytes ≡ 43 ∷ digits) × (z ≡ pos n)) ⊎ ((bytes ≡ 45 ∷ digits) × (z ≡ neg_ℤ (pos n)))))

-- a count of millionths, or nothing if it is out of range (own)
abbrev pub count_of : ℤ → Option ℤ
count_of z = if nat_le (unsigned_abs z) greatest then Some z else None

-- ---- values and chains (3.3.2.2 to 3.3.2.4)

-- an operation's bytes
abbrev pub symbol : Operation → List ℕ
symbol Power = codes "**"
symbol Times = codes "*"
symbol Over = codes "/"
symbol Modulo = codes "MOD"
symbol Plus = codes "+"
symbol Minus = codes "-"
symbol Or = codes "OR"
symbol Xor = codes "XOR"
symbol And = codes "AND"

-- how loosely it binds
abbrev pub level : Operation → ℕ
level Power = 1
level Times = 2
level Over = 2
level Modulo = 2
level Plus = 3
level Minus = 3
level Or = 3
level Xor = 3
level And = 3

-- a function's name; the report's other functions are left out (own)
abbrev pub name : Function → List ℕ
name Abs = codes "ABS"
name Fix = codes "FIX"
name Fup = codes "FUP"
name Round = codes "ROUND"
name Sqrt = codes "SQRT"

-- how a value is built: a number (nothing if it is out of range), a parameter's value, a chain in brackets, a function
-- of a chain, two parts of a chain
pub data Tree : Type 0 where
  number : Option ℤ → Tree
  parameter : Tree → Tree
  bracketed : Tree → Tree
  applied : Function → Tree → Tree
  joined : Operation → Tree → Tree → Tree

-- how loosely the part outside brackets binds; a single value binds most tightly
abbrev pub looseness : Tree → ℕ
looseness (number z) = 0
looseness (parameter t) = 0
looseness (bracketed t) = 0
looseness (applied f t) = 0
looseness (joined op l r) = level op

-- these bytes are this chain, split at the last of its loosest operations
abbrev pub IsChain : List ℕ → Tree → Type 0
IsChain bytes (number value) = (z : ℤ) × IsNumber bytes z × (value ≡ count_of z)
IsChain bytes (parameter t) = (inner : List ℕ) × (bytes ≡ 35 ∷ inner) × IsChain inner t × (looseness t ≡ 0)
IsChain bytes (bracketed t) = (inner : List ℕ) × (bytes ≡ 91 ∷ inner ++ 93 ∷ []) × IsChain inner t
IsChain bytes (applied f t) = (inner : List ℕ) × (bytes ≡ name f ++ (91 ∷ inner ++ 93 ∷ [])) × IsChain inner t
IsChain bytes (joined op l r) = (front : List ℕ) × (back : List ℕ) × (bytes ≡ front ++ (symbol op ++ back))
    × IsChain front l × IsChain back r × (looseness l ≤ level op) × (looseness r < level op)

-- these bytes are this value: a chain of one
abbrev pub IsValue : List ℕ → Tree → Type 0
IsValue bytes t = IsChain bytes t × (looseness t ≡ 0)

-- ---- words, assignments, comments (3.3.2, 3.3.3, 3.3.4)

-- a letter's byte
abbrev pub code : Letter → ℕ
code A = 65
code B = 66
code C = 67
code D = 68
code F = 70
code G = 71
code H = 72
code I = 73
code J = 74
code K = 75
code L = 76
code M = 77
code P = 80
code Q = 81
code R = 82
code S = 83
code T = 84
code X = 88
code Y = 89
code Z = 90

-- a word, a parameter's index and its new value, or a comment's bytes
pub data Piece : Type 0 where
  word : Letter → Tree → Piece
  assignment : Tree → Tree → Piece
  comment : List ℕ → Piece

abbrev pub HasNoParentheses : List ℕ → Type 0
HasNoParentheses [] = Unit {0}
HasNoParentheses (b ∷ bs) = (b ≢ 40) × (b ≢ 41) × HasNoParentheses bs

-- these bytes are this piece
abbrev pub Spells : List ℕ → Piece → Type 0
Spells bytes (word letter value) = (spelled : List ℕ) × (bytes ≡ code letter ∷ spelled) × IsValue spelled value
Spells bytes (assignment index value) = (front : List ℕ) × (back : List ℕ) × (bytes ≡ 35 ∷ front ++ 61 ∷ back) × IsValue front index × IsValue back value
Spells bytes (comment text) = (bytes ≡ 40 ∷ text ++ 41 ∷ []) × HasNoParentheses text

-- these bytes are these pieces, one after the other
abbrev pub SpellsPieces : List ℕ → List Piece → Type 0
SpellsPieces bytes [] = bytes ≡ []
SpellsPieces bytes (piece ∷ pieces) = (front : List ℕ) × (rest : List ℕ) × (bytes ≡ front ++ rest) × Spells front piece × SpellsPieces rest pieces

-- ---- lines (3.3)

-- a line as written: whether it begins with a slash, its block number, its pieces
pub record ParsedLine : Type 0 where
  pub deletable : Bool
  pub number : Option ℕ
  pub pieces : List Piece

-- the slash of block delete (3.3), or nothing
abbrev pub slash : Bool → List ℕ
slash true = 47 ∷ []
slash false = []

-- N and one to five digits (3.3.1), or nothing
abbrev pub IsBlockNumber : List ℕ → Option ℕ → Type 0
IsBlockNumber bytes None = bytes ≡ []
IsBlockNumber bytes (Some n) = (digits : List ℕ) × (bytes ≡ 78 ∷ digits) × AreDigits digits × (1 ≤ length digits)
    × (length digits ≤ 5) × (n ≡ written_after 0 digits)

-- these bytes that count are this line
abbrev pub SpellsLine : List ℕ → ParsedLine → Type 0
SpellsLine bytes line = (front : List ℕ) × (rest : List ℕ) × (bytes ≡ slash line.deletable ++ (front ++ rest))
    × IsBlockNumber front line.number × SpellsPieces rest line.pieces

-- the most bytes of a line, without its end (own)
abbrev pub longest : ℕ
longest = 256

abbrev pub is_too_long : List ℕ → Bool
is_too_long text = nat_lt longest (length text)

-- a text that isn't too long is this line
abbrev pub IsLineOf : List ℕ → ParsedLine → Type 0
IsLineOf text line = (length text ≤ longest) × SpellsLine (plain false text) line
