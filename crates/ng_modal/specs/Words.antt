-- The words of a line: the values by letter, and the G and M words by modal group (NISTIR 6556, 3.3.2 and 3.4).
use Rattle.std.specs.Prelude.{ℕ, ℤ, Bool, true, false, ◌==◌, List, [], ◌∷◌, Option, Some, None, if◌then◌else◌}
use Rattle.ng_words.specs.declared.letter.Letter.{Letter}
use Rattle.ng_words.specs.declared.letter.Letter.TheVariants.{A, B, C, D, F, G, H, I, J, K, L, M, P, Q, R, S, T, X, Y, Z}
use Rattle.ng_expr.specs.declared.word.Word.{Word}
use Rattle.ng_modal.specs.Codes.{g_word, m_word}
use Rattle.ng_modal.specs.Groups.{group_of, m_group_of}
use Rattle.ng_modal.specs.declared.codes.GWord.{GWord}
use Rattle.ng_modal.specs.declared.codes.MWord.{MWord}

-- a letter's byte
abbrev pub byte_of : Letter → ℕ
byte_of A = 65
byte_of B = 66
byte_of C = 67
byte_of D = 68
byte_of F = 70
byte_of G = 71
byte_of H = 72
byte_of I = 73
byte_of J = 74
byte_of K = 75
byte_of L = 76
byte_of M = 77
byte_of P = 80
byte_of Q = 81
byte_of R = 82
byte_of S = 83
byte_of T = 84
byte_of X = 88
byte_of Y = 89
byte_of Z = 90

-- every letter except G and M
abbrev pub value_letters : List Letter
value_letters = A ∷ B ∷ C ∷ D ∷ F ∷ H ∷ I ∷ J ∷ K ∷ L ∷ P ∷ Q ∷ R ∷ S ∷ T ∷ X ∷ Y ∷ Z ∷ []

-- a letter has this byte
abbrev pub has_byte : ℕ → Letter → Bool
has_byte byte letter = byte == byte_of letter

-- the values of the words whose letter has this byte
abbrev pub of_byte : ℕ → List Word → List ℤ
of_byte byte [] = []
of_byte byte (w ∷ ws) = if has_byte byte w.letter then w.value ∷ of_byte byte ws else of_byte byte ws

-- the values of a letter's words
abbrev pub of_letter : Letter → List Word → List ℤ
of_letter letter ws = of_byte (byte_of letter) ws

-- what a G word asks for, and an M word; nothing for another word, or one whose value isn't a code
abbrev pub g_word_on : Letter → ℤ → Option GWord
g_word_on G value = g_word value
g_word_on _ value = None

abbrev pub m_word_on : Letter → ℤ → Option MWord
m_word_on M value = m_word value
m_word_on _ value = None

-- an optional element in front of a list
abbrev pub in_front : {X : Type 0} → Option X → List X → List X
in_front None xs = xs
in_front (Some x) xs = x ∷ xs

-- the line's G words and its M words
abbrev pub g_words_of : List Word → List GWord
g_words_of [] = []
g_words_of (w ∷ ws) = in_front (g_word_on w.letter w.value) (g_words_of ws)

abbrev pub m_words_of : List Word → List MWord
m_words_of [] = []
m_words_of (w ∷ ws) = in_front (m_word_on w.letter w.value) (m_words_of ws)

-- the words whose group has this number
abbrev pub with_group : {W : Type 0} → (W → ℕ) → ℕ → List W → List W
with_group group n [] = []
with_group group n (w ∷ ws) = if n == group w then w ∷ with_group group n ws else with_group group n ws

abbrev pub of_group : ℕ → List GWord → List GWord
of_group n ws = with_group group_of n ws

abbrev pub of_m_group : ℕ → List MWord → List MWord
of_m_group n ws = with_group m_group_of n ws

abbrev pub first : {X : Type 0} → List X → Option X
first [] = None
first (x ∷ xs) = Some x

-- more than one
abbrev pub is_twice : {X : Type 0} → List X → Bool
is_twice [] = false
is_twice (x ∷ []) = false
is_twice (x ∷ (y ∷ ys)) = true
