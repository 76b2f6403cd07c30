-- The values of a line's words, by letter (NISTIR 6556, 3.3.2, table 3).
use Rattle.std.specs.Prelude.{ℤ, Bool, true, false, ◌||◌, List, Option, None}
use Rattle.std.specs.Option.{is_some}
use Rattle.ng_words.specs.declared.letter.Letter.{Letter}
use Rattle.ng_words.specs.declared.letter.Letter.TheVariants.{A, B, C, D, F, G, H, I, J, K, L, M, P, Q, R, S, T, X, Y, Z}
use Rattle.ng_expr.specs.declared.word.Word.{Word}
use Rattle.ng_modal.specs.Words.{first, of_letter}
use Rattle.ng_modal.specs.declared.by_letter.ByLetter.{ByLetter}

-- a letter whose words have a value, and not a code
abbrev pub takes_value : Letter → Bool
takes_value G = false
takes_value M = false
takes_value _ = true

abbrev pub by_letter : List Word → ByLetter
by_letter ws = record {
  a = first (of_letter A ws);
  b = first (of_letter B ws);
  c = first (of_letter C ws);
  d = first (of_letter D ws);
  f = first (of_letter F ws);
  h = first (of_letter H ws);
  i = first (of_letter I ws);
  j = first (of_letter J ws);
  k = first (of_letter K ws);
  l = first (of_letter L ws);
  p = first (of_letter P ws);
  q = first (of_letter Q ws);
  r = first (of_letter R ws);
  s = first (of_letter S ws);
  t = first (of_letter T ws);
  x = first (of_letter X ws);
  y = first (of_letter Y ws);
  z = first (of_letter Z ws);
}

-- the value of a letter
abbrev pub value_of : ByLetter → Letter → Option ℤ
value_of v A = v.a
value_of v B = v.b
value_of v C = v.c
value_of v D = v.d
value_of v F = v.f
value_of v H = v.h
value_of v I = v.i
value_of v J = v.j
value_of v K = v.k
value_of v L = v.l
value_of v P = v.p
value_of v Q = v.q
value_of v R = v.r
value_of v S = v.s
value_of v T = v.t
value_of v X = v.x
value_of v Y = v.y
value_of v Z = v.z
value_of v _ = None

-- there is an A, B, C or D: words that are left out
abbrev pub has_left_out_letter : ByLetter → Bool
has_left_out_letter v = is_some v.a || (is_some v.b || (is_some v.c || is_some v.d))

-- there is an X, Y or Z
abbrev pub has_axis : ByLetter → Bool
has_axis v = is_some v.x || (is_some v.y || is_some v.z)
