-- The values of a line's words by letter (NISTIR 6556, 3.3.2, table 3), and how they are packed.
use Rattle.std.specs.Prelude.{ℕ, ℤ, pos, List, Option, Some, None, ◌==◌, if◌then◌else◌, slice_index_or}
use Rattle.std.specs.Int.{bit_at}
use Rattle.ng_words.specs.declared.letter.Letter.{Letter}
use Rattle.ng_words.specs.declared.letter.Letter.TheVariants.{A, B, C, D, F, G, H, I, J, K, L, M, P, Q, R, S, T, X, Y, Z}

-- the value of each letter other than G and M, if a word has it
pub record ByLetterModel : Type 0 where
  pub a : Option ℤ
  pub b : Option ℤ
  pub c : Option ℤ
  pub d : Option ℤ
  pub f : Option ℤ
  pub h : Option ℤ
  pub i : Option ℤ
  pub j : Option ℤ
  pub k : Option ℤ
  pub l : Option ℤ
  pub p : Option ℤ
  pub q : Option ℤ
  pub r : Option ℤ
  pub s : Option ℤ
  pub t : Option ℤ
  pub x : Option ℤ
  pub y : Option ℤ
  pub z : Option ℤ

-- a letter's index among the letters
abbrev pub index_of : Letter → ℕ
index_of A = 0
index_of B = 1
index_of C = 2
index_of D = 3
index_of F = 4
index_of G = 5
index_of H = 6
index_of I = 7
index_of J = 8
index_of K = 9
index_of L = 10
index_of M = 11
index_of P = 12
index_of Q = 13
index_of R = 14
index_of S = 15
index_of T = 16
index_of X = 17
index_of Y = 18
index_of Z = 19

-- a letter has a value if its bit is set, and then it is the number at its index
abbrev pub unpacked_at : ℕ → List ℤ → Letter → Option ℤ
unpacked_at present numbers letter =
    if bit_at present (index_of letter) == 1 then Some (slice_index_or numbers (index_of letter) (pos 0)) else None

abbrev pub unpacked : ℕ → List ℤ → ByLetterModel
unpacked present numbers = record {
  a = unpacked_at present numbers A;
  b = unpacked_at present numbers B;
  c = unpacked_at present numbers C;
  d = unpacked_at present numbers D;
  f = unpacked_at present numbers F;
  h = unpacked_at present numbers H;
  i = unpacked_at present numbers I;
  j = unpacked_at present numbers J;
  k = unpacked_at present numbers K;
  l = unpacked_at present numbers L;
  p = unpacked_at present numbers P;
  q = unpacked_at present numbers Q;
  r = unpacked_at present numbers R;
  s = unpacked_at present numbers S;
  t = unpacked_at present numbers T;
  x = unpacked_at present numbers X;
  y = unpacked_at present numbers Y;
  z = unpacked_at present numbers Z;
}
