-- What the bytes of a state field are as they are written (own).
use Rattle.std.specs.Prelude.{◌≡◌, ◌-◌, ◌++◌, ℕ, pos, List, [], length, replicate, Option, Some, None, unwrap_or}
use Rattle.ng_num.specs.Point.{zero_point}
use Rattle.ng_num.specs.declared.point.Point.{Point}
use Rattle.ng_state.specs.declared.kept_words.KeptWords.{KeptWords}
use Rattle.ng_layout.specs.Decoding.{point_at, decoded_state_of}
use Rattle.ng_layout.specs.Fields.{number_at, signed_at, bytes_at}
use Rattle.ng_layout.specs.Limits.{longest_text}
use Rattle.ng_layout.specs.Stored.{HalfModel, DecodedStateModel}

-- the text of a half-done block, its segment, and where the machine stands; nothing and 0 without a block
abbrev pub half_text : Option HalfModel → List ℕ
half_text None = []
half_text (Some half) = half.text

abbrev pub half_index : Option HalfModel → ℕ
half_index None = 0
half_index (Some half) = half.index

abbrev pub half_point : Option HalfModel → Option Point
half_point None = None
half_point (Some half) = half.at

-- the bytes of a text, followed by zeros
abbrev pub padded_text : List ℕ → List ℕ
padded_text text = text ++ replicate (longest_text - length text) 0

-- A word that isn't kept is written as 0.
pub record HoldsWords (kept : KeptWords) (bytes : List ℕ) : Type 0 where
  pub r : signed_at 112 bytes ≡ unwrap_or kept.r (pos 0)
  pub z : signed_at 120 bytes ≡ unwrap_or kept.z (pos 0)
  pub p : signed_at 128 bytes ≡ unwrap_or kept.p (pos 0)
  pub q : signed_at 136 bytes ≡ unwrap_or kept.q (pos 0)

-- So are what isn't known of a half-done block, the bytes after its text, and the unused byte.
pub record HoldsHalf (half : Option HalfModel) (bytes : List ℕ) : Type 0 where
  pub unused : number_at 1 165 bytes ≡ 0
  pub text_length : number_at 2 166 bytes ≡ length (half_text half)
  pub index : number_at 8 168 bytes ≡ half_index half
  pub point : point_at 176 bytes ≡ Some (unwrap_or (half_point half) zero_point)
  pub text : bytes_at longest_text 200 bytes ≡ padded_text (half_text half)

-- The bytes are written with the state field of this state: it is what they say for a program of this length, and what
-- isn't looked at is 0.
pub record HoldsDecodedState (program : ℕ) (state : DecodedStateModel) (bytes : List ℕ) : Type 0 where
  pub read : decoded_state_of program bytes ≡ Some state
  pub words : HoldsWords state.modal.kept bytes
  pub half : HoldsHalf state.half bytes
