-- Numbers at positions in a sequence of bytes, the lowest byte first (own).
use Rattle.std.specs.Prelude.{◌≡◌, ℕ, ℤ, List, take, drop, replicate}
use Rattle.byteorder.specs.Endian.{little_number}
use Rattle.std.specs.Int.{w64, cast_signed}

-- the number in w bytes from this position on
unfoldable pub number_at : ℕ → ℕ → List ℕ → ℕ
number_at w at bytes = little_number w (drop at bytes)

-- the number in 8 bytes from this position on, in two's complement
unfoldable pub signed_at : ℕ → List ℕ → ℤ
signed_at at bytes = cast_signed w64 (number_at 8 at bytes)

-- the n bytes from this position on
unfoldable pub bytes_at : ℕ → ℕ → List ℕ → List ℕ
bytes_at n at bytes = take n (drop at bytes)

-- the n bytes from this position on are 0
abbrev pub AreZero : ℕ → ℕ → List ℕ → Type 0
AreZero n at bytes = bytes_at n at bytes ≡ replicate n 0

-- the bytes before this position are the same
pub record SameBelow (at : ℕ) (old new : List ℕ) : Type 0 where
  pub same : take at new ≡ take at old

-- the bytes from this position on are the same
pub record SameFrom (at : ℕ) (old new : List ℕ) : Type 0 where
  pub same : drop at new ≡ drop at old

-- Something is put from one position up to another, and is then seen there; all else stays.
pub record Puts {X : Type 0} (seen : List ℕ → X) (from to : ℕ) (x : X) (old new : List ℕ) : Type 0 where
  pub written : seen new ≡ x
  pub below : SameBelow from old new
  pub beyond : SameFrom to old new
