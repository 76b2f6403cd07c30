-- A line of a program, part by part, as it is read from the sectors that hold it.
use Rattle.std.specs.Prelude.{◌≡◌, ◌<◌, ◌+◌, ◌-◌, ℕ, min, List, ◌++◌, length, take, drop, slice_index, Option, Some, None}
use Rattle.ng_layout.specs.Limits.{sector_size}
use Rattle.ng_text.specs.Split.{HasNoNewline}

-- The first n bytes of a text have no newline. As many of them are kept as a line may have, and one more.
pub record KeepsLineFront (rest : List ℕ) (n : ℕ) (head : List ℕ) : Type 0 where
  pub plain : HasNoNewline (take n rest)
  pub head_is : head ≡ take 257 (take n rest)

-- the first newline of a text comes after these bytes, which are kept; if there is no newline, all bytes are kept
abbrev pub IsEnd : List ℕ → List ℕ → Option ℕ → Type 0
IsEnd rest head (Some n) = KeepsLineFront rest n head × (n < length rest) × (slice_index rest n ≡ 10)
IsEnd rest head None = KeepsLineFront rest (length rest) head

-- A part of a text from a place on. It begins where the bytes of a sector begin, or at the place, and goes on to the
-- end of the sector or of the text.
pub record IsPart (text : List ℕ) (place start : ℕ) (part : List ℕ) : Type 0 where
  pub is : part ≡ take (length part) (drop (start - place) (drop place text))
  pub whole : start - place + length part ≡ min (length text - place) (start + sector_size - place)

-- a part is taken, after what was kept before
abbrev pub TakesPart : List ℕ → List ℕ → List ℕ → Option ℕ → Type 0
TakesPart old new part (Some n) = HasNoNewline (take n part) × (n < length part) × (slice_index part n ≡ 10) × (new ≡ take 257 (old ++ take n part))
TakesPart old new part None = HasNoNewline part × (new ≡ take 257 (old ++ part))
