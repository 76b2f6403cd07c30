-- The bytes of a file, and its sectors of 512 (own).
use Rattle.std.specs.Prelude.{◌≡◌, ◌⊎◌, ◌≤◌, ◌+◌, ◌-◌, ◌*◌, ℕ, List, ◌++◌, Option, Some, IfSome, length, replicate, take, drop, slice_range}
use Rattle.std.specs.Io.KnownBytes.{Appends}

-- what sector n of these bytes holds
abbrev pub sector_of : ℕ → List ℕ → List ℕ
sector_of n held = slice_range held (512 * n) (512 * n + 512)

-- these bytes, with others in place of the same number of bytes from a place on
abbrev pub with_bytes : ℕ → List ℕ → List ℕ → List ℕ
with_bytes place bytes held = take place held ++ bytes ++ drop (place + length bytes) held

-- the bytes are put there; nothing is said of a place past the end
abbrev pub Put : ℕ → List ℕ → Option (List ℕ) → Option (List ℕ) → Type 0
Put place bytes old new = IfSome old (λ held. place + 512 ≤ length held → new ≡ Some (with_bytes place bytes held))

-- nothing is changed, or the bytes are put there
abbrev pub PutInPart : ℕ → List ℕ → Option (List ℕ) → Option (List ℕ) → Type 0
PutInPart place bytes old new = IfSome old (λ held. place + 512 ≤ length held → (new ≡ Some held) ⊎ (new ≡ Some (with_bytes place bytes held)))

-- a beginning of these bytes is appended, perhaps none of them or all
abbrev pub AppendsBeginning : Option (List ℕ) → Option (List ℕ) → List ℕ → Type 0
AppendsBeginning old new bytes = (n : ℕ) × Appends old new (take n bytes)

-- zeros are appended until there are this many bytes; none if there are as many or more
abbrev pub Lengthened : ℕ → Option (List ℕ) → Option (List ℕ) → Type 0
Lengthened size old new = IfSome old (λ held. new ≡ Some (held ++ replicate (size - length held) 0))

-- the same with fewer zeros, perhaps none, or all of them
abbrev pub LengthenedInPart : ℕ → Option (List ℕ) → Option (List ℕ) → Type 0
LengthenedInPart size old new = IfSome old (λ held. (n : ℕ) × (n ≤ size - length held) × (new ≡ Some (held ++ replicate n 0)))
